-- What the store knows of an instruction, from place to place.
use Rattle.std.specs.Prelude.{ℕ, ◌<◌, ◌≡◌, List, false, Option, Some, None}
use Rattle.std.proofs.Common.{ap}
use Rattle.table.specs.declared.Primary.{Primary}
use Rattle.table.specs.declared.Slot.{Slot}
use Rattle.table.specs.declared.Then.{Then}
use Rattle.table.specs.declared.Then.TheVariants.{ToWrite, ToStoreCopy, ToFillCopy, ToPut}
use Rattle.table.specs.declared.Place.{Place}
use Rattle.table.specs.declared.Place.TheVariants.{Idle, New, Asked, FillWrite, FillCopy, StoreWrite, Looking, Placing}
use Rattle.table.specs.declared.Task.{Task}
use Rattle.machine.specs.Words.{replica}
use Rattle.machine.specs.Look.{go_on}
use Rattle.machine.specs.StillStore.{Store, Doing, storing, owner_at, is_resting}
use Rattle.machine.proofs.Objects.Base.{upd}
use Rattle.machine.proofs.Objects.State.{Shape, OfStore}
use Rattle.machine.proofs.Objects.Ops.{goes}
use Rattle.machine.proofs.Beside.Still.{DoingThen, DoingAt, Still}
use Rattle.machine.proofs.Beside.Stands.{Stands}
use Rattle.machine.proofs.Beside.StillLaws.{still_entry}

stores_busy : (s : Option Slot) (d : Doing) (v : ℕ) → OfStore s (λ x i. d ≡ storing x i v) → is_resting d ≡ false
stores_busy None d v h = absurd h
stores_busy (Some y) d v h = ap is_resting h

then_busy : (e : Task) (d : Doing) (q : ℕ) (th : Then) → DoingThen e d q th → is_resting d ≡ false
then_busy e d q (ToWrite v) h = stores_busy e.storing d _ h
then_busy e d q ToStoreCopy h = h
then_busy e d q ToFillCopy h = ap is_resting h
then_busy e d q (ToPut n job) h = h

pub busy : (e : Task) (d : Doing) (pl : Place) → Stands pl → DoingAt e d pl → is_resting d ≡ false
busy e d Idle s h = absurd s
busy e d (New want) s h = ap is_resting h
busy e d (Asked want) s h = ap is_resting h
busy e d (FillWrite v) s h = ap is_resting h
busy e d (FillCopy c) s h = ap is_resting h
busy e d (StoreWrite v) s h = stores_busy e.storing d _ h
busy e d (Looking q th) s h = then_busy e d q.0 th h
busy e d (Placing q th) s h = then_busy e d q.0 th h
busy e d _ s h = h

-- what follows a look
pub doing_on : (e : Task) (d : Doing) (q : ℕ) (th : Then) → DoingThen e d q th → DoingAt (goes e (go_on th (replica q))) d (go_on th (replica q))
doing_on e d q (ToWrite v) h = h
doing_on e d q _ h = h

-- the task at another place, the store as it was
pub still_goes : {sh : Shape} {prim : ℕ → ℕ → ℕ} {ts : ℕ → Task} {roots : List Primary} {w : Store} → Still sh prim ts roots w → (t : ℕ) → t < 8
    → (pl : Place) → DoingAt (goes (ts t) pl) (owner_at w t).doing pl → Still sh prim (upd ts t (goes (ts t) pl)) roots w
still_goes {ts = ts} k t l pl d =
    let q = k.tasks t l in
    still_entry k t l (goes (ts t) pl) (record { regs = q.regs; pending = q.pending; goes_to = q.goes_to; doing = d })

pub doing_claims : (e : Task) (d : Doing) (q : Primary) (th : Then) → DoingThen e d q.0 th → DoingAt (goes e (Placing q th)) d (Placing q th)
doing_claims e d q (ToWrite v) h = h
doing_claims e d q _ h = h
