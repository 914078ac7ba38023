-- A task whose Store waits to be written: its slot is its own, filled and spared by all others, and what it has begun stays begun.
use Rattle.std.specs.Prelude.{ℕ, ◌<◌, ◌≡◌, refl, ◌≢◌, List, [], Bool, true, false, length, Option, Some, None}
use Rattle.std.proofs.Common.{ap, sym, ◌∙◌, arith}
use Rattle.std.proofs.Math.Decide.{dec_lt}
use Rattle.std.proofs.Math.ListN.{get_or-eq_default}
use Rattle.table.specs.declared.Limits.{Limits}
use Rattle.table.specs.declared.Slot.{Slot}
use Rattle.table.specs.declared.Then.{Then}
use Rattle.table.specs.declared.Then.TheVariants.{ToWrite}
use Rattle.table.specs.declared.Place.{Place}
use Rattle.table.specs.declared.Place.TheVariants.{StoreWrite, Looking, Placing}
use Rattle.table.specs.declared.Task.{Task}
use Rattle.table.specs.declared.Table.{Table}
use Rattle.machine.specs.Entries.{task_at}
use Rattle.machine.specs.Tasks.{holding_of, idle_of}
use Rattle.machine.specs.Complete.{idle_at}
use Rattle.machine.specs.StillStore.{Store, Doing, resting, storing, owner, owner_at, thing_at}
use Rattle.machine.specs.History.{History}
use Rattle.machine.proofs.Objects.State.{Shape, OfStore, On}
use Rattle.machine.proofs.Objects.Inv.{Sound, StoringOk}
use Rattle.machine.proofs.Agree.Encode.{at_then, at_place}
use Rattle.machine.proofs.Beside.Still.{DoingThen, DoingAt}
use Rattle.machine.proofs.Beside.Good.{Good}
use Rattle.machine.proofs.Beside.Changes.{idle_waits}
use Rattle.machine.proofs.Beside.Completes.{idle_rests}
use Rattle.machine.specs.Beside.Waits.{waits_then}
use Rattle.machine.proofs.Beside.Moment.{waits}
use Rattle.machine.proofs.Beside.SlotsStay.{no_store_lem}

-- ---- one entry
then_waits : (pa : ℕ → ℕ) (th : Then) → waits_then (at_then pa th) ≡ waits_then th
then_waits pa (ToWrite v) = refl
then_waits pa _ = refl

-- by the machine's words as by the objects' numbers
at_waits : (pa ra : ℕ → ℕ) (pl : Place) → waits (at_place pa ra pl) ≡ waits pl
at_waits pa ra (Looking q th) = then_waits pa th
at_waits pa ra (Placing q th) = then_waits pa th
at_waits pa ra _ = refl

-- what the store has begun for a Store that waits is the slot of the entry
put_on : (s : Option Slot) (d : Doing) (u x j v : ℕ) → OfStore s (λ y k. d ≡ storing y k u) → d ≡ storing x j v → On s x j
put_on None d u x j v h q = absurd h
put_on (Some y) d u x j v h q = let z : storing y.object.0 y.index u ≡ storing x j v = sym h ∙ q in (cc, cc)

then_on : (e : Task) (d : Doing) (n x j v : ℕ) (th : Then) → waits_then th ≡ 1 → DoingThen e d n th → d ≡ storing x j v → On e.storing x j
then_on e d n x j v (ToWrite u) z h q = put_on e.storing d _ x j v h q
then_on e d n x j v _ z h q = absurd (omega (arith, z))

waits_on : (e : Task) (d : Doing) (x j v : ℕ) (pl : Place) → waits pl ≡ 1 → DoingAt e d pl → d ≡ storing x j v → On e.storing x j
waits_on e d x j v (StoreWrite u) z h q = put_on e.storing d _ x j v h q
waits_on e d x j v (Looking p th) z h q = then_on e d p.0 x j v th z h q
waits_on e d x j v (Placing p th) z h q = then_on e d p.0 x j v th z h q
waits_on e d x j v _ z h q = absurd (omega (arith, z))

slot_ok : (K : ℕ → Type 0) (sh : Shape) (s : Option Slot) (x j : ℕ) → StoringOk K sh s → On s x j → (0 < x) × Sound K sh x × (j < sh.len x)
slot_ok K sh None x j h q = absurd q
slot_ok K sh (Some y) x j h q = rw (← q.0, ← q.1) h

-- ---- in the heap
module _ {l : Limits} {w : Store} {hy : History} {t : Table} {ws : List ℕ} (g : Good l w hy t ws) where
  -- only a task of the table stores
  pub storer_in : (i x j v : ℕ) → (owner_at w i).doing ≡ storing x j v → i < 8
  storer_in i x j v q = on (dec_lt i 8)
    where
      on : Dec (i < 8) → i < 8
      on (yes h) = h
      on (no h) = no_store_lem (sym (ap (λ o. o.doing) (get_or-eq_default w.owners (owner [] 0 0 resting) {n = i} (omega (arith, h, g.still.owners)))) ∙ q)

  waits_there : (i : ℕ) → i < 8 → waits (task_at t i).place ≡ waits (g.objects.tasks i).place
  waits_there i b = ap (λ (e : Task). waits e.place) (g.agree.tasks i b) ∙ at_waits g.pa g.ra (g.objects.tasks i).place

  -- the entry's slot, which no other task stores into
  on_slot : (i x j v : ℕ) → waits (task_at t i).place ≡ 1 → (owner_at w i).doing ≡ storing x j v → On (g.objects.tasks i).storing x j
  on_slot i x j v z q =
      let b = storer_in i x j v q in
      waits_on (g.objects.tasks i) (owner_at w i).doing x j v (g.objects.tasks i).place (sym (waits_there i b) ∙ z) (g.still.tasks i b).doing q

  pub slot_own : (i k x j u v : ℕ) → waits (task_at t i).place ≡ 1 → waits (task_at t k).place ≡ 1 → (owner_at w i).doing ≡ storing x j u → (owner_at w k).doing ≡ storing x j v → i ≡ k
  slot_own i k x j u v y z p q = g.inv.owners.stores i k x j (on_slot i x j u y p) (on_slot k x j v z q)

  -- it is a slot of an object, and filled
  pub slot_there : (i x j v : ℕ) → waits (task_at t i).place ≡ 1 → (owner_at w i).doing ≡ storing x j v → (0 < x) × (j < length (thing_at w x).slots)
  slot_there i x j v z q =
      let s = slot_ok g.kept g.objects.shape (g.objects.tasks i).storing x j (g.inv.entries i).storing (on_slot i x j v z q) in
      (s.0, omega (arith, (g.still.each x s.0 s.1.1).fill, s.1.2, s.2))

  -- a task whose Store waits is not idle, and does not rest in the store
  pub waits_busy : (i : ℕ) → waits (task_at t i).place ≡ 1 → idle_at t i ≡ false
  waits_busy i z = on (idle_at t i) refl
    where
      on : (b : Bool) → idle_at t i ≡ b → b ≡ false
      on true h = absurd (omega (arith, idle_waits (task_at t i).place h, z))
      on false h = refl

  pub waits_awake : (i : ℕ) → i < 8 → waits (task_at t i).place ≡ 1 → (owner_at w i).doing ≢ resting
  waits_awake i b z q = absurd (omega (arith, idle_waits (g.objects.tasks i).place idle, waits_there i b, z))
    where
      idle : idle_of (holding_of (g.objects.tasks i).place) ≡ true
      idle = rw q at (idle_rests (g.objects.tasks i) (owner_at w i).doing (g.objects.tasks i).place (g.still.tasks i b).doing)
