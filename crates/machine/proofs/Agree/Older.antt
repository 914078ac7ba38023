-- Addresses that are the same for all objects made so far say the same in the table.
use Rattle.std.specs.Prelude.{ℕ, suc, ◌≤◌, ◌<◌, ◌≡◌, refl, List, [], ◌∷◌, map, Bool, true, false, ltb, Option, Some, None}
use Rattle.std.proofs.Common.{ap, ltb-true}
use Rattle.table.specs.declared.Primary.{Primary}
use Rattle.table.specs.declared.Making.{Making}
use Rattle.table.specs.declared.Slot.{Slot}
use Rattle.table.specs.declared.Operand.{Operand}
use Rattle.table.specs.declared.Replica.{Replica}
use Rattle.table.specs.declared.Operand.TheVariants.{Plain, Pointer}
use Rattle.table.specs.declared.Then.{Then}
use Rattle.table.specs.declared.Then.TheVariants.{ToWrite, ToStoreCopy, ToFillCopy, ToPut}
use Rattle.table.specs.declared.Place.{Place}
use Rattle.table.specs.declared.Place.TheVariants.{FillWrite, FillCopy, StoreWrite, Meet, StoreCopy, Read, Put, Release, Looking, Placing}
use Rattle.table.specs.declared.Task.{Task}
use Rattle.machine.specs.Basics.{pick}
use Rattle.machine.proofs.Objects.State.{locked, State, root, Meeting}
use Rattle.machine.proofs.Objects.Inv.{SoundOperand, SoundCopied, PendingOk, StoringOk, ThenOk, PlaceOk, Inv}
use Rattle.machine.proofs.Agree.Encode.{at_primary, at_operand, at_copied, at_pending, at_storing, at_then, at_place, at_task, slot_word}

-- a slot's word: only a pointer has an address
pub slot_word_same : (pa pa' : ℕ → ℕ) (m j n : ℕ) → (j < m → pa n ≡ pa' n) → slot_word pa m j n ≡ slot_word pa' m j n
slot_word_same pa pa' m j n h = on (ltb j m) refl
  where
    on : (b : Bool) → ltb j m ≡ b → pick b (pa n) n ≡ pick b (pa' n) n
    on true e = h (ltb-true j m e)
    on false e = refl

module _ {K : ℕ → Type 0} {p s : ℕ} {o : State} (v : Inv K p s o) {pa pa' ra ra' : ℕ → ℕ} (sp : (x : ℕ) → x ≤ o.shape.n → pa x ≡ pa' x)
    (sr : (x : ℕ) → x ≤ o.shape.n → ra x ≡ ra' x) where
  list_same : (l : List Primary) → ((r : ℕ) → root l r ≤ o.shape.n) → map (at_primary pa) l ≡ map (at_primary pa') l
  list_same [] h = refl
  list_same (x ∷ l) h = rw (sp x.0 (h 0), list_same l (λ r. h (suc r)))

  operand_same : (w : Operand Primary) → SoundOperand K o.shape w → at_operand pa w ≡ at_operand pa' w
  operand_same (Plain w) h = refl
  operand_same (Pointer x) h = rw (sp x.0 h.1)

  copied_same : (c : Operand Replica) → SoundCopied K o.shape o.hd c → at_copied ra c ≡ at_copied ra' c
  copied_same (Plain w) h = refl
  copied_same (Pointer x) h = rw (sr x.0 h.0.1)

  pending_same : (pd : Option Making) → PendingOk K o.shape o.hd o.on pd → at_pending pa pd ≡ at_pending pa' pd
  pending_same None h = refl
  pending_same (Some d) h = rw (sp d.at.0 h.2)

  storing_same : (st : Option Slot) → StoringOk K o.shape st → at_storing pa st ≡ at_storing pa' st
  storing_same None h = refl
  storing_same (Some y) h = rw (sp y.object.0 h.1.1)

  locked_same : (x i u : ℕ) → o.hd x ≡ locked i u → pa x ≡ pa' x
  locked_same x i u h = sp x (v.owners.locker x i u h).2

  then_same : (u : ℕ) (e : Task) (q : ℕ) (th : Then) → ThenOk K o.shape o.hd o.prim (Meeting o.tasks) u e q th → at_then pa th ≡ at_then pa' th
  then_same u e q (ToWrite w) h = ap ToWrite (operand_same w h.2)
  then_same u e q ToStoreCopy h = refl
  then_same u e q ToFillCopy h = refl
  then_same u e q (ToPut n job) h = rw (locked_same job.object.0 job.index u h.1)

  place_same : (u : ℕ) (e : Task) (pl : Place)
      → PlaceOk K s o.shape o.hd o.prim o.rep o.has (Meeting o.tasks) o.on u e pl → at_place pa ra pl ≡ at_place pa' ra' pl
  place_same u e (FillWrite w) h = ap FillWrite (operand_same w h.2)
  place_same u e (FillCopy c) h = ap FillCopy (copied_same c h.2)
  place_same u e (StoreWrite w) h = ap StoreWrite (operand_same w h.1)
  place_same u e (Meet w) h = ap Meet (operand_same w h.2)
  place_same u e (StoreCopy c) h = ap StoreCopy (copied_same c h.2)
  place_same u e (Read n job) h = rw (locked_same job.object.0 job.index u h.2)
  place_same u e (Put n job c) h = rw (locked_same job.object.0 job.index u h.2, copied_same c h.5)
  place_same u e (Release n job) h = rw (locked_same job.object.0 job.index u h.2)
  place_same u e (Looking q th) h = rw (sp q.0 h.2.1, then_same u e q.0 th h.3)
  place_same u e (Placing q th) h = rw (sp q.0 h.2.1, then_same u e q.0 th h.4)
  place_same u e _ h = refl

  pub task_same : (u : ℕ) → at_task pa ra (o.tasks u) ≡ at_task pa' ra' (o.tasks u)
  task_same u =
      let k = v.entries u in
      rw (
        list_same (o.tasks u).regs (λ r. (k.regs r).1),
        pending_same (o.tasks u).pending k.pending,
        storing_same (o.tasks u).storing k.storing,
        place_same u (o.tasks u) (o.tasks u).place (v.places u),
      )

  pub roots_same : map (at_primary pa) o.roots ≡ map (at_primary pa') o.roots
  roots_same = list_same o.roots (λ r. (v.roots r).1)
