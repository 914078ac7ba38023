-- An idle task begins a New, a Fill or a Store, or gets another object in a register or a root: the invariant is kept.
use Rattle.std.specs.Prelude.{ℕ, ◌≤◌, ◌<◌, ◌≡◌, ◌≢◌, Bool, true, false, set, ltb, eqb, None}
use Rattle.std.proofs.Math.Path.{refl}
use Rattle.std.proofs.Common.{ap, sym, ◌∙◌, arith, lt-ltb, ltb-true, eqb-true}
use Rattle.std.proofs.Math.ListN.{length-set}
use Rattle.std.proofs.lemmas.Bool.{eqb-false}
use Rattle.table.specs.declared.Primary.{Primary}
use Rattle.table.specs.declared.Operand.{Operand}
use Rattle.table.specs.declared.Operand.TheVariants.{Plain, Pointer}
use Rattle.table.specs.declared.Then.TheVariants.{ToWrite}
use Rattle.table.specs.declared.Place.{Place}
use Rattle.table.specs.declared.Place.TheVariants.{Idle, New, FillWrite, StoreWrite, Looking}
use Rattle.table.specs.declared.Task.{Task}
use Rattle.machine.specs.Basics.{pick}
use Rattle.machine.specs.Words.{primary, wanted}
use Rattle.machine.specs.Entries.{entry, pending_with, storing_on}
use Rattle.machine.specs.Tasks.{holding_of}
use Rattle.machine.specs.Begin.{is_pointer, store_place}
use Rattle.machine.proofs.Objects.Base.{off_on, upd}
use Rattle.machine.proofs.Objects.State.{State, On, LateAt, Meeting}
use Rattle.machine.proofs.Objects.Inv.{Sound, SoundOperand, PendingOk, Unfull, PlaceOk, Inv}
use Rattle.machine.proofs.Objects.Ops.{goes, moves, reroots}
use Rattle.machine.proofs.Objects.SlotLaws.{owners_inv, goes_owners, goes_entry, quiet_inv}
use Rattle.machine.proofs.Objects.StoreSteps.{pos}
use Rattle.machine.proofs.Objects.Ended.{set_sound}

-- what a pointer slot of a sound object holds is sound
pub slot_sound : {K : ℕ → Type 0} {p s : ℕ} {o : State} → Inv K p s o → (x j : ℕ) → Sound K o.shape x → j < o.shape.len x → j < o.shape.ptr x
    → Sound K o.shape (o.prim x j)
slot_sound v x j z l m = v.shapes.closed x j z.0 z.1 (omega (arith, z.2)) m

pub root_inv : {K : ℕ → Type 0} {p s : ℕ} {o : State} → Inv K p s o → (r x : ℕ) → Sound K o.shape x → Inv K p s (reroots o (set o.roots r (primary x)))
root_inv {K} {o = o} v r x z = record {
  shapes = v.shapes;
  mode = v.mode;
  eight = length-set o.roots r (primary x) ∙ v.eight;
  roots = set_sound K o.shape o.roots r (primary x) v.roots z;
  entries = v.entries;
  places = v.places;
  owners = v.owners;
}

module _ {K : ℕ → Type 0} {p s : ℕ} {o : State} (v : Inv K p s o) (t : ℕ) (l : t < p) (pe : (o.tasks t).place ≡ Idle) where
  idle : Unfull (o.tasks t).pending × ((o.tasks t).storing ≡ None)
  idle = rw pe at (v.places t)

  -- another place and nothing else
  goes_inv : (pl : Place) → (LateAt pl → ⊥)
      → PlaceOk K s o.shape o.hd o.prim o.rep o.has (Meeting (upd o.tasks t (goes (o.tasks t) pl))) o.on t (goes (o.tasks t) pl) pl
      → Inv K p s (moves o t (goes (o.tasks t) pl))
  unfolding holding_of
  goes_inv pl q po =
      quiet_inv t (goes (o.tasks t) pl) v (rw pe (λ z. z)) (rw pe (λ z. z)) q (goes_entry pl (v.entries t)) po
      (goes_owners t pl v.owners l (omega arith) (rw pe (λ a j z. z, λ a z. z)))

  pub begin_new : (r len m : ℕ) → (o.tasks t).pending ≡ None → r < 8 → len ≤ s → m ≤ len → Inv K p s (moves o t (goes (o.tasks t) (New (wanted r len m))))
  begin_new r len m d a b c = goes_inv (New (wanted r len m)) (λ z. z) (d, idle.1, a, b, c)

  pub begin_fill : (x : Primary) (r len f : ℕ) → (o.tasks t).pending ≡ pending_with x r len f → (w : Operand Primary) → is_pointer w ≡ ltb f (o.shape.ptr x.0)
      → SoundOperand K o.shape w → Inv K p s (moves o t (goes (o.tasks t) (FillWrite w)))
  begin_fill x r len f me w b so = goes_inv (FillWrite w) (λ z. z) (idle.1, rw me (omega (arith, room, made.3, made.4), b ∙ ap (λ (n : ℕ). ltb n (o.shape.ptr x.0)) made.4), so)
    where
      made : PendingOk K o.shape o.hd o.on (pending_with x r len f)
      made = rw me at (v.entries t).pending

      room : f < len
      room = rw me at idle.0

  -- the place of a Store just begun
  begun : (e : Task) (Mt : ℕ → ℕ → Type 0) (x i : ℕ) (w : Operand Primary) (on : Bool) → e.storing ≡ storing_on (primary x) i → o.on ≡ on → Sound K o.shape x → i < o.shape.len x
      → is_pointer w ≡ ltb i (o.shape.ptr x) → SoundOperand K o.shape w
      → PlaceOk K s o.shape o.hd o.prim o.rep o.has Mt o.on t e (store_place on (o.prim x i) w)
  begun e Mt x i (Plain u) on se oe z d b so = (rw se (b, λ c a. off_on (b ∙ lt-ltb i (o.shape.ptr x) a)), so)
  begun e Mt x i (Pointer q) false se oe z d b so = (rw se (b, λ c a. off_on (sym oe ∙ c)), so)
  begun e Mt x i (Pointer q) true se oe z d b so = by (eqb (o.prim x i) 0) refl
    where
      m : i < o.shape.ptr x
      m = ltb-true i (o.shape.ptr x) (sym b)

      by : (c : Bool) → eqb (o.prim x i) 0 ≡ c
          → PlaceOk K s o.shape o.hd o.prim o.rep o.has Mt o.on t e (pick c (StoreWrite (Pointer q)) (Looking (primary (o.prim x i)) (ToWrite (Pointer q))))
      by true c = (rw se (b, λ y a. rw (eqb-true (o.prim x i) 0 c, v.shapes.nil) tt), so)
      by false c = (oe, pos (o.prim x i) (eqb-false (o.prim x i) 0 c), slot_sound v x i z d m, (rw se (m, refl), refl, so))

  begun_quiet : (on : Bool) (old : ℕ) (w : Operand Primary) → LateAt (store_place on old w) → ⊥
  begun_quiet on old (Plain u) = λ z. z
  begun_quiet false old (Pointer q) = λ z. z
  begun_quiet true old (Pointer q) = by (eqb old 0)
    where
      by : (c : Bool) → LateAt (pick c (StoreWrite (Pointer q)) (Looking (primary old) (ToWrite (Pointer q)))) → ⊥
      by true z = z
      by false z = z

  pub begin_store : (x i : ℕ) (w : Operand Primary) → Sound K o.shape x → 0 < x → i < o.shape.len x → is_pointer w ≡ ltb i (o.shape.ptr x) → SoundOperand K o.shape w
      → ((u : ℕ) → u ≢ t → On (o.tasks u).storing x i → ⊥)
      → Inv K p s (moves o t (entry (o.tasks t).regs (o.tasks t).pending (storing_on (primary x) i) (store_place o.on (o.prim x i) w)))
  unfolding holding_of
  begin_store x i w z n d b so alone =
      quiet_inv t e v (rw pe (λ z. z)) (rw pe (λ z. z)) (begun_quiet o.on (o.prim x i) w)
      (record { eight = (v.entries t).eight; regs = (v.entries t).regs; pending = (v.entries t).pending; storing = (n, z, d) })
      (begun e (Meeting (upd o.tasks t e)) x i w o.on refl refl z d b so)
      (owners_inv t e v.owners l (omega arith) (rw pe (λ a j z. z, λ a z. z)) (λ u q c y. q (sym (v.owners.pendings t u c y)))
      (λ u a j q c y. alone u q (rw (c.0, c.1) y)))
    where
      e : Task
      e = entry (o.tasks t).regs (o.tasks t).pending (storing_on (primary x) i) (store_place o.on (o.prim x i) w)

  pub register_inv : (r x : ℕ) → Sound K o.shape x
      → Inv K p s (moves o t (entry (set (o.tasks t).regs r (primary x)) (o.tasks t).pending (o.tasks t).storing (o.tasks t).place))
  unfolding holding_of
  register_inv r x z =
      quiet_inv t e v (rw pe (λ z. z)) (rw pe (λ z. z)) (rw pe (λ z. z))
      (record {
        eight = length-set (o.tasks t).regs r (primary x) ∙ (v.entries t).eight;
        regs = set_sound K o.shape (o.tasks t).regs r (primary x) (v.entries t).regs z;
        pending = (v.entries t).pending;
        storing = (v.entries t).storing;
      })
      (rw pe idle)
      (owners_inv t e v.owners l (omega arith) (rw pe (λ a j z. z, λ a z. z)) (λ u q c y. q (sym (v.owners.pendings t u c y)))
      (λ u a j q c y. q (v.owners.stores u t a j y c)))
    where
      e : Task
      e = entry (set (o.tasks t).regs r (primary x)) (o.tasks t).pending (o.tasks t).storing (o.tasks t).place
