-- The switch-over by objects: it keeps the invariant, and every replica is then the same as its primary.
use Rattle.std.specs.Prelude.{ℕ, ◌≡◌, refl, false, Option, Some, None}
use Rattle.std.proofs.Common.{arith}
use Rattle.table.specs.declared.Making.{Making}
use Rattle.table.specs.declared.Slot.{Slot}
use Rattle.table.specs.declared.Place.TheVariants.{Idle}
use Rattle.machine.proofs.Objects.Base.{clash, off_on, upd, upd_same, upd_other, upd_all}
use Rattle.machine.proofs.Objects.State.{Hd, white, claimed, count, locked, State, Late}
use Rattle.machine.proofs.Objects.Inv.{PendingOk, StoringOk, Inv}
use Rattle.machine.proofs.Objects.Ops.{switches}

-- no Store is late where all are idle
pub not_late : (o : State) → ((t : ℕ) → (o.tasks t).place ≡ Idle) → (x j : ℕ) → Late o.tasks x j → ⊥
not_late o idle x j (t, a, b) = rw (idle t) at b

pub switch_inv : {K : ℕ → Type 0} {p s : ℕ} {o : State} → Inv K p s o → ((t : ℕ) → (o.tasks t).place ≡ Idle) → Inv K p s (switches o)
switch_inv {K} {p} {s} {o} v idle = record {
  shapes = record {
    kept = v.shapes.kept;
    none = v.shapes.none;
    nil = upd_same (λ (x : ℕ). white) 0 (count 0);
    future = v.shapes.future;
    low = v.shapes.low;
    high = v.shapes.high;
    filled = λ x. omega (arith, v.shapes.filled x);
    written = λ x. omega (arith, v.shapes.filled x, v.shapes.written x);
    closed = v.shapes.closed;
    named = λ x j k l a b. (v.shapes.closed x j k l a b).1;
  };
  mode = record { all = λ x l. upd_other (λ (x : ℕ). white) 0 (count 0) x (λ e. omega arith); empty = refl };
  eight = v.eight;
  roots = v.roots;
  entries = λ t. record {
    eight = (v.entries t).eight;
    regs = (v.entries t).regs;
    pending = pending (o.tasks t).pending (v.entries t).pending;
    storing = storing (o.tasks t).storing (v.entries t).storing;
  };
  places = λ t. rw (idle t) (rw (idle t) at (v.places t));
  owners = record {
    locker = λ x i t e. absurd (unlocked i t x e);
    claimer = λ x t e. absurd (unclaimed t x e);
    pendings = v.owners.pendings;
    stores = v.owners.stores;
    beyond = v.owners.beyond;
  };
}
  where
    hd' : ℕ → Hd
    hd' = upd (λ x. white) 0 (count 0)

    pending : (q : Option Making) → PendingOk K o.shape o.hd o.on q → PendingOk K (switches o).shape hd' false q
    pending None w = tt
    pending (Some d) w = (w.0, w.1, w.2, w.3, w.4, w.5, λ e. off_on e)

    storing : (q : Option Slot) → StoringOk K o.shape q → StoringOk K (switches o).shape q
    storing None w = tt
    storing (Some y) w = w

    unlocked : (i t x : ℕ) → hd' x ≡ locked i t → ⊥
    unlocked i t =
        upd_all (λ x h. h ≡ locked i t → ⊥) (λ x. white) 0 (count 0) (λ e. clash cc)
        (λ x q e. clash cc)

    unclaimed : (t x : ℕ) → hd' x ≡ claimed t → ⊥
    unclaimed t =
        upd_all (λ x h. h ≡ claimed t → ⊥) (λ x. white) 0 (count 0) (λ e. clash cc)
        (λ x q e. clash cc)
