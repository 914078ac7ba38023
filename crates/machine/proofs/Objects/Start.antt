-- After a set-up the invariant holds: nothing made, every register and root nil, the collector off.
use Rattle.std.specs.Prelude.{ℕ, zero, suc, ◌≡◌, refl, [], false, replicate}
use Rattle.std.proofs.Common.{arith}
use Rattle.machine.specs.Entries.{nil}
use Rattle.machine.specs.Setup.{fresh_task}
use Rattle.machine.proofs.Objects.Base.{clash, upd, upd_same, upd_other, upd_all}
use Rattle.machine.proofs.Objects.State.{white, claimed, count, locked, Snapshot, State, root}
use Rattle.machine.proofs.Objects.Inv.{Sound, Inv}
use Rattle.machine.proofs.Objects.Ops.{state, shape_of}

-- whatever the last flip found
abbrev pub start : Snapshot → State
start g =
    state (shape_of 0 (λ x. 0) (λ x. 0) (λ x. 0) (λ x. 0)) (λ x j. 0) (λ x j. 0) (λ x j. false) (upd (λ x. white) 0 (count 0)) [] (λ t. fresh_task) (replicate 8 nil)
    false g

nil_root : (n r : ℕ) → root (replicate n nil) r ≡ 0
nil_root zero r = refl
nil_root (suc n) zero = refl
nil_root (suc n) (suc r) = nil_root n r

unlocked : (x i t : ℕ) → upd (λ x. white) 0 (count 0) x ≡ locked i t → ⊥
unlocked x i t =
    upd_all (λ a h. h ≡ locked i t → ⊥) (λ x. white) 0 (count 0) (λ e. clash cc) (λ a q e. clash cc) x

unclaimed : (x t : ℕ) → upd (λ x. white) 0 (count 0) x ≡ claimed t → ⊥
unclaimed x t =
    upd_all (λ a h. h ≡ claimed t → ⊥) (λ x. white) 0 (count 0) (λ e. clash cc) (λ a q e. clash cc) x

nil_sound : (g : Snapshot) (r : ℕ) → Sound (λ x. Unit {0}) (start g).shape (root (replicate 8 nil) r)
nil_sound g r = (tt, omega (arith, nil_root 8 r), refl)

pub start_inv : (g : Snapshot) (p s : ℕ) → Inv (λ x. Unit {0}) p s (start g)
start_inv g p s = record {
  shapes = record {
    kept = tt;
    none = refl;
    nil = upd_same (λ x. white) 0 (count 0);
    future = λ x l. (tt, refl);
    low = λ x l. omega arith;
    high = λ x l. omega arith;
    filled = λ x. omega arith;
    written = λ x. omega arith;
    closed = λ x j k l f d. absurd (omega arith);
    named = λ x j k l f d. omega arith;
  };
  mode = record { all = λ x l. upd_other (λ x. white) 0 (count 0) x (λ e. absurd (omega arith)); empty = refl };
  eight = refl;
  roots = nil_sound g;
  entries = λ t. record { eight = refl; regs = nil_sound g; pending = tt; storing = tt };
  places = λ t. (tt, refl);
  owners = record {
    locker = λ x i t e. absurd (unlocked x i t e);
    claimer = λ x t e. absurd (unclaimed x t e);
    pendings = λ t u l e. absurd (omega arith);
    stores = λ t u x i a b. absurd a;
    beyond = λ t l. refl;
  };
}
