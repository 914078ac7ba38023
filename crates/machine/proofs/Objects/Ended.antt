-- The entry of a task whose instruction has ended: idle, and a pending object with all its slots filled is in its register.
use Rattle.std.specs.Prelude.{ℕ, ◌≤◌, ◌<◌, ◌≡◌, refl, ◌≢◌, List, Bool, true, false, length, set, eqb, ltb, None}
use Rattle.std.proofs.Common.{sym, ◌∙◌, arith, length-set, eqb-true, ltb-true, ltb-false}
use Rattle.std.proofs.Math.Decide.{ℕ_discrete}
use Rattle.std.proofs.Math.Seq.{set_out}
use Rattle.std.proofs.lemmas.Bool.{eqb-false}
use Rattle.table.specs.declared.Primary.{Primary}
use Rattle.table.specs.declared.Place.TheVariants.{Idle}
use Rattle.table.specs.declared.Task.{Task}
use Rattle.machine.specs.Basics.{pick}
use Rattle.machine.specs.Entries.{entry, nil, pending_with}
use Rattle.machine.specs.Switch.{ended_entry}
use Rattle.machine.proofs.Objects.Base.{set_all}
use Rattle.machine.proofs.Objects.State.{Hd, Shape, root, pending_is}
use Rattle.machine.proofs.Objects.Inv.{Sound, PendingOk, EntryOk, Unfull}

-- a sound object put among sound objects; beyond the end nothing changes
pub set_sound : (K : ℕ → Type 0) (sh : Shape) (ps : List Primary) (r : ℕ) (x : Primary)
    → ((a : ℕ) → Sound K sh (root ps a)) → Sound K sh x.0 → (a : ℕ) → Sound K sh (root (set ps r x) a)
set_sound K sh ps r x h z a = on (ltb r (length ps)) refl
  where
    on : (b : Bool) → ltb r (length ps) ≡ b → Sound K sh (root (set ps r x) a)
    on true l = set_all (λ (b : ℕ) (q : Primary). Sound K sh q.0) ps r x nil (ltb-true r (length ps) l) z (λ b d. h b) a
    on false l = rw (set_out ps r x (ltb-false r (length ps) l)) (h a)

pub record EndedOk (K : ℕ → Type 0) (sh : Shape) (hd : ℕ → Hd) (on : Bool) (x : ℕ) (e : Task) : Type 0 where
  pub mine : EntryOk K sh hd on e
  pub idle : e.place ≡ Idle
  pub unfull : Unfull e.pending
  pub nowhere : e.storing ≡ None
  pub only : 0 < pending_is e.pending → pending_is e.pending ≡ x

pub ended_ok : (K : ℕ → Type 0) (sh : Shape) (hd : ℕ → Hd) (on : Bool) (regs : List Primary) (x : Primary) (r len f : ℕ)
    → length regs ≡ 8 → ((a : ℕ) → Sound K sh (root regs a)) → PendingOk K sh hd on (pending_with x r len f) → f ≤ len
    → EndedOk K sh hd on x.0 (ended_entry regs (pending_with x r len f))
ended_ok K sh hd on regs x r len f eight h m l = by (eqb f len) refl
  where
    by : (b : Bool) → eqb f len ≡ b → EndedOk K sh hd on x.0 (pick b (entry (set regs r x) None None Idle) (entry regs (pending_with x r len f) None Idle))
    by true e = record {
      mine = record {
        eight = length-set regs r x ∙ eight;
        regs = set_sound K sh regs r x h (m.1, m.2, sym m.4 ∙ eqb-true f len e ∙ m.3);
        pending = tt;
        storing = tt;
      };
      idle = refl;
      unfull = tt;
      nowhere = refl;
      only = λ z. absurd (omega arith);
    }
    by false e = record {
      mine = record { eight = eight; regs = h; pending = m; storing = tt };
      idle = refl;
      unfull = let d : f ≢ len = eqb-false f len e in lt f len l d;
      nowhere = refl;
      only = λ z. refl;
    }
      where
        lt : (a b : ℕ) → a ≤ b → a ≢ b → a < b
        lt a b l d = below (ℕ_discrete a b)
          where
            below : Dec (a ≡ b) → a < b
            below (yes e) = absurd (d e)
            below (no e) = omega arith
