-- An instruction ends, and a New asks for a flip: both keep the invariant.
use Rattle.std.specs.Prelude.{ℕ, ◌<◌, ◌≡◌, refl, ◌≢◌, ◌⊎◌, List, Bool, true, false, length, set, eqb, Option, Some, None}
use Rattle.std.proofs.Common.{ap, sym, ◌∙◌, inl, inr, arith, length-set, eqb-true}
use Rattle.std.proofs.lemmas.Bool.{eqb-false}
use Rattle.table.specs.declared.Primary.{Primary}
use Rattle.table.specs.declared.Making.{Making}
use Rattle.table.specs.declared.Place.TheVariants.{Idle, New, Asked, Take, Release}
use Rattle.table.specs.declared.Task.{Task}
use Rattle.table.specs.declared.Holding.{Holding}
use Rattle.table.specs.declared.Holding.TheVariants.{Job, Both}
use Rattle.machine.specs.Basics.{pick}
use Rattle.machine.specs.Entries.{nil, entry, pending_with}
use Rattle.machine.specs.Tasks.{holding_of}
use Rattle.machine.specs.Switch.{ended_entry}
use Rattle.machine.proofs.Objects.Base.{upd, upd_same, set_all}
use Rattle.machine.proofs.Objects.State.{count, State, root, pending_is, JobIn, HasClaim, jobs_in, LateAt}
use Rattle.machine.proofs.Objects.Inv.{Sound, PendingOk, Unfull, Inv}
use Rattle.machine.proofs.Objects.Ops.{goes, push, moves, heads}
use Rattle.machine.proofs.Objects.MoveLaws.{at_place_lem, same_pendings, meets_late, upd_twice, move_inv, go_inv}
use Rattle.machine.proofs.Objects.PaySteps.{releases}
use Rattle.machine.specs.Words.{slot_at, wanted}

jobless : (h : Holding) (x i : ℕ) → jobs_in h ≡ 0 → JobIn h x i → ⊥
jobless (Job job) x i e j = absurd (omega arith)
jobless (Both q job) x i e j = absurd (omega arith)
jobless _ x i e j = j

module _ {K : ℕ → Type 0} {p s : ℕ} (o : State) (t : ℕ) (v : Inv K p s o) (l : t < p) (jobs : jobs_in (holding_of (o.tasks t).place) ≡ 0)
    (claims : (x : ℕ) → HasClaim (o.tasks t) x → ⊥) (late : LateAt (o.tasks t).place → ⊥) where
  -- idle, with these registers and this pending object
  idle_inv : (regs : List Primary) (d : Option Making) → length regs ≡ 8 → ((r : ℕ) → Sound K o.shape (root regs r)) → PendingOk K o.shape o.hd o.on d → Unfull d
      → ((u : ℕ) → u ≢ t → 0 < pending_is d → pending_is d ≡ pending_is (o.tasks u).pending → ⊥) → Inv K p s (moves o t (entry regs d None Idle))
  idle_inv regs d e f g un one = move_inv o t (entry regs d None Idle) v record {
    low = l;
    mine = record { eight = e; regs = f; pending = g; storing = tt };
    place = (un, refl);
    jobs = λ x i j. absurd (jobless (holding_of (o.tasks t).place) x i jobs j);
    claims = λ x j. absurd (claims x j);
    pendings = one;
    stores = λ u x i d a b. a;
    meets = λ x i u d q m. absurd (late (meets_late (o.tasks t).place m.1));
    late = λ on x j a b c d m. absurd (late m.1);
    later = λ on x j a b d m. absurd m.1;
  }

  -- by the pending object
  ended : (d : Option Making) → (o.tasks t).pending ≡ d → Inv K p s (moves o t (ended_entry (o.tasks t).regs d))
  ended None q = idle_inv (o.tasks t).regs None (v.entries t).eight (v.entries t).regs tt tt (λ u d l w. absurd (omega arith))
  ended (Some g) q = on (eqb g.filled g.len) refl
    where
      h : PendingOk K o.shape o.hd o.on (Some g)
      h = rw q at (v.entries t).pending

      sound : g.filled ≡ g.len → Sound K o.shape g.at.0
      sound w = (h.1, h.2, sym h.4 ∙ w ∙ h.3)

      on : (b : Bool) → eqb g.filled g.len ≡ b → Inv K p s (moves o t (pick b (entry (set (o.tasks t).regs g.register g.at) None None Idle) (entry (o.tasks t).regs (Some g) None Idle)))
      on true b =
          idle_inv (set (o.tasks t).regs g.register g.at) None (length-set (o.tasks t).regs g.register g.at ∙ (v.entries t).eight)
          (set_all (λ y a. Sound K o.shape a.0) (o.tasks t).regs g.register g.at nil (omega (arith, h.5, (v.entries t).eight)) (sound (eqb-true g.filled g.len b))
          (λ y d. (v.entries t).regs y)) tt tt (λ u d l w. absurd (omega arith))
      on false b =
          idle_inv (o.tasks t).regs (Some g) (v.entries t).eight (v.entries t).regs h
          (less (eqb-false g.filled g.len b))
          (λ u d l w. same_pendings v t u d (rw q l) (rw q w))
        where
          less : g.filled ≢ g.len → g.filled < g.len
          less d = omega (arith, h.3, h.4, v.shapes.filled g.at.0, v.shapes.written g.at.0)

  pub ends_inv : Inv K p s (moves o t (ended_entry (o.tasks t).regs (o.tasks t).pending))
  ends_inv = ended (o.tasks t).pending refl

-- a payment, or a New, ends at once
pub take_ends : {K : ℕ → Type 0} {p s : ℕ} (o : State) (t n : ℕ) → Inv K p s o → t < p → (o.tasks t).place ≡ Take n
    → Inv K p s (moves o t (ended_entry (o.tasks t).regs (o.tasks t).pending))
unfolding holding_of
take_ends o t n v l ep = ends_inv o t v l (rw ep refl) (λ x j. rw ep at j) (λ w. rw ep at w)

pub new_ends : {K : ℕ → Type 0} {p s : ℕ} (o : State) (t r len m : ℕ) → Inv K p s o → t < p → (o.tasks t).place ≡ New (wanted r len m)
    → Inv K p s (moves o t (ended_entry (o.tasks t).regs (o.tasks t).pending))
unfolding holding_of
new_ends o t r len m v l ep = ends_inv o t v l (rw ep refl) (λ x j. rw ep at j) (λ w. rw ep at w)

-- the release of the last copy: the payment ends in the same step
pub release_ends : {K : ℕ → Type 0} {p s : ℕ} (o : State) (t n : ℕ) (x : Primary) (i : ℕ) → Inv K p s o → t < p → (o.tasks t).place ≡ Release n (slot_at x i)
    → Inv K p s (heads o x.0 (count i) (push i x.0 o.stack) t (ended_entry (o.tasks t).regs (o.tasks t).pending))
release_ends {K} {p} {s} o t n x i v l ep =
    rw (upd_twice o.tasks t e' (ended_entry (o.tasks t).regs (o.tasks t).pending)) at
    rw (upd_same o.tasks t e') at (take_ends (heads o x.0 (count i) (push i x.0 o.stack) t e') t 1 (releases o t n x i 1 v l ep (omega arith)) l at_take)
  where
    e' : Task
    e' = goes (o.tasks t) (Take 1)

    at_take : (upd o.tasks t e' t).place ≡ Take 1
    at_take = ap (λ (e : Task). e.place) (upd_same o.tasks t e')

-- ---- a New that asks, or has asked, while off
pub asks : {K : ℕ → Type 0} {p s : ℕ} (o : State) (t r len m : ℕ) → Inv K p s o → t < p → o.on ≡ false
    → ((o.tasks t).place ≡ New (wanted r len m)) ⊎ ((o.tasks t).place ≡ Asked (wanted r len m)) → Inv K p s (moves o t (goes (o.tasks t) (Asked (wanted r len m))))
unfolding holding_of
asks o t r len m v l off (inl ep) =
    go_inv o t (Asked (wanted r len m)) v l (off, at_place_lem v t (New (wanted r len m)) ep) (λ x i j. rw ep at j) (λ x j. rw ep at j) (λ w. rw ep at w) (λ w. rw ep at w)
    (λ w. absurd w)
asks o t r len m v l off (inr ep) =
    go_inv o t (Asked (wanted r len m)) v l (at_place_lem v t (Asked (wanted r len m)) ep) (λ x i j. rw ep at j) (λ x j. rw ep at j) (λ w. rw ep at w) (λ w. rw ep at w)
    (λ w. absurd w)
