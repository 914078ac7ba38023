-- One entry changes, and nothing else that is counted: words, copies and payments are kept.
use Rattle.std.specs.Prelude.{ℕ, zero, suc, ◌+◌, ◌-◌, ◌*◌, ◌≤◌, ◌<◌, ◌≢◌, List, [], Bool, true, false, set, eqb, Option, Some, None}
use Rattle.std.proofs.Math.Path.{◌≡◌, refl}
use Rattle.std.proofs.Common.{sym, ◌∙◌, arith, eqb-true}
use Rattle.std.proofs.Math.Decide.{dec_lt}
use Rattle.std.proofs.Math.Nat.{mul-le-mul_left}
use Rattle.table.specs.declared.Primary.{Primary}
use Rattle.table.specs.declared.Making.{Making}
use Rattle.table.specs.declared.Operand.{Operand}
use Rattle.table.specs.declared.Place.{Place}
use Rattle.table.specs.declared.Place.TheVariants.{Idle, New, StoreWrite, Meet, Take}
use Rattle.table.specs.declared.Task.{Task}
use Rattle.machine.specs.Basics.{pick}
use Rattle.machine.specs.Entries.{entry, pending_with}
use Rattle.machine.specs.Tasks.{holding_of}
use Rattle.machine.specs.Setup.{fresh_task}
use Rattle.machine.specs.Switch.{ended_entry}
use Rattle.machine.specs.History.{Copy}
use Rattle.machine.proofs.Objects.Base.{clash, upd, upd_same, upd_other, upd_all, sum_to, sum_to_at}
use Rattle.machine.proofs.Objects.State.{State, ClaimIn, HasClaim}
use Rattle.machine.proofs.Objects.Inv.{PendingOk, Inv}
use Rattle.machine.proofs.Objects.Ops.{goes}
use Rattle.machine.proofs.Objects.Counts.{left_to_pay, unfilled, owing, Counts}
use Rattle.machine.specs.Words.{wanted}

-- ---- sums over the tasks
-- one entry changes, and what was forgiven its task: what all owe changes as what that task owes
pub owing_sum : (k p : ℕ) (f f' : ℕ → ℕ) (ts : ℕ → Task) (t : ℕ) (e : Task) → t < p → ((u : ℕ) → u ≢ t → f' u ≡ f u)
    → sum_to p (λ u. owing k (f' u) (upd ts t e u)) + owing k (f t) (ts t) ≡ sum_to p (λ u. owing k (f u) (ts u)) + owing k (f' t) e
owing_sum k p f f' ts t e l h =
    rw (upd_same ts t e) at
    (sum_to_at p t (λ u. owing k (f' u) (upd ts t e u)) (λ u. owing k (f u) (ts u)) l (λ u d. rw (upd_other ts t e u d, h u d) refl))

-- ---- what a pending object has still to fill
pub unfilled_most : {K : ℕ → Type 0} {p s : ℕ} {o : State} → Inv K p s o → (t : ℕ) → unfilled (o.tasks t).pending ≤ s
unfilled_most {K} {p} {s} {o} v t = by (o.tasks t).pending (v.entries t).pending
  where
    by : (d : Option Making) → PendingOk K o.shape o.hd o.on d → unfilled d ≤ s
    by None h = omega arith
    by (Some d) h = omega (arith, h.3, v.shapes.high d.at.0 h.2)

-- at the end of an instruction the task is idle, and has as much to fill as before
pub ended_owes : (regs : List Primary) (d : Option Making) → ((ended_entry regs d).place ≡ Idle) × (unfilled (ended_entry regs d).pending ≡ unfilled d)
ended_owes regs None = (refl, refl)
ended_owes regs (Some d) = by (eqb d.filled d.len) refl
  where
    over : Bool → Task
    over b = pick b (entry (set regs d.register d.at) None None Idle) (entry regs (Some d) None Idle)

    by : (b : Bool) → eqb d.filled d.len ≡ b → ((over b).place ≡ Idle) × (unfilled (over b).pending ≡ d.len - d.filled)
    by true e = (refl, omega (arith, eqb-true d.filled d.len e))
    by false e = (refl, refl)

pub ended_claims : (regs : List Primary) (d : Option Making) (x : ℕ) → HasClaim (ended_entry regs d) x → ⊥
unfolding holding_of
ended_claims regs d x h = rw (ended_owes regs d).0 at h

fresh_claims : (x : ℕ) → HasClaim fresh_task x → ⊥
unfolding holding_of
fresh_claims x q = q

none : (n : ℕ) → (0 < n → ⊥) → n ≡ 0
none zero h = refl
none (suc n) h = absurd (h (omega arith))

module _ {K : ℕ → Type 0} {k p s : ℕ} {o : State} {base a j copies : ℕ} {made : List Copy} {forgiven : ℕ → ℕ} (v : Inv K p s o) (on : o.on ≡ true)
    (c : Counts k p s o.shape o.snap o.hd o.stack o.tasks base a j copies made forgiven) (t : ℕ) (l : t < p) where
  -- nothing was forgiven a task that is busy
  pub unforgiven : (pl : Place) → (o.tasks t).place ≡ pl → pl ≢ Idle → forgiven t ≡ 0
  unforgiven pl ep d = none (forgiven t) (λ h. d (sym ep ∙ (c.forgave t h).3))

  pub counts_moves : (e' : Task) → owing k (forgiven t) (o.tasks t) ≤ owing k (forgiven t) e' → owing k (forgiven t) e' ≤ k * (s + 2)
      → ((x : ℕ) → HasClaim e' x → HasClaim (o.tasks t) x) → (0 < forgiven t → e'.place ≡ Idle)
      → Counts k p s o.shape o.snap o.hd o.stack (upd o.tasks t e') base a j copies made forgiven
  counts_moves e' more most claim idle = record {
    words = c.words;
    greys = c.greys;
    reach = c.reach;
    copied = c.copied;
    once = c.once;
    which = c.which;
    each = c.each;
    paid = omega (arith, c.paid, owing_sum k p forgiven forgiven o.tasks t e' l (λ u d. refl));
    most = upd_all (λ u e. owing k (forgiven u) e ≤ k * (s + 2)) o.tasks t e' most (λ u d. c.most u);
    forgave = λ u h. let f = c.forgave u h in (
      f.0,
      f.1,
      λ w x. upd_all (λ w e. HasClaim e x → ⊥) o.tasks t e' (λ q. f.2 t x (claim x q)) (λ w d. f.2 w x) w,
      upd_all (λ u e. 0 < forgiven u → e.place ≡ Idle) o.tasks t e' idle (λ u d h. (c.forgave u h).3) u h,
    );
  }

  -- as much to pay and to fill as before
  pub counts_same : (e' : Task) → left_to_pay e'.place ≡ left_to_pay (o.tasks t).place → unfilled e'.pending ≡ unfilled (o.tasks t).pending
      → ((x : ℕ) → HasClaim e' x → HasClaim (o.tasks t) x) → (0 < forgiven t → e'.place ≡ Idle)
      → Counts k p s o.shape o.snap o.hd o.stack (upd o.tasks t e') base a j copies made forgiven
  counts_same e' pays fills = counts_moves e' (rw (pays, fills) (omega arith)) (rw (pays, fills) (c.most t))

  -- a busy task goes to another place and claims nothing
  pub counts_goes : (pl₀ pl : Place) → (o.tasks t).place ≡ pl₀ → pl₀ ≢ Idle → left_to_pay pl ≡ left_to_pay pl₀ → ((x : ℕ) → ClaimIn (holding_of pl) x → ⊥)
      → Counts k p s o.shape o.snap o.hd o.stack (upd o.tasks t (goes (o.tasks t) pl)) base a j copies made forgiven
  counts_goes pl₀ pl ep d pays free =
      counts_same (goes (o.tasks t) pl) (rw ep pays) refl (λ x q. absurd (free x q)) (λ h. absurd (omega (arith, unforgiven pl₀ ep d)))

  -- the payment of a Store begins
  pub counts_pays : (pl₀ : Place) → (o.tasks t).place ≡ pl₀ → pl₀ ≢ Idle → left_to_pay pl₀ ≡ 0
      → Counts k p s o.shape o.snap o.hd o.stack (upd o.tasks t (goes (o.tasks t) (Take k))) base a j copies made forgiven
  unfolding holding_of
  counts_pays pl₀ ep d pays =
      counts_moves (goes (o.tasks t) (Take k)) (rw ep (omega (arith, pays)))
      (omega (arith, unforgiven pl₀ ep d, mul-le-mul_left k (unfilled_most v t))) (λ x q. absurd q) (λ h. absurd (omega (arith, unforgiven pl₀ ep d)))

  -- the primary write of a Store
  pub counts_stores : (w : Operand Primary) → (o.tasks t).place ≡ StoreWrite w
      → Counts k p s o.shape o.snap o.hd o.stack (upd o.tasks t (goes (o.tasks t) (Meet w))) base a j copies made forgiven
  unfolding holding_of
  counts_stores w ep = counts_goes (StoreWrite w) (Meet w) ep (λ q. clash cc) refl (λ x q. q)

  -- a New is refused
  pub counts_ends_new : (r len m : ℕ) → (o.tasks t).place ≡ New (wanted r len m)
      → Counts k p s o.shape o.snap o.hd o.stack (upd o.tasks t (ended_entry (o.tasks t).regs (o.tasks t).pending)) base a j copies made forgiven
  counts_ends_new r len m ep =
      let z = ended_owes (o.tasks t).regs (o.tasks t).pending in
      counts_same (ended_entry (o.tasks t).regs (o.tasks t).pending) (rw (z.0, ep) refl) z.1
      (λ x q. absurd (ended_claims (o.tasks t).regs (o.tasks t).pending x q)) (λ h. z.0)

  -- a payment finds nothing grey: what was left of it is forgiven
  pub counts_ends_empty : (n : ℕ) → (o.tasks t).place ≡ Take n → o.stack ≡ [] → j ≡ 0 → ((u x : ℕ) → u < p → HasClaim (o.tasks u) x → ⊥)
      → Counts k p s o.shape o.snap o.hd o.stack (upd o.tasks t (ended_entry (o.tasks t).regs (o.tasks t).pending)) base a j copies made (upd forgiven t n)
  counts_ends_empty n ep empty jobless free = record {
    words = c.words;
    greys = c.greys;
    reach = c.reach;
    copied = c.copied;
    once = c.once;
    which = c.which;
    each = c.each;
    paid = omega (arith, c.paid, owing_sum k p forgiven (upd forgiven t n) o.tasks t e' l (upd_other forgiven t n), same);
    most = upd_all (λ u e. owing k (upd forgiven t n u) e ≤ k * (s + 2)) o.tasks t e' (omega (arith, c.most t, same))
        (λ u d. rw (upd_other forgiven t n u d) (c.most u));
    forgave = λ u h. (
      empty,
      jobless,
      λ w x. upd_all (λ w e. HasClaim e x → ⊥) o.tasks t e' (ended_claims (o.tasks t).regs (o.tasks t).pending x) (λ w d. claimless w x (dec_lt w p)) w,
      upd_all (λ u e. 0 < upd forgiven t n u → e.place ≡ Idle) o.tasks t e' (λ h. z.0) (λ u d h. (c.forgave u (rw (upd_other forgiven t n u d) at h)).3) u h,
    );
  }
    where
      e' : Task
      e' = ended_entry (o.tasks t).regs (o.tasks t).pending

      claimless : (u x : ℕ) → Dec (u < p) → HasClaim (o.tasks u) x → ⊥
      claimless u x (yes m) q = free u x m q
      claimless u x (no m) q = fresh_claims x (rw (v.owners.beyond u (omega (arith, m))) at q)

      z : (e'.place ≡ Idle) × (unfilled e'.pending ≡ unfilled (o.tasks t).pending)
      z = ended_owes (o.tasks t).regs (o.tasks t).pending

      same : owing k (upd forgiven t n t) e' ≡ owing k (forgiven t) (o.tasks t)
      same = rw (upd_same forgiven t n, z.0, z.1, ep, unforgiven (Take n) ep (λ q. clash cc)) (omega arith)
