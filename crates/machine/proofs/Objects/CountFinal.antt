-- Something was forgiven: every kept object is placed, with nothing left to copy.
use Rattle.std.specs.Prelude.{ℕ, suc, ◌≤◌, ◌<◌, ◌≡◌, refl, ◌≢◌, ◌⊎◌, List, Bool, true, length}
use Rattle.std.proofs.Common.{sym, ◌∙◌, inl, inr, arith}
use Rattle.std.proofs.Math.Decide.{dec_lt}
use Rattle.table.specs.declared.Then.TheVariants.{ToWrite, ToStoreCopy, ToFillCopy, ToPut}
use Rattle.table.specs.declared.Place.{Place}
use Rattle.table.specs.declared.Place.TheVariants.{Idle, New, Asked, FillWrite, FillCopy, StoreWrite, Meet, StoreCopy, Take, Read, Put, Release, Looking, Placing}
use Rattle.table.specs.declared.Task.{Task}
use Rattle.machine.specs.Tasks.{holding_of}
use Rattle.machine.specs.History.{Copy}
use Rattle.machine.proofs.Objects.Base.{sum_to_part}
use Rattle.machine.proofs.Objects.State.{Hd, count, locked, Shape, State, jobs_in, Meeting, Late}
use Rattle.machine.proofs.Objects.Inv.{Colours, PlaceOk, Inv}
use Rattle.machine.proofs.Objects.Final.{final}
use Rattle.machine.proofs.Objects.Counts.{is_grey, Counts}

-- ---- while collecting
pub on_colours : {K : ℕ → Type 0} {p s : ℕ} {o : State} → Inv K p s o → o.on ≡ true
    → Colours K o.shape o.snap o.hd o.prim o.rep o.has o.stack (Late o.tasks)
on_colours v on = rw on at v.mode

-- what is not placed with nothing left to copy was there at the flip
pub not_new : {K : ℕ → Type 0} {p s : ℕ} {o : State} → Inv K p s o → o.on ≡ true → (x : ℕ) (h : Hd) → o.hd x ≡ h → h ≢ count 0 → x ≤ o.snap.n
not_new {o = o} v on x h e d = by (dec_lt o.snap.n x)
  where
    by : Dec (o.snap.n < x) → x ≤ o.snap.n
    by (yes m) = absurd (d (sym e ∙ (on_colours v on).newer x m))
    by (no m) = omega (arith, m)

-- ---- nothing left to copy
-- a job is on a slot that the task has locked
job_locked : (K : ℕ → Type 0) (s : ℕ) (sh : Shape) (hd : ℕ → Hd) (prim rep : ℕ → ℕ → ℕ) (has : ℕ → ℕ → Bool) (Mt : ℕ → ℕ → Type 0) (on : Bool) (t : ℕ) (e : Task)
    (pl : Place) → PlaceOk K s sh hd prim rep has Mt on t e pl → (jobs_in (holding_of pl) ≡ 0) ⊎ ((x i : ℕ) × (hd x ≡ locked i t))
unfolding holding_of
job_locked K s sh hd prim rep has Mt on t e Idle h = inl refl
job_locked K s sh hd prim rep has Mt on t e (New want) h = inl refl
job_locked K s sh hd prim rep has Mt on t e (Asked want) h = inl refl
job_locked K s sh hd prim rep has Mt on t e (FillWrite v) h = inl refl
job_locked K s sh hd prim rep has Mt on t e (FillCopy c) h = inl refl
job_locked K s sh hd prim rep has Mt on t e (StoreWrite v) h = inl refl
job_locked K s sh hd prim rep has Mt on t e (Meet v) h = inl refl
job_locked K s sh hd prim rep has Mt on t e (StoreCopy c) h = inl refl
job_locked K s sh hd prim rep has Mt on t e (Take n) h = inl refl
job_locked K s sh hd prim rep has Mt on t e (Read n job) h = inr (job.object.0, job.index, h.2)
job_locked K s sh hd prim rep has Mt on t e (Put n job c) h = inr (job.object.0, job.index, h.2)
job_locked K s sh hd prim rep has Mt on t e (Release n job) h = inr (job.object.0, job.index, h.2)
job_locked K s sh hd prim rep has Mt on t e (Looking q (ToWrite v)) h = inl refl
job_locked K s sh hd prim rep has Mt on t e (Looking q ToStoreCopy) h = inl refl
job_locked K s sh hd prim rep has Mt on t e (Looking q ToFillCopy) h = inl refl
job_locked K s sh hd prim rep has Mt on t e (Looking q (ToPut n job)) h = inr (job.object.0, job.index, h.3.1)
job_locked K s sh hd prim rep has Mt on t e (Placing q (ToWrite v)) h = inl refl
job_locked K s sh hd prim rep has Mt on t e (Placing q ToStoreCopy) h = inl refl
job_locked K s sh hd prim rep has Mt on t e (Placing q ToFillCopy) h = inl refl
job_locked K s sh hd prim rep has Mt on t e (Placing q (ToPut n job)) h = inr (job.object.0, job.index, h.4.1)

module _ {K : ℕ → Type 0} {k p s : ℕ} {o : State} {base a j copies : ℕ} {made : List Copy} {forgiven : ℕ → ℕ} (v : Inv K p s o) (on : o.on ≡ true)
    (c : Counts k p s o.shape o.snap o.hd o.stack o.tasks base a j copies made forgiven) where
  -- when something was forgiven, nothing is left to copy
  pub forgiven_final : (u : ℕ) → 0 < forgiven u → (x : ℕ) → K x → x ≤ o.shape.n → o.hd x ≡ count 0
  forgiven_final u z =
      let f = c.forgave u z in
      final v on f.0 (λ t l. jobless t (job_locked K s o.shape o.hd o.prim o.rep o.has (Meeting o.tasks) o.on t (o.tasks t) (o.tasks t).place (v.places t)))
      (λ t x l. f.2 t x)
    where
      jobless : (t : ℕ) → (jobs_in (holding_of (o.tasks t).place) ≡ 0) ⊎ ((x i : ℕ) × (o.hd x ≡ locked i t)) → jobs_in (holding_of (o.tasks t).place) ≡ 0
      jobless t (inl e) = e
      jobless t (inr (x, i, e)) =
          let f = c.forgave u z in
          let w = v.owners.locker x i t e in
          let n : is_grey (o.hd x) ≡ 1 = rw e refl in
          let m : length o.stack ≡ 0 = rw f.0 refl in
          absurd (omega (arith, c.greys, f.1, sum_to_part (suc o.shape.n) x (λ x. is_grey (o.hd x)) (omega (arith, w.2))))
