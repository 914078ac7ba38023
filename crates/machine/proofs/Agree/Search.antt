-- The searches over the table's tasks, in terms of the objects: a wait finds its task, nothing grey, all idle, no slot in store.
use Rattle.std.specs.Prelude.{ℕ, zero, suc, ◌≤◌, ◌<◌, ◌≡◌, ◌≢◌, List, [], Bool, length, get_or, take, eqb, Some, None}
use Rattle.std.proofs.Math.Path.{refl, sym}
use Rattle.std.proofs.Common.{ap, ◌∙◌, arith}
use Rattle.std.proofs.Math.Bool.{true, false}
use Rattle.std.proofs.Math.Decide.{dec_lt}
use Rattle.std.proofs.Math.ListN.{get_or-eq_default}
use Rattle.std.proofs.Math.Dec.{ltb}
use borrow.Author.Tests.{ne_eqb, ltb-true, ltb-false, le-ltb, not-true, not-false}
use Rattle.table.specs.declared.Place.TheVariants.{Idle, Take}
use Rattle.table.specs.declared.Task.{Task}
use Rattle.table.specs.declared.Table.{Table}
use Rattle.table.specs.declared.Holding.{Holding}
use Rattle.table.specs.declared.Holding.TheVariants.{Rests}
use Rattle.table.specs.declared.Sought.{Sought}
use Rattle.table.specs.declared.Sought.TheVariants.{Claimer, Holder, Worker, Blocker, Claiming, Busy}
use Rattle.table.specs.declared.Answer.TheVariants.{Wait}
use Rattle.machine.specs.Basics.{pick}
use Rattle.machine.specs.Words.{primary, slot_at}
use Rattle.machine.specs.Entries.{no_task, task_at, out}
use Rattle.machine.specs.Tasks.{holding_of, idle_of, claims_of, works_of, sought_of, lowest_of, sought_task, seek_of, some, stores_at, store_there, slot_taken, grey_of, all_idle}
use Rattle.machine.specs.Step.{wait_of}
use Rattle.machine.proofs.Objects.Base.{off_on, sum_to, sum_to_part}
use Rattle.machine.proofs.Objects.State.{claimed, locked, State, On, HasClaim, jobs_in}
use Rattle.machine.proofs.Objects.Inv.{Inv}
use Rattle.machine.proofs.Objects.Flipped.{Restful}
use Rattle.machine.proofs.Agree.Encode.{at_storing, at_task}
use Rattle.machine.specs.Agree.Agree.{end}
use Rattle.machine.proofs.Agree.Agree.{Held, Agree}
use Rattle.machine.proofs.Agree.Holdings.{at_holding, holding_at, claim_is_lem, job_is_lem, claims, claim_works, job_works, idle_only, restful, store_there_lem}
use Rattle.machine.proofs.Agree.Lowest.{found_at, lowest_found, lowest_one, lowest_none}
use Rattle.std.proofs.lemmas.List.{nil_from_length}

-- ---- the tasks sought
pub found_is : (ts : List Task) (p : ℕ) (w : Sought) (q : ℕ) → seek_of ts p w ≡ Some q → (q < p) × (sought_task w q (get_or ts q no_task) ≡ true)
unfolding seek_of
found_is ts p w q e = lowest_found (sought_task w) ts p q e

pub found_some : (ts : List Task) (p : ℕ) (w : Sought) (i : ℕ) → i < p → p ≤ length ts → sought_task w i (get_or ts i no_task) ≡ true
    → (q : ℕ) × (seek_of ts p w ≡ Some q)
unfolding seek_of
found_some ts p w i l m e = found_at (lowest_of (sought_task w) (take p ts) 0) (lowest_one (sought_task w) ts p i l (omega arith) e)

-- one that rests is not sought
either : (b : Bool) → pick b false false ≡ false
either true = refl
either false = refl

sought_rests : (w : Sought) (i : ℕ) → sought_of w i Rests ≡ false
unfolding sought_of
sought_rests (Worker me) i = either (eqb i me)
sought_rests (Blocker me) i = either (eqb i me)
sought_rests _ i = refl

rests : (w : Sought) (i : ℕ) → sought_task w i no_task ≡ false
unfolding holding_of
rests w i = sought_rests w i

pub none : (ts : List Task) (p : ℕ) (w : Sought) → some ts p w ≡ false → (i : ℕ) → i < p → sought_task w i (get_or ts i no_task) ≡ false
unfolding seek_of
none ts p w e i l = go (dec_lt i (length ts))
  where
    go : Dec (i < length ts) → sought_task w i (get_or ts i no_task) ≡ false
    go (yes m) = lowest_none (sought_task w) ts p e i l m
    go (no m) = rw (get_or-eq_default ts no_task {n = i} (omega (arith, m))) (rests w i)

-- ---- sums and lists
pub sum_pos : (n : ℕ) (f : ℕ → ℕ) → 0 < sum_to n f → (u : ℕ) × (u < n) × (0 < f u)
unfolding sum_to
sum_pos zero f l = absurd (omega arith)
sum_pos (suc n) f l = go (dec_lt 0 (f n)) (sum_pos n f)
  where
    go : Dec (0 < f n) → (0 < sum_to n f → (u : ℕ) × (u < n) × (0 < f u)) → (u : ℕ) × (u < suc n) × (0 < f u)
    go (yes a) ih = (n, omega arith, a)
    go (no a) ih = let m = ih (omega (arith, a)) in (m.0, omega (arith, m.1), m.2)

-- ---- the table's searches
module _ {K : ℕ → Type 0} {pa ra : ℕ → ℕ} {o : State} {t : Table} {ws : List ℕ} (k : Agree K pa ra o t ws) (v : Inv K t.limits.p t.limits.s o) where
  abbrev held : ℕ → Holding
  held i = at_holding pa (holding_of (o.tasks i).place)

  p_tasks : t.limits.p ≤ length t.tasks
  p_tasks = omega (arith, k.eight, k.sized.limited.p_high)

  task_at_lem : (i : ℕ) → i < t.limits.p → task_at t i ≡ at_task pa ra (o.tasks i)
  task_at_lem i l = k.tasks i (omega (arith, k.sized.limited.p_high))

  pub sought_at : (w : Sought) (i : ℕ) → i < t.limits.p → sought_task w i (task_at t i) ≡ sought_of w i (held i)
  sought_at w i l = rw (task_at_lem i l) (ap (sought_of w i) (holding_at pa ra (o.tasks i).place))

  waits : (w : Sought) (u : ℕ) → u < t.limits.p → sought_of w u (held u) ≡ true → (q : ℕ) × (wait_of t w ≡ out t (Wait q))
  unfolding wait_of
  waits w u l e = let m = found_some t.tasks t.limits.p w u l p_tasks (sought_at w u l ∙ e) in (m.0, rw m.1 refl)

  pub claimer_found : (x u : ℕ) → o.hd x ≡ claimed u → (q : ℕ) × (wait_of t (Claimer (primary (pa x))) ≡ out t (Wait q))
  unfolding sought_of
  claimer_found x u e =
      let m = v.owners.claimer x u e in waits (Claimer (primary (pa x))) u m.0 (claim_is_lem pa (holding_of (o.tasks u).place) x m.4)

  pub holder_found : (x i u : ℕ) → o.hd x ≡ locked i u → (q : ℕ) × (wait_of t (Holder (slot_at (primary (pa x)) i)) ≡ out t (Wait q))
  unfolding sought_of
  holder_found x i u e =
      let m = v.owners.locker x i u e in waits (Holder (slot_at (primary (pa x)) i)) u m.0 (job_is_lem pa (holding_of (o.tasks u).place) x i m.4)

  -- a Take that finds the stack empty, and something grey: another task has a job or a claim
  pub worker_found : (i n : ℕ) → (o.tasks i).place ≡ Take n → t.marks.top ≡ end t → grey_of t.marks (end t) t.tasks t.limits.p ≡ true
      → (q : ℕ) × (wait_of t (Worker i) ≡ out t (Wait q))
  unfolding grey_of sought_of holding_of
  worker_found i n e top grey = go (ltb 0 t.marks.j) refl (rw (le-ltb t.marks.top (end t) (omega arith)) at grey)
    where
      works : (u : ℕ) → u < t.limits.p → u ≢ i → works_of (held u) ≡ true → (q : ℕ) × (wait_of t (Worker i) ≡ out t (Wait q))
      works u l f w = waits (Worker i) u l (rw (ne_eqb u i f) w)

      other : (u : ℕ) → 0 < jobs_in (holding_of (o.tasks u).place) → u ≢ i
      other u l f = let z : jobs_in (holding_of (o.tasks u).place) ≡ 0 = rw (f, e) refl in omega arith

      claiming : (q : ℕ) → claims_of (held q) ≡ true → q ≢ i
      claiming q w f = let z : claims_of (held q) ≡ false = rw (f, e) refl in off_on (sym z ∙ w)

      go : (b : Bool) → ltb 0 t.marks.j ≡ b → pick b true (some t.tasks t.limits.p Claiming) ≡ true → (q : ℕ) × (wait_of t (Worker i) ≡ out t (Wait q))
      go true h g =
          let m = sum_pos t.limits.p (λ i. jobs_in (holding_of (o.tasks i).place)) (omega (arith, k.marked.jobs, ltb-true 0 t.marks.j h)) in
          works m.0 m.1 (other m.0 m.2) (job_works pa (holding_of (o.tasks m.0).place) m.2)
      go false h g =
          let m = found_at (seek_of t.tasks t.limits.p Claiming) g in
          let n = found_is t.tasks t.limits.p Claiming m.0 m.1 in
          let w = sym (sought_at Claiming m.0 n.0) ∙ n.1 in
          works m.0 n.0 (claiming m.0 w) (claim_works pa (holding_of (o.tasks m.0).place) w)

  pub not_grey : grey_of t.marks (end t) t.tasks t.limits.p ≡ false
      → (o.stack ≡ []) × ((u : ℕ) → u < t.limits.p → jobs_in (holding_of (o.tasks u).place) ≡ 0) × ((u x : ℕ) → u < t.limits.p → HasClaim (o.tasks u) x → ⊥)
  unfolding grey_of sought_of
  not_grey = go (ltb t.marks.top (end t)) (ltb 0 t.marks.j) refl refl
    where
      go : (a b : Bool) → ltb t.marks.top (end t) ≡ a → ltb 0 t.marks.j ≡ b → pick a true (pick b true (some t.tasks t.limits.p Claiming)) ≡ false
          → (o.stack ≡ []) × ((u : ℕ) → u < t.limits.p → jobs_in (holding_of (o.tasks u).place) ≡ 0)
          × ((u x : ℕ) → u < t.limits.p → HasClaim (o.tasks u) x → ⊥)
      go true b g h e = off_on (sym e)
      go false true g h e = off_on (sym e)
      go false false g h e = (
        nil_from_length o.stack (omega (arith, k.marked.stack, ltb-false t.marks.top (end t) g)),
        λ u l. omega (arith, sum_to_part t.limits.p u (λ i. jobs_in (holding_of (o.tasks i).place)) l, k.marked.jobs, ltb-false 0 t.marks.j h),
        λ u x l c. off_on (sym (sym (sought_at Claiming u l) ∙ none t.tasks t.limits.p Claiming e u l) ∙ claims pa (holding_of (o.tasks u).place) x c),
      )

  pub all_idle_lem : all_idle t.tasks t.limits.p ≡ true → (i : ℕ) → (o.tasks i).place ≡ Idle
  unfolding sought_of
  all_idle_lem e i = go (dec_lt i t.limits.p)
    where
      go : Dec (i < t.limits.p) → (o.tasks i).place ≡ Idle
      go (yes l) =
          let w = none t.tasks t.limits.p Busy (not-true (some t.tasks t.limits.p Busy) e) i l in
          idle_only pa (o.tasks i).place (not-false (idle_of (held i)) (sym (sought_at Busy i l) ∙ w))
      go (no l) = rw (v.owners.beyond i (omega (arith, l))) refl

  pub no_blocker : (i : ℕ) → seek_of t.tasks t.limits.p (Blocker i) ≡ None → (u : ℕ) → u ≢ i → Restful (o.tasks u).place
  unfolding sought_of
  no_blocker i e u f = go (dec_lt u t.limits.p)
    where
      go : Dec (u < t.limits.p) → Restful (o.tasks u).place
      go (yes l) =
          let w : sought_of (Blocker i) u (held u) ≡ false = sym (sought_at (Blocker i) u l) ∙ none t.tasks t.limits.p (Blocker i) (rw e refl) u l in
          restful pa (o.tasks u).place (rw (ne_eqb u i f) at w)
      go (no l) = rw (v.owners.beyond u (omega (arith, l))) tt

  pub slot_free : (me x j : ℕ) → slot_taken t.tasks t.limits.p me (primary (pa x)) j ≡ false → Held K o.shape x → (u : ℕ) → u ≢ me
      → On (o.tasks u).storing x j → ⊥
  unfolding slot_taken
  slot_free me x j e h u f w = go (dec_lt u t.limits.p)
    where
      go : Dec (u < t.limits.p) → ⊥
      go (yes l) =
          let a : store_there me (primary (pa x)) j u (task_at t u) ≡ false = lowest_none (store_there me (primary (pa x)) j) t.tasks t.limits.p e u l (omega (arith, p_tasks)) in
          let b : stores_at (primary (pa x)) j (at_storing pa (o.tasks u).storing) ≡ false = rw (ne_eqb u me f, task_at_lem u l) at a in
          off_on (sym b ∙ store_there_lem pa (o.tasks u).storing x j w)
      go (no l) = rw (v.owners.beyond u (omega (arith, l))) at w
