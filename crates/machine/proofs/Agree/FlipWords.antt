-- The flip in words: 10 where a replica finds no room; else the visited objects have replicas in the space to come, and table and words agree.
use Rattle.std.specs.Prelude.{ℕ, ◌+◌, ◌<◌, ◌≡◌, ◌⊎◌, List, [], ◌∷◌, Bool, false, not, length, get_or, ltb, Result, Ok, Err}
use Rattle.std.proofs.Math.Path.{refl, ap, sym}
use Rattle.std.proofs.Common.{◌∙◌, arith, length-take, le-ltb}
use Rattle.std.proofs.Math.Logic.{inl, inr}
use Rattle.std.proofs.Math.Bool.{true}
use Rattle.std.proofs.Math.Decide.{ℕ_discrete, dec_lt}
use Rattle.table.specs.declared.Marks.{Marks}
use Rattle.table.specs.declared.Place.{Place}
use Rattle.table.specs.declared.Place.TheVariants.{Idle, Read, Put, Release, Looking, Placing}
use Rattle.table.specs.declared.Task.{Task}
use Rattle.table.specs.declared.Table.{Table}
use Rattle.table.specs.declared.Refusal.{Refusal}
use Rattle.table.specs.declared.Answer.TheVariants.{Moved}
use Rattle.machine.specs.Basics.{pick, first_of}
use Rattle.machine.specs.Numbers.{refusal}
use Rattle.machine.specs.Words.{bottom_of, end_of}
use Rattle.machine.specs.Entries.{no_task, out, refused, ends}
use Rattle.machine.specs.Setup.{fresh_task}
use Rattle.machine.specs.Tasks.{holding_of}
use Rattle.machine.specs.Flip.{empty_space, tasks_of, passes_of, unasked, unasked_entry, flipped, flip_end, flip_of}
use Rattle.machine.specs.Objects.Base.{In}
use Rattle.machine.proofs.Objects.Base.{off_on, sum_to, sum_none}
use Rattle.machine.proofs.Objects.State.{Hd, count, Shape, State, IsPlaced, jobs_in, Meeting}
use Rattle.machine.proofs.Objects.Inv.{PlaceOk, Off, Inv}
use Rattle.machine.proofs.Objects.Ops.{state, found_in, flips}
use Rattle.machine.proofs.Objects.Flipped.{Restful, Comes}
use Rattle.machine.proofs.Objects.FlipInv.{Mid, readied}
use Rattle.machine.proofs.Objects.Counts.{Counts}
use Rattle.machine.proofs.Objects.FlipCounts.{twinned, grey_ones, counts_flipped}
use Rattle.machine.proofs.Agree.Encode.{at_place, at_task}
use Rattle.machine.proofs.Agree.Agree.{bottom, Agree}
use Rattle.machine.proofs.Agree.Midway.{Midway}
use Rattle.machine.proofs.Agree.MidwayRead.{space_low}
use Rattle.machine.proofs.Agree.PlaceStep.{task_same}
use Rattle.machine.proofs.Agree.Rows.{length_first, get_d_first, get_d_behind}
use Rattle.machine.proofs.Agree.Home.{Home}
use Rattle.machine.proofs.Agree.FlipVisit.{Visited, Cramped}
use Rattle.machine.proofs.Agree.FlipPass.{Some, SomePass, All, three_passes, comes_all}
use Rattle.machine.proofs.Agree.FlipStart.{agree_fewer, midway_made, flip_start}
use Rattle.std.proofs.lemmas.List.{get_or-take}

-- ---- entries
at_unasked : (pa ra : ℕ → ℕ) (pl : Place) → unasked (at_place pa ra pl) ≡ at_place pa ra (unasked pl)
unfolding unasked
at_unasked pa ra Idle = refl
at_unasked pa ra _ = refl

at_unasked_entry : (pa ra : ℕ → ℕ) (e : Task) → unasked_entry (at_task pa ra e) ≡ at_task pa ra (unasked_entry e)
unfolding unasked_entry
at_unasked_entry pa ra e = rw (at_unasked pa ra e.place)

idle_again : (e : Task) → e ≡ fresh_task → e ≡ unasked_entry e
unfolding unasked_entry unasked
idle_again e q = rw q refl

-- while off no task has a job
no_job : (K : ℕ → Type 0) (s : ℕ) (sh : Shape) (hd : ℕ → Hd) (prim rep : ℕ → ℕ → ℕ) (has : ℕ → ℕ → Bool) (Mt : ℕ → ℕ → Type 0) (on : Bool) (t : ℕ) (e : Task)
    (pl : Place) → on ≡ false → PlaceOk K s sh hd prim rep has Mt on t e pl → jobs_in (holding_of (unasked pl)) ≡ 0
unfolding unasked holding_of
no_job K s sh hd prim rep has Mt on t e (Read n job) f q = off_on (sym f ∙ q.0)
no_job K s sh hd prim rep has Mt on t e (Put n job c) f q = off_on (sym f ∙ q.0)
no_job K s sh hd prim rep has Mt on t e (Release n job) f q = off_on (sym f ∙ q.0)
no_job K s sh hd prim rep has Mt on t e (Looking p th) f q = off_on (sym f ∙ q.0)
no_job K s sh hd prim rep has Mt on t e (Placing p th) f q = off_on (sym f ∙ q.0)
no_job K s sh hd prim rep has Mt on t e _ f q = refl

-- a flip that was made: what it visited, and where the replicas are
pub record FlipMade (K : ℕ → Type 0) (pa : ℕ → ℕ) (o : State) (t : Table) (ws : List ℕ) : Type 0 where
  pub marks : Marks
  pub words : List ℕ
  pub visited : List ℕ
  pub objects : State
  pub ra : ℕ → ℕ
  pub flip : flip_of t ws ≡ ends (out (flipped t marks) Moved) words
  pub mid : Mid o visited objects
  pub only : (x : ℕ) → In x visited → Comes o x
  pub all : (x : ℕ) → Comes o x → In x visited
  pub agree : Agree K pa ra (flips (readied objects) visited (λ i. unasked_entry (o.tasks i))) (flipped t marks) words
  -- every word below A is of a replica, every object with slots to copy is on the stack; no job, no copy
  pub tally : marks.a ≡ bottom_of (not t.upper) t.limits.h + twinned o.shape objects.hd
  pub greys : length objects.stack ≡ grey_ones o.shape objects.hd
  pub idle_j : marks.j ≡ 0
  pub no_copies : marks.copies ≡ 0

module _ {K : ℕ → Type 0} {pa ra : ℕ → ℕ} {o : State} {t : Table} {ws : List ℕ} (v : Inv K t.limits.p t.limits.s o) (k : Agree K pa ra o t ws)
    (off : o.on ≡ false) (home : Home K pa o.shape (bottom t) t.marks.a) where
  abbrev base : ℕ
  base = bottom_of (not t.upper) t.limits.h

  abbrev end' : ℕ
  end' = end_of (not t.upper) t.limits.h

  off_all : Off o.hd o.stack
  off_all = rw off at v.mode

  many : length (tasks_of t) ≡ t.limits.p
  many = length-take t.limits.p t.tasks ∙ omega (arith, k.eight, k.sized.limited.p_high)

  same : (r : ℕ) → r < length (tasks_of t) → get_or (tasks_of t) r no_task ≡ at_task pa ra (o.tasks r)
  same r l =
      let m : r < t.limits.p = omega (arith, l, many) in
      get_or-take t.limits.p t.tasks r no_task m ∙ k.tasks r (omega (arith, m, k.sized.limited.p_high))

  some_flip : Some K pa o base end' (length ws) (All K pa o base end' (length ws) t.limits.p) (passes_of t ws)
  unfolding passes_of
  some_flip =
      three_passes K pa o base end' (length ws) t.limits.p t.limits.s v off k.sized.limited.s_high (space_low (not t.upper) t.limits.h) k.lay.nilp ra
      (tasks_of t) same many t.roots k.roots (0 ∷ []) (empty_space t.upper t.limits.h) ws
      (λ y. elim [ inl e ↦ e | inr i ↦ absurd i ], λ y e. inl e) (flip_start v k off home)

  -- ---- table and words after the last visit
  module _ (m : Marks) (ws' : List ℕ) (vs : List ℕ) (d : Visited K pa o base end' (length ws) vs m ws') where
    abbrev o₁ : State
    o₁ = d.objects

    hd' : ℕ → Hd
    hd' x = pick (ltb o.shape.n x) (count 0) (o₁.hd x)

    has' : ℕ → ℕ → Bool
    has' x = pick (ltb o.shape.n x) (λ j. false) (o₁.has x)

    abbrev ts' : ℕ → Task
    ts' i = unasked_entry (o.tasks i)

    made : Midway K pa d.ra o.shape hd' o.prim o.rep has' o₁.stack base end' m ws'
    unfolding hd' has'
    made = midway_made (λ x l. rw (le-ltb o.shape.n x l)) (λ x l. rw (le-ltb o.shape.n x l)) d.words

    -- the replica of nil, the only placed object before, is where it was
    entry_same : (i : ℕ) → at_task pa ra (o.tasks i) ≡ at_task pa d.ra (o.tasks i)
    entry_same = task_same pa ra d.ra v (λ y q. go y (ℕ_discrete y 0) q)
      where
        go : (y : ℕ) → Dec (y ≡ 0) → IsPlaced (o.hd y) → ra y ≡ d.ra y
        go y (yes e) q = rw e (k.lay.nilr ∙ sym d.words.lay.nilr)
        go y (no n) q = absurd (rw (off_all.all y (omega (arith, n))) at q)

    entries : (i : ℕ) → i < 8 → get_or (first_of t.limits.p unasked_entry t.tasks) i no_task ≡ at_task pa d.ra (ts' i)
    entries i l = go (dec_lt i t.limits.p)
      where
        go : Dec (i < t.limits.p) → get_or (first_of t.limits.p unasked_entry t.tasks) i no_task ≡ at_task pa d.ra (ts' i)
        go (yes q) =
            get_d_first t.limits.p unasked_entry t.tasks i no_task q (omega (arith, k.eight)) ∙ ap unasked_entry (k.tasks i l ∙ entry_same i)
            ∙ at_unasked_entry pa d.ra (o.tasks i)
        go (no n) =
            get_d_behind t.limits.p unasked_entry t.tasks i no_task (omega (arith, n)) ∙ k.tasks i l ∙ entry_same i
            ∙ ap (at_task pa d.ra) (idle_again (o.tasks i) (v.owners.beyond i (omega (arith, n))))

    quiet : m.j ≡ sum_to t.limits.p (λ i. jobs_in (holding_of (ts' i).place))
    unfolding unasked_entry
    quiet =
        d.jobs
        ∙ sym (sum_none t.limits.p (λ i. jobs_in (holding_of (unasked (o.tasks i).place)))
        (λ i l. no_job K t.limits.s o.shape o.hd o.prim o.rep o.has (Meeting o.tasks) o.on i (o.tasks i) (o.tasks i).place off (v.places i)))

    agree_now : Agree K pa d.ra (state o.shape o.prim o.rep has' hd' o₁.stack ts' o.roots true (found_in o vs)) (flipped t m) ws'
    agree_now = record {
      sized = rw d.long k.sized;
      living = k.living;
      on = refl;
      marked = record {
        based = made.based;
        free = made.free;
        stack = made.stacked;
        jobs = quiet;
        copies = omega (arith, d.copies);
        owed = λ e. made.owed;
      };
      lay = made.lay;
      mem = made.mem;
      roots = k.roots;
      eight = length_first t.limits.p unasked_entry t.tasks ∙ k.eight;
      tasks = entries;
    }

    same_state : flips (readied o₁) vs ts' ≡ state o.shape o.prim o.rep has' hd' o₁.stack ts' o.roots true (found_in o vs)
    unfolding hd' has'
    same_state i =
        state (d.mid.shape i) (d.mid.prim i) (d.mid.rep i) (λ x. pick (ltb (d.mid.shape i).n x) (λ j. false) (o₁.has x))
        (λ x. pick (ltb (d.mid.shape i).n x) (count 0) (o₁.hd x)) o₁.stack ts' (d.mid.roots i) true
        (record { n = (d.mid.shape i).n; fill = (d.mid.shape i).fill; slots = d.mid.prim i; roots = vs })

    agree_flips : Agree K pa d.ra (flips (readied o₁) vs ts') (flipped t m) ws'
    agree_flips = rw same_state agree_now

  -- the passes stop at an object that finds no room, or the flip is made
  pub flip_either : (((passes_of t ws).pass ≡ Err (refusal 10)) × Cramped K pa o (bottom_of (not t.upper) t.limits.h) (end_of (not t.upper) t.limits.h) (length ws))
      ⊎ FlipMade K pa o t ws
  unfolding flip_of
  flip_either = go (passes_of t ws).pass refl some_flip
    where
      go : (x : Result Marks Refusal) → (passes_of t ws).pass ≡ x → SomePass K pa o base end' (length ws) (All K pa o base end' (length ws) t.limits.p) x (passes_of t ws).words
          → (((passes_of t ws).pass ≡ Err (refusal 10)) × Cramped K pa o base end' (length ws)) ⊎ FlipMade K pa o t ws
      go (Err x) e a = inl (e ∙ ap Err a.0, a.1)
      go (Ok m) e (vs, b, d) = inr record {
        marks = m;
        words = (passes_of t ws).words;
        visited = vs;
        objects = d.objects;
        ra = d.ra;
        flip = rw e refl;
        mid = d.mid;
        only = d.comes;
        all = λ x c. b.1 x (comes_all K pa o base end' (length ws) t.limits.p t.limits.s v off k.sized.limited.s_high (space_low (not t.upper) t.limits.h) k.lay.nilp x c);
        agree = agree_flips m (passes_of t ws).words vs d;
        tally = d.tally;
        greys = d.greys;
        idle_j = d.jobs;
        no_copies = d.copies;
      }

  -- 10, or the flip is made
  pub flip_words : (flip_of t ws ≡ ends (refused t (refusal 10)) (passes_of t ws).words) ⊎ FlipMade K pa o t ws
  unfolding flip_of
  flip_words = go flip_either
    where
      go : (((passes_of t ws).pass ≡ Err (refusal 10)) × Cramped K pa o base end' (length ws)) ⊎ FlipMade K pa o t ws
          → (ends (flip_end t (passes_of t ws).pass) (passes_of t ws).words ≡ ends (refused t (refusal 10)) (passes_of t ws).words) ⊎ FlipMade K pa o t ws
      go (inl (e, a)) = inl (rw e refl)
      go (inr f) = inr f

-- with the objects that the flip keeps, or any fewer
pub flip_agree : {K : ℕ → Type 0} {pa : ℕ → ℕ} {o : State} {t : Table} {ws : List ℕ} (f : FlipMade K pa o t ws) (K' : ℕ → Type 0) → ((x : ℕ) → K' x → K x)
    → (flip_of t ws ≡ ends (out (flipped t f.marks) Moved) f.words)
    × Agree K' pa f.ra (flips (readied f.objects) f.visited (λ i. unasked_entry (o.tasks i))) (flipped t f.marks) f.words
flip_agree f K' h = (f.flip, agree_fewer h f.agree)

-- words, copies and payments in the heap that the flip leaves, with the table's numbers
pub made_counts : {K : ℕ → Type 0} {pa : ℕ → ℕ} {o : State} {t : Table} {ws : List ℕ} → Inv K t.limits.p t.limits.s o → o.on ≡ false
    → ((i : ℕ) → Restful (o.tasks i).place) → (f : FlipMade K pa o t ws)
    → Counts t.limits.k t.limits.p t.limits.s f.objects.shape (found_in (readied f.objects) f.visited) (readied f.objects).hd f.objects.stack
    (λ i. unasked_entry (o.tasks i)) (bottom (flipped t f.marks)) f.marks.a f.marks.j f.marks.copies [] (λ i. 0)
made_counts {t = t} v off rest f = counts_flipped v off rest f.mid t.limits.k f.tally f.greys f.idle_j f.no_copies
