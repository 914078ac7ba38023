-- The step of a task that has claimed an object and places it.
use Rattle.std.specs.Prelude.{ℕ, ◌+◌, ◌<◌, ◌≡◌, refl, ◌≢◌, ◌⊎◌, List, Bool, get_or, set}
use Rattle.std.proofs.Math.Path.{ap}
use Rattle.std.proofs.Common.{sym, subst, ◌∙◌, inl, inr, arith, length-set, get_or-set_same, get_or-set_other}
use Rattle.std.proofs.Math.Bool.{true, false}
use Rattle.std.proofs.Math.Decide.{ℕ_discrete}
use borrow.Author.Tests.{leb-false}
use Rattle.table.specs.declared.Primary.{Primary}
use Rattle.table.specs.declared.Operand.{Operand}
use Rattle.table.specs.declared.Replica.{Replica}
use Rattle.table.specs.declared.Operand.TheVariants.{Plain, Pointer}
use Rattle.table.specs.declared.Then.{Then}
use Rattle.table.specs.declared.Then.TheVariants.{ToWrite}
use Rattle.table.specs.declared.Place.{Place}
use Rattle.table.specs.declared.Place.TheVariants.{FillCopy, StoreCopy, Put, Placing}
use Rattle.table.specs.declared.Task.{Task}
use Rattle.table.specs.declared.Marks.{Marks}
use Rattle.table.specs.declared.Table.{Table}
use Rattle.table.specs.declared.Deed.TheVariants.{Goes, Fails}
use Rattle.machine.specs.Numbers.{refusal}
use Rattle.machine.specs.Words.{slot_at, primary, replica, room_of, room_for}
use Rattle.machine.specs.Entries.{entry, no_task, task_at, moved_table, entered}
use Rattle.machine.specs.Tasks.{holding_of}
use Rattle.machine.specs.Deeds.{Acted, acted}
use Rattle.machine.specs.Look.{go_on, place_of, placed_then, place_step_of}
use Rattle.machine.proofs.Objects.Base.{upd, upd_same, upd_other, sum_to, sum_to_at}
use Rattle.machine.proofs.Objects.State.{Hd, count, Shape, State, IsPlaced, IsUnplaced, jobs_in, Late, Meeting}
use Rattle.machine.proofs.Objects.Inv.{SoundCopied, Colours, PlaceOk, Inv}
use Rattle.machine.proofs.Objects.Ops.{goes, push, moves, twins}
use Rattle.machine.proofs.Agree.Encode.{at_then, at_copied, at_place, at_task}
use Rattle.machine.specs.Agree.Agree.{end}
use Rattle.machine.proofs.Agree.Agree.{Held, bottom, Agree}
use Rattle.machine.proofs.Agree.Midway.{Midway, twin_need, twin_marks, twin_words, no_room, twin_length}
use Rattle.machine.proofs.Agree.MidwayRead.{object_in, midway_of}
use Rattle.machine.proofs.Agree.Twin.{twin}

-- ---- an entry names replicas of placed objects only
copied_same : (K : ℕ → Type 0) (sh : Shape) (hd : ℕ → Hd) (ra ra' : ℕ → ℕ) (c : Operand Replica) → SoundCopied K sh hd c → ((y : ℕ) → IsPlaced (hd y) → ra y ≡ ra' y)
    → at_copied ra c ≡ at_copied ra' c
copied_same K sh hd ra ra' (Plain w) q h = refl
copied_same K sh hd ra ra' (Pointer r) q h = ap (λ (a : ℕ). Pointer (replica a)) (h r.0 q.1)

pub place_same : (K : ℕ → Type 0) (s : ℕ) (sh : Shape) (hd : ℕ → Hd) (prim rep : ℕ → ℕ → ℕ) (has : ℕ → ℕ → Bool) (Mt : ℕ → ℕ → Type 0) (on : Bool) (t : ℕ) (e : Task)
    (pl : Place) (pa ra ra' : ℕ → ℕ) → PlaceOk K s sh hd prim rep has Mt on t e pl → ((y : ℕ) → IsPlaced (hd y) → ra y ≡ ra' y) → at_place pa ra pl ≡ at_place pa ra' pl
place_same K s sh hd prim rep has Mt on t e (FillCopy c) pa ra ra' q h = ap FillCopy (copied_same K sh hd ra ra' c q.2 h)
place_same K s sh hd prim rep has Mt on t e (StoreCopy c) pa ra ra' q h = ap StoreCopy (copied_same K sh hd ra ra' c q.2 h)
place_same K s sh hd prim rep has Mt on t e (Put n job c) pa ra ra' q h = ap (Put n (slot_at (primary (pa job.object.0)) job.index)) (copied_same K sh hd ra ra' c q.5 h)
place_same K s sh hd prim rep has Mt on t e _ pa ra ra' q h = refl

pub task_same : {K : ℕ → Type 0} {p s : ℕ} {o : State} (pa ra ra' : ℕ → ℕ) → Inv K p s o → ((y : ℕ) → IsPlaced (o.hd y) → ra y ≡ ra' y) → (i : ℕ)
    → at_task pa ra (o.tasks i) ≡ at_task pa ra' (o.tasks i)
task_same {K} {p} {s} {o} pa ra ra' v h i =
    rw (place_same K s o.shape o.hd o.prim o.rep o.has (Meeting o.tasks) o.on i (o.tasks i) (o.tasks i).place pa ra ra' (v.places i) h)

-- ---- what follows the place
-- the task goes on to the place where x has its replica
abbrev pub placed_entry : Task → Then → ℕ → Task
placed_entry e th x = goes e (go_on th (replica x))

-- what follows a look
pub at_on : (pa ra : ℕ → ℕ) (th : Then) (x : ℕ) → go_on (at_then pa th) (replica (ra x)) ≡ at_place pa ra (go_on th (replica x))
at_on pa ra (ToWrite v) x = refl
at_on pa ra _ x = refl

-- the entry as the machine makes it
pub placed_entry_lem : (pa ra ra' : ℕ → ℕ) (e f : Task) (th : Then) (x : ℕ) → f ≡ at_task pa ra e
    → entry f.regs f.pending f.storing (go_on (at_then pa th) (replica (ra' x))) ≡ at_task pa ra' (placed_entry e th x)
placed_entry_lem pa ra ra' e f th x q = rw (q, at_on pa ra' th x)

-- a job in hand stays, and there is none more
same_jobs : (q : Primary) (th : Then) (x : ℕ) → jobs_in (holding_of (Placing q th)) ≡ jobs_in (holding_of (go_on th (replica x)))
unfolding holding_of
same_jobs q (ToWrite v) x = refl
same_jobs q _ x = refl

module _ {K : ℕ → Type 0} {pa ra : ℕ → ℕ} {o : State} {t : Table} {ws : List ℕ} (v : Inv K t.limits.p t.limits.s o) (k : Agree K pa ra o t ws) (i : ℕ)
    (q : Primary) (th : Then) (ip : i < t.limits.p) (e : (o.tasks i).place ≡ Placing q th) where
  abbrev x : ℕ
  x = q.0

  abbrev len : ℕ
  len = o.shape.len q.0

  abbrev ra' : ℕ → ℕ
  ra' = upd ra x (t.marks.a + 2)

  abbrev e' : Task
  e' = placed_entry (o.tasks i) th x

  ok : PlaceOk K t.limits.s o.shape o.hd o.prim o.rep o.has (Meeting o.tasks) o.on i (o.tasks i) (Placing q th)
  ok =
      subst (λ (z : Place). PlaceOk K t.limits.s o.shape o.hd o.prim o.rep o.has (Meeting o.tasks) o.on i (o.tasks i) z) e (v.places i)

  on : o.on ≡ true
  on = ok.0

  held : Held K o.shape x
  held = (ok.1, ok.2.1, ok.2.0)

  un : IsUnplaced (o.hd x)
  un = rw ok.3 tt

  mid : Midway K pa ra o.shape o.hd o.prim o.rep o.has o.stack (bottom t) (end t) t.marks ws
  mid = midway_of k on

  colours : Colours K o.shape o.snap o.hd o.prim o.rep o.has o.stack (Late o.tasks)
  colours = rw on at v.mode

  not_x : (y : ℕ) → IsPlaced (o.hd y) → y ≢ x
  not_x y p z = rw (z, ok.3) at p

  -- the other tasks' entries are as they were
  entries : (u : ℕ) → u < 8 → get_or (set t.tasks i (at_task pa ra' e')) u no_task ≡ at_task pa ra' (upd o.tasks i e' u)
  entries u l = go (ℕ_discrete u i)
    where
      go : Dec (u ≡ i) → get_or (set t.tasks i (at_task pa ra' e')) u no_task ≡ at_task pa ra' (upd o.tasks i e' u)
      go (yes z) =
          rw z (get_or-set_same t.tasks i (at_task pa ra' e') no_task (omega (arith, k.eight, k.sized.limited.p_high, ip))
          ∙ ap (at_task pa ra') (sym (upd_same o.tasks i e')))
      go (no n) =
          get_or-set_other t.tasks i u (at_task pa ra' e') no_task n ∙ k.tasks u l
          ∙ task_same pa ra ra' v (λ y p. sym (upd_other ra x (t.marks.a + 2) y (not_x y p))) u ∙ ap (at_task pa ra') (sym (upd_other o.tasks i e' u n))

  jobs_same : t.marks.j ≡ sum_to t.limits.p (λ u. jobs_in (holding_of (upd o.tasks i e' u).place))
  jobs_same =
      let f : Task → ℕ = λ c. jobs_in (holding_of c.place) in
      let a : f (upd o.tasks i e' i) ≡ f e' = ap f (upd_same o.tasks i e') in
      let b : f (o.tasks i) ≡ f e' = ap (λ (z : Place). jobs_in (holding_of z)) e ∙ same_jobs q th x in
      omega (arith, k.marked.jobs, a, b, sum_to_at t.limits.p i (λ u. f (upd o.tasks i e' u)) (λ u. f (o.tasks u)) ip (λ u d. ap f (upd_other o.tasks i e' u d)))

  placed_agree : Midway K pa ra' o.shape (upd o.hd x (count len)) o.prim o.rep (upd o.has x (λ j. false)) (push len x o.stack) (bottom t) (end t)
      (twin_marks t.marks len len) (twin_words t.marks ws (pa x) len)
      → Agree K pa ra' (moves (twins o x len) i e') (entered t (twin_marks t.marks len len) i (at_task pa ra' e')) (twin_words t.marks ws (pa x) len)
  placed_agree w = record {
    sized = rw (twin_length t.marks ws (pa x) len) k.sized;
    living = k.living;
    on = k.on;
    marked = record {
      based = w.based;
      free = w.free;
      stack = w.stacked;
      jobs = jobs_same;
      copies = k.marked.copies;
      owed = λ z. w.owed;
    };
    lay = w.lay;
    mem = w.mem;
    roots = k.roots;
    eight = length-set t.tasks i (at_task pa ra' e') ∙ k.eight;
    tasks = entries;
  }

  -- 10 where there is no room, and the words as they are; else the object has its replica, and the task goes on
  abbrev PlacedOr : Acted → Type 0
  PlacedOr z =
      ((z ≡ acted (Fails (refusal 10)) ws) × (room_of true t.marks (end t) < twin_need len len))
      ⊎ ((z ≡ acted (Goes (twin_marks t.marks len len) (go_on (at_then pa th) (replica (t.marks.a + 2)))) (twin_words t.marks ws (pa x) len))
      × Agree K pa ra' (moves (twins o x len) i e') (entered t (twin_marks t.marks len len) i (at_task pa ra' e')) (twin_words t.marks ws (pa x) len))

  by_room : (b : Bool) → room_for true t.marks (end t) (twin_need len len) ≡ b
      → PlacedOr (placed_then (at_then pa th) (place_of t.marks (end t) ws (primary (pa x)) len len).placed (place_of t.marks (end t) ws (primary (pa x)) len len).words)
  unfolding room_for
  by_room true r =
      let w = twin x len mid held un (omega arith) v.shapes.written (λ y j a b c. (colours.target y j a b c).0) r in
      rw w.0 (inr (refl, placed_agree w.1))
  by_room false r = rw (no_room t.marks (end t) ws (pa x) len len r) (inl (refl, leb-false (twin_need len len) (room_of true t.marks (end t)) r))

  pub place_step :
      ((place_step_of t.marks (end t) ws t.limits.s (primary (pa q.0)) (at_then pa th) ≡ acted (Fails (refusal 10)) ws)
      × (room_of true t.marks (end t) < twin_need (o.shape.len q.0) (o.shape.len q.0)))
      ⊎ ((place_step_of t.marks (end t) ws t.limits.s (primary (pa q.0)) (at_then pa th)
      ≡ acted (Goes (twin_marks t.marks (o.shape.len q.0) (o.shape.len q.0)) (go_on (at_then pa th) (replica (t.marks.a + 2))))
      (twin_words t.marks ws (pa q.0) (o.shape.len q.0)))
      × Agree K pa (upd ra q.0 (t.marks.a + 2)) (moves (twins o q.0 (o.shape.len q.0)) i (goes (o.tasks i) (go_on th (replica q.0))))
      (entered t (twin_marks t.marks (o.shape.len q.0) (o.shape.len q.0)) i
      (at_task pa (upd ra q.0 (t.marks.a + 2)) (goes (o.tasks i) (go_on th (replica q.0)))))
      (twin_words t.marks ws (pa q.0) (o.shape.len q.0)))
  unfolding place_step_of
  place_step =
      rw (object_in mid t.limits.s k.sized.limited.s_high x held (v.shapes.high x held.1) (v.shapes.low x held.1))
      (by_room (room_for true t.marks (end t) (twin_need len len)) refl)

  -- the table that the step makes of it
  pub placed_moved : (m : Marks)
      → moved_table t i m (task_at t i).pending (go_on (at_then pa th) (replica (t.marks.a + 2)))
      ≡ entered t m i (at_task pa (upd ra q.0 (t.marks.a + 2)) (goes (o.tasks i) (go_on th (replica q.0))))
  unfolding moved_table
  placed_moved m =
      let z : entry (task_at t i).regs (task_at t i).pending (task_at t i).storing (go_on (at_then pa th) (replica (t.marks.a + 2))) ≡ at_task pa ra' e' =
      rw upd_same at (placed_entry_lem pa ra ra' (o.tasks i) (task_at t i) th x (k.tasks i (omega (arith, k.sized.limited.p_high, ip)))) in
      ap (entered t m i) z
