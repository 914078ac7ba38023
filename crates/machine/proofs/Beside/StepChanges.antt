-- What a step makes of the task entries, and of its own task's Store.
use Rattle.std.specs.Prelude.{ℕ, ◌+◌, ◌*◌, ◌≡◌, List, Bool, true, set, take, eqb, Option, Some, None, Result, Ok, Err}
use Rattle.std.proofs.Math.Path.{refl}
use Rattle.std.proofs.Common.{sym, arith}
use Rattle.std.proofs.Math.Bool.{false}
use Rattle.table.specs.declared.Primary.{Primary}
use Rattle.table.specs.declared.Marks.{Marks}
use Rattle.table.specs.declared.Making.{Making}
use Rattle.table.specs.declared.Place.{Place}
use Rattle.table.specs.declared.Place.TheVariants.{Idle, New, Asked, Take}
use Rattle.table.specs.declared.Task.{Task}
use Rattle.table.specs.declared.Table.{Table}
use Rattle.table.specs.declared.Sought.{Sought}
use Rattle.table.specs.declared.Sought.TheVariants.{Worker, Blocker}
use Rattle.table.specs.declared.Deed.{Deed}
use Rattle.table.specs.declared.Deed.TheVariants.{Goes, GoesWith, Ends, EndsWith, Waits, Fails}
use Rattle.table.specs.declared.Refusal.{Refusal}
use Rattle.table.specs.declared.Answer.{Answer}
use Rattle.table.specs.declared.Answer.TheVariants.{Done, Moved, No}
use Rattle.machine.specs.Basics.{pick, all_of, first_of}
use Rattle.machine.specs.Numbers.{refusal, effect_of}
use Rattle.machine.specs.Words.{end_of, room_for, wanted}
use Rattle.machine.specs.Entries.{task_at, with_task, with_place, moved_table, refused, ends}
use Rattle.machine.specs.Entries.{Ends as Ended}
use Rattle.machine.specs.Tasks.{seek_of, grey_of, all_idle}
use Rattle.machine.specs.Begin.{new_ok}
use Rattle.machine.specs.Switch.{new_entry, has_replica, entry_has_replicas, switch_of, switch_due, ended_entry, ended_table, finish_of}
use Rattle.machine.specs.Flip.{unasked_entry, flip_end, passes_of, flip_of}
use Rattle.machine.specs.New.{ask_or, new_off_of, room_for_two, new_on_of}
use Rattle.machine.specs.Step.{wait_for, wait_of, settle_of, empty_take_of}
use Rattle.machine.specs.Kinds.{pays, done_kinds, moved_kinds, step_kinds}
use Rattle.machine.specs.Beside.Waits.{waits, writes}
use Rattle.machine.proofs.Beside.Waits.{refused_writes}
use Rattle.machine.proofs.Beside.Changes.{pick_all, marked_tasks, marked_on}

-- a step of a task that stood at `before`, and now stands at `after`, writes what no longer waits
abbrev pub Settled : Answer → Place → Place → Type 0
Settled x before after = writes (step_kinds x before after) + waits after ≡ waits before

-- A step of task i, which stood at `before`, ends as f: the entries stay and nothing is written; only its own entry is a
-- new one; a flip is made; or, its own entry being a new one, a switch-over.
pub data Stepped (t : Table) (i : ℕ) (before : Place) (f : Ended) : Type 0 where
  stands : f.out.table.tasks ≡ t.tasks → f.out.table.on ≡ t.on → ((after : Place) → writes (step_kinds f.out.answer before after) ≡ 0) → Stepped t i before f
  goes : (e : Task) → f.out.table.tasks ≡ set t.tasks i e → f.out.table.on ≡ t.on → Settled f.out.answer before e.place → Stepped t i before f
  flips : t.on ≡ false → f.out.table.on ≡ true → f.out.table.tasks ≡ first_of t.limits.p unasked_entry t.tasks
      → ((after : Place) → writes (step_kinds f.out.answer before after) ≡ 0) → Stepped t i before f
  switches : (e : Task) → t.on ≡ true → f.out.table.on ≡ false
      → f.out.table.tasks ≡ first_of t.limits.p (new_entry f.words t.limits.s) (set t.tasks i e)
      → Settled f.out.answer before e.place → Stepped t i before f

-- an instruction that ends leaves its task idle
pub ended_place : (regs : List Primary) (d : Option Making) → (ended_entry regs d).place ≡ Idle
ended_place regs None = refl
ended_place regs (Some d) = pick_all (λ (e : Task). e.place ≡ Idle) (eqb d.filled d.len) _ _ (λ h. refl) (λ h. refl)

-- a switch-over is due only while collecting
due_on : (t : Table) → switch_due t ≡ true → t.on ≡ true
unfolding switch_due
due_on t = by t.on
  where
    by : (b : Bool) → pick b (pick (grey_of t.marks (end_of t.upper t.limits.h) t.tasks t.limits.p) false (all_idle t.tasks t.limits.p)) false ≡ true → b ≡ true
    by true h = refl
    by false h = h

-- what an action does lets its task's Store wait, or writes it
abbrev pub Fair : Place → Deed → Type 0
Fair before (Goes m place) = Settled Moved before place
Fair before (GoesWith m pending place) = Settled Moved before place
Fair before (Ends m) = Settled Done before Idle
Fair before (EndsWith m pending) = Settled Done before Idle
Fair before (Waits w) = Unit {0}
Fair before (Fails x) = Unit {0}

-- a New's place: no Store waits there, and its steps write nothing
pub record Creating (before : Place) : Type 0 where
  pub waiting : waits before ≡ 0
  pub done : writes (done_kinds before) ≡ 0
  pub moved : (after : Place) → writes (moved_kinds before after) ≡ 0

pub creating_new : (r len m : ℕ) → Creating (New (wanted r len m))
creating_new r len m = record {
  waiting = refl;
  done = refl;
  moved = λ after. pick_all (λ ks. writes ks ≡ 0) (pays after) _ _ (λ e. refl) (λ e. refl);
}

pub creating_asked : (r len m : ℕ) → Creating (Asked (wanted r len m))
creating_asked r len m = record { waiting = refl; done = refl; moved = λ after. refl }

module _ (t : Table) (i : ℕ) (before : Place) where
  pub refuses : (x : Refusal) (ws : List ℕ) → Stepped t i before (ends (refused t x) ws)
  refuses x ws = stands (marked_tasks t (effect_of x)) (marked_on t (effect_of x)) (λ after. refused_writes (effect_of x))

  pub waited : (w : Sought) (ws : List ℕ) → Stepped t i before (ends (wait_of t w) ws)
  unfolding wait_of
  waited w ws = found (seek_of t.tasks t.limits.p w)
    where
      found : (q : Option ℕ) → Stepped t i before (ends (wait_for t q) ws)
      found (Some q) = stands refl refl (λ after. refl)
      found None = refuses (refusal 11) ws

  -- the instruction ends, and perhaps the collection with it
  pub finished : (ws : List ℕ) (m : Marks) (d : Option Making) (x : Answer) → Settled x before Idle → Stepped t i before (finish_of t ws i m d x)
  unfolding finish_of switch_of
  finished ws m d x h =
      pick_all (λ o. Stepped t i before (ends o ws)) (switch_due (ended_table t i m d)) _ _
      (λ due.
      pick_all (λ o. Stepped t i before (ends o ws)) (all_of (has_replica ws t.limits.s) (take 8 t.roots)) _ _
      (λ a.
      pick_all (λ o. Stepped t i before (ends o ws)) (all_of (entry_has_replicas ws t.limits.s) (take t.limits.p (ended_table t i m d).tasks)) _ _
      (λ b. switches (ended_entry (task_at t i).regs d) (due_on (ended_table t i m d) due) refl refl idle)
      (λ b. refuses (refusal 11) ws))
      (λ a. refuses (refusal 11) ws))
      (λ due. goes (ended_entry (task_at t i).regs d) refl refl idle)
    where
      idle : Settled x before (ended_entry (task_at t i).regs d).place
      idle = rw (ended_place (task_at t i).regs d) h

  pub settled : (d : Deed) (ws : List ℕ) → Fair before d → Stepped t i before (settle_of t i d ws)
  unfolding settle_of moved_table
  settled (Goes m place) ws h = goes _ refl refl h
  settled (GoesWith m pending place) ws h = goes _ refl refl h
  settled (Ends m) ws h = finished ws m (task_at t i).pending Done h
  settled (EndsWith m pending) ws h = finished ws m pending Done h
  settled (Waits w) ws h = waited w ws
  settled (Fails x) ws h = refuses x ws

  pub empty_take : (ws : List ℕ) → Settled Done before Idle → Stepped t i before (empty_take_of t ws i)
  unfolding empty_take_of
  empty_take ws h =
      pick_all (Stepped t i before) (grey_of t.marks (end_of t.upper t.limits.h) t.tasks t.limits.p) _ _
      (λ e. waited (Worker i) ws)
      (λ e. finished ws t.marks (task_at t i).pending Done h)

  -- ---- a New that is not yet claimed
  flip_made : (ws : List ℕ) → Creating before → t.on ≡ false → Stepped t i before (flip_of t ws)
  unfolding flip_of
  flip_made ws k off = passed (passes_of t ws).pass
    where
      passed : (p : Result Marks Refusal) → Stepped t i before (ends (flip_end t p) (passes_of t ws).words)
      passed (Ok m) = flips off refl refl k.moved
      passed (Err x) = refuses x (passes_of t ws).words

  pub new_off : (ws : List ℕ) (r len m : ℕ) → Creating before → t.on ≡ false → Stepped t i before (new_off_of t ws i r len m)
  unfolding new_off_of with_place with_task
  new_off ws r len m k off =
      pick_all (Stepped t i before) (new_ok t.limits.s r len m) _ _
      (λ e.
      pick_all (Stepped t i before) (room_for false t.marks (end_of t.upper t.limits.h) (len + 2)) _ _
      (λ f. finished _ _ _ Done (omega (arith, k.done, k.waiting)))
      (λ f. asked (seek_of t.tasks t.limits.p (Blocker i))))
      (λ e. refuses (refusal 11) ws)
    where
      asked : (q : Option ℕ) → Stepped t i before (ask_or t ws i (Asked (wanted r len m)) q)
      asked (Some q) = goes _ refl refl (sym k.waiting)
      asked None = flip_made ws k off

  pub new_on : (ws : List ℕ) (r len m : ℕ) → Creating before → Stepped t i before (new_on_of t ws i r len m)
  unfolding new_on_of moved_table
  new_on ws r len m k =
      pick_all (Stepped t i before) (new_ok t.limits.s r len m) _ _
      (λ e.
      pick_all (Stepped t i before) (room_for_two t.marks (end_of t.upper t.limits.h) len) _ _
      (λ f. goes _ refl refl (omega (arith, k.moved (Take (2 * t.limits.k)), k.waiting)))
      (λ f. finished ws t.marks (task_at t i).pending (No (refusal 9)) (sym k.waiting)))
      (λ e. refuses (refusal 11) ws)
