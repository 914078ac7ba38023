-- One step of a task: the dispatch on its place, and what becomes of the table.
use Rattle.std.specs.Prelude.{ℕ, List, true, false, ltb, Option, Some, None, Ok, Err}
use Rattle.table.specs.declared.Place.{Place}
use Rattle.table.specs.declared.Place.TheVariants.{Idle, New, Asked, FillWrite, FillCopy, StoreWrite, Meet, StoreCopy, Take, Read, Put, Release, Looking, Placing}
use Rattle.table.specs.declared.Task.{Task}
use Rattle.table.specs.declared.Table.{Table}
use Rattle.table.specs.declared.Sought.{Sought}
use Rattle.table.specs.declared.Sought.TheVariants.{Worker}
use Rattle.table.specs.declared.Deed.{Deed}
use Rattle.table.specs.declared.Deed.TheVariants.{Goes, GoesWith, Ends, EndsWith, Waits, Fails}
use Rattle.table.specs.declared.Answer.TheVariants.{Done, Moved, Wait}
use Rattle.table.specs.declared.Outcome.{Outcome}
use Rattle.machine.specs.Basics.{pick, Gate}
use Rattle.machine.specs.Words.{end_of}
use Rattle.machine.specs.Entries.{pending_ok, task_at, moved_table, out, no, refused, ends}
use Rattle.machine.specs.Entries.{Ends as Ended}
use Rattle.machine.specs.Gate.{call_gate}
use Rattle.machine.specs.Tasks.{seek_of, grey_of}
use Rattle.machine.specs.Complete.{idle_at}
use Rattle.machine.specs.Deeds.{Acted}
use Rattle.machine.specs.Look.{look_step_of, place_step_of}
use Rattle.machine.specs.Fill.{fill_write_of, fill_copy_of}
use Rattle.machine.specs.Store.{store_write_of, meet_of, store_copy_of}
use Rattle.machine.specs.Pay.{take_of, read_of, put_of, release_of}
use Rattle.machine.specs.Switch.{finish_of}
use Rattle.machine.specs.New.{new_off_of, new_on_of}

abbrev pub wait_for : Table → Option ℕ → Outcome
wait_for t (Some q) = out t (Wait q)
wait_for t None = no t 11

-- "A waiting step changes nothing"
unfoldable pub wait_of : Table → Sought → Outcome
wait_of t w = wait_for t (seek_of t.tasks t.limits.p w)

-- what an action of task i makes of the table
abbrev pub settle_deed : Table → List ℕ → ℕ → Deed → Ended
settle_deed t ws i (Goes m place) = ends (out (moved_table t i m (task_at t i).pending place) Moved) ws
settle_deed t ws i (GoesWith m pending place) = ends (out (moved_table t i m pending place) Moved) ws
settle_deed t ws i (Ends m) = finish_of t ws i m (task_at t i).pending Done
settle_deed t ws i (EndsWith m pending) = finish_of t ws i m pending Done
settle_deed t ws i (Waits w) = ends (wait_of t w) ws
settle_deed t ws i (Fails x) = ends (refused t x) ws

unfoldable pub settle_of : Table → ℕ → Deed → List ℕ → Ended
settle_of t i d ws = settle_deed t ws i d

abbrev pub settle : Table → ℕ → Acted → Ended
settle t i x = settle_of t i x.deed x.words

-- a take that finds the stack empty: the payment ends if nothing is grey, else it waits
unfoldable pub empty_take_of : Table → List ℕ → ℕ → Ended
empty_take_of t ws i =
    pick (grey_of t.marks (end_of t.upper t.limits.h) t.tasks t.limits.p)
    (ends (wait_of t (Worker i)) ws)
    (finish_of t ws i t.marks (task_at t i).pending Done)

unfoldable pub take_step_of : Table → List ℕ → ℕ → ℕ → Ended
take_step_of t ws i n =
    pick (ltb t.marks.top (end_of t.upper t.limits.h))
    (settle t i (take_of t.marks ws t.limits.s n))
    (empty_take_of t ws i)

-- Collector off: New, Fill and Store; no other place can be
unfoldable pub off_step_of : Table → List ℕ → ℕ → Task → Place → Ended
off_step_of t ws i e Idle = ends (no t 6) ws
off_step_of t ws i e (New want) = new_off_of t ws i want.register want.len want.m
off_step_of t ws i e (Asked want) = new_off_of t ws i want.register want.len want.m
off_step_of t ws i e (FillWrite v) = settle t i (fill_write_of false t.marks ws t.limits.s e.pending v)
off_step_of t ws i e (FillCopy c) = ends (no t 11) ws
off_step_of t ws i e (StoreWrite v) = settle t i (store_write_of false t.marks ws t.limits.s e.storing v)
off_step_of t ws i e (Meet v) = ends (no t 11) ws
off_step_of t ws i e (StoreCopy c) = ends (no t 11) ws
off_step_of t ws i e (Take n) = ends (no t 11) ws
off_step_of t ws i e (Read n job) = ends (no t 11) ws
off_step_of t ws i e (Put n job c) = ends (no t 11) ws
off_step_of t ws i e (Release n job) = ends (no t 11) ws
off_step_of t ws i e (Looking p then) = ends (no t 11) ws
off_step_of t ws i e (Placing p then) = ends (no t 11) ws

-- Collecting: each item is one step
unfoldable pub on_step_of : Table → List ℕ → ℕ → Task → Place → Ended
on_step_of t ws i e Idle = ends (no t 6) ws
on_step_of t ws i e (New want) = new_on_of t ws i want.register want.len want.m
on_step_of t ws i e (Asked want) = ends (no t 11) ws
on_step_of t ws i e (FillWrite v) = settle t i (fill_write_of true t.marks ws t.limits.s e.pending v)
on_step_of t ws i e (FillCopy c) = settle t i (fill_copy_of t.marks ws t.limits.s t.limits.k e.pending c)
on_step_of t ws i e (StoreWrite v) = settle t i (store_write_of true t.marks ws t.limits.s e.storing v)
on_step_of t ws i e (Meet v) = settle t i (meet_of t.marks ws t.limits.s t.limits.k e.storing v)
on_step_of t ws i e (StoreCopy c) = settle t i (store_copy_of t.marks ws t.limits.s t.limits.k e.storing c)
on_step_of t ws i e (Take n) = take_step_of t ws i n
on_step_of t ws i e (Read n job) = settle t i (read_of t.marks ws t.limits.s n job.object job.index)
on_step_of t ws i e (Put n job c) = settle t i (put_of t.marks ws t.limits.s n job.object job.index c)
on_step_of t ws i e (Release n job) = settle t i (release_of t.marks ws t.limits.s n job.object job.index)
on_step_of t ws i e (Looking p then) = settle t i (look_step_of t.marks ws t.limits.s p then)
on_step_of t ws i e (Placing p then) =
    settle t i (place_step_of t.marks (end_of t.upper t.limits.h) ws t.limits.s p then)

abbrev pub place_step_or : Table → List ℕ → ℕ → Task → Ended
place_step_or t ws i e = pick t.on (on_step_of t ws i e e.place) (off_step_of t ws i e e.place)

unfoldable pub task_step_of : Table → List ℕ → ℕ → Ended
task_step_of t ws i =
    pick (idle_at t i) (ends (no t 6) ws)
    (pick (pending_ok (task_at t i).pending) (place_step_or t ws i (task_at t i)) (ends (no t 11) ws))

abbrev pub step_through : Gate → Table → List ℕ → Ended → Ended
step_through (Ok u) t ws e = e
step_through (Err x) t ws e = ends (refused t x) ws

-- one step of a task
unfoldable pub step_of : Table → List ℕ → ℕ → Ended
step_of t ws task = step_through (call_gate t ws task) t ws (task_step_of t ws task)
