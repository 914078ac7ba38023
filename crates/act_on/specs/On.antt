-- What the step of a task comes to while collecting.
use Rattle.std.specs.Prelude.{ℕ, List, true, ltb}
use Rattle.table.specs.declared.Place.{Place}
use Rattle.table.specs.declared.Place.TheVariants.{Idle, New, Asked, FillWrite, FillCopy, StoreWrite, Meet, StoreCopy, Take, Read, Put, Release, Looking, Placing}
use Rattle.table.specs.declared.Task.{Task}
use Rattle.table.specs.declared.Table.{Table}
use Rattle.machine.specs.Basics.{pick}
use Rattle.machine.specs.Words.{end_of}
use Rattle.machine.specs.Look.{look_step_of, place_step_of}
use Rattle.machine.specs.Fill.{fill_write_of, fill_copy_of}
use Rattle.machine.specs.Store.{store_write_of, meet_of, store_copy_of}
use Rattle.machine.specs.Pay.{take_of, read_of, put_of, release_of}
use Rattle.new.specs.declared.Act.TheVariants.{Drained}
use Rattle.new.specs.Acts.{Came, came, does, failing, new_on_act}

unfoldable pub on_act : Table → List ℕ → Task → Place → Came
on_act t ws e Idle = failing 6 ws
on_act t ws e (New want) = new_on_act t ws want
on_act t ws e (Asked want) = failing 11 ws
on_act t ws e (FillWrite v) = does (fill_write_of true t.marks ws t.limits.s e.pending v)
on_act t ws e (FillCopy c) = does (fill_copy_of t.marks ws t.limits.s t.limits.k e.pending c)
on_act t ws e (StoreWrite v) = does (store_write_of true t.marks ws t.limits.s e.storing v)
on_act t ws e (Meet v) = does (meet_of t.marks ws t.limits.s t.limits.k e.storing v)
on_act t ws e (StoreCopy c) = does (store_copy_of t.marks ws t.limits.s t.limits.k e.storing c)
on_act t ws e (Take n) = pick (ltb t.marks.top (end_of t.upper t.limits.h)) (does (take_of t.marks ws t.limits.s n)) (came Drained ws)
on_act t ws e (Read n job) = does (read_of t.marks ws t.limits.s n job.object job.index)
on_act t ws e (Put n job c) = does (put_of t.marks ws t.limits.s n job.object job.index c)
on_act t ws e (Release n job) = does (release_of t.marks ws t.limits.s n job.object job.index)
on_act t ws e (Looking p then) = does (look_step_of t.marks ws t.limits.s p then)
on_act t ws e (Placing p then) = does (place_step_of t.marks (end_of t.upper t.limits.h) ws t.limits.s p then)
