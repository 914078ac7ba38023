-- What the step of a task comes to while the collector is off.
use Rattle.std.specs.Prelude.{ℕ, List, false}
use Rattle.table.specs.declared.Place.{Place}
use Rattle.table.specs.declared.Place.TheVariants.{Idle, New, Asked, FillWrite, FillCopy, StoreWrite, Meet, StoreCopy, Take, Read, Put, Release, Looking, Placing}
use Rattle.table.specs.declared.Task.{Task}
use Rattle.table.specs.declared.Table.{Table}
use Rattle.machine.specs.Fill.{fill_write_of}
use Rattle.machine.specs.Store.{store_write_of}
use Rattle.new.specs.Acts.{Came, does, failing, new_off_act}

unfoldable pub off_act : Table → List ℕ → Task → Place → Came
off_act t ws e Idle = failing 6 ws
off_act t ws e (New want) = new_off_act t ws want
off_act t ws e (Asked want) = new_off_act t ws want
off_act t ws e (FillWrite v) = does (fill_write_of false t.marks ws t.limits.s e.pending v)
off_act t ws e (FillCopy c) = failing 11 ws
off_act t ws e (StoreWrite v) = does (store_write_of false t.marks ws t.limits.s e.storing v)
off_act t ws e (Meet v) = failing 11 ws
off_act t ws e (StoreCopy c) = failing 11 ws
off_act t ws e (Take n) = failing 11 ws
off_act t ws e (Read n job) = failing 11 ws
off_act t ws e (Put n job c) = failing 11 ws
off_act t ws e (Release n job) = failing 11 ws
off_act t ws e (Looking p then) = failing 11 ws
off_act t ws e (Placing p then) = failing 11 ws
