-- What the step of a task comes to, by its entry and the words alone.
use Rattle.std.specs.Prelude.{ℕ, List}
use Rattle.table.specs.declared.Task.{Task}
use Rattle.table.specs.declared.Table.{Table}
use Rattle.machine.specs.Basics.{pick}
use Rattle.machine.specs.Entries.{pending_ok}
use Rattle.machine.specs.Tasks.{idle_of, holding_of}
use Rattle.new.specs.Acts.{Came, failing}
use Rattle.act_off.specs.Off.{off_act}
use Rattle.act_on.specs.On.{on_act}

unfoldable pub task_act : Table → List ℕ → Task → Came
task_act t ws e =
    pick (idle_of (holding_of e.place)) (failing 6 ws)
    (pick (pending_ok e.pending) (pick t.on (on_act t ws e e.place) (off_act t ws e e.place)) (failing 11 ws))
