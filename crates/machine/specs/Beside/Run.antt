-- Runs in which no call answers 10, and the calls that answer it.
use Rattle.std.specs.Prelude.{ℕ, ◌≢◌, List, [], ◌∷◌}
use Rattle.table.specs.declared.Table.{Table}
use Rattle.table.specs.declared.Refusal.TheVariants.{Exhausted}
use Rattle.table.specs.declared.Answer.TheVariants.{No}
use Rattle.machine.specs.Entries.{task_at, Ends}
use Rattle.machine.specs.Call.{Call}
use Rattle.machine.specs.Calls.{then}
use Rattle.machine.specs.Beside.Room.{WantsRoom}

-- why a call may answer 10: a step of a task whose place wants more room than there is
abbrev pub Spends : Call → Table → List ℕ → Type 0
Spends (Call.New task r len m) t ws = ⊥
Spends (Call.Fill task w) t ws = ⊥
Spends (Call.FillPointer task r) t ws = ⊥
Spends (Call.Load task to from slot) t ws = ⊥
Spends (Call.Store task o slot w) t ws = ⊥
Spends (Call.StorePointer task o slot r) t ws = ⊥
Spends (Call.Move task to from) t ws = ⊥
Spends (Call.Clear task r) t ws = ⊥
Spends (Call.Same task a b) t ws = ⊥
Spends (Call.Put task root r) t ws = ⊥
Spends (Call.Get task r root) t ws = ⊥
Spends (Call.Step task) t ws = WantsRoom t ws task (task_at t task).place
Spends Call.Report t ws = ⊥

-- no call of the run has answered 10
abbrev pub Living : List Call → Ends → Type 0
Living [] e = Unit {0}
Living (c ∷ cs) e = ((then c e).out.answer ≢ No Exhausted) × Living cs (then c e)
