-- How often a run begins a Store of a task, and how often it writes one.
use Rattle.std.specs.Prelude.{ℕ, ◌+◌, List, [], ◌∷◌, eqb}
use Rattle.table.specs.declared.Answer.{Answer}
use Rattle.machine.specs.Basics.{pick}
use Rattle.machine.specs.Entries.{task_at, Ends}
use Rattle.machine.specs.Call.{Call}
use Rattle.machine.specs.Calls.{then}
use Rattle.machine.specs.Beside.Waits.{writes}
use Rattle.machine.specs.StillStore.{Kind, task_of}
use Rattle.machine.specs.Kinds.{made}
use Rattle.machine.specs.Beside.Changes.{if_accepted}

-- ---- what is counted
-- 1 for a Store that was begun
abbrev pub begins : Call → Answer → ℕ
begins (Call.New task r len m) x = 0
begins (Call.Fill task w) x = 0
begins (Call.FillPointer task r) x = 0
begins (Call.Load task to from slot) x = 0
begins (Call.Store task o slot w) x = if_accepted x
begins (Call.StorePointer task o slot r) x = if_accepted x
begins (Call.Move task to from) x = 0
begins (Call.Clear task r) x = 0
begins (Call.Same task a b) x = 0
begins (Call.Put task root r) x = 0
begins (Call.Get task r root) x = 0
begins (Call.Step task) x = 0
begins Call.Report x = 0

-- the kinds of action that a call from e makes, as `follows` tells them
abbrev pub kinds_of : Call → Ends → List Kind
kinds_of c e =
    made c (then c e).out.answer (task_at e.out.table (task_of c)).place (task_at (then c e).out.table (task_of c)).place

-- by task i in one call
abbrev pub written_in : ℕ → Call → Ends → ℕ
written_in i c e = pick (eqb (task_of c) i) (writes (kinds_of c e)) 0

abbrev pub begun_in : ℕ → Call → Ends → ℕ
begun_in i c e = pick (eqb (task_of c) i) (begins c (then c e).out.answer) 0

-- by task i in these calls from e
unfoldable pub written_by : ℕ → List Call → Ends → ℕ
written_by i [] e = 0
written_by i (c ∷ cs) e = written_in i c e + written_by i cs (then c e)

unfoldable pub begun_by : ℕ → List Call → Ends → ℕ
begun_by i [] e = 0
begun_by i (c ∷ cs) e = begun_in i c e + begun_by i cs (then c e)
