-- The calls that begin a New, a Fill or a Store.
use Rattle.machine.specs.Call.{Call}

-- the calls that begin an instruction
abbrev pub Begins : Call → Type 0
Begins (Call.New task r len m) = Unit {0}
Begins (Call.Fill task w) = Unit {0}
Begins (Call.FillPointer task r) = Unit {0}
Begins (Call.Load task to from slot) = ⊥
Begins (Call.Store task o slot w) = Unit {0}
Begins (Call.StorePointer task o slot r) = Unit {0}
Begins (Call.Move task to from) = ⊥
Begins (Call.Clear task r) = ⊥
Begins (Call.Same task a b) = ⊥
Begins (Call.Put task root r) = ⊥
Begins (Call.Get task r root) = ⊥
Begins (Call.Step task) = ⊥
Begins Call.Report = ⊥
