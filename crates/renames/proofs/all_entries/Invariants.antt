use Rattle.std.proofs.Common.{take}
use Rattle.machine.specs.Switch.{new_entry, entry_has_replicas}
use Rattle.renames.proofs.Rows.{Changing}
use Rattle.renames.proofs.all_entries.Given as goal

abbrev pub invariant-loop-e : goal.invariant-loop-e
invariant-loop-e l = Changing (entry_has_replicas l.words l.s) (new_entry l.words l.s) (take l.p l.fn.tasks) l.p l.e-items l.e-index
