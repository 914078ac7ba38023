use Rattle.std.proofs.Common.{◌≡◌, take}
use Rattle.machine.specs.Basics.{first_of}
use Rattle.machine.specs.Flip.{unasked_entry}
use Rattle.flip.proofs.unasked_tasks.Given as goal

abbrev pub invariant-loop-e : goal.invariant-loop-e
invariant-loop-e l = l.e-items ≡ first_of l.e-index unasked_entry (take l.p l.fn.tasks)
