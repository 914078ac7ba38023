use Rattle.machine.specs.Switch.{new_name, has_replica}
use Rattle.renames.proofs.Rows.{Changing}
use Rattle.renames.proofs.pointers.Given as goal

abbrev pub invariant-loop-q : goal.invariant-loop-q
invariant-loop-q l = Changing (has_replica l.words l.s) (new_name l.words l.s) l.fn.olds 8 l.q-items l.q-index
