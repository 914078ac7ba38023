use Rattle.machine.specs.Flip.{pending_pass}
use Rattle.visits.proofs.Turns.{Passing}
use Rattle.visits.proofs.Space.pendings.Given as goal

abbrev pub invariant-loop-e : goal.invariant-loop-e
invariant-loop-e l = Passing pending_pass l.tasks l.initial.self l.self l.e-index
