use Rattle.machine.specs.Flip.{visit_of, register_pass}
use Rattle.visits.proofs.Turns.{Passing}
use Rattle.visits.proofs.Space.registers.Given as goal

abbrev pub invariant-loop-e : goal.invariant-loop-e
invariant-loop-e l = Passing register_pass l.tasks l.initial.self l.self l.e-index

abbrev pub invariant-loop-q : goal.invariant-loop-q
invariant-loop-q l = Passing visit_of l.q-items l.initial.self l.self l.q-index
