use Rattle.machine.specs.Flip.{visit_of}
use Rattle.visits.proofs.Turns.{Passing}
use Rattle.visits.proofs.Space.roots.Given as goal

abbrev pub invariant-loop-q : goal.invariant-loop-q
invariant-loop-q l = Passing visit_of l.qs l.initial.self l.self l.q-index
