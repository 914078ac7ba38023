use Rattle.std.proofs.Common.{refl}
use Rattle.machine.specs.Entries.{nil, no_task}
use Rattle.visits.proofs.Turns.{goes_on, stops, ends}
use Rattle.visits.proofs.Space.registers.Goals as goal

pub loop-q-preserved : goal.loop-q-preserved
loop-q-preserved c = goes_on c.loop-q.invariant nil c.loop-q-test.true c.visit.ensures c.in_default.is

pub loop-e-preserved : goal.loop-e-preserved
loop-e-preserved c = goes_on c.loop-e.invariant no_task c.loop-e-test.true (ends c.loop-q.invariant c.loop-q-test.false) refl

pub returns-in-Err : goal.returns-in-Err
returns-in-Err c =
    let inner = stops c.loop-q.invariant nil c.loop-q-test.true c.visit.ensures c.in-Err.is in
    stops c.loop-e.invariant no_task c.loop-e-test.true inner refl

pub returns-after-loop-e : goal.returns-after-loop-e
returns-after-loop-e c = ends c.loop-e.invariant c.loop-e-test.false
