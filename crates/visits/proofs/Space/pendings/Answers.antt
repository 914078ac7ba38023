use Rattle.std.proofs.lemmas.Result.{err_from_is_err_and}
use Rattle.machine.specs.Entries.{no_task}
use Rattle.visits.proofs.Turns.{goes_on, stops, ends}
use Rattle.visits.proofs.Space.pendings.Goals as goal

pub returns-in_err-visit_pending : goal.returns-in_err-visit_pending
returns-in_err-visit_pending c =
    let p = err_from_is_err_and c.from_residual.result c.from_residual.ensures.1 in
    rw (p.1, p.2) (stops c.loop-e.invariant no_task c.loop-e-test.true c.visit_pending.ensures c.in_err-visit_pending.was)

pub loop-e-preserved : goal.loop-e-preserved
loop-e-preserved c = goes_on c.loop-e.invariant no_task c.loop-e-test.true c.visit_pending.ensures c.in_ok-visit_pending.was

pub returns : goal.returns
returns c = ends c.loop-e.invariant c.loop-e-test.false
