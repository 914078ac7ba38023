use Rattle.visits.proofs.Turns.{ends}
use Rattle.visits.proofs.Space.roots.Goals as goal

pub returns : goal.returns
returns c = ends c.loop-q.invariant c.loop-q-test.false
