use Rattle.std.proofs.Common.{◌<◌, length}
use Rattle.heaprun.proofs.lines.all_turns.Given as goal

abbrev pub invariant-loop : goal.invariant-loop
invariant-loop g l = l.run.have < length l.buf
