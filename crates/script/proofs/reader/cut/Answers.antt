-- The first tab of the line is that of its first bytes; where they have none, the line is short or its first field long.
use Rattle.std.proofs.Common.{arith}
use Rattle.script.proofs.Scan.{cut_within, long_within}
use Rattle.script.proofs.reader.cut.Goals as goal

pub returns-in-Some : goal.returns-in-Some
returns-in-Some c = cut_within c.args.line.now c.min-end.result c.in-Some.i (omega arith) (omega arith) c.in-Some.ensures.found.0 c.in-Some.ensures.found.1 c.in-Some.ensures.before

pub returns-in-None-2 : goal.returns-in-None-2
returns-in-None-2 c = long_within c.args.line.now c.min-end.result (omega arith) (omega arith) c.in-None.ensures.none
