-- Where a tab ends the number.
use Rattle.std.proofs.Common.{arith}
use Rattle.script.proofs.Scan.{zero_tab, ends_tab}
use Rattle.script.proofs.reader.number.Goals as goal

pub returns-in-48-2 : goal.returns-in-48-2
returns-in-48-2 c = zero_tab c.args.rest.now (omega arith) (omega arith) (omega arith)

pub returns-then-b-eq9 : goal.returns-then-b-eq9
returns-then-b-eq9 c = ends_tab c.args.rest.now c.loop-i.i c.loop-i.value _ c.loop-i.invariant.so_far (omega arith) (omega arith) c.loop-i.invariant.fits
