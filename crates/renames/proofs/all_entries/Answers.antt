use Rattle.std.proofs.Common.{arith, rules}
use Rattle.machine.specs.Entries.{no_task}
use Rattle.entries.proofs.Arrays.{whole_row}
use Rattle.renames.proofs.Rows.{begins, goes_on, stops, ends}
use Rattle.renames.proofs.all_entries.Goals as goal

pub loop-e-init : goal.loop-e-init
loop-e-init c = begins _ _ _ _ (search rules)

pub loop-e-preserved : goal.loop-e-preserved
loop-e-preserved c = goes_on c.loop-e.invariant no_task (omega arith) c.in_ok-e.ensures

pub returns-in_err-e : goal.returns-in_err-e
returns-in_err-e c = rw c.from_residual.ensures (stops c.loop-e.invariant no_task (omega arith) c.in_err-e.ensures)

pub returns : goal.returns
returns c =
    let e = ends c.loop-e.invariant (omega arith) in
    (e.0, rw e.1 (whole_row _ _ _))
