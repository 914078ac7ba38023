use Rattle.std.proofs.Common.{arith, rules, ◌≤◌, length}
use Rattle.std.proofs.lemmas.List.{take_all}
use Rattle.machine.specs.Entries.{nil}
use Rattle.renames.proofs.Rows.{begins, goes_on, stops, ends}
use Rattle.renames.proofs.pointers.Goals as goal

pub loop-q-init : goal.loop-q-init
loop-q-init c = begins _ _ _ _ (search rules)

pub loop-q-preserved : goal.loop-q-preserved
loop-q-preserved c = goes_on c.loop-q.invariant nil (omega arith) c.in_ok-q.ensures

pub returns-in_err-q : goal.returns-in_err-q
returns-in_err-q c =
    let all : length c.args.olds ≤ 8 = omega arith in
    rw (c.from_residual.ensures, take_all 8 c.args.olds all) (stops c.loop-q.invariant nil (omega arith) c.in_err-q.ensures)

pub returns : goal.returns
returns c =
    let all : length c.args.olds ≤ 8 = omega arith in
    rw (take_all 8 c.args.olds all) (ends c.loop-q.invariant (omega arith))
