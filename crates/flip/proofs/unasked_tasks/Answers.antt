use Rattle.std.proofs.Common.{◌≡◌, refl, arith, length, take}
use Rattle.std.proofs.Math.Seq.{length-take-le}
use Rattle.machine.specs.Entries.{no_task}
use Rattle.machine.specs.Basics.{first_of}
use Rattle.machine.specs.Flip.{unasked_entry}
use Rattle.entries.proofs.Arrays.{one_more, whole_row}
use Rattle.flip.proofs.unasked_tasks.Goals as goal

pub loop-e-init : goal.loop-e-init
unfolding first_of
loop-e-init c = refl

pub loop-e-preserved : goal.loop-e-preserved
unfolding unasked_entry
loop-e-preserved c = one_more _ _ _ _ _ no_task c.loop-e.invariant (omega arith) (rw c.unasked-e.ensures)

pub returns : goal.returns
returns c =
    let all : length (take c.args.p c.args.tasks) ≡ c.args.p = length-take-le _ _ (omega arith) in
    let done : c.loop-e.e-index ≡ c.args.p = omega arith in
    rw (c.loop-e.invariant, done) (whole_row _ _ _)
