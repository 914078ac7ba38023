use Rattle.std.proofs.Common.{ap, sym, ◌∙◌}
use Rattle.machine.specs.Entries.{task_at}
use Rattle.machine.specs.Step.{step_of}
use Rattle.after.specs.Left.{after_of}
use Rattle.step.proofs.Acts.{step_plain}
use Rattle.step.proofs.step.Goals as goal

pub returns : goal.returns
unfolding step_of
returns c =
    let t = c.args.t in
    let n = sym c.in-Some.is ∙ c.after_act.ensures ∙ ap (λ x. after_of t.on x (task_at t c.args.task) c.task_act-a.result) c.end_of-end.ensures.0 in
    rw (← c.task_gate.ensures.0, c.in_default.is) (step_plain _ _ _ _ _ _ c.task_act-a.ensures n)
