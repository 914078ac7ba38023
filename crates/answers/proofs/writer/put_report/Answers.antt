-- One text after another is the longer text.
use Rattle.answers.specs.Text.{report_text}
use Rattle.answers.proofs.Put.{then_text}
use Rattle.answers.proofs.writer.put_report.Goals as goal

pub returns-clause-out_after : goal.returns-clause-out_after
unfolding report_text
returns-clause-out_after c =
    then_text _ _ _ _ _ _ _ _ c.put_mode-p.ensures (then_text _ _ _ _ _ _ _ _ c.put_number-e.ensures c.put_with.ensures.out_after)
