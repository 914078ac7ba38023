-- One text after another is the longer text.
use Rattle.answers.proofs.Put.{then_text}
use Rattle.answers.proofs.writer.put_with.Goals as goal

pub returns-clause-out_after : goal.returns-clause-out_after
returns-clause-out_after c =
    then_text _ _ _ _ _ _ _ _ c.put_text-p.ensures (then_text _ _ _ _ _ _ _ _ c.put_number-e.ensures c.put_text.ensures)
