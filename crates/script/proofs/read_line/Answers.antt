-- What a line says, from its name and what follows it.
use Rattle.std.proofs.Common.{take, arith, sym, ap, ◌∙◌, length-set}
use Rattle.script.specs.Line.{field_numbers, name_is, record_in, line_of}
use Rattle.script.specs.Parts.{left}
use Rattle.script.proofs.Records.{befores, befores_on, front_read}
use Rattle.script.proofs.read_line.Goals as goal

pub loop-rest-init : goal.loop-rest-init
unfolding line_of
loop-rest-init c = record { room = omega arith; size = omega arith; so_far = rw c.in_ok-name.ensures.0 }

pub loop-rest-preserved : goal.loop-rest-preserved
loop-rest-preserved c =
    let l = c.loop-rest in
    let is = name_is c.in_ok-name.name.now in
    record {
      room = omega arith;
      size = simp length-set (omega arith);
      so_far =
          l.invariant.so_far ∙ ap (λ m. record_in is (befores (take l.n l.numbers) m)) (ap (λ r. field_numbers (left r)) c.in-Some.is ∙ front_read _ _ _ c.in_ok-number.ensures) ∙
          ap (record_in is) (sym (befores_on l.numbers l.n _ _ (omega arith)));
    }
