-- The first n fields behind the name are read, as the first n numbers.
use Rattle.std.proofs.Common.{◌≡◌, ◌-◌, ◌≤◌, length, take}
use Rattle.script.specs.Line.{field_numbers, name_is, record_in, line_of}
use Rattle.script.specs.Parts.{left}
use Rattle.script.proofs.Records.{befores}
use Rattle.script.proofs.read_line.Given as goal

abbrev pub invariant-loop-rest : goal.invariant-loop-rest
invariant-loop-rest l = record {
  room : l.n ≤ 4;
  size : length l.numbers ≡ 4;
  so_far : line_of l.line ≡ record_in (name_is l.name) (befores (take l.n l.numbers) (field_numbers (left l.rest)));
}

abbrev pub decreases-loop-rest : goal.decreases-loop-rest
decreases-loop-rest l = 4 - l.n
