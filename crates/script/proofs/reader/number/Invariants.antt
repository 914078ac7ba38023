-- What is left of the line is read as the loop reads it.
use Rattle.std.proofs.Common.{◌≡◌, ◌≤◌, drop}
use Rattle.script.specs.Line.{fields}
use Rattle.script.specs.Parts.{front_number}
use Rattle.script.proofs.Scan.{more}
use Rattle.script.proofs.reader.number.Given as goal

abbrev pub invariant-loop-i : goal.invariant-loop-i
invariant-loop-i l = record {
  fits : l.value ≤ 4294967295;
  so_far : front_number (fields l.rest) ≡ more l.value (fields (drop l.i l.rest));
}
