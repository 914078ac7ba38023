-- The gate of a Fill behind its opening: nothing pending (6), held (7), the object and its next slot (11), the slot's kind (5).
use Rattle.std.specs.Prelude.{ℕ, List, Bool, ltb, leb, Option, Some, None, Ok, Err}
use Rattle.table.specs.declared.Descriptor.{Descriptor}
use Rattle.table.specs.declared.Making.{Making}
use Rattle.table.specs.declared.Operand.{Operand}
use Rattle.table.specs.declared.Primary.{Primary}
use Rattle.machine.specs.Basics.{pick, Gate}
use Rattle.machine.specs.Numbers.{refusal}
use Rattle.machine.specs.Words.{object_of}
use Rattle.machine.specs.Begin.{is_pointer, same_test}

abbrev pub slot_gate : ℕ → Operand Primary → Option Descriptor → Gate
slot_gate f v (Some o) =
    pick (leb o.len f) (Err (refusal 11)) (pick (same_test (is_pointer v) (ltb f o.m)) (Ok tt) (Err (refusal 5)))
slot_gate f v None = Err (refusal 11)

unfoldable pub fill_gate_of : List ℕ → ℕ → Bool → Operand Primary → Option Making → Gate
fill_gate_of ws s held v None = Err (refusal 6)
fill_gate_of ws s held v (Some d) = pick held (Err (refusal 7)) (slot_gate d.filled v (object_of ws s d.at))
