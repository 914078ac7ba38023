-- The gate of a Store behind its opening: held (7), nil (4), the object (11), its slot (5), the slot in a Store (8).
use Rattle.std.specs.Prelude.{ℕ, ◌<◌, List, Bool, ltb, leb, eqb, Option, Some, None, Ok, Err}
use Rattle.table.specs.declared.Primary.{Primary}
use Rattle.table.specs.declared.Descriptor.{Descriptor}
use Rattle.table.specs.declared.Operand.{Operand}
use Rattle.table.specs.declared.Slot.{Slot}
use Rattle.table.specs.declared.Table.{Table}
use Rattle.table.specs.declared.Outcome.{Outcome}
use Rattle.machine.specs.Entries.{no}
use Rattle.machine.specs.Basics.{pick, Gate}
use Rattle.machine.specs.Numbers.{refusal}
use Rattle.machine.specs.Words.{object_of}
use Rattle.machine.specs.Begin.{is_pointer, same_test, held_at, store_slot}

abbrev pub slot_gate : Bool → ℕ → Operand Primary → Option Descriptor → Gate
slot_gate taken slot v (Some o) =
    pick (leb o.len slot) (Err (refusal 5))
    (pick (same_test (is_pointer v) (ltb slot o.m)) (pick taken (Err (refusal 8)) (Ok tt)) (Err (refusal 5)))
slot_gate taken slot v None = Err (refusal 11)

unfoldable pub store_gate_of : List ℕ → ℕ → Bool → Bool → Primary → ℕ → Operand Primary → Gate
store_gate_of ws s held taken x slot v =
    pick held (Err (refusal 7))
    (pick (eqb x.0 0) (Err (refusal 4)) (slot_gate taken slot v (object_of ws s x)))

-- a slot that the gate lets through lies in the n words
abbrev pub Within : Gate → ℕ → ℕ → Type 0
Within (Ok u) at n = at < n
Within (Err x) at n = Unit {0}

-- a Store of v behind its opening
abbrev pub recorded_of : Table → List ℕ → ℕ → Slot → Operand Primary → Outcome
recorded_of t ws task at v =
    pick (held_at t) (no t 7)
    (pick (eqb at.object.0 0) (no t 4)
    (store_slot t ws task at.object at.index v (object_of ws t.limits.s at.object)))
