-- What a Load finds in a slot, and what the call makes of it.
use Rattle.std.specs.Prelude.{ℕ, ◌+◌, List, get_or, ltb, leb, eqb, Option, Some, None, Result, Ok, Err}
use Rattle.table.specs.declared.Primary.{Primary}
use Rattle.table.specs.declared.Operand.{Operand}
use Rattle.table.specs.declared.Operand.TheVariants.{Plain, Pointer}
use Rattle.table.specs.declared.Descriptor.{Descriptor}
use Rattle.table.specs.declared.Refusal.{Refusal}
use Rattle.table.specs.declared.Table.{Table}
use Rattle.table.specs.declared.Answer.TheVariants.{Done, Value}
use Rattle.table.specs.declared.Outcome.{Outcome}
use Rattle.machine.specs.Basics.{pick}
use Rattle.machine.specs.Numbers.{refusal}
use Rattle.machine.specs.Words.{primary, object_of}
use Rattle.machine.specs.Entries.{with_register, out, refused}

abbrev pub slot_of : List ℕ → Primary → ℕ → Option Descriptor → Result (Operand Primary) Refusal
slot_of ws p slot (Some o) =
    pick (leb o.len slot) (Err (refusal 5))
    (Ok (pick (ltb slot o.m) (Pointer (primary (get_or ws (p.0 + slot) 0))) (Plain (get_or ws (p.0 + slot) 0))))
slot_of ws p slot None = Err (refusal 11)

-- nil is 4
unfoldable pub loaded_of : List ℕ → ℕ → Primary → ℕ → Result (Operand Primary) Refusal
loaded_of ws s p slot = pick (eqb p.0 0) (Err (refusal 4)) (slot_of ws p slot (object_of ws s p))

-- a pointer goes to the register, a plain word is answered
abbrev pub given : Table → ℕ → ℕ → Operand Primary → Outcome
given t i to (Pointer q) = out (with_register t i to q) Done
given t i to (Plain w) = out t (Value w)

abbrev pub given_by : Table → ℕ → ℕ → Result (Operand Primary) Refusal → Outcome
given_by t i to (Ok v) = given t i to v
given_by t i to (Err x) = refused t x
