-- A Fill gives what its gate leaves of it.
use Rattle.std.specs.Prelude.{Option, Some, None}
use Prim.Native.Nat.{ℕ}
use mathlib.Core.Path.{◌≡◌, refl}
use mathlib.Core.List.{List}
use lib.Dec.{ltb, leb}
use Rattle.table.specs.declared.Descriptor.{Descriptor}
use Rattle.table.specs.declared.Making.{Making}
use Rattle.table.specs.declared.Operand.{Operand}
use Rattle.table.specs.declared.Primary.{Primary}
use Rattle.table.specs.declared.Place.TheVariants.{FillWrite}
use Rattle.table.specs.declared.Table.{Table}
use Rattle.table.specs.declared.Outcome.{Outcome}
use Rattle.machine.specs.Basics.{Gate}
use Rattle.machine.specs.Words.{object_of}
use Rattle.machine.specs.Gate.{through}
use Rattle.machine.specs.Begin.{held_at, begun, is_pointer, same_test, fill_slot, fill_pending}
use Rattle.machine.proofs.Rules.{chosen}
use Rattle.begin_fill.specs.Gate.{slot_gate, fill_gate_of}

module _ (t : Table) (ws : List ℕ) (task : ℕ) (v : Operand Primary) where
  abbrev gives : Outcome
  gives = begun t task (FillWrite v)

  abbrev passes : Gate → Outcome
  passes g = through g t gives

  slot_gate_lem : (f : ℕ) (x : Option Descriptor) → fill_slot t task f v x ≡ through (slot_gate f v x) t gives
  slot_gate_lem f (Some o) = rw (chosen passes (leb o.len f) _ _, chosen passes (same_test (is_pointer v) (ltb f o.m)) _ _)
  slot_gate_lem f None = refl

  pub by_gate : (pending : Option Making) → fill_pending t ws task v pending ≡ through (fill_gate_of ws t.limits.s (held_at t) v pending) t gives
  unfolding fill_gate_of
  by_gate None = refl
  by_gate (Some d) = rw (chosen passes (held_at t) _ _, ← (slot_gate_lem d.filled (object_of ws t.limits.s d.at)))
