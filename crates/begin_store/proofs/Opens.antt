-- A Store gives what its gate leaves of it.
use Rattle.std.specs.Prelude.{Option, Some, None}
use Prim.Native.Nat.{ℕ, ◌+◌}
use mathlib.Core.Path.{◌≡◌, refl}
use mathlib.Core.List.{List}
use mathlib.Core.Bool.{Bool}
use lib.ListN.{get_or}
use lib.Dec.{ltb, leb, eqb}
use Rattle.table.specs.declared.Primary.{Primary}
use Rattle.table.specs.declared.Descriptor.{Descriptor}
use Rattle.table.specs.declared.Operand.{Operand}
use Rattle.table.specs.declared.Table.{Table}
use Rattle.table.specs.declared.Outcome.{Outcome}
use Rattle.machine.specs.Basics.{pick, Gate}
use Rattle.machine.specs.Words.{object_of}
use Rattle.machine.specs.Entries.{no}
use Rattle.machine.specs.Gate.{through}
use Rattle.machine.specs.Tasks.{slot_taken}
use Rattle.machine.specs.Begin.{held_at, is_pointer, same_test, store_place, storing, store_slot}
use Rattle.machine.proofs.Rules.{chosen}
use Rattle.begin_store.specs.Gate.{slot_gate, store_gate_of}

module _ (t : Table) (ws : List ℕ) (task : ℕ) (x : Primary) (slot : ℕ) (v : Operand Primary) where
  abbrev gives : Outcome
  gives = storing t task x slot (store_place t.on (get_or ws (x.0 + slot) 0) v)

  abbrev passes : Gate → Outcome
  passes g = through g t gives

  abbrev taken : Bool
  taken = slot_taken t.tasks t.limits.p task x slot

  slot_gate_lem : (o : Option Descriptor) → store_slot t ws task x slot v o ≡ through (slot_gate taken slot v o) t gives
  slot_gate_lem (Some o) =
      rw (chosen passes (leb o.len slot) _ _, chosen passes (same_test (is_pointer v) (ltb slot o.m)) _ _, chosen passes taken _ _)
  slot_gate_lem None = refl

  pub by_gate :
      pick (held_at t) (no t 7) (pick (eqb x.0 0) (no t 4) (store_slot t ws task x slot v (object_of ws t.limits.s x))) ≡
      through (store_gate_of ws t.limits.s (held_at t) taken x slot v) t gives
  unfolding store_gate_of
  by_gate = rw (chosen passes (held_at t) _ _, chosen passes (eqb x.0 0) _ _, ← (slot_gate_lem (object_of ws t.limits.s x)))
