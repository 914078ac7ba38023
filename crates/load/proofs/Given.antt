-- A Load gives what its slot holds.
use Rattle.std.specs.Prelude.{ℕ, ◌≡◌, List, ltb, leb, eqb, Option, Some, None}
use Rattle.std.proofs.Common.{refl}
use Rattle.table.specs.declared.Primary.{Primary}
use Rattle.table.specs.declared.Descriptor.{Descriptor}
use Rattle.table.specs.declared.Table.{Table}
use Rattle.machine.specs.Words.{object_of}
use Rattle.machine.specs.Complete.{load_slot, load_from}
use Rattle.machine.proofs.Rules.{chosen}
use Rattle.load.specs.Slot.{slot_of, loaded_of, given, given_by}

module _ (t : Table) (i to : ℕ) where
  module _ (ws : List ℕ) (p : Primary) (slot : ℕ) where
    slot_given : (o : Option Descriptor) → load_slot t ws i to p slot o ≡ given_by t i to (slot_of ws p slot o)
    slot_given (Some o) = rw (chosen (given_by t i to) (leb o.len slot) _ _, chosen (given t i to) (ltb slot o.m) _ _) refl
    slot_given None = refl

    pub load_given : load_from t ws i to p slot ≡ given_by t i to (loaded_of ws t.limits.s p slot)
    unfolding load_from loaded_of
    load_given = rw (chosen (given_by t i to) (eqb p.0 0) _ _, ← (slot_given (object_of ws t.limits.s p))) refl
