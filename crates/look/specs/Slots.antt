-- A slot written, of an object and of its replica, where there is that slot.
use Rattle.std.specs.Prelude.{ℕ, ◌+◌, List, Bool, true, false, set, leb, Option, Some, None}
use Rattle.table.specs.declared.Descriptor.{Descriptor}
use Rattle.table.specs.declared.Replica.{Replica}
use Rattle.table.specs.declared.Slot.{Slot}
use Rattle.machine.specs.Basics.{pick}
use Rattle.machine.specs.Words.{object_of, look_of, if_forwarded}

-- whether it was written, and every word
pub record WrittenIn : Type 0 where
  pub written : Bool
  pub words : List ℕ

abbrev pub written_in : Bool → List ℕ → WrittenIn
written_in b ws = record { written = b; words = ws }

-- slot i of the len slots from p on
abbrev pub slot_written : List ℕ → ℕ → ℕ → ℕ → ℕ → WrittenIn
slot_written ws i w p len = pick (leb len i) (written_in false ws) (written_in true (set ws (p + i) w))

abbrev pub object_written : List ℕ → Slot → ℕ → Option Descriptor → WrittenIn
object_written ws at w (Some o) = slot_written ws at.index w at.object.0 o.len
object_written ws at w None = written_in false ws

-- in the object
unfoldable pub written_of : List ℕ → ℕ → Slot → ℕ → WrittenIn
written_of ws s at w = object_written ws at w (object_of ws s at.object)

abbrev pub replica_written : List ℕ → ℕ → ℕ → Replica → ℕ → WrittenIn
replica_written ws i w r len = slot_written ws i w r.0 len

-- in its replica
unfoldable pub copied_of : List ℕ → ℕ → Slot → ℕ → WrittenIn
copied_of ws s at w = if_forwarded (look_of ws s at.object) (replica_written ws at.index w) (written_in false ws)
