-- What stands in table and words for an object's number: pa gives the address of its primary, ra of its replica.
use Rattle.std.specs.Prelude.{ℕ, ◌+◌, map, ltb, Option, Some, None}
use Rattle.table.specs.declared.Primary.{Primary}
use Rattle.table.specs.declared.Making.{Making}
use Rattle.table.specs.declared.Slot.{Slot}
use Rattle.table.specs.declared.Operand.{Operand}
use Rattle.table.specs.declared.Replica.{Replica}
use Rattle.table.specs.declared.Operand.TheVariants.{Plain, Pointer}
use Rattle.table.specs.declared.Then.{Then}
use Rattle.table.specs.declared.Then.TheVariants.{ToWrite, ToStoreCopy, ToFillCopy, ToPut}
use Rattle.table.specs.declared.Place.{Place}
use Rattle.table.specs.declared.Place.TheVariants.{Idle, New, Asked, FillWrite, FillCopy, StoreWrite, Meet, StoreCopy, Take, Read, Put, Release, Looking, Placing}
use Rattle.table.specs.declared.Task.{Task}
use Rattle.machine.specs.Basics.{pick}
use Rattle.machine.specs.Words.{primary, replica, slot_at, wanted}
use Rattle.machine.specs.Entries.{entry, pending_with, storing_on}
use Rattle.machine.proofs.Objects.State.{Hd, white, claimed, count, locked}

abbrev pub at_primary : (ℕ → ℕ) → Primary → Primary
at_primary pa x = primary (pa x.0)

abbrev pub at_operand : (ℕ → ℕ) → Operand Primary → Operand Primary
at_operand pa (Plain w) = Plain w
at_operand pa (Pointer x) = Pointer (at_primary pa x)

abbrev pub at_copied : (ℕ → ℕ) → Operand Replica → Operand Replica
at_copied ra (Plain w) = Plain w
at_copied ra (Pointer x) = Pointer (replica (ra x.0))

abbrev pub at_pending : (ℕ → ℕ) → Option Making → Option Making
at_pending pa None = None
at_pending pa (Some d) = pending_with (at_primary pa d.at) d.register d.len d.filled

abbrev pub at_storing : (ℕ → ℕ) → Option Slot → Option Slot
at_storing pa None = None
at_storing pa (Some y) = storing_on (at_primary pa y.object) y.index

abbrev pub at_then : (ℕ → ℕ) → Then → Then
at_then pa (ToWrite v) = ToWrite (at_operand pa v)
at_then pa ToStoreCopy = ToStoreCopy
at_then pa ToFillCopy = ToFillCopy
at_then pa (ToPut n job) = ToPut n (slot_at (at_primary pa job.object) job.index)

abbrev pub at_place : (ℕ → ℕ) → (ℕ → ℕ) → Place → Place
at_place pa ra Idle = Idle
at_place pa ra (New want) = New want
at_place pa ra (Asked want) = Asked want
at_place pa ra (FillWrite v) = FillWrite (at_operand pa v)
at_place pa ra (FillCopy c) = FillCopy (at_copied ra c)
at_place pa ra (StoreWrite v) = StoreWrite (at_operand pa v)
at_place pa ra (Meet v) = Meet (at_operand pa v)
at_place pa ra (StoreCopy c) = StoreCopy (at_copied ra c)
at_place pa ra (Take n) = Take n
at_place pa ra (Read n job) = Read n (slot_at (at_primary pa job.object) job.index)
at_place pa ra (Put n job c) = Put n (slot_at (at_primary pa job.object) job.index) (at_copied ra c)
at_place pa ra (Release n job) = Release n (slot_at (at_primary pa job.object) job.index)
at_place pa ra (Looking q th) = Looking (at_primary pa q) (at_then pa th)
at_place pa ra (Placing q th) = Placing (at_primary pa q) (at_then pa th)

abbrev pub at_task : (ℕ → ℕ) → (ℕ → ℕ) → Task → Task
at_task pa ra e = entry (map (at_primary pa) e.regs) (at_pending pa e.pending) (at_storing pa e.storing) (at_place pa ra e.place)

-- the words of a primary's header, of a replica's header, and of slot j of an object with m pointer slots
abbrev pub header_word : ℕ → Hd → ℕ
header_word r white = 0
header_word r (claimed t) = 1
header_word r (count c) = r
header_word r (locked i t) = r

abbrev pub copy_word : Hd → ℕ
copy_word white = 0
copy_word (claimed t) = 0
copy_word (count c) = c
copy_word (locked i t) = 256 + i

abbrev pub slot_word : (ℕ → ℕ) → ℕ → ℕ → ℕ → ℕ
slot_word a m j v = pick (ltb j m) (a v) v
