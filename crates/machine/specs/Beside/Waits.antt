-- What is counted of a Store: that it waits to be written, and that it is written.
use Rattle.std.specs.Prelude.{ℕ, suc, List, [], ◌∷◌}
use Rattle.table.specs.declared.Then.{Then}
use Rattle.table.specs.declared.Then.TheVariants.{ToWrite, ToStoreCopy, ToFillCopy, ToPut}
use Rattle.table.specs.declared.Place.{Place}
use Rattle.table.specs.declared.Place.TheVariants.{Idle, New, Asked, FillWrite, FillCopy, StoreWrite, Meet, StoreCopy, Take, Read, Put, Release, Looking, Placing}
use Rattle.machine.specs.StillStore.{Kind, Made, Filled, Written, Ended}

abbrev pub waits_then : Then → ℕ
waits_then (ToWrite v) = 1
waits_then ToStoreCopy = 0
waits_then ToFillCopy = 0
waits_then (ToPut n job) = 0

-- 1 for a task whose Store is begun and not yet written
abbrev pub waits : Place → ℕ
waits Idle = 0
waits (New want) = 0
waits (Asked want) = 0
waits (FillWrite v) = 0
waits (FillCopy c) = 0
waits (StoreWrite v) = 1
waits (Meet v) = 0
waits (StoreCopy c) = 0
waits (Take n) = 0
waits (Read n job) = 0
waits (Put n job c) = 0
waits (Release n job) = 0
waits (Looking p next) = waits_then next
waits (Placing p next) = waits_then next

-- how often a slot was written
abbrev pub writes : List Kind → ℕ
writes [] = 0
writes (Made ∷ ks) = writes ks
writes (Filled ∷ ks) = writes ks
writes (Written ∷ ks) = suc (writes ks)
writes (Ended ∷ ks) = writes ks
