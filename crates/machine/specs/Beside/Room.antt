-- A place, or a flip, that needs more room than there is.
use Rattle.std.specs.Prelude.{ℕ, ◌+◌, ◌<◌, ◌≡◌, List, true, false, eqb, None, Err}
use Rattle.table.specs.declared.Place.{Place}
use Rattle.table.specs.declared.Place.TheVariants.{Idle, New, Asked, FillWrite, FillCopy, StoreWrite, Meet, StoreCopy, Take, Read, Put, Release, Looking, Placing}
use Rattle.table.specs.declared.Table.{Table}
use Rattle.machine.specs.Basics.{pick}
use Rattle.machine.specs.Numbers.{refusal}
use Rattle.machine.specs.Words.{object_of, end_of, room_of, described}
use Rattle.table.specs.declared.Sought.TheVariants.{Blocker}
use Rattle.machine.specs.Tasks.{seek_of}
use Rattle.machine.specs.Flip.{passes_of}

-- "room for L+2, and one more if L > 0"
abbrev pub place_needs : ℕ → ℕ
place_needs len = pick (eqb len 0) (len + 2) (len + 3)

-- a step of task i at this place, for want of room: the claimed object's replica needs more words than there are; the
-- flip of a New stopped in one of its passes
abbrev pub WantsRoom : Table → List ℕ → ℕ → Place → Type 0
WantsRoom t ws i Idle = ⊥
WantsRoom t ws i (New want) = (t.on ≡ false) × (seek_of t.tasks t.limits.p (Blocker i) ≡ None) × ((passes_of t ws).pass ≡ Err (refusal 10))
WantsRoom t ws i (Asked want) = (t.on ≡ false) × (seek_of t.tasks t.limits.p (Blocker i) ≡ None) × ((passes_of t ws).pass ≡ Err (refusal 10))
WantsRoom t ws i (FillWrite v) = ⊥
WantsRoom t ws i (FillCopy c) = ⊥
WantsRoom t ws i (StoreWrite v) = ⊥
WantsRoom t ws i (Meet v) = ⊥
WantsRoom t ws i (StoreCopy c) = ⊥
WantsRoom t ws i (Take n) = ⊥
WantsRoom t ws i (Read n job) = ⊥
WantsRoom t ws i (Put n job c) = ⊥
WantsRoom t ws i (Release n job) = ⊥
WantsRoom t ws i (Looking p th) = ⊥
WantsRoom t ws i (Placing p th) =
    (len : ℕ) × (m : ℕ) × (object_of ws t.limits.s p ≡ described len m) × (room_of true t.marks (end_of t.upper t.limits.h) < place_needs len)
