-- Whom a step waits for, and why: the claimer of what it looks at, the holder of its Store's own slot, a task with a job or a
-- claim while the stack is empty, a task that keeps a flip from being made for want of room.
use Rattle.std.specs.Prelude.{ℕ, ◌+◌, ◌-◌, ◌≤◌, ◌<◌, ◌≢◌, ◌⊎◌, List, get_or, Option, Some, None}
use Rattle.std.proofs.Math.Path.{◌≡◌}
use Rattle.std.proofs.Math.Bool.{true, false}
use Rattle.table.specs.declared.Primary.{Primary}
use Rattle.table.specs.declared.Replica.{Replica}
use Rattle.table.specs.declared.Slot.{Slot}
use Rattle.table.specs.declared.Place.{Place}
use Rattle.table.specs.declared.Place.TheVariants.{Idle, New, Asked, FillWrite, FillCopy, StoreWrite, Meet, StoreCopy, Take, Read, Put, Release, Looking, Placing}
use Rattle.table.specs.declared.Table.{Table}
use Rattle.table.specs.declared.Look.TheVariants.{Claimed, Forwarded}
use Rattle.table.specs.declared.Copying.TheVariants.{Locked}
use Rattle.table.specs.declared.Holding.{Holding}
use Rattle.machine.specs.Words.{look_of, copying_of, end_of}
use Rattle.machine.specs.Entries.{task_at}
use Rattle.machine.specs.Tasks.{holding_of, claim_is, job_is, works_of, blocks_of}

-- what task q holds
abbrev pub holds : Table → ℕ → Holding
holds t q = holding_of (task_at t q).place

-- a look at p finds it claimed, and q has the claim
abbrev pub ClaimedBy : Table → List ℕ → Primary → ℕ → Type 0
ClaimedBy t ws p q = (look_of ws t.limits.s p ≡ Claimed) × (claim_is p (holds t q) ≡ true)

-- the replica of x is locked at slot i, and q has that job
abbrev pub LockedBy : Table → List ℕ → Primary → ℕ → ℕ → Type 0
LockedBy t ws x i q =
    (r : Replica) × (len : ℕ) × (look_of ws t.limits.s x ≡ Forwarded r len) × (copying_of len (get_or ws (r.0 - 1) 0) ≡ Locked i) × (job_is x i (holds t q) ≡ true)

abbrev pub MetBy : Table → List ℕ → ℕ → Option Slot → Type 0
MetBy t ws q None = ⊥
MetBy t ws q (Some y) = ClaimedBy t ws y.object q ⊎ LockedBy t ws y.object y.index q

-- a New of this length finds too little room, and q, another task, is neither idle nor asking
abbrev pub KeptBy : Table → ℕ → ℕ → ℕ → Type 0
KeptBy t len i q = (t.on ≡ false) × (end_of t.upper t.limits.h - t.marks.a < len + 2) × (q ≢ i) × (blocks_of (holds t q) ≡ true)

-- why task i, at this place, waits for q
abbrev pub WaitsFor : Table → List ℕ → ℕ → ℕ → Place → Type 0
WaitsFor t ws i q Idle = ⊥
WaitsFor t ws i q (New want) = KeptBy t want.len i q
WaitsFor t ws i q (Asked want) = KeptBy t want.len i q
WaitsFor t ws i q (FillWrite v) = ⊥
WaitsFor t ws i q (FillCopy c) = ⊥
WaitsFor t ws i q (StoreWrite v) = ⊥
WaitsFor t ws i q (Meet v) = MetBy t ws q (task_at t i).storing
WaitsFor t ws i q (StoreCopy c) = ⊥
WaitsFor t ws i q (Take n) = (end_of t.upper t.limits.h ≤ t.marks.top) × (q ≢ i) × (works_of (holds t q) ≡ true)
WaitsFor t ws i q (Read n job) = ⊥
WaitsFor t ws i q (Put n job c) = ⊥
WaitsFor t ws i q (Release n job) = ⊥
WaitsFor t ws i q (Looking p th) = ClaimedBy t ws p q
WaitsFor t ws i q (Placing p th) = ⊥
