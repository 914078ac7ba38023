-- The heap by objects: every object ever made has a number from 1 on, and nil is 0. Nothing here has an address.
-- Task entries are those of the table, with an object's number where the table has an address.
use Rattle.std.specs.Prelude.{ℕ, suc, ◌≡◌, List, Bool, true, false, get_or, Option, Some, None}
use Rattle.table.specs.declared.Primary.{Primary}
use Rattle.table.specs.declared.Making.{Making}
use Rattle.table.specs.declared.Slot.{Slot}
use Rattle.table.specs.declared.Operand.{Operand}
use Rattle.table.specs.declared.Replica.{Replica}
use Rattle.table.specs.declared.Operand.TheVariants.{Plain, Pointer}
use Rattle.table.specs.declared.Then.{Then}
use Rattle.table.specs.declared.Then.TheVariants.{ToWrite, ToStoreCopy, ToFillCopy, ToPut}
use Rattle.table.specs.declared.Place.{Place}
use Rattle.table.specs.declared.Place.TheVariants.{Idle, New, Asked, FillWrite, FillCopy, StoreWrite, Meet, StoreCopy, Take, Read, Put, Release, Looking, Placing}
use Rattle.table.specs.declared.Task.{Task}
use Rattle.table.specs.declared.Holding.{Holding}
use Rattle.table.specs.declared.Holding.TheVariants.{Rests, Asks, Free, Job, Claim, Both}
use Rattle.machine.specs.Entries.{nil}
use Rattle.machine.specs.Tasks.{holding_of}

-- What an object's headers say: white; claimed; placed with c slots to copy; placed with slot i locked. Who claimed or
-- locked stands in no word: no step reads it.
pub data Hd : Type 0 where
  white : Hd
  claimed : (t : ℕ) → Hd
  count : (c : ℕ) → Hd
  locked : (i t : ℕ) → Hd

-- How many objects were made; of each its L and m, the slots filled, and the slots whose primary word is written (one
-- more than filled between the two writes of a Fill).
pub record Shape : Type 0 where
  pub n : ℕ
  pub len : ℕ → ℕ
  pub ptr : ℕ → ℕ
  pub fill : ℕ → ℕ
  pub wrote : ℕ → ℕ

-- What the flip found: how many objects there were, the slots filled, what was in them; what it placed.
pub record Snapshot : Type 0 where
  pub n : ℕ
  pub fill : ℕ → ℕ
  pub slots : ℕ → ℕ → ℕ
  pub roots : List ℕ

pub record State : Type 0 where
  pub shape : Shape
  -- what the slots of primaries and replicas hold, and which slots of a replica were ever written
  pub prim : ℕ → ℕ → ℕ
  pub rep : ℕ → ℕ → ℕ
  pub has : ℕ → ℕ → Bool
  pub hd : ℕ → Hd
  pub stack : List ℕ
  pub tasks : ℕ → Task
  pub roots : List Primary
  pub on : Bool
  pub snap : Snapshot

-- not white; placed; white or claimed
abbrev pub IsSeen : Hd → Type 0
IsSeen white = ⊥
IsSeen (claimed t) = Unit {0}
IsSeen (count c) = Unit {0}
IsSeen (locked i t) = Unit {0}

abbrev pub IsPlaced : Hd → Type 0
IsPlaced white = ⊥
IsPlaced (claimed t) = ⊥
IsPlaced (count c) = Unit {0}
IsPlaced (locked i t) = Unit {0}

abbrev pub IsUnplaced : Hd → Type 0
IsUnplaced white = Unit {0}
IsUnplaced (claimed t) = Unit {0}
IsUnplaced (count c) = ⊥
IsUnplaced (locked i t) = ⊥

-- the slots still to copy, of an object of length len
abbrev pub left : ℕ → Hd → ℕ
left len white = len
left len (claimed t) = len
left len (count c) = c
left len (locked i t) = suc i

-- those of a placed object
abbrev pub owes : Hd → ℕ
owes white = 0
owes (claimed t) = 0
owes (count c) = c
owes (locked i t) = suc i

-- ---- parts of a task entry
abbrev pub root : List Primary → ℕ → ℕ
root ps r = (get_or ps r nil).0

abbrev pub pending_is : Option Making → ℕ
pending_is None = 0
pending_is (Some d) = d.at.0

-- of the pending object; of the object and slot of the unfinished Store
abbrev pub OfPending : Option Making → (ℕ → Type 0) → Type 0
OfPending None P = ⊥
OfPending (Some d) P = P d.at.0

abbrev pub OfStore : Option Slot → (ℕ → ℕ → Type 0) → Type 0
OfStore None P = ⊥
OfStore (Some y) P = P y.object.0 y.index

-- a pointer, and not a plain word
abbrev pub is_renamed : Operand Replica → Bool
is_renamed (Plain w) = false
is_renamed (Pointer r) = true

-- a job on (x, i); a claim on x
abbrev pub JobIn : Holding → ℕ → ℕ → Type 0
JobIn Rests x i = ⊥
JobIn Asks x i = ⊥
JobIn Free x i = ⊥
JobIn (Job job) x i = (job.object.0 ≡ x) × (job.index ≡ i)
JobIn (Claim p) x i = ⊥
JobIn (Both p job) x i = (job.object.0 ≡ x) × (job.index ≡ i)

abbrev pub ClaimIn : Holding → ℕ → Type 0
ClaimIn Rests x = ⊥
ClaimIn Asks x = ⊥
ClaimIn Free x = ⊥
ClaimIn (Job job) x = ⊥
ClaimIn (Claim p) x = p.0 ≡ x
ClaimIn (Both p job) x = p.0 ≡ x

abbrev pub HasJob : Task → ℕ → ℕ → Type 0
HasJob e x i = JobIn (holding_of e.place) x i

abbrev pub HasClaim : Task → ℕ → Type 0
HasClaim e x = ClaimIn (holding_of e.place) x

-- the jobs in hand, 0 or 1
abbrev pub jobs_in : Holding → ℕ
jobs_in Rests = 0
jobs_in Asks = 0
jobs_in Free = 0
jobs_in (Job job) = 1
jobs_in (Claim p) = 0
jobs_in (Both p job) = 1

-- a Store whose primary is written and whose replica is not: at Meet; at Meet or behind it
abbrev pub MeetsAt : Place → Type 0
MeetsAt Idle = ⊥
MeetsAt (New want) = ⊥
MeetsAt (Asked want) = ⊥
MeetsAt (FillWrite v) = ⊥
MeetsAt (FillCopy c) = ⊥
MeetsAt (StoreWrite v) = ⊥
MeetsAt (Meet v) = Unit {0}
MeetsAt (StoreCopy c) = ⊥
MeetsAt (Take n) = ⊥
MeetsAt (Read n job) = ⊥
MeetsAt (Put n job c) = ⊥
MeetsAt (Release n job) = ⊥
MeetsAt (Looking p th) = ⊥
MeetsAt (Placing p th) = ⊥

abbrev pub LateThen : Then → Type 0
LateThen (ToWrite v) = ⊥
LateThen ToStoreCopy = Unit {0}
LateThen ToFillCopy = ⊥
LateThen (ToPut n job) = ⊥

abbrev pub LateAt : Place → Type 0
LateAt Idle = ⊥
LateAt (New want) = ⊥
LateAt (Asked want) = ⊥
LateAt (FillWrite v) = ⊥
LateAt (FillCopy c) = ⊥
LateAt (StoreWrite v) = ⊥
LateAt (Meet v) = Unit {0}
LateAt (StoreCopy c) = Unit {0}
LateAt (Take n) = ⊥
LateAt (Read n job) = ⊥
LateAt (Put n job c) = ⊥
LateAt (Release n job) = ⊥
LateAt (Looking p th) = LateThen th
LateAt (Placing p th) = LateThen th

abbrev pub On : Option Slot → ℕ → ℕ → Type 0
On s x j = OfStore s (λ y i. (y ≡ x) × (i ≡ j))

-- some task's Store on (x, j) is at Meet; is late
abbrev pub Meeting : (ℕ → Task) → ℕ → ℕ → Type 0
Meeting ts x j = (t : ℕ) × On (ts t).storing x j × MeetsAt (ts t).place

abbrev pub Late : (ℕ → Task) → ℕ → ℕ → Type 0
Late ts x j = (t : ℕ) × On (ts t).storing x j × LateAt (ts t).place
