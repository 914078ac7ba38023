-- The invariant of the heap by objects, in groups: shapes and what is kept; headers and copies; entries and places; owners.
use Rattle.std.specs.Prelude.{ℕ, suc, ◌≤◌, ◌<◌, ◌≡◌, ◌⊎◌, List, [], Bool, true, false, length, ltb, Option, Some, None}
use Rattle.table.specs.declared.Making.{Making}
use Rattle.table.specs.declared.Slot.{Slot}
use Rattle.table.specs.declared.Operand.{Operand}
use Rattle.table.specs.declared.Primary.{Primary}
use Rattle.table.specs.declared.Replica.{Replica}
use Rattle.table.specs.declared.Operand.TheVariants.{Plain, Pointer}
use Rattle.table.specs.declared.Then.{Then}
use Rattle.table.specs.declared.Then.TheVariants.{ToWrite, ToStoreCopy, ToFillCopy, ToPut}
use Rattle.table.specs.declared.Place.{Place}
use Rattle.table.specs.declared.Place.TheVariants.{Idle, New, Asked, FillWrite, FillCopy, StoreWrite, Meet, StoreCopy, Take, Read, Put, Release, Looking, Placing}
use Rattle.table.specs.declared.Task.{Task}
use Rattle.machine.specs.Words.{operand_word, copied_word}
use Rattle.machine.specs.Begin.{is_pointer}
use Rattle.machine.specs.Setup.{fresh_task}
use Rattle.machine.specs.Objects.Base.{In}
use Rattle.machine.proofs.Objects.Base.{Nodup}
use Rattle.machine.proofs.Objects.State.{Hd, white, claimed, count, locked, Shape, Snapshot, State, IsSeen, IsPlaced, IsUnplaced, left, root, pending_is, OfPending, OfStore, On, is_renamed, HasJob, HasClaim, Meeting, Late}

-- K x: object x was not discarded by a flip (so x keeps its words; objects still to be made count as kept).

-- ---- shapes and what is kept
-- kept, and all its slots filled: what a pointer leads to
abbrev pub Sound : (ℕ → Type 0) → Shape → ℕ → Type 0
Sound K sh x = K x × (x ≤ sh.n) × (sh.fill x ≡ sh.len x)

abbrev pub SoundOperand : (ℕ → Type 0) → Shape → Operand Primary → Type 0
SoundOperand K sh (Plain w) = Unit {0}
SoundOperand K sh (Pointer p) = Sound K sh p.0

-- a value for a replica's slot: its target is placed
abbrev pub SoundCopied : (ℕ → Type 0) → Shape → (ℕ → Hd) → Operand Replica → Type 0
SoundCopied K sh hd (Plain w) = Unit {0}
SoundCopied K sh hd (Pointer r) = Sound K sh r.0 × IsPlaced (hd r.0)

-- nil is kept, has no slot, and counts as placed; pointers in filled slots of kept objects are sound, those in written slots name objects made
pub record Shapes (K : ℕ → Type 0) (s : ℕ) (sh : Shape) (prim : ℕ → ℕ → ℕ) (hd : ℕ → Hd) : Type 0 where
  pub kept : K 0
  pub none : sh.len 0 ≡ 0
  pub nil : hd 0 ≡ count 0
  pub future : (x : ℕ) → sh.n < x → K x × (sh.len x ≡ 0)
  pub low : (x : ℕ) → x ≤ sh.n → sh.ptr x ≤ sh.len x
  pub high : (x : ℕ) → x ≤ sh.n → sh.len x ≤ s
  pub filled : (x : ℕ) → sh.fill x ≤ sh.wrote x
  pub written : (x : ℕ) → sh.wrote x ≤ sh.len x
  pub closed : (x j : ℕ) → K x → x ≤ sh.n → j < sh.fill x → j < sh.ptr x → Sound K sh (prim x j)
  pub named : (x j : ℕ) → K x → x ≤ sh.n → j < sh.wrote x → j < sh.ptr x → prim x j ≤ sh.n

-- ---- headers and copies, while collecting; Lt: which slots a late Store is on
-- what the snapshot leads to from what the flip placed
pub data Reach (sh : Shape) (g : Snapshot) : ℕ → Type 0 where
  from : {x : ℕ} → In x g.roots → Reach sh g x
  edge : {x : ℕ} (j : ℕ) → Reach sh g x → j < g.fill x → j < sh.ptr x → Reach sh g (g.slots x j)

pub record Colours (K : ℕ → Type 0) (sh : Shape) (g : Snapshot) (hd : ℕ → Hd) (prim rep : ℕ → ℕ → ℕ) (has : ℕ → ℕ → Bool) (stack : List ℕ)
    (Lt : ℕ → ℕ → Type 0) : Type 0 where
  -- on the stack once, exactly if placed with slots to copy
  pub stacked : (x : ℕ) → In x stack → (0 < x) × (x ≤ sh.n) × K x × (c : ℕ) × (hd x ≡ count (suc c))
  pub once : Nodup stack
  pub grey : (x c : ℕ) → hd x ≡ count (suc c) → In x stack
  -- a placed object has at most the slots to copy that were filled at the flip; another has had all its slots filled then
  pub bound : (x : ℕ) → IsPlaced (hd x) → left (sh.len x) (hd x) ≤ g.fill x
  pub unplaced : (x : ℕ) → K x → x ≤ sh.n → IsUnplaced (hd x) → g.fill x ≡ sh.len x
  pub older : (x : ℕ) → g.fill x ≤ sh.fill x
  -- made since the flip: nothing to copy
  pub newer : (x : ℕ) → g.n < x → hd x ≡ count 0
  -- a copied slot: written, and the same as in the primary or a late Store is on it; what a written slot points to is placed and made
  pub written : (x j : ℕ) → IsPlaced (hd x) → left (sh.len x) (hd x) ≤ j → j < sh.fill x → has x j ≡ true
  pub copied : (x j : ℕ) → IsPlaced (hd x) → left (sh.len x) (hd x) ≤ j → j < sh.fill x → (rep x j ≡ prim x j) ⊎ Lt x j
  pub target : (x j : ℕ) → IsPlaced (hd x) → has x j ≡ true → j < sh.ptr x → IsPlaced (hd (rep x j)) × (rep x j ≤ sh.n)
  -- what a slot pointed to at the flip: seen, or still there in a slot still to copy with no late Store on it
  pub saw : (x j : ℕ) → j < g.fill x → j < sh.ptr x
      → IsSeen (hd (g.slots x j)) ⊎ ((j < left (sh.len x) (hd x)) × (prim x j ≡ g.slots x j) × (Lt x j → ⊥))
  pub roots : (x : ℕ) → In x g.roots → IsSeen (hd x)
  pub reached : (x : ℕ) → K x → x ≤ g.n → Reach sh g x
  pub known : g.n ≤ sh.n

-- ---- task entries: registers, the pending object, the object of a Store
abbrev pub PendingOk : (ℕ → Type 0) → Shape → (ℕ → Hd) → Bool → Option Making → Type 0
PendingOk K sh hd on None = Unit {0}
PendingOk K sh hd on (Some d) =
    (0 < d.at.0) × K d.at.0 × (d.at.0 ≤ sh.n) × (d.len ≡ sh.len d.at.0) × (d.filled ≡ sh.fill d.at.0) × (d.register < 8) × (on ≡ true → IsPlaced (hd d.at.0))

abbrev pub StoringOk : (ℕ → Type 0) → Shape → Option Slot → Type 0
StoringOk K sh None = Unit {0}
StoringOk K sh (Some y) = (0 < y.object.0) × Sound K sh y.object.0 × (y.index < sh.len y.object.0)

pub record EntryOk (K : ℕ → Type 0) (sh : Shape) (hd : ℕ → Hd) (on : Bool) (e : Task) : Type 0 where
  pub eight : length e.regs ≡ 8
  pub regs : (r : ℕ) → Sound K sh (root e.regs r)
  pub pending : PendingOk K sh hd on e.pending
  pub storing : StoringOk K sh e.storing

-- ---- places; Mt: the slots that a Store at Meet is on
-- a pending object with a slot still to fill
abbrev pub Unfull : Option Making → Type 0
Unfull None = Unit {0}
Unfull (Some d) = d.filled < d.len

-- between the two writes of a Fill: the pending object's next slot has been written with v
abbrev pub HalfFilled : Shape → (ℕ → ℕ → ℕ) → Task → ℕ → Bool → Type 0
HalfFilled sh prim e v pointer =
    (e.storing ≡ None)
    × OfPending e.pending (λ x. (sh.fill x < sh.len x) × (sh.wrote x ≡ suc (sh.fill x)) × (prim x (sh.fill x) ≡ v) × (pointer ≡ ltb (sh.fill x) (sh.ptr x)))

-- what a look at q, and what follows it, stand on
abbrev pub ThenOk : (ℕ → Type 0) → Shape → (ℕ → Hd) → (ℕ → ℕ → ℕ) → (ℕ → ℕ → Type 0) → ℕ → Task → ℕ → Then → Type 0
ThenOk K sh hd prim Mt t e q (ToWrite v) =
    OfStore e.storing (λ x i. (i < sh.ptr x) × (prim x i ≡ q)) × (is_pointer v ≡ true) × SoundOperand K sh v
ThenOk K sh hd prim Mt t e q ToStoreCopy = OfStore e.storing (λ x i. (i < sh.ptr x) × (prim x i ≡ q) × IsPlaced (hd x))
ThenOk K sh hd prim Mt t e q ToFillCopy = HalfFilled sh prim e q true
ThenOk K sh hd prim Mt t e q (ToPut n job) =
    (0 < n) × (hd job.object.0 ≡ locked job.index t) × (job.index < sh.ptr job.object.0) × ((prim job.object.0 job.index ≡ q) ⊎ Mt job.object.0 job.index)

abbrev pub NewOk : ℕ → Task → ℕ → ℕ → ℕ → Type 0
NewOk s e r len m = (e.pending ≡ None) × (e.storing ≡ None) × (r < 8) × (len ≤ s) × (m ≤ len)

abbrev pub PlaceOk : (ℕ → Type 0) → ℕ → Shape → (ℕ → Hd) → (ℕ → ℕ → ℕ) → (ℕ → ℕ → ℕ) → (ℕ → ℕ → Bool) → (ℕ → ℕ → Type 0) → Bool → ℕ → Task → Place → Type 0
PlaceOk K s sh hd prim rep has Mt on t e Idle = Unfull e.pending × (e.storing ≡ None)
PlaceOk K s sh hd prim rep has Mt on t e (New want) = NewOk s e want.register want.len want.m
PlaceOk K s sh hd prim rep has Mt on t e (Asked want) = (on ≡ false) × NewOk s e want.register want.len want.m
PlaceOk K s sh hd prim rep has Mt on t e (FillWrite v) =
    (e.storing ≡ None) × OfPending e.pending (λ x. (sh.fill x < sh.len x) × (is_pointer v ≡ ltb (sh.fill x) (sh.ptr x))) × SoundOperand K sh v
PlaceOk K s sh hd prim rep has Mt on t e (FillCopy c) =
    (on ≡ true) × HalfFilled sh prim e (copied_word c) (is_renamed c) × SoundCopied K sh hd c
PlaceOk K s sh hd prim rep has Mt on t e (StoreWrite v) =
    OfStore e.storing (λ x i. (is_pointer v ≡ ltb i (sh.ptr x)) × (on ≡ true → i < sh.ptr x → IsSeen (hd (prim x i)))) × SoundOperand K sh v
PlaceOk K s sh hd prim rep has Mt on t e (Meet v) =
    (on ≡ true) × OfStore e.storing (λ x i. (is_pointer v ≡ ltb i (sh.ptr x)) × (prim x i ≡ operand_word v)) × SoundOperand K sh v
PlaceOk K s sh hd prim rep has Mt on t e (StoreCopy c) =
    (on ≡ true) × OfStore e.storing (λ x i. (is_renamed c ≡ ltb i (sh.ptr x)) × (prim x i ≡ copied_word c) × IsPlaced (hd x)) × SoundCopied K sh hd c
PlaceOk K s sh hd prim rep has Mt on t e (Take n) = (on ≡ true) × (0 < n)
PlaceOk K s sh hd prim rep has Mt on t e (Read n job) = (on ≡ true) × (0 < n) × (hd job.object.0 ≡ locked job.index t)
PlaceOk K s sh hd prim rep has Mt on t e (Put n job c) =
    (on ≡ true) × (0 < n) × (hd job.object.0 ≡ locked job.index t) × (is_renamed c ≡ ltb job.index (sh.ptr job.object.0))
    × ((prim job.object.0 job.index ≡ copied_word c) ⊎ Mt job.object.0 job.index) × SoundCopied K sh hd c
PlaceOk K s sh hd prim rep has Mt on t e (Release n job) =
    (on ≡ true) × (0 < n) × (hd job.object.0 ≡ locked job.index t) × (has job.object.0 job.index ≡ true)
    × ((rep job.object.0 job.index ≡ prim job.object.0 job.index) ⊎ Mt job.object.0 job.index)
PlaceOk K s sh hd prim rep has Mt on t e (Looking q th) =
    (on ≡ true) × (0 < q.0) × Sound K sh q.0 × ThenOk K sh hd prim Mt t e q.0 th
PlaceOk K s sh hd prim rep has Mt on t e (Placing q th) =
    (on ≡ true) × (0 < q.0) × Sound K sh q.0 × (hd q.0 ≡ claimed t) × ThenOk K sh hd prim Mt t e q.0 th

-- ---- owners: who locked or claimed, and that no two tasks have one pending object or one slot in store
pub record Owners (p : ℕ) (sh : Shape) (K : ℕ → Type 0) (hd : ℕ → Hd) (ts : ℕ → Task) : Type 0 where
  pub locker : (x i t : ℕ) → hd x ≡ locked i t → (t < p) × (0 < x) × (x ≤ sh.n) × K x × HasJob (ts t) x i
  pub claimer : (x t : ℕ) → hd x ≡ claimed t → (t < p) × (0 < x) × (x ≤ sh.n) × K x × HasClaim (ts t) x
  pub pendings : (t u : ℕ) → 0 < pending_is (ts t).pending → pending_is (ts t).pending ≡ pending_is (ts u).pending → t ≡ u
  pub stores : (t u x i : ℕ) → On (ts t).storing x i → On (ts u).storing x i → t ≡ u
  pub beyond : (t : ℕ) → p ≤ t → ts t ≡ fresh_task

-- off: every object white, nothing stacked
pub record Off (hd : ℕ → Hd) (stack : List ℕ) : Type 0 where
  pub all : (x : ℕ) → 0 < x → hd x ≡ white
  pub empty : stack ≡ []

abbrev pub Mode : Bool → (ℕ → Type 0) → Shape → Snapshot → (ℕ → Hd) → (ℕ → ℕ → ℕ) → (ℕ → ℕ → ℕ) → (ℕ → ℕ → Bool) → List ℕ → (ℕ → ℕ → Type 0) → Type 0
Mode true K sh g hd prim rep has stack Lt = Colours K sh g hd prim rep has stack Lt
Mode false K sh g hd prim rep has stack Lt = Off hd stack

pub record Inv (K : ℕ → Type 0) (p s : ℕ) (o : State) : Type 0 where
  pub shapes : Shapes K s o.shape o.prim o.hd
  pub mode : Mode o.on K o.shape o.snap o.hd o.prim o.rep o.has o.stack (Late o.tasks)
  pub eight : length o.roots ≡ 8
  pub roots : (r : ℕ) → Sound K o.shape (root o.roots r)
  pub entries : (t : ℕ) → EntryOk K o.shape o.hd o.on (o.tasks t)
  pub places : (t : ℕ) → PlaceOk K s o.shape o.hd o.prim o.rep o.has (Meeting o.tasks) o.on t (o.tasks t) (o.tasks t).place
  pub owners : Owners p o.shape K o.hd o.tasks
