-- What a change keeps for a task whose entry it leaves alone: its registers, its pending object, its Store, its place.
use Rattle.std.specs.Prelude.{ℕ, ◌≤◌, ◌<◌, ◌≡◌, refl, ◌⊎◌, Bool, true, Option, Some, None}
use Rattle.std.proofs.Common.{sym, ◌∙◌, arith}
use Rattle.table.specs.declared.Making.{Making}
use Rattle.table.specs.declared.Slot.{Slot}
use Rattle.table.specs.declared.Operand.{Operand}
use Rattle.table.specs.declared.Primary.{Primary}
use Rattle.table.specs.declared.Replica.{Replica}
use Rattle.table.specs.declared.Operand.TheVariants.{Plain, Pointer}
use Rattle.table.specs.declared.Then.{Then}
use Rattle.table.specs.declared.Then.TheVariants.{ToWrite, ToStoreCopy, ToFillCopy, ToPut}
use Rattle.table.specs.declared.Place.{Place}
use Rattle.table.specs.declared.Place.TheVariants.{FillWrite, FillCopy, StoreWrite, Meet, StoreCopy, Read, Put, Release, Looking, Placing}
use Rattle.table.specs.declared.Task.{Task}
use Rattle.machine.proofs.Objects.State.{Hd, claimed, locked, Shape, IsSeen, IsPlaced, pending_is, OfPending, OfStore, On}
use Rattle.machine.proofs.Objects.Inv.{Sound, SoundOperand, SoundCopied, PendingOk, StoringOk, EntryOk, HalfFilled, ThenOk, PlaceOk}

pub record Keep (K : ℕ → Type 0) (sh sh' : Shape) (hd hd' : ℕ → Hd) (prim prim' rep rep' : ℕ → ℕ → ℕ) (has has' : ℕ → ℕ → Bool)
    (Mt Mt' : ℕ → ℕ → Type 0) (u : ℕ) (e : Task) : Type 0 where
  pub size : sh.n ≤ sh'.n
  pub sound : (x : ℕ) → Sound K sh x → Sound K sh' x
  pub len : (x : ℕ) → x ≤ sh.n → sh'.len x ≡ sh.len x
  pub ptr : (x : ℕ) → x ≤ sh.n → sh'.ptr x ≡ sh.ptr x
  pub placed : (x : ℕ) → IsPlaced (hd x) → IsPlaced (hd' x)
  pub seen : (x : ℕ) → IsSeen (hd x) → IsSeen (hd' x)
  pub claim : (x : ℕ) → hd x ≡ claimed u → hd' x ≡ claimed u
  -- the job of u, if it has one
  pub lock : (x i : ℕ) → hd x ≡ locked i u → hd' x ≡ locked i u
  pub slots : (x i : ℕ) → hd x ≡ locked i u → sh'.ptr x ≡ sh.ptr x
  pub read : (x i q : ℕ) → hd x ≡ locked i u → (prim x i ≡ q) ⊎ Mt x i → (prim' x i ≡ q) ⊎ Mt' x i
  pub put : (x i : ℕ) → hd x ≡ locked i u → (rep x i ≡ prim x i) ⊎ Mt x i → (rep' x i ≡ prim' x i) ⊎ Mt' x i
  pub written : (x i : ℕ) → hd x ≡ locked i u → has x i ≡ true → has' x i ≡ true
  -- the slot of its Store, and its pending object
  pub store : (x i : ℕ) → On e.storing x i → prim' x i ≡ prim x i
  pub fill : (x : ℕ) → pending_is e.pending ≡ x → 0 < x → sh'.fill x ≡ sh.fill x
  pub wrote : (x : ℕ) → pending_is e.pending ≡ x → 0 < x → sh'.wrote x ≡ sh.wrote x
  pub next : (x : ℕ) → pending_is e.pending ≡ x → 0 < x → prim' x (sh.fill x) ≡ prim x (sh.fill x)

-- a fact of the Store's slot, or of the pending object, made into another
pub of_store : (s : Option Slot) {P Q : ℕ → ℕ → Type 0} → ((x i : ℕ) → On s x i → P x i → Q x i) → OfStore s P → OfStore s Q
of_store None f p = p
of_store (Some y) f p = f y.object.0 y.index (refl, refl) p

pub of_pending : (K : ℕ → Type 0) (sh : Shape) (hd : ℕ → Hd) (on : Bool) (d : Option Making) → PendingOk K sh hd on d → {P Q : ℕ → Type 0}
    → ((x : ℕ) → pending_is d ≡ x → 0 < x → x ≤ sh.n → P x → Q x) → OfPending d P → OfPending d Q
of_pending K sh hd on None o f p = p
of_pending K sh hd on (Some d) o g p = g d.at.0 refl o.0 o.2 p

pub store_made : (K : ℕ → Type 0) (sh : Shape) (s : Option Slot) → StoringOk K sh s → (x i : ℕ) → On s x i → x ≤ sh.n
store_made K sh None o x i p = absurd p
store_made K sh (Some y) o x i p = let a : y.object.0 ≡ x = p.0 in omega (arith, o.1.1)

module _ {K : ℕ → Type 0} {sh sh' : Shape} {hd hd' : ℕ → Hd} {prim prim' rep rep' : ℕ → ℕ → ℕ} {has has' : ℕ → ℕ → Bool} {Mt Mt' : ℕ → ℕ → Type 0} {u : ℕ} {e : Task}
    (k : Keep K sh sh' hd hd' prim prim' rep rep' has has' Mt Mt' u e) where
  keep_operand : (v : Operand Primary) → SoundOperand K sh v → SoundOperand K sh' v
  keep_operand (Plain w) o = tt
  keep_operand (Pointer p) o = k.sound p.0 o

  keep_copied : (c : Operand Replica) → SoundCopied K sh hd c → SoundCopied K sh' hd' c
  keep_copied (Plain w) o = tt
  keep_copied (Pointer r) o = (k.sound r.0 o.0, k.placed r.0 o.1)

  keep_pending : (on : Bool) (d : Option Making) → pending_is d ≡ pending_is e.pending → PendingOk K sh hd on d → PendingOk K sh' hd' on d
  keep_pending on None q o = tt
  keep_pending on (Some d) q o = (
    o.0,
    o.1,
    omega (arith, o.2, k.size),
    o.3 ∙ sym (k.len d.at.0 o.2),
    o.4 ∙ sym (k.fill d.at.0 (sym q) o.0),
    o.5,
    λ c. k.placed d.at.0 (o.6 c),
  )

  keep_storing : (s : Option Slot) → StoringOk K sh s → StoringOk K sh' s
  keep_storing None o = tt
  keep_storing (Some y) o = let a = k.len y.object.0 o.1.1 in (o.0, k.sound y.object.0 o.1, omega (arith, o.2))

  pub keep_entry : (on : Bool) → EntryOk K sh hd on e → EntryOk K sh' hd' on e
  keep_entry on o = record {
    eight = o.eight;
    regs = λ r. k.sound _ (o.regs r);
    pending = keep_pending on e.pending refl o.pending;
    storing = keep_storing e.storing o.storing;
  }

  module _ (on : Bool) (o : EntryOk K sh hd on e) where
    made : (x i : ℕ) → On e.storing x i → x ≤ sh.n
    made = store_made K sh e.storing o.storing

    keep_half : (v : ℕ) (b : Bool) → HalfFilled sh prim e v b → HalfFilled sh' prim' e v b
    keep_half v b h = (
      h.0,
      of_pending K sh hd on e.pending o.pending
          (λ x q z m h. rw (k.fill x q z, k.wrote x q z, k.len x m, k.ptr x m, k.next x q z) h) h.1,
    )

    keep_then : (q : ℕ) (th : Then) → ThenOk K sh hd prim Mt u e q th → ThenOk K sh' hd' prim' Mt' u e q th
    keep_then q (ToWrite v) h =
        (of_store e.storing (λ x i a h. rw (k.ptr x (made x i a), k.store x i a) h) h.0, h.1, keep_operand v h.2)
    keep_then q ToStoreCopy h =
        of_store e.storing (λ x i a h. (rw (k.ptr x (made x i a)) h.0, rw (k.store x i a) h.1, k.placed x h.2)) h
    keep_then q ToFillCopy h = keep_half q true h
    keep_then q (ToPut n job) h = (h.0, k.lock job.object.0 job.index h.1, rw (k.slots job.object.0 job.index h.1) h.2, k.read job.object.0 job.index q h.1 h.3)

    pub keep_place : (s : ℕ) (pl : Place) → PlaceOk K s sh hd prim rep has Mt on u e pl → PlaceOk K s sh' hd' prim' rep' has' Mt' on u e pl
    keep_place s (FillWrite v) h = (
      h.0,
      of_pending K sh hd on e.pending o.pending (λ x q z m h. rw (k.fill x q z, k.len x m, k.ptr x m) h) h.1,
      keep_operand v h.2,
    )
    keep_place s (FillCopy c) h = (h.0, keep_half _ _ h.1, keep_copied c h.2)
    keep_place s (StoreWrite v) h = (
      of_store e.storing
          (λ x i a h. (rw (k.ptr x (made x i a)) h.0, λ c l. rw (k.store x i a) (k.seen _ (h.1 c (rw (← (k.ptr x (made x i a))) l))))) h.0,
      keep_operand v h.1,
    )
    keep_place s (Meet v) h =
        (h.0, of_store e.storing (λ x i a h. rw (k.ptr x (made x i a), k.store x i a) h) h.1, keep_operand v h.2)
    keep_place s (StoreCopy c) h = (
      h.0,
      of_store e.storing (λ x i a h. (rw (k.ptr x (made x i a)) h.0, rw (k.store x i a) h.1, k.placed x h.2)) h.1,
      keep_copied c h.2,
    )
    keep_place s (Read n job) h = (h.0, h.1, k.lock job.object.0 job.index h.2)
    keep_place s (Put n job c) h =
        (h.0, h.1, k.lock job.object.0 job.index h.2, rw (k.slots job.object.0 job.index h.2) h.3, k.read job.object.0 job.index _ h.2 h.4, keep_copied c h.5)
    keep_place s (Release n job) h = (h.0, h.1, k.lock job.object.0 job.index h.2, k.written job.object.0 job.index h.2 h.3, k.put job.object.0 job.index h.2 h.4)
    keep_place s (Looking q th) h = (h.0, h.1, k.sound q.0 h.2, keep_then q.0 th h.3)
    keep_place s (Placing q th) h = (h.0, h.1, k.sound q.0 h.2, k.claim q.0 h.3, keep_then q.0 th h.4)
    keep_place s _ h = h
