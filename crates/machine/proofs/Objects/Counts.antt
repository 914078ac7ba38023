-- Words, copies and payments, while collecting: what each object claims, what has been copied, what each task owes.
use Rattle.std.specs.Prelude.{ℕ, zero, suc, ◌+◌, ◌-◌, ◌*◌, ◌≤◌, ◌<◌, ◌≡◌, List, [], Bool, true, false, length, leb, eqb, Option, Some, None}
use Rattle.table.specs.declared.Making.{Making}
use Rattle.table.specs.declared.Then.{Then}
use Rattle.table.specs.declared.Then.TheVariants.{ToWrite, ToStoreCopy, ToFillCopy, ToPut}
use Rattle.table.specs.declared.Place.{Place}
use Rattle.table.specs.declared.Place.TheVariants.{Idle, New, Asked, FillWrite, FillCopy, StoreWrite, Meet, StoreCopy, Take, Read, Put, Release, Looking, Placing}
use Rattle.table.specs.declared.Task.{Task}
use Rattle.machine.specs.Basics.{pick}
use Rattle.machine.proofs.Objects.Base.{sum_to}
use Rattle.machine.proofs.Objects.State.{Hd, white, claimed, count, locked, Shape, Snapshot, IsSeen, IsPlaced, left, HasClaim}
use Rattle.machine.proofs.Objects.Inv.{Reach}
use Rattle.machine.specs.History.{Copy, InCopies, NoCopyTwice}

-- ---- words
abbrev pub is_placed : Hd → Bool
is_placed white = false
is_placed (claimed t) = false
is_placed (count c) = true
is_placed (locked i t) = true

-- the words that object x has claimed in the space in use: its replica's; both blocks of one made since the flip
abbrev pub claims : Shape → Snapshot → (ℕ → Hd) → ℕ → ℕ
claims sh g hd x = pick (eqb x 0) 0 (pick (leb x g.n) (pick (is_placed (hd x)) (sh.len x + 2) 0) (2 * (sh.len x + 2)))

-- the words of an object made since the flip
abbrev pub new_words : Shape → Snapshot → ℕ → ℕ
new_words sh g x = pick (leb x g.n) 0 (sh.len x + 2)

-- on the stack or in hand
abbrev pub is_grey : Hd → ℕ
is_grey white = 0
is_grey (claimed t) = 0
is_grey (count zero) = 0
is_grey (count (suc c)) = 1
is_grey (locked i t) = 1

-- ---- payments
-- copies of its payment that a task has still to make
abbrev pub then_left : Then → ℕ
then_left (ToWrite v) = 0
then_left ToStoreCopy = 0
then_left ToFillCopy = 0
then_left (ToPut n job) = n

abbrev pub left_to_pay : Place → ℕ
left_to_pay Idle = 0
left_to_pay (New want) = 0
left_to_pay (Asked want) = 0
left_to_pay (FillWrite v) = 0
left_to_pay (FillCopy c) = 0
left_to_pay (StoreWrite v) = 0
left_to_pay (Meet v) = 0
left_to_pay (StoreCopy c) = 0
left_to_pay (Take n) = n
left_to_pay (Read n job) = n
left_to_pay (Put n job c) = n
left_to_pay (Release n job) = n
left_to_pay (Looking q th) = then_left th
left_to_pay (Placing q th) = then_left th

-- slots of its pending object still to fill
abbrev pub unfilled : Option Making → ℕ
unfilled None = 0
unfilled (Some d) = d.len - d.filled

-- what a task still owes: the payment in hand, k for each slot to fill, and what was forgiven it when nothing was grey
abbrev pub owing : ℕ → ℕ → Task → ℕ
owing k forgiven e = left_to_pay e.place + k * unfilled e.pending + forgiven

-- k, P and S; the numbers of the table; the copies made, and what each task was forgiven
pub record Counts (k p s : ℕ) (sh : Shape) (g : Snapshot) (hd : ℕ → Hd) (stack : List ℕ) (ts : ℕ → Task) (base a j copies : ℕ) (made : List Copy) (forgiven : ℕ → ℕ)
    : Type 0 where
  -- every word below A is claimed
  pub words : a ≡ base + sum_to (suc sh.n) (claims sh g hd)
  pub greys : length stack + j ≡ sum_to (suc sh.n) (λ x. is_grey (hd x))
  -- only what the flip reached is seen
  pub reach : (x : ℕ) → 0 < x → x ≤ g.n → IsSeen (hd x) → Reach sh g x
  -- the copies: each once, exactly the slots filled at the flip that are behind the count
  pub copied : copies ≡ length made
  pub once : NoCopyTwice made
  pub which : (x i : ℕ) → InCopies x i made → (0 < x) × (x ≤ g.n) × IsPlaced (hd x) × (left (sh.len x) (hd x) ≤ i) × (i < g.fill x)
  pub each : (x i : ℕ) → 0 < x → x ≤ g.n → IsPlaced (hd x) → left (sh.len x) (hd x) ≤ i → i < g.fill x → InCopies x i made
  -- what was made since the flip is paid for, but for what the tasks owe
  pub paid : k * sum_to (suc sh.n) (new_words sh g) ≤ copies + sum_to p (λ t. owing k (forgiven t) (ts t))
  pub most : (t : ℕ) → owing k (forgiven t) (ts t) ≤ k * (s + 2)
  -- forgiven only when nothing is grey, and to a task that is idle since
  pub forgave : (t : ℕ) → 0 < forgiven t → (stack ≡ []) × (j ≡ 0) × ((u x : ℕ) → HasClaim (ts u) x → ⊥) × ((ts t).place ≡ Idle)
