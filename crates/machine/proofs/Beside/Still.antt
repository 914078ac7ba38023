-- The store in which nothing moves holds what the objects say.
use Rattle.std.specs.Prelude.{ℕ, ◌≤◌, ◌<◌, ◌≡◌, List, map, false, length, get_or, Option, Some, None}
use Rattle.table.specs.declared.Primary.{Primary}
use Rattle.table.specs.declared.Making.{Making}
use Rattle.table.specs.declared.Then.{Then}
use Rattle.table.specs.declared.Then.TheVariants.{ToWrite, ToStoreCopy, ToFillCopy, ToPut}
use Rattle.table.specs.declared.Place.{Place}
use Rattle.table.specs.declared.Place.TheVariants.{Idle, New, Asked, FillWrite, FillCopy, StoreWrite, Meet, StoreCopy, Take, Read, Put, Release, Looking, Placing}
use Rattle.table.specs.declared.Task.{Task}
use Rattle.machine.specs.Words.{operand_word, copied_word}
use Rattle.machine.specs.StillStore.{Store, Owner, Thing, Doing, resting, making, filling, storing, owner_at, thing_at, is_resting}
use Rattle.machine.proofs.Objects.State.{Shape, pending_is, OfStore}

abbrev pub number : Primary → ℕ
number p = p.0

-- what the store knows of an instruction that has not yet had its effect
abbrev pub DoingThen : Task → Doing → ℕ → Then → Type 0
DoingThen e d q (ToWrite v) = OfStore e.storing (λ x i. d ≡ storing x i (operand_word v))
DoingThen e d q ToStoreCopy = is_resting d ≡ false
DoingThen e d q ToFillCopy = d ≡ filling q
DoingThen e d q (ToPut n job) = is_resting d ≡ false

abbrev pub DoingAt : Task → Doing → Place → Type 0
DoingAt e d Idle = d ≡ resting
DoingAt e d (New want) = d ≡ making want.register want.len want.m
DoingAt e d (Asked want) = d ≡ making want.register want.len want.m
DoingAt e d (FillWrite v) = d ≡ filling (operand_word v)
DoingAt e d (FillCopy c) = d ≡ filling (copied_word c)
DoingAt e d (StoreWrite v) = OfStore e.storing (λ x i. d ≡ storing x i (operand_word v))
DoingAt e d (Meet v) = is_resting d ≡ false
DoingAt e d (StoreCopy c) = is_resting d ≡ false
DoingAt e d (Take n) = is_resting d ≡ false
DoingAt e d (Read n job) = is_resting d ≡ false
DoingAt e d (Put n job c) = is_resting d ≡ false
DoingAt e d (Release n job) = is_resting d ≡ false
DoingAt e d (Looking q th) = DoingThen e d q.0 th
DoingAt e d (Placing q th) = DoingThen e d q.0 th

-- the register that a pending object goes to
abbrev pub GoesTo : Option Making → ℕ → Type 0
GoesTo None r = Unit {0}
GoesTo (Some d) r = r ≡ d.register

pub record StillTask (e : Task) (w : Owner) : Type 0 where
  pub regs : w.regs ≡ map number e.regs
  pub pending : w.pending ≡ pending_is e.pending
  pub goes_to : GoesTo e.pending w.goes_to
  pub doing : DoingAt e w.doing e.place

pub record StillThing (sh : Shape) (prim : ℕ → ℕ → ℕ) (x : ℕ) (w : Thing) : Type 0 where
  pub len : w.len ≡ sh.len x
  pub ptr : w.m ≡ sh.ptr x
  pub fill : length w.slots ≡ sh.fill x
  pub slots : (j : ℕ) → j < sh.fill x → get_or w.slots j 0 ≡ prim x j

pub record Still (sh : Shape) (prim : ℕ → ℕ → ℕ) (ts : ℕ → Task) (roots : List Primary) (w : Store) : Type 0 where
  pub owners : length w.owners ≡ 8
  pub tasks : (i : ℕ) → i < 8 → StillTask (ts i) (owner_at w i)
  pub shared : w.roots ≡ map number roots
  pub things : length w.things ≡ sh.n
  pub each : (x : ℕ) → 0 < x → x ≤ sh.n → StillThing sh prim x (thing_at w x)
