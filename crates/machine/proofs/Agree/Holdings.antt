-- What a task of the table holds, by the objects: with their addresses, and the tests that a search makes of it.
use Rattle.std.specs.Prelude.{ℕ, ◌<◌, ◌≡◌, refl, true, false, Option, Some, None}
use Rattle.std.proofs.Common.{ap, sym, arith, eq-eqb}
use Rattle.table.specs.declared.Primary.{Primary}
use Rattle.table.specs.declared.Slot.{Slot}
use Rattle.table.specs.declared.Then.TheVariants.{ToWrite, ToStoreCopy, ToFillCopy, ToPut}
use Rattle.table.specs.declared.Place.{Place}
use Rattle.table.specs.declared.Place.TheVariants.{Idle, New, Asked, FillWrite, FillCopy, StoreWrite, Meet, StoreCopy, Take, Read, Put, Release, Looking, Placing}
use Rattle.table.specs.declared.Holding.{Holding}
use Rattle.table.specs.declared.Holding.TheVariants.{Rests, Asks, Free, Job, Claim, Both}
use Rattle.machine.specs.Words.{primary, slot_at}
use Rattle.machine.specs.Tasks.{holding_of, idle_of, claims_of, works_of, blocks_of, claim_is, slot_is, job_is, stores_at}
use Rattle.machine.proofs.Objects.Base.{off_on}
use Rattle.machine.proofs.Objects.State.{On, JobIn, ClaimIn, jobs_in}
use Rattle.machine.proofs.Objects.Flipped.{Restful}
use Rattle.machine.proofs.Agree.Encode.{at_primary, at_place, at_storing}

abbrev pub at_holding : (ℕ → ℕ) → Holding → Holding
at_holding pa Rests = Rests
at_holding pa Asks = Asks
at_holding pa Free = Free
at_holding pa (Job job) = Job (slot_at (at_primary pa job.object) job.index)
at_holding pa (Claim p) = Claim (at_primary pa p)
at_holding pa (Both p job) = Both (at_primary pa p) (slot_at (at_primary pa job.object) job.index)

pub holding_at : (pa ra : ℕ → ℕ) (pl : Place) → holding_of (at_place pa ra pl) ≡ at_holding pa (holding_of pl)
unfolding holding_of
holding_at pa ra Idle = refl
holding_at pa ra (New want) = refl
holding_at pa ra (Asked want) = refl
holding_at pa ra (FillWrite v) = refl
holding_at pa ra (FillCopy c) = refl
holding_at pa ra (StoreWrite v) = refl
holding_at pa ra (Meet v) = refl
holding_at pa ra (StoreCopy c) = refl
holding_at pa ra (Take n) = refl
holding_at pa ra (Read n job) = refl
holding_at pa ra (Put n job c) = refl
holding_at pa ra (Release n job) = refl
holding_at pa ra (Looking q (ToWrite v)) = refl
holding_at pa ra (Looking q ToStoreCopy) = refl
holding_at pa ra (Looking q ToFillCopy) = refl
holding_at pa ra (Looking q (ToPut n job)) = refl
holding_at pa ra (Placing q (ToWrite v)) = refl
holding_at pa ra (Placing q ToStoreCopy) = refl
holding_at pa ra (Placing q ToFillCopy) = refl
holding_at pa ra (Placing q (ToPut n job)) = refl

-- ---- the tests, by what is held
slot_is_lem : (pa : ℕ → ℕ) (x i : ℕ) (y : Primary) (j : ℕ) → y.0 ≡ x → j ≡ i → slot_is (primary (pa x)) i (at_primary pa y) j ≡ true
slot_is_lem pa x i y j a b = rw (eq-eqb (pa y.0) (pa x) (ap pa a)) (eq-eqb j i b)

pub claim_is_lem : (pa : ℕ → ℕ) (h : Holding) (x : ℕ) → ClaimIn h x → claim_is (primary (pa x)) (at_holding pa h) ≡ true
claim_is_lem pa (Claim p) x c = eq-eqb (pa p.0) (pa x) (ap pa c)
claim_is_lem pa (Both p job) x c = eq-eqb (pa p.0) (pa x) (ap pa c)
claim_is_lem pa _ x c = absurd c

pub job_is_lem : (pa : ℕ → ℕ) (h : Holding) (x i : ℕ) → JobIn h x i → job_is (primary (pa x)) i (at_holding pa h) ≡ true
job_is_lem pa (Job job) x i c = slot_is_lem pa x i job.object job.index c.0 c.1
job_is_lem pa (Both p job) x i c = slot_is_lem pa x i job.object job.index c.0 c.1
job_is_lem pa _ x i c = absurd c

pub claims : (pa : ℕ → ℕ) (h : Holding) (x : ℕ) → ClaimIn h x → claims_of (at_holding pa h) ≡ true
claims pa (Claim p) x c = refl
claims pa (Both p job) x c = refl
claims pa _ x c = absurd c

pub claim_works : (pa : ℕ → ℕ) (h : Holding) → claims_of (at_holding pa h) ≡ true → works_of (at_holding pa h) ≡ true
claim_works pa (Job job) e = refl
claim_works pa (Claim p) e = refl
claim_works pa (Both p job) e = refl
claim_works pa _ e = e

pub job_works : (pa : ℕ → ℕ) (h : Holding) → 0 < jobs_in h → works_of (at_holding pa h) ≡ true
job_works pa (Job job) l = refl
job_works pa (Both p job) l = refl
job_works pa _ l = absurd (omega arith)

pub idle_only : (pa : ℕ → ℕ) (pl : Place) → idle_of (at_holding pa (holding_of pl)) ≡ true → pl ≡ Idle
unfolding holding_of
idle_only pa Idle e = refl
idle_only pa (New want) e = off_on e
idle_only pa (Asked want) e = off_on e
idle_only pa (FillWrite v) e = off_on e
idle_only pa (FillCopy c) e = off_on e
idle_only pa (StoreWrite v) e = off_on e
idle_only pa (Meet v) e = off_on e
idle_only pa (StoreCopy c) e = off_on e
idle_only pa (Take n) e = off_on e
idle_only pa (Read n job) e = off_on e
idle_only pa (Put n job c) e = off_on e
idle_only pa (Release n job) e = off_on e
idle_only pa (Looking q (ToWrite v)) e = off_on e
idle_only pa (Looking q ToStoreCopy) e = off_on e
idle_only pa (Looking q ToFillCopy) e = off_on e
idle_only pa (Looking q (ToPut n job)) e = off_on e
idle_only pa (Placing q (ToWrite v)) e = off_on e
idle_only pa (Placing q ToStoreCopy) e = off_on e
idle_only pa (Placing q ToFillCopy) e = off_on e
idle_only pa (Placing q (ToPut n job)) e = off_on e

pub restful : (pa : ℕ → ℕ) (pl : Place) → blocks_of (at_holding pa (holding_of pl)) ≡ false → Restful pl
unfolding holding_of
restful pa Idle e = tt
restful pa (New want) e = tt
restful pa (Asked want) e = tt
restful pa (FillWrite v) e = off_on (sym e)
restful pa (FillCopy c) e = off_on (sym e)
restful pa (StoreWrite v) e = off_on (sym e)
restful pa (Meet v) e = off_on (sym e)
restful pa (StoreCopy c) e = off_on (sym e)
restful pa (Take n) e = off_on (sym e)
restful pa (Read n job) e = off_on (sym e)
restful pa (Put n job c) e = off_on (sym e)
restful pa (Release n job) e = off_on (sym e)
restful pa (Looking q (ToWrite v)) e = off_on (sym e)
restful pa (Looking q ToStoreCopy) e = off_on (sym e)
restful pa (Looking q ToFillCopy) e = off_on (sym e)
restful pa (Looking q (ToPut n job)) e = off_on (sym e)
restful pa (Placing q (ToWrite v)) e = off_on (sym e)
restful pa (Placing q ToStoreCopy) e = off_on (sym e)
restful pa (Placing q ToFillCopy) e = off_on (sym e)
restful pa (Placing q (ToPut n job)) e = off_on (sym e)

pub store_there_lem : (pa : ℕ → ℕ) (q : Option Slot) (x j : ℕ) → On q x j → stores_at (primary (pa x)) j (at_storing pa q) ≡ true
store_there_lem pa None x j w = absurd w
store_there_lem pa (Some y) x j w = slot_is_lem pa x j y.object y.index w.0 w.1
