-- The calls that complete at once: what is tested first, in the machine and in the store alike.
use Rattle.std.specs.Prelude.{ℕ, ◌<◌, ◌≡◌, refl, List, Bool, true, false, ltb}
use Rattle.std.proofs.Common.{ap, sym, arith, ltb-true, ltb-false}
use Rattle.table.specs.declared.Limits.{Limits}
use Rattle.table.specs.declared.Place.{Place}
use Rattle.table.specs.declared.Place.TheVariants.{Idle, New, Asked, FillWrite, FillCopy, StoreWrite, Meet, StoreCopy, Take, Read, Put, Release, Looking, Placing}
use Rattle.table.specs.declared.Then.TheVariants.{ToWrite, ToStoreCopy, ToFillCopy, ToPut}
use Rattle.table.specs.declared.Task.{Task}
use Rattle.table.specs.declared.Table.{Table}
use Rattle.table.specs.declared.Answer.{Answer}
use Rattle.table.specs.declared.Answer.TheVariants.{No}
use Rattle.table.specs.declared.Outcome.{Outcome}
use Rattle.machine.specs.History.{History}
use Rattle.machine.specs.Basics.{pick}
use Rattle.machine.specs.Numbers.{refusal}
use Rattle.machine.specs.Entries.{no}
use Rattle.machine.specs.Tasks.{holding_of, idle_of}
use Rattle.machine.specs.StillStore.{Store, Doing, owner_at, is_resting, ready, refuses}
use Rattle.machine.proofs.Agree.Complete.{if_two, is_idle, task_in}
use Rattle.machine.proofs.Beside.Still.{DoingAt}
use Rattle.machine.proofs.Beside.Doing.{busy}
use Rattle.machine.proofs.Beside.Good.{Good, Undamaged}
use Rattle.machine.specs.Words.{slot_at, wanted}

-- a task is idle in the table exactly if it rests in the store
pub idle_rests : (e : Task) (d : Doing) (pl : Place) → DoingAt e d pl → idle_of (holding_of pl) ≡ is_resting d
unfolding holding_of
idle_rests e d Idle h = sym (ap is_resting h)
idle_rests e d (New want) h = sym (busy e d (New want) tt h)
idle_rests e d (Asked want) h = sym (busy e d (Asked want) tt h)
idle_rests e d (FillWrite v) h = sym (busy e d (FillWrite v) tt h)
idle_rests e d (FillCopy c) h = sym (busy e d (FillCopy c) tt h)
idle_rests e d (StoreWrite v) h = sym (busy e d (StoreWrite v) tt h)
idle_rests e d (Meet v) h = sym (busy e d (Meet v) tt h)
idle_rests e d (StoreCopy c) h = sym (busy e d (StoreCopy c) tt h)
idle_rests e d (Take n) h = sym (busy e d (Take n) tt h)
idle_rests e d (Read n job) h = sym (busy e d (Read n job) tt h)
idle_rests e d (Put n job c) h = sym (busy e d (Put n job c) tt h)
idle_rests e d (Release n job) h = sym (busy e d (Release n job) tt h)
idle_rests e d (Looking q (ToWrite v)) h = sym (busy e d (Looking q (ToWrite v)) tt h)
idle_rests e d (Looking q ToStoreCopy) h = sym (busy e d (Looking q ToStoreCopy) tt h)
idle_rests e d (Looking q ToFillCopy) h = sym (busy e d (Looking q ToFillCopy) tt h)
idle_rests e d (Looking q (ToPut n job)) h = sym (busy e d (Looking q (ToPut n job)) tt h)
idle_rests e d (Placing q (ToWrite v)) h = sym (busy e d (Placing q (ToWrite v)) tt h)
idle_rests e d (Placing q ToStoreCopy) h = sym (busy e d (Placing q ToStoreCopy) tt h)
idle_rests e d (Placing q ToFillCopy) h = sym (busy e d (Placing q ToFillCopy) tt h)
idle_rests e d (Placing q (ToPut n job)) h = sym (busy e d (Placing q (ToPut n job)) tt h)

-- an outcome after which the store, as told by f, stands beside the table, with this answer
pub record Meant (l : Limits) (hy : History) (ws : List ℕ) (f : Answer → Store) (y : Answer) (r : Outcome) : Type 1 where
  pub good : Good l (f r.answer) hy r.table ws
  pub fine : Undamaged r.answer
  pub answer : r.answer ≡ y

-- a test that machine and store make alike
pub choose : {l : Limits} {hy : History} {ws : List ℕ} {f : Answer → Store} (c : Bool) (y z : Answer) (r s : Outcome)
    → (c ≡ true → Meant l hy ws f y r) → (c ≡ false → Meant l hy ws f z s) → Meant l hy ws f (pick c y z) (pick c r s)
choose true y z r s a b = a refl
choose false y z r s a b = b refl

-- the tests that come first: no such task (2), no such register (3), not idle (6)
module _ {l : Limits} {w : Store} {hy : History} {t : Table} {ws : List ℕ} (g : Good l w hy t ws) (f : Answer → Store) (kept : (x : ℕ) → f (No (refusal x)) ≡ w) where
  -- a refusal that leaves the table as it came
  pub refused_well : (x : ℕ) → Undamaged (No (refusal x)) → (r : Outcome) → r.answer ≡ No (refusal x) → r.table ≡ t → Meant l hy ws f (refuses x) r
  refused_well x u r a b = record { good = rw (a, b, kept x) g; fine = rw a u; answer = a }

  pub rests : (task : ℕ) → task < t.limits.p → is_idle g.objects task ≡ is_resting (owner_at w task).doing
  rests task m =
      idle_rests (g.objects.tasks task) (owner_at w task).doing (g.objects.tasks task).place (g.still.tasks task (task_in g.agree task m)).doing

  pub two : (task a b : ℕ) (y : Answer) (rest : Outcome)
      → (task < t.limits.p → is_idle g.objects task ≡ true → a < 8 → b < 8 → Meant l hy ws f y rest)
      → Meant l hy ws f (ready w t.limits.p task a b y) (if_two t task a b (is_idle g.objects task) rest)
  two task a b y rest h =
      choose (ltb task t.limits.p) _ _ _ _
      (λ c.
      choose (ltb 7 a) _ _ _ _ (λ d. refused_well 3 tt (no t 3) refl refl)
      (λ d.
      choose (ltb 7 b) _ _ _ _ (λ e. refused_well 3 tt (no t 3) refl refl)
      (λ e.
      rw (← (rests task (ltb-true task t.limits.p c)))
      (choose (is_idle g.objects task) _ _ _ _
      (λ i. h (ltb-true task t.limits.p c) i (omega (arith, ltb-false 7 a d)) (omega (arith, ltb-false 7 b e)))
      (λ i. refused_well 6 tt (no t 6) refl refl)))))
      (λ c. refused_well 2 tt (no t 2) refl refl)
