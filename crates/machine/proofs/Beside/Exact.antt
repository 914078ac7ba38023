-- Of every run from a set-up: a step waits only for a task that has what it needs, a payment ends early only if nothing is
-- grey, 9 and a flip come only for want of room, and 7 exactly when a flip is asked or the heap is closing.
use Rattle.std.specs.Prelude.{ℕ, ◌<◌, ◌≡◌, ◌⊎◌, List, true, false, length}
use Rattle.std.proofs.Common.{ap}
use Rattle.table.specs.declared.Limits.{Limits}
use Rattle.table.specs.declared.Place.TheVariants.{New, Asked, Take}
use Rattle.table.specs.declared.Table.{Table}
use Rattle.table.specs.declared.Refusal.TheVariants.{Held, NoRoom}
use Rattle.table.specs.declared.Answer.TheVariants.{Accepted, Done, Moved, Wait, No}
use Rattle.machine.specs.Entries.{task_at, Ends}
use Rattle.machine.specs.Gate.{sizes_ok}
use Rattle.machine.specs.Setup.{setup_of}
use Rattle.machine.specs.Call.{Call}
use Rattle.machine.specs.Calls.{then, run}
use Rattle.machine.specs.Beside.Run.{Living}
use Rattle.machine.proofs.Beside.Demand2.{good_after}
use Rattle.machine.specs.Beside.WaitsFor.{WaitsFor}
use Rattle.machine.proofs.Beside.WaitsFor.{waits_for}
use Rattle.machine.specs.Beside.Grey.{NothingGrey, IsHeld}
use Rattle.machine.specs.Beside.Reasons.{TooFull, NoneLeft}
use Rattle.machine.proofs.Beside.Reasons.{ends_early, flips_for_room, nine_for_room}
use Rattle.machine.specs.Beside.HeldBegins.{Begins}
use Rattle.machine.proofs.Beside.HeldBegins.{begun_free, seven_held}
use Rattle.machine.specs.Words.{wanted}

module _ (t₀ : Table) (l : Limits) (ws₀ : List ℕ) (accepted : sizes_ok l (length ws₀) ≡ true) (cs : List Call) (living : Living cs (setup_of t₀ l ws₀)) where
  -- the run so far
  abbrev pub after : Ends
  after = run cs (setup_of t₀ l ws₀)

  abbrev pub t : Table
  t = after.out.table

  -- whoever waits for q has this reason
  pub waits_right : (i q : ℕ) → (then (Call.Step i) after).out.answer ≡ Wait q → (q < l.p) × WaitsFor t after.words i q (task_at t i).place
  waits_right i q e = rw (ap (λ (m : Limits). m.p) (good_after t₀ l ws₀ accepted cs living).limits) at (waits_for t after.words i q e)

  -- a take that ends the payment found nothing grey
  pub ends_right : (i n : ℕ) → (task_at t i).place ≡ Take n → (then (Call.Step i) after).out.answer ≡ Done → NothingGrey t
  ends_right = ends_early (good_after t₀ l ws₀ accepted cs living)

  -- 9 and a flip are for want of room
  pub nine_right : (i r len m : ℕ) → t.on ≡ true → (task_at t i).place ≡ New (wanted r len m) → (then (Call.Step i) after).out.answer ≡ No NoRoom
      → TooFull t len
  nine_right i r len m = nine_for_room t after.words i r len m (good_after t₀ l ws₀ accepted cs living)

  pub flip_right : (i r len m : ℕ) → t.on ≡ false → ((task_at t i).place ≡ New (wanted r len m)) ⊎ ((task_at t i).place ≡ Asked (wanted r len m))
      → (then (Call.Step i) after).out.answer ≡ Moved → NoneLeft t len
  flip_right i r len m = flips_for_room t after.words i r len m

  -- a begin is refused with 7 if the heap is held, and not begun then
  pub begun_right : (c : Call) → Begins c → (then c after).out.answer ≡ Accepted → IsHeld t t.on → ⊥
  begun_right = begun_free (good_after t₀ l ws₀ accepted cs living)

  pub seven_right : (c : Call) → Begins c → (then c after).out.answer ≡ No Held → IsHeld t t.on
  seven_right = seven_held (good_after t₀ l ws₀ accepted cs living)
