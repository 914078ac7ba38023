-- The promises of a computed run: two tasks, two collections, in each a Store in flight over a locked slot, two switch-overs.
use Rattle.std.specs.Prelude.{ℕ, ◌≡◌, refl, ◌≢◌, List, [], ◌∷◌, ◌++◌, Bool, true, false, not, length, replicate, eqb}
use Rattle.table.specs.declared.Limits.{Limits}
use Rattle.table.specs.declared.Refusal.TheVariants.{OutOfTurn, Exhausted}
use Rattle.table.specs.declared.Answer.{Answer}
use Rattle.table.specs.declared.Answer.TheVariants.{Accepted, Done, Value, Moved, Wait, Report, No}
use Rattle.machine.specs.Basics.{pick, all_of}
use Rattle.machine.specs.Numbers.{number_of}
use Rattle.machine.specs.Words.{primary}
use Rattle.machine.specs.Entries.{Ends, storing_on}
use Rattle.machine.specs.Gate.{sizes_ok}
use Rattle.machine.specs.Setup.{limits, unset}
use Rattle.machine.specs.Call.{Call}
use Rattle.machine.specs.Calls.{then, run, answers}
use Rattle.machine.specs.StillStore.{Store, happen_all, load_answer, same_answer}
use Rattle.machine.specs.Kinds.{beside}
use Rattle.machine.specs.Opened.{steps, opened}
use Rattle.runs.specs.StillRun.{dropped, axle, turned, ended, small, turned_again, closing, again}
use Rattle.machine.proofs.Objects.Base.{off_on}
use Rattle.machine.specs.Beside.Run.{Living}
use Rattle.machine.specs.Beside.WaitsFor.{MetBy}
use Rattle.machine.specs.Beside.Grey.{NothingGrey, Closing}
use Rattle.machine.proofs.Beside.Exact.{waits_right, ends_right, seven_right}
use Rattle.machine.proofs.Promises.{set_up, store_after, loads, sames}

-- ---- a run is living if none of its answers, computed, is 10
abbrev lives : Answer → Bool
lives Accepted = true
lives Done = true
lives (Value v) = true
lives Moved = true
lives (Wait q) = true
lives (Report on live copies) = true
lives (No x) = not (eqb (number_of x) 10)

lives_not : (x : Answer) → lives x ≡ true → x ≢ No Exhausted
lives_not x h e = let z : false ≡ true = rw e at h in off_on z

pub living_by : (cs : List Call) (e : Ends) → all_of lives (answers cs e) ≡ true → Living cs e
unfolding answers all_of
living_by [] e h = tt
living_by (c ∷ cs) e h = on (lives (then c e).out.answer) refl h (living_by cs (then c e))
  where
    on : (b : Bool) → lives (then c e).out.answer ≡ b → pick b (all_of lives (answers cs (then c e))) false ≡ true
        → (all_of lives (answers cs (then c e)) ≡ true → Living cs (then c e)) → ((then c e).out.answer ≢ No Exhausted) × Living cs (then c e)
    on true a h f = (lives_not (then c e).out.answer a, f h)
    on false a h f = off_on h

-- a part of a living run is one
living_part : (cs ds : List Call) (e : Ends) → Living (cs ++ ds) e → Living cs e
living_part [] ds e h = tt
living_part (c ∷ cs) ds e h = (h.0, living_part cs ds (then c e) h.1)

-- ---- the run, on a buffer that was full of ones
abbrev two : Limits
two = limits 2 4 64 2

abbrev ones : List ℕ
ones = replicate 130 1

is_accepted : sizes_ok two (length ones) ≡ true
unfolding opened
is_accepted = refl

-- the set-up, and the heap and the store beside it after some calls
abbrev heap : List Call → Ends
heap cs = run cs (set_up unset two ones)

abbrev still : List Call → Store
still cs = store_after cs unset two ones

-- after both collections; while the second closes; while its Store is in flight
is_living : Living again (set_up unset two ones)
unfolding opened again closing turned_again small ended turned axle dropped
is_living = living_by again (set_up unset two ones) refl

closing_living : Living closing (set_up unset two ones)
unfolding again
closing_living = living_part closing (Call.Step 1 ∷ Call.Get 0 2 1 ∷ []) (set_up unset two ones) is_living

turned_living : Living turned_again (set_up unset two ones)
unfolding closing
turned_living = living_part turned_again (steps (0 ∷ 1 ∷ 0 ∷ 1 ∷ 0 ∷ 1 ∷ 0 ∷ 1 ∷ 0 ∷ 1 ∷ 0 ∷ 1 ∷ 0 ∷ 1 ∷ 0 ∷ 0 ∷ [])) (set_up unset two ones) closing_living

-- what the promises say of Loads and Sames there
promised :
    ((then (Call.Load 0 3 1 0) (heap again)).out.answer ≡ load_answer (still again) 2 0 3 1 0)
    × ((then (Call.Load 0 3 0 1) (heap again)).out.answer ≡ load_answer (still again) 2 0 3 0 1)
    × ((then (Call.Same 0 1 2) (heap again)).out.answer ≡ same_answer (still again) 2 0 1 2)
    × ((then (Call.Same 0 0 1) (heap again)).out.answer ≡ same_answer (still again) 2 0 0 1)
    × ((then (Call.Load 0 3 0 1) (heap closing)).out.answer ≡ load_answer (still closing) 2 0 3 0 1)
    × ((then (Call.Load 0 3 0 1) (heap turned_again)).out.answer ≡ load_answer (still turned_again) 2 0 3 0 1)
promised = (
  loads unset two ones is_accepted again is_living 0 3 1 0,
  loads unset two ones is_accepted again is_living 0 3 0 1,
  sames unset two ones is_accepted again is_living 0 1 2,
  sames unset two ones is_accepted again is_living 0 0 1,
  loads unset two ones is_accepted closing closing_living 0 3 0 1,
  loads unset two ones is_accepted turned_again turned_living 0 3 0 1,
)

-- and each side computed: the new list's entry; the 9 that was stored, also while collecting; one object under two names, two
-- objects; a task in its Store is out of turn
computed :
    (((then (Call.Load 0 3 1 0) (heap again)).out.answer ≡ Value 200) × (load_answer (still again) 2 0 3 1 0 ≡ Value 200))
    × (((then (Call.Load 0 3 0 1) (heap again)).out.answer ≡ Value 9) × (load_answer (still again) 2 0 3 0 1 ≡ Value 9))
    × (((then (Call.Same 0 1 2) (heap again)).out.answer ≡ Value 1) × (same_answer (still again) 2 0 1 2 ≡ Value 1))
    × (((then (Call.Same 0 0 1) (heap again)).out.answer ≡ Value 0) × (same_answer (still again) 2 0 0 1 ≡ Value 0))
    × (((then (Call.Load 0 3 0 1) (heap closing)).out.answer ≡ Value 9) × (load_answer (still closing) 2 0 3 0 1 ≡ Value 9))
    × (((then (Call.Load 0 3 0 1) (heap turned_again)).out.answer ≡ No OutOfTurn) × (load_answer (still turned_again) 2 0 3 0 1 ≡ No OutOfTurn))
unfolding opened beside happen_all load_answer same_answer again closing turned_again small ended turned axle dropped
computed = ((refl, refl), (refl, refl), (refl, refl), (refl, refl), (refl, refl), (refl, refl))

-- The reasons for what the steps answer there: the Store in flight waits for task 1, which has locked its slot; a begin while
-- closing is refused with 7; task 1's payment ends early, since nothing is grey.
reasons :
    MetBy (heap turned_again).out.table (heap turned_again).words 1 (storing_on (primary 68) 1)
    × Closing (heap closing).out.table
    × NothingGrey (heap closing).out.table
unfolding opened closing turned_again small ended turned axle dropped
reasons = (
  (waits_right unset two ones is_accepted turned_again turned_living 0 1 refl).1,
  seven_right unset two ones is_accepted closing closing_living (Call.Store 0 0 1 4) tt refl,
  ends_right unset two ones is_accepted closing closing_living 1 1 refl refl,
)
