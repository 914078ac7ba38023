-- The story that began this heap, computed: the lathe entry stored while its axle is copied, and what the still store says.
use Rattle.std.specs.Prelude.{ℕ, zero, suc, ◌≡◌, refl, List, [], ◌∷◌, ◌++◌, true, false}
use Rattle.table.specs.declared.Refusal.TheVariants.{Held}
use Rattle.table.specs.declared.Answer.TheVariants.{Value, Wait, Report, No}
use Rattle.machine.specs.Entries.{Ends}
use Rattle.machine.specs.Call.{Call}
use Rattle.machine.specs.Calls.{run, then}
use Rattle.machine.specs.StillStore.{Store, empty_store, happen_all, load_answer}
use Rattle.machine.specs.Kinds.{beside}
use Rattle.machine.specs.Opened.{started, steps, opened}

-- a Fill of a plain word, done in one step while the collector is off
abbrev fill : ℕ → List Call
fill w = Call.Fill 0 w ∷ Call.Step 0 ∷ []

-- an object of one word in register r
abbrev reading : ℕ → ℕ → List Call
reading r w = Call.New 0 r 1 0 ∷ Call.Step 0 ∷ fill w

unfoldable pub dropped : ℕ → List Call
dropped zero = []
dropped (suc n) = Call.New 0 3 4 0 ∷ Call.Step 0 ∷ (fill 1 ++ (fill 1 ++ (fill 1 ++ (fill 1 ++ dropped n))))

-- The axle in root 0: its list, of one reading 100, and the plain word 7; the new list, of the lathe entry 200, in root 1.
-- Task 1 has both in registers. Nine dropped objects fill the space.
unfoldable pub axle : List Call
unfolding dropped
axle =
    reading 1 100 ++
    ((Call.New 0 0 2 1 ∷ Call.Step 0 ∷ Call.FillPointer 0 1 ∷ Call.Step 0 ∷ fill 7) ++
    (reading 2 200 ++
    ((Call.Put 0 0 0 ∷ Call.Put 0 1 2 ∷ Call.Clear 0 0 ∷ Call.Clear 0 1 ∷ Call.Clear 0 2 ∷ Call.Get 1 0 0 ∷ Call.Get 1 1 1 ∷ []) ++
    (dropped 9 ++ (Call.Clear 0 3 ∷ [])))))

-- Task 0's New makes the flip and copies up to the lock of the axle's slot 0; task 1's Store of the new list writes the
-- primary and waits for task 0; then both go on in turn to their ends, and the switch-over comes.
unfoldable pub turned : List Call
unfolding axle
turned =
    axle ++
    ((Call.New 0 3 4 0 ∷ steps (0 ∷ 0 ∷ 0 ∷ 0 ∷ 0 ∷ 0 ∷ 0 ∷ 0 ∷ 0 ∷ 0 ∷ 0 ∷ [])) ++
    (Call.StorePointer 1 0 0 1 ∷ steps (1 ∷ 1 ∷ 1 ∷ [])))

unfoldable pub ended : List Call
unfolding turned
ended =
    turned ++
    (steps (1 ∷ 0 ∷ 1 ∷ 0 ∷ 1 ∷ 0 ∷ 1 ∷ 0 ∷ 1 ∷ 0 ∷ 1 ∷ 0 ∷ 1 ∷ 0 ∷ 1 ∷ 0 ∷ 1 ∷ []) ++
    (Call.Get 0 0 0 ∷ Call.Load 0 1 0 0 ∷ []))

-- so many objects of length 0, each made by task 1 in register 7
unfoldable pub small : ℕ → List Call
small zero = []
small (suc n) = Call.New 1 7 0 0 ∷ Call.Step 1 ∷ small n

-- The second collection. Task 0's pending object has one slot filled; 21 small objects fill the space. Task 1's New makes the
-- flip and copies up to the lock of the axle's slot 1; task 0's Store of 9 writes the primary and is to wait for task 1.
unfoldable pub turned_again : List Call
unfolding ended small
turned_again =
    ended ++
    (fill 5 ++
    (small 21 ++
    ((Call.Clear 1 7 ∷ Call.New 1 7 4 0 ∷ steps (1 ∷ 1 ∷ 1 ∷ 1 ∷ 1 ∷ 1 ∷ 1 ∷ 1 ∷ [])) ++
    (Call.Store 0 0 1 9 ∷ Call.Step 0 ∷ []))))

-- both go on in turn until nothing is grey and task 1 alone is busy: the heap is closing
unfoldable pub closing : List Call
unfolding turned_again
closing = turned_again ++ steps (0 ∷ 1 ∷ 0 ∷ 1 ∷ 0 ∷ 1 ∷ 0 ∷ 1 ∷ 0 ∷ 1 ∷ 0 ∷ 1 ∷ 0 ∷ 1 ∷ 0 ∷ 0 ∷ [])

-- task 1's payment ends, and the second switch-over comes
unfoldable pub again : List Call
unfolding closing
again = closing ++ (Call.Step 1 ∷ Call.Get 0 2 1 ∷ [])

-- the heap after some of these calls, and the store beside it
heap_after : List Call → Ends
unfolding opened
heap_after cs = run cs (started 2 4 64 2)

store_after : List Call → Store
unfolding opened beside happen_all
store_after cs = beside cs (started 2 4 64 2) empty_store

-- The Store waits for the holder of the slot; after the switch-over the heap and the store say what was stored.
lathe :
    ((then (Call.Step 1) (heap_after turned)).out.answer ≡ Wait 0)
    × ((then (Call.Load 0 2 1 0) (heap_after ended)).out.answer ≡ Value 200)
    × (load_answer (store_after ended) 2 0 2 1 0 ≡ Value 200)
unfolding opened heap_after store_after beside happen_all load_answer ended turned axle dropped
lathe = (refl, refl, refl)

-- The second collection: it is on after the first switch-over, the Store waits for the holder of its slot, nothing is begun
-- while closing, and the second switch-over comes.
lathe_again :
    ((then Call.Report (heap_after ended)).out.answer ≡ Report false 22 4)
    × ((then Call.Report (heap_after turned_again)).out.answer ≡ Report true 25 1)
    × ((then (Call.Step 0) (heap_after turned_again)).out.answer ≡ Wait 1)
    × ((then (Call.Store 0 0 1 4) (heap_after closing)).out.answer ≡ No Held)
    × ((then Call.Report (heap_after again)).out.answer ≡ Report false 25 4)
unfolding opened heap_after again closing turned_again small ended turned axle dropped
lathe_again = (refl, refl, refl, refl, refl)
