-- 01's "Faults we have seen proposed": against each a computed run, which with the fault ends otherwise.
use Rattle.std.specs.Prelude.{◌≡◌, refl, List, [], ◌∷◌, ◌++◌}
use Rattle.machine.specs.Numbers.{value, wait, moved, report, none}
use Rattle.machine.specs.Entries.{Ends}
use Rattle.machine.specs.Call.{Call}
use Rattle.machine.specs.Calls.{run}
use Rattle.machine.specs.Opened.{started, said, register_of, steps, opened}

-- All heaps here have S = 62, H = 64 and k = 1. A New of 62 finds room in an empty space only: its first step makes the flip,
-- its second is refused with 9
abbrev pub flipping : List Call
flipping = Call.New 0 7 62 0 ∷ steps (0 ∷ 0 ∷ [])

-- an object of two slots is on the stack after a flip; task 1, in a payment, takes it: the stack is empty, one job in hand, A is 74
abbrev pub in_hand : Ends
in_hand =
    run
    (Call.New 0 0 2 0 ∷ Call.Step 0 ∷ Call.Fill 0 5 ∷ Call.Step 0 ∷ Call.Fill 0 6 ∷ Call.Step 0
    ∷ (flipping ++ Call.New 1 0 0 0 ∷ steps (1 ∷ 1 ∷ [])))
    (started 2 62 64 1)

-- "Giving the popped job's stack word to an allocation": of the 56 words left one is the job's, so a New of 26 is refused, one of 25 fits
pub stack_word_kept :
    (said (run (Call.New 0 1 26 0 ∷ Call.Step 0 ∷ []) in_hand) ≡ (none, 9 ∷ []))
    × (said (run (Call.New 0 1 25 0 ∷ Call.Step 0 ∷ []) in_hand) ≡ (moved, []))
unfolding opened
stack_word_kept = (refl, refl)

-- "Ending when the shared stack is empty": task 0's take waits for task 1, which has the job
pub waits_for_grey : said (run (Call.New 0 1 0 0 ∷ steps (0 ∷ 0 ∷ [])) in_hand) ≡ (wait, 1 ∷ [])
unfolding opened
waits_for_grey = refl

-- an object of length 0 in register 0 is all there is at the flip
abbrev pub length_zero : Ends
length_zero = run (Call.New 0 0 0 0 ∷ Call.Step 0 ∷ flipping) (started 1 62 64 1)

-- "Pushing an object of length 0": nothing is grey after the flip, so the refusal 9 brings the switch-over
pub length_zero_not_pushed :
    (said length_zero ≡ (none, 9 ∷ []))
    × (said (run (Call.Report ∷ []) length_zero) ≡ (report, 0 ∷ 2 ∷ 0 ∷ []))
    × (register_of length_zero 0 0 ≡ 68)
unfolding opened
length_zero_not_pushed = (refl, refl, refl)

-- register 0 holds an object whose slot leads to another, with 9 in it; after the flip that other one is loaded to register 1,
-- and nil is stored to the slot, twice
abbrev pub only_in_register : Ends
only_in_register =
    run
    (Call.New 0 1 1 0 ∷ Call.Step 0 ∷ Call.Fill 0 9 ∷ Call.Step 0
    ∷ Call.New 0 0 1 1 ∷ Call.Step 0 ∷ Call.FillPointer 0 1 ∷ Call.Step 0 ∷ Call.Clear 0 1
    ∷ (flipping
    ++ Call.Load 0 1 0 0
    ∷ Call.StorePointer 0 0 0 7
    ∷ (steps (0 ∷ 0 ∷ 0 ∷ 0 ∷ 0 ∷ 0 ∷ 0 ∷ 0 ∷ 0 ∷ [])
    ++ Call.StorePointer 0 0 0 7
    ∷ steps (0 ∷ 0 ∷ 0 ∷ 0 ∷ 0 ∷ 0 ∷ 0 ∷ []))))
    (started 1 62 64 1)

-- "Leaving out the look at the old pointer in Store": the object that only a register holds is there after the switch-over
pub old_pointer_looked_at :
    (said (run (Call.Load 0 2 1 0 ∷ []) only_in_register) ≡ (value, 9 ∷ []))
    × (said (run (Call.Report ∷ []) only_in_register) ≡ (report, 0 ∷ 6 ∷ 2 ∷ []))
    × (register_of only_in_register 0 1 ≡ 71)
unfolding opened
old_pointer_looked_at = (refl, refl, refl)

-- register 0 holds an object with 5 in its slot; after the flip task 0 stores 9 there while task 1 copies the slot:
-- task 0's first step comes before the take, its second after the read
abbrev pub stored_while_copied : Ends
stored_while_copied =
    run
    (Call.New 0 0 1 0 ∷ Call.Step 0 ∷ Call.Fill 0 5 ∷ Call.Step 0
    ∷ (flipping
    ++ Call.New 1 0 0 0 ∷ Call.Step 1
    ∷ Call.Store 0 0 0 9
    ∷ steps (0 ∷ 1 ∷ 1 ∷ 0 ∷ 0 ∷ 1 ∷ 1 ∷ 0 ∷ 0 ∷ 0 ∷ 1 ∷ [])))
    (started 2 62 64 1)

-- "Testing the slot lock before writing the primary": after the switch-over the slot has what was stored
pub written_before_lock :
    (said (run (Call.Load 0 1 0 0 ∷ []) stored_while_copied) ≡ (value, 9 ∷ []))
    × (said (run (Call.Report ∷ []) stored_while_copied) ≡ (report, 0 ∷ 7 ∷ 1 ∷ []))
unfolding opened
written_before_lock = (refl, refl)

-- four words 9 are left in the lower space, which is in use again two collections later; task 1 makes an object over them, with
-- two pointer slots, and fills one with nil; after a flip task 0 pays for two copies
abbrev pub over_old_words : Ends
over_old_words =
    run
    (Call.New 0 0 4 0 ∷ Call.Step 0 ∷ Call.Fill 0 9 ∷ Call.Step 0 ∷ Call.Fill 0 9 ∷ Call.Step 0
    ∷ Call.Fill 0 9 ∷ Call.Step 0 ∷ Call.Fill 0 9 ∷ Call.Step 0 ∷ Call.Clear 0 0
    ∷ (flipping
    ++ Call.New 0 0 0 0 ∷ Call.Step 0 ∷ Call.Clear 0 0
    ∷ (flipping
    ++ Call.New 1 0 4 2 ∷ Call.Step 1 ∷ Call.FillPointer 1 7 ∷ Call.Step 1
    ∷ (flipping
    ++ Call.New 0 0 0 0 ∷ steps (0 ∷ 0 ∷ 0 ∷ 0 ∷ 0 ∷ 0 ∷ [])))))
    (started 2 62 64 1)

-- the other slots are filled, with nil, 3 and 4; a step too many is refused with 6
abbrev pub filled_after : Ends
filled_after =
    run
    (Call.FillPointer 1 7 ∷ (steps (1 ∷ 1 ∷ 1 ∷ 1 ∷ []) ++ Call.Fill 1 3 ∷ Call.Step 1 ∷ Call.Fill 1 4 ∷ Call.Step 1 ∷ []))
    over_old_words

-- "Copying slots of a pending object that were never filled": one slot is copied, and the object is whole in the end
pub unfilled_not_copied :
    (said (run (Call.Report ∷ []) over_old_words) ≡ (report, 0 ∷ 10 ∷ 1 ∷ []))
    × (said (run (Call.Load 1 1 0 3 ∷ []) filled_after) ≡ (value, 4 ∷ []))
    × (register_of filled_after 1 0 ≡ 68)
unfolding opened
unfilled_not_copied = (refl, refl, refl)
