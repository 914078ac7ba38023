-- Demand 3's sum, computed: collections in a half exactly as large, which reach it; and in one a word smaller, which meet 9 or 10.
use Rattle.std.specs.Prelude.{ℕ, zero, suc, ◌≡◌, refl, List, [], ◌∷◌, ◌++◌, Bool, true, false, length, replicate}
use Rattle.table.specs.declared.Refusal.{Refusal}
use Rattle.table.specs.declared.Refusal.TheVariants.{NoRoom, Exhausted}
use Rattle.table.specs.declared.Answer.{Answer}
use Rattle.table.specs.declared.Answer.TheVariants.{Accepted, Done, Value, Moved, Wait, Report, No}
use Rattle.machine.specs.Entries.{Ends}
use Rattle.machine.specs.Call.{Call}
use Rattle.machine.specs.Calls.{then, run, answers}
use Rattle.machine.specs.Sum.{room_sum, peak}
use Rattle.machine.specs.Opened.{started, steps, opened}
use Rattle.machine.specs.Live.Live.{memb, gather, total, search, reached_of, live_of, size_of}
use Rattle.runs.specs.LiveRun.{live_in, size_in}
use Rattle.machine.specs.History.{no_history, history_of}

-- ---- what a run shows
-- the refusals among the answers
abbrev pub with_refusal : Answer → List Refusal → List Refusal
with_refusal Accepted xs = xs
with_refusal Done xs = xs
with_refusal (Value v) xs = xs
with_refusal Moved xs = xs
with_refusal (Wait q) xs = xs
with_refusal (Report on live copies) xs = xs
with_refusal (No x) xs = x ∷ xs

unfoldable pub refusals_in : List Answer → List Refusal
refusals_in [] = []
refusals_in (x ∷ xs) = with_refusal x (refusals_in xs)

-- whether the collector is on, after each of these calls
unfoldable pub modes : List Call → Ends → List Bool
modes [] e = []
modes (c ∷ cs) e = (then c e).out.table.on ∷ modes cs (then c e)

-- demand 3's sum of what is live
abbrev pub sum_in : Ends → ℕ
sum_in e = room_sum (size_in e) (length (live_in e)) e.out.table.limits.k e.out.table.limits.p e.out.table.limits.s

-- the half size
abbrev pub half : Ends → ℕ
half e = e.out.table.limits.h

-- ---- parts of these runs, with the collector off and of task 0
-- so many slots filled
abbrev pub fills : ℕ → List Call
fills zero = []
fills (suc n) = Call.Fill 0 7 ∷ Call.Step 0 ∷ fills n

-- an object of so many plain words in register r
abbrev pub plain : ℕ → ℕ → List Call
plain r n = Call.New 0 r n 0 ∷ Call.Step 0 ∷ fills n

-- so many objects of length 0, two words each, and dropped
abbrev pub dropped : ℕ → List Call
dropped zero = Call.Clear 0 7 ∷ []
dropped (suc n) = Call.New 0 7 0 0 ∷ Call.Step 0 ∷ dropped n

-- so many steps of task 0
abbrev pub alone : ℕ → List Call
alone n = replicate n (Call.Step 0)

-- ---- nothing live
-- Both tasks ask for an object of the longest, S = 14, when 14 words are left.
abbrev pub nothing_live : Ends
nothing_live = run (dropped 25 ++ Call.New 0 0 14 0 ∷ Call.New 1 0 14 0 ∷ Call.Step 0 ∷ []) (started 2 14 64 1)

-- Flip, both claims, both ends: the claims alone are the sum.
pub reaches_sum_empty :
    (nothing_live.out.table.on ≡ false)
    × (size_in nothing_live ≡ 0)
    × (sum_in nothing_live ≡ 64)
    × (half nothing_live ≡ 64)
    × (modes (steps (1 ∷ 0 ∷ 1 ∷ 0 ∷ 1 ∷ [])) nothing_live ≡ true ∷ true ∷ true ∷ true ∷ false ∷ [])
    × (refusals_in (answers (steps (1 ∷ 0 ∷ 1 ∷ 0 ∷ 1 ∷ [])) nothing_live) ≡ [])
    × (peak (steps (1 ∷ 0 ∷ 1 ∷ 0 ∷ 1 ∷ [])) nothing_live ≡ 64)
unfolding opened peak memb gather total search reached_of live_of size_of refusals_in modes
reaches_sum_empty = (refl, refl, refl, refl, refl, refl, refl)

-- ---- every part of the sum
-- Register 0 holds an object of 9 words; 11 words are left, and task 1 asks for an object of the longest, S = 10.
abbrev pub nine_words : Ends
nine_words = run (plain 0 9 ++ (dropped 21 ++ Call.New 1 0 10 0 ∷ [])) (started 2 10 64 4)

-- The flip; task 0 makes an object of length 0 and pays for it with 8 of the 9 copies; both claim objects of the longest; the
-- last copy, and both end.
abbrev pub paid_for : List Call
paid_for = Call.Step 1 ∷ Call.New 0 1 0 0 ∷ (alone 33 ++ Call.New 0 2 10 0 ∷ steps (0 ∷ 1 ∷ 0 ∷ 0 ∷ 0 ∷ 0 ∷ 0 ∷ 1 ∷ []))

-- r = 11, n = 1, twice 11 / 4, and twice 2 * 12
pub reaches_sum :
    (nine_words.out.table.on ≡ false)
    × (size_in nine_words ≡ 11)
    × (length (live_in nine_words) ≡ 1)
    × (sum_in nine_words ≡ 64)
    × (half nine_words ≡ 64)
    × (modes paid_for nine_words ≡ replicate 43 true ++ false ∷ [])
    × (refusals_in (answers paid_for nine_words) ≡ [])
    × (peak paid_for nine_words ≡ 64)
    × ((run paid_for nine_words).out.table.marks.copies ≡ 9)
    -- and the history of these calls says the same
    × ((history_of paid_for nine_words no_history).words ≡ 11)
    × (length (history_of paid_for nine_words no_history).live ≡ 1)
    × (length (history_of paid_for nine_words no_history).copies ≡ 9)
unfolding opened peak memb gather total search reached_of live_of size_of refusals_in modes history_of
reaches_sum = (refl, refl, refl, refl, refl, refl, refl, refl, refl, refl, refl, refl)

-- ---- refusal 9
-- Register 0 holds an object of n words; fewer than 15 words are left, and task 0 asks for an object of the longest, S = 13.
abbrev pub held : ℕ → Ends
held n = run (plain 0 n ++ (dropped 24 ++ Call.New 0 1 13 0 ∷ [])) (started 2 13 64 16)

-- The flip; both tasks want an object of the longest.
abbrev pub both_new : List Call
both_new = Call.Step 0 ∷ Call.New 1 1 13 0 ∷ steps (0 ∷ 1 ∷ [])

-- With one word it is enough; with two the second New finds 29 words and needs 30. Both collections end.
pub one_less_no_room :
    ((held 1).out.table.on ≡ false)
    × (half (held 1) ≡ 64)
    × (sum_in (held 1) ≡ 64)
    × (refusals_in (answers (both_new ++ (alone 5 ++ Call.Step 1 ∷ [])) (held 1)) ≡ [])
    × (modes (both_new ++ (alone 5 ++ Call.Step 1 ∷ [])) (held 1) ≡ replicate 9 true ++ false ∷ [])
    × ((held 2).out.table.on ≡ false)
    × (half (held 2) ≡ 64)
    × (sum_in (held 2) ≡ 65)
    × (refusals_in (answers both_new (held 2)) ≡ NoRoom ∷ [])
    × (modes (both_new ++ alone 9) (held 2) ≡ replicate 12 true ++ false ∷ [])
unfolding opened peak memb gather total search reached_of live_of size_of refusals_in modes
one_less_no_room = (refl, refl, refl, refl, refl, refl, refl, refl, refl, refl)

-- ---- refusal 10
-- Register 0 holds an object whose one slot points to an object of n words; fewer than 12 words are left, and task 0 asks for
-- an object of the longest, S = 10.
abbrev pub led : ℕ → Ends
led n =
    run
    (plain 1 n ++
    (Call.New 0 0 1 1 ∷ Call.Step 0 ∷ Call.FillPointer 0 1 ∷ Call.Step 0 ∷ Call.Clear 0 1 ∷ (dropped 20 ++ Call.New 0 2 10 0 ∷ [])))
    (started 2 10 64 16)

-- The flip; both tasks claim an object of the longest; task 0 takes, reads and looks, and claims the object of n words.
abbrev pub looked : List Call
looked = Call.Step 0 ∷ Call.New 1 2 10 0 ∷ steps (0 ∷ 1 ∷ 0 ∷ 0 ∷ 0 ∷ [])

-- It is placed, and the collection goes on to its end.
abbrev pub placed : List Call
placed = looked ++ (alone 40 ++ Call.Step 1 ∷ [])

-- With 9 words it is enough, to the last word; with 10 the place finds 12 words and needs 13.
pub one_less_exhausted :
    ((led 9).out.table.on ≡ false)
    × (size_in (led 9) ≡ 14)
    × (length (live_in (led 9)) ≡ 2)
    × (half (led 9) ≡ 64)
    × (sum_in (led 9) ≡ 64)
    × (refusals_in (answers placed (led 9)) ≡ [])
    × (modes placed (led 9) ≡ replicate 47 true ++ false ∷ [])
    × (peak placed (led 9) ≡ 64)
    × ((led 10).out.table.on ≡ false)
    × (half (led 10) ≡ 64)
    × (sum_in (led 10) ≡ 65)
    × (refusals_in (answers looked (led 10)) ≡ [])
    × ((then (Call.Step 0) (run looked (led 10))).out.answer ≡ No Exhausted)
unfolding opened peak memb gather total search reached_of live_of size_of refusals_in modes
one_less_exhausted = (refl, refl, refl, refl, refl, refl, refl, refl, refl, refl, refl, refl, refl)
