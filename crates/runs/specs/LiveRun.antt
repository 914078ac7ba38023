-- What is live, computed: in 01's example of the object that points to itself, and beside a pending object partly filled.
use Rattle.std.specs.Prelude.{ℕ, ◌≡◌, refl, List, [], ◌∷◌, set}
use Rattle.machine.specs.Entries.{Ends}
use Rattle.machine.specs.Call.{Call}
use Rattle.machine.specs.Calls.{run}
use Rattle.machine.specs.Opened.{started, opened}
use Rattle.runs.specs.SelfPointing.{begun_there, collected}
use Rattle.machine.specs.Live.Live.{memb, gather, total, search, reached_of, live_of, size_of, filled_among, filled_at}

-- of a state: what is live, and the words it takes
abbrev pub live_in : Ends → List ℕ
live_in e = live_of e.out.table e.words

abbrev pub size_in : Ends → ℕ
size_in e = size_of e.out.table e.words

abbrev pub filled_in : Ends → ℕ → ℕ
filled_in e p = filled_at e.out.table e.words p

-- before the flip the object at 4 alone, though ten others fill the space; after the switch-over it is at 68, and one is
-- pending at 78 with no slot filled
pub self_pointing_live :
    (live_in begun_there ≡ 4 ∷ [])
    × (size_in begun_there ≡ 4)
    × (filled_in begun_there 4 ≡ 2)
    × (live_in collected ≡ 78 ∷ 68 ∷ [])
    × (size_in collected ≡ 10)
    × (filled_in collected 78 ≡ 0)
    × (filled_in collected 68 ≡ 2)
unfolding opened memb gather total search reached_of live_of size_of filled_among filled_at
self_pointing_live = (refl, refl, refl, refl, refl, refl, refl)

-- An object of one word at 4; one at 7 that points to it, in root 0 and in a register of task 1; one at 11 that is dropped;
-- and task 1's pending object at 14, with L = 3 and m = 2, whose slot 0 is filled with a pointer to 7.
abbrev pub partly : Ends
partly =
    run
    (Call.New 0 0 1 0 ∷ Call.Step 0 ∷ Call.Fill 0 100 ∷ Call.Step 0
    ∷ Call.New 0 1 2 1 ∷ Call.Step 0 ∷ Call.FillPointer 0 0 ∷ Call.Step 0 ∷ Call.Fill 0 7 ∷ Call.Step 0
    ∷ Call.New 0 2 1 0 ∷ Call.Step 0 ∷ Call.Fill 0 200 ∷ Call.Step 0
    ∷ Call.Put 0 0 1 ∷ Call.Clear 0 0 ∷ Call.Clear 0 1 ∷ Call.Clear 0 2 ∷ Call.Get 1 0 0
    ∷ Call.New 1 5 3 2 ∷ Call.Step 1 ∷ Call.FillPointer 1 0 ∷ Call.Step 1 ∷ [])
    (started 2 4 64 1)

-- A slot that is not filled leads nowhere, whatever it holds; the others do.
pub partly_live :
    (live_in partly ≡ 14 ∷ 4 ∷ 7 ∷ [])
    × (size_in partly ≡ 12)
    × (filled_in partly 14 ≡ 1)
    × (filled_in partly 7 ≡ 2)
    × (live_of partly.out.table (set partly.words 15 11) ≡ 14 ∷ 4 ∷ 7 ∷ [])
    × (live_of partly.out.table (set partly.words 14 11) ≡ 14 ∷ 11 ∷ 4 ∷ 7 ∷ [])
unfolding opened memb gather total search reached_of live_of size_of filled_among filled_at
partly_live = (refl, refl, refl, refl, refl, refl)
