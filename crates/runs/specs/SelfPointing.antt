-- 01's example of the object that points to itself, computed: set-up, the calls before, a New that collects.
use Rattle.std.specs.Prelude.{ℕ, zero, suc, ◌≡◌, refl, List, [], ◌∷◌, ◌++◌, map, false, replicate, take, drop}
use Rattle.table.specs.declared.Operand.TheVariants.{Plain, Pointer}
use Rattle.table.specs.declared.Then.TheVariants.{ToPut}
use Rattle.table.specs.declared.Place.{Place}
use Rattle.table.specs.declared.Place.TheVariants.{Idle, New, Take, Read, Put, Release, Looking}
use Rattle.machine.specs.Numbers.{done, moved, report, word_of}
use Rattle.machine.specs.Words.{primary, replica, slot_at, wanted}
use Rattle.machine.specs.Entries.{task_at, Ends, pending_with}
use Rattle.machine.specs.Call.{Call}
use Rattle.machine.specs.Calls.{then, run, answers}
use Rattle.machine.specs.Sum.{peak}
use Rattle.machine.specs.Opened.{started, said, register_of, opened}

-- register 0 gets an object with L = 2, m = 1, nil and 7; then its slot 0 is made to point to itself
abbrev pub self_pointing : List Call
self_pointing =
    Call.New 0 0 2 1 ∷ Call.Step 0 ∷ Call.FillPointer 0 1 ∷ Call.Step 0 ∷ Call.Fill 0 7 ∷ Call.Step 0
    ∷ Call.StorePointer 0 0 0 0 ∷ Call.Step 0 ∷ []

-- so many objects of length 4, each made in register 1, and dropped
abbrev pub dropped : ℕ → List Call
dropped zero = Call.Clear 0 1 ∷ []
dropped (suc n) =
    Call.New 0 1 4 0 ∷ Call.Step 0 ∷ Call.Fill 0 0 ∷ Call.Step 0 ∷ Call.Fill 0 1 ∷ Call.Step 0
    ∷ Call.Fill 0 2 ∷ Call.Step 0 ∷ Call.Fill 0 3 ∷ Call.Step 0 ∷ dropped n

-- the space is full
abbrev pub full : Ends
full = run (self_pointing ++ dropped 10) (started 1 4 64 1)

-- a New of length 4 is begun, and then takes 11 steps
abbrev pub begun_there : Ends
begun_there = run (Call.New 0 2 4 0 ∷ []) full

abbrev pub eleven : List Call
eleven = replicate 11 (Call.Step 0)

abbrev pub collected : Ends
collected = run eleven begun_there

-- the place of task 0 after each call of a list
unfoldable pub places : List Call → Ends → List Place
places [] e = []
places (c ∷ cs) e = (task_at (then c e).out.table 0).place ∷ places cs (then c e)

-- the places that follow: flip, claim, 4 for slot 1, 5 for slot 0
abbrev pub flip_claim_copy : List Place
flip_claim_copy =
    New (wanted 2 4 0)
    ∷ Take 2
    ∷ Read 2 (slot_at (primary 4) 1) ∷ Put 2 (slot_at (primary 4) 1) (Plain 7) ∷ Release 2 (slot_at (primary 4) 1) ∷ Take 1
    ∷ Read 1 (slot_at (primary 4) 0) ∷ Looking (primary 4) (ToPut 1 (slot_at (primary 4) 0)) ∷ Put 1 (slot_at (primary 4) 0) (Pointer (replica 68)) ∷ Release 1 (slot_at (primary 4) 0) ∷ Idle
    ∷ []

-- 01's example, number by number
pub self_pointing_lem :
    -- before: the object is at 4, points to itself and has 7 behind that, and no word is left
    (take 4 (drop 2 full.words) ≡ 513 ∷ 0 ∷ 4 ∷ 7 ∷ [])
    × (register_of full 0 0 ≡ 4)
    × (said (run (Call.Report ∷ []) full) ≡ (report, 0 ∷ 64 ∷ 0 ∷ []))
    -- the New takes 11 steps
    × (map word_of (answers eleven begun_there) ≡ replicate 10 moved ++ done ∷ [])
    × (places eleven begun_there ≡ flip_claim_copy)
    -- the peak of claimed and stack words
    × (peak eleven begun_there ≡ 17)
    -- after switch-over: the register, the object's words, the pending pointer, A, the copies, the collector off
    × (register_of collected 0 0 ≡ 68)
    × (take 4 (drop 66 collected.words) ≡ 513 ∷ 0 ∷ 68 ∷ 7 ∷ [])
    × ((task_at collected.out.table 0).pending ≡ pending_with (primary 78) 2 4 0)
    × (collected.out.table.marks.a ≡ 82)
    × (collected.out.table.marks.copies ≡ 2)
    × (collected.out.table.on ≡ false)
    × (said (run (Call.Report ∷ []) collected) ≡ (report, 0 ∷ 16 ∷ 2 ∷ []))
unfolding opened places peak
self_pointing_lem = (refl, refl, refl, refl, refl, refl, refl, refl, refl, refl, refl, refl, refl)
