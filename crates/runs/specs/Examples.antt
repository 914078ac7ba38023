-- The starred rows of 01's "Examples on both sides", proved of the definitions as one table.
use Rattle.std.specs.Prelude.{ℕ, ◌≡◌, refl, [], ◌∷◌, Bool, true, false, replicate}
use Rattle.table.specs.declared.Marks.{Marks}
use Rattle.table.specs.declared.Then.TheVariants.{ToStoreCopy}
use Rattle.table.specs.declared.Place.TheVariants.{Asked, Placing}
use Rattle.table.specs.declared.Life.TheVariants.{Living}
use Rattle.table.specs.declared.Table.{Table}
use Rattle.table.specs.declared.Answer.TheVariants.{Accepted}
use Rattle.machine.specs.Numbers.{ok, done, moved, wait, none}
use Rattle.machine.specs.Words.{primary, descriptor, laid, wanted}
use Rattle.machine.specs.Entries.{keeping, marks_at, task_at, nil, with_place, out, Ends, ends}
use Rattle.machine.specs.Setup.{limits, fresh_task, fresh_table, unset, setup_of}
use Rattle.machine.specs.Call.{Call}
use Rattle.machine.specs.Calls.{call, run}
use Rattle.machine.specs.Sum.{room_sum}
use Rattle.machine.specs.Opened.{started, said, opened}

-- set-up with P = 1, S = 4 and these H and k, on a buffer of n words
abbrev pub setting : ℕ → ℕ → ℕ → Ends
setting h k n = setup_of unset (limits 1 4 h k) (replicate n 1)

-- P tasks, S = 4, H = 64, k = 1, all idle with nothing in registers and roots: off in words 2 to 65, or on in words 66 to 129
abbrev pub bare : ℕ → Bool → Marks → Table
bare p on m = keeping (fresh_table (limits p 4 64 1)) on on m Living (replicate 8 nil) (replicate 8 fresh_task)

-- task 0 begins a New of length 4 there, and makes a step of it
abbrev pub new_of_four : Table → Ends
new_of_four t = run (Call.New 0 0 4 0 ∷ Call.Step 0 ∷ []) (ends (out t Accepted) (replicate 130 0))

-- the same, when task 1 has begun a New
abbrev pub new_of_four_beside : Table → Ends
new_of_four_beside t = run (Call.New 1 0 0 0 ∷ Call.New 0 0 4 0 ∷ Call.Step 0 ∷ []) (ends (out t Accepted) (replicate 130 0))

-- task 0, in a Store, has claimed the object at 4, which has this length, and makes the step that places it
abbrev pub placed : ℕ → Table → Ends
placed len t =
    call (Call.Step 0) (with_place t 0 (Placing (primary 4) ToStoreCopy)) (laid (replicate 130 0) 2 (descriptor len 0) 1)

-- each of 01's starred rows, on both sides of its limit
pub rows :
    -- Descriptors: (0,0) is 0; (2,1) is 513; (255,255) is 65535; (1,2) gets 3.
    (descriptor 0 0 ≡ 0)
    × (descriptor 2 1 ≡ 513)
    × (descriptor 255 255 ≡ 65535)
    × (said (run (Call.New 0 0 1 2 ∷ []) (started 1 4 64 1)) ≡ (none, 3 ∷ []))
    -- H = 63 refused, 64 accepted; k = 0 and 17 refused; H = 64 needs 130 words.
    × (said (setting 63 1 128) ≡ (none, 1 ∷ []))
    × (said (setting 64 1 130) ≡ (ok, []))
    × (said (setting 64 0 130) ≡ (none, 1 ∷ []))
    × (said (setting 64 17 130) ≡ (none, 1 ∷ []))
    × (said (setting 64 1 129) ≡ (none, 1 ∷ []))
    × (said (setting 64 1 131) ≡ (none, 1 ∷ []))
    -- Off, S = 4, end - A = 6: L = 4 fits. With 5 left a flip is asked: made at once if no other task is busy, else recorded.
    × (said (new_of_four (bare 1 false (marks_at 60 66 0 0))) ≡ (done, []))
    × (said (new_of_four (bare 1 false (marks_at 61 66 0 0))) ≡ (moved, []))
    × ((new_of_four (bare 1 false (marks_at 61 66 0 0))).out.table.on ≡ true)
    × (said (new_of_four_beside (bare 2 false (marks_at 61 66 0 0))) ≡ (wait, 1 ∷ []))
    × ((task_at (new_of_four_beside (bare 2 false (marks_at 61 66 0 0))).out.table 0).place ≡ Asked (wanted 0 4 0))
    -- Collecting, room 12: New of 4 fits; room 11 gives 9. Without a job in hand, and with one.
    × (said (new_of_four (bare 1 true (marks_at 118 130 0 0))) ≡ (moved, []))
    × (said (new_of_four (bare 1 true (marks_at 119 130 0 0))) ≡ (none, 9 ∷ []))
    × (said (new_of_four (bare 1 true (marks_at 117 130 1 0))) ≡ (moved, []))
    × (said (new_of_four (bare 1 true (marks_at 118 130 1 0))) ≡ (none, 9 ∷ []))
    -- Place with L = 0 and room 2 fits; L = 1 and room 3 is exhausted, room 4 fits.
    × (said (placed 0 (bare 1 true (marks_at 128 130 0 0))) ≡ (moved, []))
    × (said (placed 1 (bare 1 true (marks_at 127 130 0 0))) ≡ (none, 10 ∷ []))
    × (said (placed 1 (bare 1 true (marks_at 126 130 0 0))) ≡ (moved, []))
    -- P=1, k=1, S=4, r=16, n=4: the sum of demand 3 is 64.
    × (room_sum 16 4 1 1 4 ≡ 64)
unfolding opened
rows = (
  refl,
  refl,
  refl,
  refl,
  refl,
  refl,
  refl,
  refl,
  refl,
  refl,
  refl,
  refl,
  refl,
  refl,
  refl,
  refl,
  refl,
  refl,
  refl,
  refl,
  refl,
  refl,
  refl,
)
