-- A search over the entries for the lowest-numbered one, seen from its loop.
use Rattle.std.specs.Prelude.{Some, None}
use Prim.Native.Nat.{ℕ, ◌+◌, ◌<◌, ◌≤◌}
use mathlib.Core.Path.{◌≡◌, sym, ◌∙◌}
use mathlib.Core.List.{List}
use mathlib.Core.Bool.{Bool, true, false}
use native.Mathlib.Numerals.{add-one}
use lib.ListN.{length, get_or, drop, drop_of_length-le}
use lib.Seq.{drop-cons}
use Rattle.table.specs.declared.Task.{Task}
use Rattle.machine.specs.Basics.{pick}
use Rattle.machine.specs.Entries.{no_task}
use Rattle.machine.specs.Tasks.{lowest_of}

-- The loop's invariant: the search from the start is the search from i.
pub record Seeking (test : ℕ → Task → Bool) (ts : List Task) (i : ℕ) : Type 0 where
  pub so : lowest_of test ts 0 ≡ lowest_of test (drop i ts) i

module _ {test : ℕ → Task → Bool} {ts : List Task} {i : ℕ} (k : Seeking test ts i) where
  pub nobody : length ts ≤ i → None ≡ lowest_of test ts 0
  unfolding lowest_of
  nobody h = sym (k.so ∙ rw (drop_of_length-le ts h))

  -- b is what the test says of task i
  module _ {b : Bool} (h : i < length ts) (e : b ≡ test i (get_or ts i no_task)) where
    turn : lowest_of test ts 0 ≡ pick b (Some i) (lowest_of test (drop (i + 1) ts) (i + 1))
    unfolding lowest_of
    turn = k.so ∙ rw (drop-cons ts i no_task h, add-one, ← e)

    pub found : b ≡ true → Some i ≡ lowest_of test ts 0
    found t = sym (turn ∙ rw t)

    pub passed : b ≡ false → Seeking test ts (i + 1)
    passed f = record { so = turn ∙ rw f }
