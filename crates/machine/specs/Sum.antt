-- The sum of demand 3: the half size that is enough for a collection, and the words in use that it bounds.
use Rattle.std.specs.Prelude.{ℕ, ◌+◌, ◌-◌, ◌*◌, ◌/◌, max, List, [], ◌∷◌}
use Rattle.table.specs.declared.Table.{Table}
use Rattle.machine.specs.Basics.{pick}
use Rattle.machine.specs.Words.{bottom_of, end_of}
use Rattle.machine.specs.Entries.{Ends}
use Rattle.machine.specs.Call.{Call}
use Rattle.machine.specs.Calls.{then}

-- r, the words of the objects that are live at the flip, a pending one with its full L; n, their number, for the stack;
-- twice r / k, what New claims while r words are copied at rate k; and for each task a primary and a replica not yet paid for
abbrev pub room_sum : ℕ → ℕ → ℕ → ℕ → ℕ → ℕ
room_sum r n k p s = r + 2 * (r / k) + n + 2 * p * (s + 2)

-- claimed and stack words while collecting: A minus the bottom, the words on the stack, one for each job in hand
abbrev pub in_use : Table → ℕ
in_use t =
    pick t.on
    (t.marks.a - bottom_of t.upper t.limits.h + (end_of t.upper t.limits.h - t.marks.top) + t.marks.j)
    0

-- the most of them at any moment of a run
unfoldable pub peak : List Call → Ends → ℕ
peak [] e = in_use e.out.table
peak (c ∷ cs) e = max (in_use e.out.table) (peak cs (then c e))
