-- The steps of a New that is not yet claimed.
use Rattle.std.specs.Prelude.{ℕ, ◌+◌, ◌*◌, List, Bool, true, false, Option, Some, None}
use Rattle.table.specs.declared.Marks.{Marks}
use Rattle.table.specs.declared.Making.{Making}
use Rattle.table.specs.declared.Place.{Place}
use Rattle.table.specs.declared.Place.TheVariants.{Asked, Take}
use Rattle.table.specs.declared.Table.{Table}
use Rattle.table.specs.declared.Sought.TheVariants.{Blocker}
use Rattle.table.specs.declared.Answer.TheVariants.{Done, Moved, Wait, No}
use Rattle.machine.specs.Basics.{pick}
use Rattle.machine.specs.Numbers.{refusal}
use Rattle.machine.specs.Words.{primary, descriptor, end_of, room_for, laid, wanted}
use Rattle.machine.specs.Entries.{marks_at, task_at, with_place, moved_table, out, no, Ends, ends, pending_with}
use Rattle.machine.specs.Tasks.{seek_of}
use Rattle.machine.specs.Begin.{new_ok}
use Rattle.machine.specs.Switch.{finish_of}
use Rattle.machine.specs.Flip.{flip_of}

-- so many words claimed
abbrev pub claimed : Marks → ℕ → Marks
claimed m n = marks_at (m.a + n) m.top m.j m.copies

-- the object claimed at A, in no register yet
abbrev pub made : Marks → ℕ → ℕ → Option Making
made m r len = pending_with (primary (m.a + 2)) r len 0

-- a flip is asked: made in this step, or the asking recorded
abbrev pub ask_or : Table → List ℕ → ℕ → Place → Option ℕ → Ends
ask_or t ws i asked (Some q) = ends (out (with_place t i asked) (Wait q)) ws
ask_or t ws i asked None = flip_of t ws

-- Collector off
unfoldable pub new_off_of : Table → List ℕ → ℕ → ℕ → ℕ → ℕ → Ends
new_off_of t ws i r len m =
    pick (new_ok t.limits.s r len m)
    (pick (room_for false t.marks (end_of t.upper t.limits.h) (len + 2))
    (finish_of t (laid ws t.marks.a (descriptor len m) 0) i (claimed t.marks (len + 2)) (made t.marks r len) Done)
    (ask_or t ws i (Asked (wanted r len m)) (seek_of t.tasks t.limits.p (Blocker i))))
    (ends (no t 11) ws)

-- primary first, both descriptors, header to the replica, replica header 0
abbrev pub claimed_twice : List ℕ → ℕ → ℕ → ℕ → List ℕ
claimed_twice ws a len d = laid (laid ws a d (a + (len + 4))) (a + (len + 2)) d 0

-- while collecting, room for the object and its replica
abbrev pub room_for_two : Marks → ℕ → ℕ → Bool
room_for_two m end len = room_for true m end (2 * (len + 2))

-- Collecting
unfoldable pub new_on_of : Table → List ℕ → ℕ → ℕ → ℕ → ℕ → Ends
new_on_of t ws i r len m =
    pick (new_ok t.limits.s r len m)
    (pick (room_for_two t.marks (end_of t.upper t.limits.h) len)
    (ends (out (moved_table t i (claimed t.marks (2 * (len + 2))) (made t.marks r len) (Take (2 * t.limits.k))) Moved)
    (claimed_twice ws t.marks.a len (descriptor len m)))
    (finish_of t ws i t.marks (task_at t i).pending (No (refusal 9))))
    (ends (no t 11) ws)
