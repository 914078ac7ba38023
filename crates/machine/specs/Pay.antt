-- Pay, per copy: take, read, look, put, release. (The take that finds the stack empty is in Step.)
use Rattle.std.specs.Prelude.{ℕ, ◌+◌, ◌-◌, List, get_or, set, ltb, leb, eqb, Option, Some, None}
use Rattle.table.specs.declared.Primary.{Primary}
use Rattle.table.specs.declared.Replica.{Replica}
use Rattle.table.specs.declared.Marks.{Marks}
use Rattle.table.specs.declared.Descriptor.{Descriptor}
use Rattle.table.specs.declared.Operand.{Operand}
use Rattle.table.specs.declared.Operand.TheVariants.{Plain, Pointer}
use Rattle.table.specs.declared.Then.TheVariants.{ToPut}
use Rattle.table.specs.declared.Place.TheVariants.{Take, Read, Put, Release}
use Rattle.table.specs.declared.Copying.{Copying}
use Rattle.table.specs.declared.Copying.TheVariants.{Count, Locked, Neither}
use Rattle.table.specs.declared.Deed.{Deed}
use Rattle.table.specs.declared.Deed.TheVariants.{Goes, Ends}
use Rattle.machine.specs.Basics.{pick}
use Rattle.machine.specs.Words.{primary, copied_word, object_of, look_of, if_forwarded, copying_of, slot_at}
use Rattle.machine.specs.Entries.{marks_at}
use Rattle.machine.specs.Deeds.{Acted, acted, fails}
use Rattle.machine.specs.Look.{look_ahead}

-- Take: pop, and lock slot count-1
abbrev pub take_count : Marks → List ℕ → ℕ → Primary → Replica → Copying → Acted
take_count m ws n p r (Count c) =
    pick (eqb c 0) (fails 11 ws)
    (acted (Goes (marks_at m.a (m.top + 1) (m.j + 1) m.copies) (Read n (slot_at p (c - 1)))) (set ws (r.0 - 1) (256 + (c - 1))))
take_count m ws n p r (Locked i) = fails 11 ws
take_count m ws n p r Neither = fails 11 ws

abbrev pub take_in : Marks → List ℕ → ℕ → Primary → Replica → ℕ → Acted
take_in m ws n p r len = take_count m ws n p r (copying_of len (get_or ws (r.0 - 1) 0))

unfoldable pub take_of : Marks → List ℕ → ℕ → ℕ → Acted
take_of m ws s n =
    if_forwarded (look_of ws s (primary (get_or ws m.top 0))) (take_in m ws n (primary (get_or ws m.top 0))) (fails 11 ws)

-- Read the primary slot: a look follows if it is a non-nil pointer
abbrev pub read_case : Marks → List ℕ → ℕ → Primary → ℕ → Option Descriptor → Acted
read_case m ws n x i (Some o) =
    pick (leb o.len i) (fails 11 ws)
    (pick (ltb i o.m)
    (acted (Goes m (look_ahead (Pointer (primary (get_or ws (x.0 + i) 0))) (ToPut n (slot_at x i)) (Put n (slot_at x i)))) ws)
    (acted (Goes m (look_ahead (Plain (get_or ws (x.0 + i) 0)) (ToPut n (slot_at x i)) (Put n (slot_at x i)))) ws))
read_case m ws n x i None = fails 11 ws

unfoldable pub read_of : Marks → List ℕ → ℕ → ℕ → Primary → ℕ → Acted
read_of m ws s n x i = read_case m ws n x i (object_of ws s x)

-- Put into the replica
abbrev pub put_in : Marks → List ℕ → ℕ → Primary → ℕ → Operand Replica → Replica → ℕ → Acted
put_in m ws n x i c r len = pick (leb len i) (fails 11 ws) (acted (Goes m (Release n (slot_at x i))) (set ws (r.0 + i) (copied_word c)))

unfoldable pub put_of : Marks → List ℕ → ℕ → ℕ → Primary → ℕ → Operand Replica → Acted
put_of m ws s n x i c = if_forwarded (look_of ws s x) (put_in m ws n x i c) (fails 11 ws)

-- the last copy ends the payment, and with it the instruction
abbrev pub paid : Marks → ℕ → Deed
paid m n = pick (eqb n 1) (Ends m) (Goes m (Take (n - 1)))

-- Release: header = slot number, push back if above 0
abbrev pub release_in : Marks → List ℕ → ℕ → Primary → ℕ → Replica → ℕ → Acted
release_in m ws n x i r len =
    pick (leb len i) (fails 11 ws)
    (pick (eqb m.j 0) (fails 11 ws)
    (pick (eqb n 0) (fails 11 ws)
    (pick (eqb i 0)
    (acted (paid (marks_at m.a m.top (m.j - 1) (m.copies + 1)) n) (set ws (r.0 - 1) 0))
    (acted
    (paid (marks_at m.a (m.top - 1) (m.j - 1) (m.copies + 1)) n)
    (set (set ws (r.0 - 1) i) (m.top - 1) x.0)))))

unfoldable pub release_of : Marks → List ℕ → ℕ → ℕ → Primary → ℕ → Acted
release_of m ws s n x i = if_forwarded (look_of ws s x) (release_in m ws n x i) (fails 11 ws)
