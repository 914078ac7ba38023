-- Look and place, each once, with what follows as data.
use Rattle.std.specs.Prelude.{ℕ, ◌+◌, ◌-◌, List, true, get_or, set, eqb, Option, Some, None}
use Rattle.table.specs.declared.Primary.{Primary}
use Rattle.table.specs.declared.Replica.{Replica}
use Rattle.table.specs.declared.Marks.{Marks}
use Rattle.table.specs.declared.Descriptor.{Descriptor}
use Rattle.table.specs.declared.Operand.{Operand}
use Rattle.table.specs.declared.Operand.TheVariants.{Plain, Pointer}
use Rattle.table.specs.declared.Then.{Then}
use Rattle.table.specs.declared.Then.TheVariants.{ToWrite, ToStoreCopy, ToFillCopy, ToPut}
use Rattle.table.specs.declared.Place.{Place}
use Rattle.table.specs.declared.Place.TheVariants.{FillCopy, StoreWrite, StoreCopy, Put, Looking, Placing}
use Rattle.table.specs.declared.Look.{Look}
use Rattle.table.specs.declared.Look.TheVariants.{White, Claimed, Forwarded, Lost}
use Rattle.table.specs.declared.Sought.TheVariants.{Claimer}
use Rattle.table.specs.declared.Deed.TheVariants.{Goes, Waits}
use Rattle.machine.specs.Basics.{pick}
use Rattle.machine.specs.Words.{replica, object_of, look_of, if_forwarded, room_for, laid, slot_at}
use Rattle.machine.specs.Entries.{marks_at}
use Rattle.machine.specs.Deeds.{Acted, acted, fails}

-- what follows a look, now that the replica is known
abbrev pub go_on : Then → Replica → Place
go_on (ToWrite v) r = StoreWrite v
go_on ToStoreCopy r = StoreCopy (Pointer r)
go_on ToFillCopy r = FillCopy (Pointer r)
go_on (ToPut n job) r = Put n job (Pointer r)

-- the place of a task whose value is known: only a look at a plain or nil value takes no step
abbrev pub look_ahead : Operand Primary → Then → (Operand Replica → Place) → Place
look_ahead (Plain w) then copy = copy (Plain w)
look_ahead (Pointer p) then copy = pick (eqb p.0 0) (copy (Pointer (replica 0))) (Looking p then)

-- a look that found no replica: header 0 becomes 1 (then place follows); header 1 waits for the claimer
abbrev pub unplaced_case : Marks → List ℕ → Primary → Then → Look → Acted
unplaced_case m ws p then (White len) = acted (Goes m (Placing p then)) (set ws (p.0 - 1) 1)
unplaced_case m ws p then Claimed = acted (Waits (Claimer p)) ws
unplaced_case m ws p then (Forwarded r len) = fails 11 ws
unplaced_case m ws p then Lost = fails 11 ws

-- Look: the replica is taken out, or the look leaves on claim, wait or damage
unfoldable pub look_step_of : Marks → List ℕ → ℕ → Primary → Then → Acted
look_step_of m ws s p then = if_forwarded (look_of ws s p) (λ r len. acted (Goes m (go_on then r)) ws) (unplaced_case m ws p then (look_of ws s p))

-- what claiming a replica leaves
pub record PlacedIn : Type 0 where
  pub placed : Option (Marks × Replica)
  pub words : List ℕ

abbrev pub placed_in : Option (Marks × Replica) → List ℕ → PlacedIn
placed_in x ws = record { placed = x; words = ws }

-- a replica of the object at p claimed at a, with its descriptor and count, and the primary forwarded to it
abbrev pub forwarded_to : List ℕ → ℕ → Primary → ℕ → List ℕ
forwarded_to ws a p count = set (laid ws a (get_or ws (p.0 - 2) 0) count) (p.0 - 1) (a + 2)

-- Place: room for L+2, and one more if there is a slot to copy; then it is pushed
unfoldable pub place_of : Marks → ℕ → List ℕ → Primary → ℕ → ℕ → PlacedIn
place_of m end ws p len count =
    pick (eqb count 0)
    (pick (room_for true m end (len + 2))
    (placed_in (Some (marks_at (m.a + (len + 2)) m.top m.j m.copies, replica (m.a + 2))) (forwarded_to ws m.a p 0))
    (placed_in None ws))
    (pick (room_for true m end (len + 3))
    (placed_in
    (Some (marks_at (m.a + (len + 2)) (m.top - 1) m.j m.copies, replica (m.a + 2)))
    (set (forwarded_to ws m.a p count) (m.top - 1) p.0))
    (placed_in None ws))

abbrev pub placed_then : Then → Option (Marks × Replica) → List ℕ → Acted
placed_then then (Some (m, r)) ws = acted (Goes m (go_on then r)) ws
placed_then then None ws = fails 10 ws

-- a placed object has all its slots to copy
abbrev pub place_case : Marks → ℕ → List ℕ → Primary → Then → Option Descriptor → Acted
place_case m end ws p then (Some o) = placed_then then (place_of m end ws p o.len o.len).placed (place_of m end ws p o.len o.len).words
place_case m end ws p then None = fails 11 ws

unfoldable pub place_step_of : Marks → ℕ → List ℕ → ℕ → Primary → Then → Acted
place_step_of m end ws s p then = place_case m end ws p then (object_of ws s p)
