-- Calls that find the collector on, and calls that are not refused for want of room: what demand 3 is said with.
use Rattle.std.specs.Prelude.{◌≡◌, List, [], ◌∷◌, true}
use Rattle.machine.specs.Entries.{Ends}
use Rattle.machine.specs.Call.{Call}
use Rattle.machine.specs.Calls.{then}
use Rattle.machine.specs.Beside.Rooms.{Suits}

-- ---- the step that makes a flip
-- while every call of the list finds the collector on
abbrev pub Lasts : List Call → Ends → Type 0
Lasts [] e = Unit {0}
Lasts (c ∷ cs) e = (e.out.table.on ≡ true) × Lasts cs (then c e)

-- none of them answers 9 or 10
abbrev pub AllSuit : List Call → Ends → Type 0
AllSuit [] e = Unit {0}
AllSuit (c ∷ cs) e = Suits c e × AllSuit cs (then c e)
