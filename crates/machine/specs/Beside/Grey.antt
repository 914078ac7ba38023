-- What grey, closing and held mean, said of a table.
use Rattle.std.specs.Prelude.{ℕ, ◌<◌, ◌≡◌, Bool}
use Rattle.std.proofs.Math.Bool.{true, false}
use Rattle.table.specs.declared.Table.{Table}
use Rattle.machine.specs.Tasks.{idle_of, asks_of, works_of}
use Rattle.machine.specs.Agree.Agree.{end}
use Rattle.machine.specs.Beside.WaitsFor.{holds}

-- "on the stack, in hand, or claimed and not yet placed": nothing is
abbrev pub NothingGrey : Table → Type 0
NothingGrey t = (t.marks.top ≡ end t) × ((q : ℕ) → q < t.limits.p → works_of (holds t q) ≡ false)

-- "a flip is asked and not yet made", and "nothing is grey but a task is busy"
abbrev pub FlipAsked : Table → Type 0
FlipAsked t = (q : ℕ) × (q < t.limits.p) × (asks_of (holds t q) ≡ true)

abbrev pub Closing : Table → Type 0
Closing t = NothingGrey t × (q : ℕ) × (q < t.limits.p) × (idle_of (holds t q) ≡ false)

abbrev pub IsHeld : Table → Bool → Type 0
IsHeld t false = FlipAsked t
IsHeld t true = Closing t
