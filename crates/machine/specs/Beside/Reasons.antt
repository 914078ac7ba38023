-- Too little room for a New, while collecting and while not.
use Rattle.std.specs.Prelude.{ℕ, ◌+◌, ◌-◌, ◌*◌, ◌<◌}
use Rattle.table.specs.declared.Table.{Table}
use Rattle.machine.specs.Agree.Agree.{end}

-- less room than a New of this length needs: while collecting, and while off
abbrev pub TooFull : Table → ℕ → Type 0
TooFull t len = t.marks.top - t.marks.a - t.marks.j < 2 * (len + 2)

abbrev pub NoneLeft : Table → ℕ → Type 0
NoneLeft t len = end t - t.marks.a < len + 2
