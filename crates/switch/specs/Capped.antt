-- The limits that the end of an instruction leans on: at most eight tasks, a half no longer than it may be.
use Rattle.std.specs.Prelude.{◌≤◌}
use Rattle.table.specs.declared.Limits.{Limits}

abbrev pub Capped : Limits → Type 0
Capped l = (l.p ≤ 8) × (l.h ≤ 8190)
