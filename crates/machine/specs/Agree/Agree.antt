-- The word after the space in use.
use Rattle.std.specs.Prelude.{ℕ}
use Rattle.table.specs.declared.Table.{Table}
use Rattle.machine.specs.Words.{end_of}

abbrev pub end : Table → ℕ
end t = end_of t.upper t.limits.h
