-- What a flip leans on: at most eight tasks, objects and halves as long as they may be, and a buffer of just the two spaces.
use Rattle.std.specs.Prelude.{ℕ, ◌+◌, ◌*◌, ◌≤◌, ◌≡◌}
use Rattle.table.specs.declared.Limits.{Limits}

abbrev pub Spaced : Limits → ℕ → Type 0
Spaced l n = (l.p ≤ 8) × (l.s ≤ 255) × (l.h ≤ 8190) × (n ≡ 2 + 2 * l.h)
