-- What a call leaves of the entry of a task that it does not name.
use Rattle.std.specs.Prelude.{ℕ, ◌≡◌, ◌⊎◌, true, false}
use Rattle.table.specs.declared.Table.{Table}
use Rattle.machine.specs.Entries.{task_at, Ends}
use Rattle.machine.specs.Switch.{new_entry}
use Rattle.machine.specs.Flip.{unasked_entry}
use Rattle.machine.specs.Call.{Call}
use Rattle.machine.specs.StillStore.{task_of}

-- ---- the entry of task u, which the call does not name
-- as it was; or as a flip made by a step leaves it, an asked New begun; or as a switch-over made by a step leaves it
abbrev pub Untouched : Call → Table → Ends → ℕ → Type 0
Untouched c t f u =
    (task_at f.out.table u ≡ task_at t u)
    ⊎ (((c ≡ Call.Step (task_of c)) × (t.on ≡ false) × (f.out.table.on ≡ true) × (task_at f.out.table u ≡ unasked_entry (task_at t u)))
    ⊎ ((c ≡ Call.Step (task_of c)) × (t.on ≡ true) × (f.out.table.on ≡ false) × (task_at f.out.table u ≡ new_entry f.words t.limits.s (task_at t u))))
