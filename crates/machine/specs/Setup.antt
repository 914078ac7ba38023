-- Set-up and report.
use Rattle.std.specs.Prelude.{ℕ, ◌+◌, ◌-◌, List, false, length, replicate, None}
use Rattle.table.specs.declared.Limits.{Limits}
use Rattle.table.specs.declared.Place.TheVariants.{Idle}
use Rattle.table.specs.declared.Life.TheVariants.{Living}
use Rattle.table.specs.declared.Task.{Task}
use Rattle.table.specs.declared.Table.{Table}
use Rattle.table.specs.declared.Answer.TheVariants.{Accepted, Report}
use Rattle.table.specs.declared.Outcome.{Outcome}
use Rattle.machine.specs.Basics.{pick}
use Rattle.machine.specs.Words.{bottom_of}
use Rattle.machine.specs.Entries.{entry, table, marks_at, nil, out, no, Ends, ends}
use Rattle.machine.specs.Gate.{sizes_ok, through, table_gate}

abbrev pub limits : ℕ → ℕ → ℕ → ℕ → Limits
limits p s h k = record { p = p; s = s; h = h; k = k }

-- "starts in the lower space with the collector off, all registers and roots nil"
abbrev pub fresh_task : Task
fresh_task = entry (replicate 8 nil) None None Idle

abbrev pub fresh_table : Limits → Table
fresh_table l = table l false false (marks_at 2 (l.h + 2) 0 0) Living (replicate 8 nil) (replicate 8 fresh_task)

-- a table never set up
abbrev pub unset : Table
unset = fresh_table (limits 0 0 0 0)

-- an accepted set-up clears the buffer; a failed one leaves table and buffer
unfoldable pub setup_of : Table → Limits → List ℕ → Ends
setup_of t l ws =
    pick (sizes_ok l (length ws))
    (ends (out (fresh_table l) Accepted) (replicate (length ws) 0))
    (ends (no t 1) ws)

-- live is A minus the bottom of the space in use
unfoldable pub report_of : Table → List ℕ → Outcome
report_of t ws =
    through (table_gate t ws) t
    (out t (Report t.on (t.marks.a - bottom_of t.upper t.limits.h) t.marks.copies))
