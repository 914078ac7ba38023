-- A call that is refused with neither 9 nor 10.
use Rattle.std.specs.Prelude.{◌≢◌}
use Rattle.table.specs.declared.Refusal.TheVariants.{NoRoom, Exhausted}
use Rattle.table.specs.declared.Answer.TheVariants.{No}
use Rattle.machine.specs.Entries.{Ends}
use Rattle.machine.specs.Call.{Call}
use Rattle.machine.specs.Calls.{then}

-- ---- one call
-- it answers neither 9 nor 10
abbrev pub Suits : Call → Ends → Type 0
Suits c e = ((then c e).out.answer ≢ No NoRoom) × ((then c e).out.answer ≢ No Exhausted)
