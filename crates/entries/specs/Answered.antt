-- How a call ends, by what it made of the table and its answer or refusal.
use Rattle.std.specs.Prelude.{Result, Ok, Err}
use Rattle.table.specs.declared.Table.{Table}
use Rattle.table.specs.declared.Refusal.{Refusal}
use Rattle.table.specs.declared.Answer.{Answer}
use Rattle.table.specs.declared.Outcome.{Outcome}
use Rattle.machine.specs.Entries.{out, refused}

abbrev pub answered : Table → Result Answer Refusal → Outcome
answered t (Ok x) = out t x
answered t (Err x) = refused t x
