-- A run that writes a Store in one step of its task: what came before, the step, what came after.
use Rattle.std.specs.Prelude.{ℕ, ◌≡◌, List, ◌∷◌, ◌++◌}
use Rattle.machine.specs.Entries.{Ends}
use Rattle.machine.specs.Call.{Call}
use Rattle.machine.specs.Calls.{then, run}
use Rattle.machine.specs.Beside.Moment.{written_in, written_by}

-- the step that wrote: a step of task i, before and after which none did
pub record WrittenAt (i : ℕ) (cs : List Call) (e : Ends) : Type 0 where
  pub before : List Call
  pub after : List Call
  pub split : cs ≡ before ++ (Call.Step i ∷ after)
  pub none_before : written_by i before e ≡ 0
  pub here : written_in i (Call.Step i) (run before e) ≡ 1
  pub none_after : written_by i after (then (Call.Step i) (run before e)) ≡ 0
