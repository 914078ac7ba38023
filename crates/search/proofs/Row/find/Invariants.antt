use Rattle.std.specs.Prelude.{ℕ, Bool}
use Rattle.table.specs.declared.Task.{Task}
use Rattle.search.specs.Among.{Computes}
use Rattle.search.proofs.Search.{Seeking}
use Rattle.search.proofs.Row.find.Given as goal

abbrev pub invariant-loop-i : goal.invariant-loop-i
invariant-loop-i g l = (says : ℕ → Task → Bool) → Computes g.F.Fn l.test says → Seeking says l.self.tasks.now l.i
