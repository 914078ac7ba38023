-- The machine's step is what the act makes of the table.
use mathlib.Core.Path.{◌≡◌, refl, sym}
use Prim.Native.Nat.{ℕ}
use mathlib.Core.List.{List}
use lib.Dec.{ltb}
use Rattle.table.specs.declared.Place.{Place}
use Rattle.table.specs.declared.Place.TheVariants.{New, Take}
use Rattle.table.specs.declared.Task.{Task}
use Rattle.table.specs.declared.Table.{Table}
use Rattle.machine.specs.Words.{end_of}
use Rattle.machine.specs.Step.{settle_of, take_step_of, on_step_of}
use Rattle.machine.proofs.Rules.{chosen}
use Rattle.new.specs.Acts.{settle_act, settled}
use Rattle.new.proofs.Settled.{new_on_settles}
use Rattle.act_on.specs.On.{on_act}

pub take_settles : (t : Table) (ws : List ℕ) (i : ℕ) (e : Task) (n : ℕ) → take_step_of t ws i n ≡ settled t i (on_act t ws e (Take n))
unfolding take_step_of on_act settled settle_act
take_settles t ws i e n = sym (chosen (settled t i) (ltb t.marks.top (end_of t.upper t.limits.h)) _ _)

pub on_settles : (t : Table) (ws : List ℕ) (i : ℕ) (e : Task) (p : Place) → on_step_of t ws i e p ≡ settled t i (on_act t ws e p)
unfolding on_step_of on_act settled settle_act settle_of
on_settles t ws i e (New want) = new_on_settles t ws i want
on_settles t ws i e (Take n) = take_settles t ws i e n
on_settles t ws i e _ = refl
