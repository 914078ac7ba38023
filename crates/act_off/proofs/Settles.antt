-- The machine's step is what the act makes of the table.
use mathlib.Core.Path.{◌≡◌, refl}
use Prim.Native.Nat.{ℕ}
use mathlib.Core.List.{List}
use Rattle.table.specs.declared.Place.{Place}
use Rattle.table.specs.declared.Place.TheVariants.{New, Asked}
use Rattle.table.specs.declared.Task.{Task}
use Rattle.table.specs.declared.Table.{Table}
use Rattle.machine.specs.Step.{settle_of, off_step_of}
use Rattle.new.specs.Acts.{settle_act, settled}
use Rattle.new.proofs.Settled.{new_off_settles}
use Rattle.act_off.specs.Off.{off_act}

pub off_settles : (t : Table) (ws : List ℕ) (i : ℕ) (e : Task) (p : Place) → off_step_of t ws i e p ≡ settled t i (off_act t ws e p)
unfolding off_step_of off_act settled settle_act settle_of
off_settles t ws i e (New want) = new_off_settles t ws i want
off_settles t ws i e (Asked want) = new_off_settles t ws i want
off_settles t ws i e _ = refl
