-- What is counted of a Store: that it waits to be written, and that it is written.
use Rattle.std.specs.Prelude.{◌≡◌, refl}
use Rattle.table.specs.declared.Place.{Place}
use Rattle.table.specs.declared.Place.TheVariants.{Idle}
use Rattle.machine.specs.Numbers.{Effect, harmless, ends_new, spends, breaks}
use Rattle.machine.specs.Flip.{unasked}
use Rattle.machine.specs.Kinds.{refused_kinds}
use Rattle.machine.specs.Beside.Waits.{waits, writes}

-- a refusal writes nothing
pub refused_writes : (x : Effect) → writes (refused_kinds x) ≡ 0
refused_writes harmless = refl
refused_writes ends_new = refl
refused_writes spends = refl
refused_writes breaks = refl

-- the flip moves no Store
pub unasked_waits : (p : Place) → waits (unasked p) ≡ waits p
unfolding unasked
unasked_waits Idle = refl
unasked_waits _ = refl
