-- New's steps as the machine defines them are what their acts make of the table.
use Prim.Native.Nat.{ℕ, ◌+◌}
use mathlib.Core.Path.{◌≡◌, refl, sym}
use mathlib.Core.List.{List}
use mathlib.Core.Bool.{Bool, true, false}
use Rattle.table.specs.declared.Table.{Table}
use Rattle.table.specs.declared.Wanted.{Wanted}
use Rattle.machine.specs.Basics.{pick}
use Rattle.machine.specs.Words.{end_of, room_for}
use Rattle.machine.specs.Begin.{new_ok}
use Rattle.machine.specs.New.{new_off_of, room_for_two, new_on_of}
use Rattle.machine.specs.Step.{settle_of}
use Rattle.machine.proofs.Rules.{chosen}
use Rattle.new.specs.Acts.{Came, settle_act, settled, new_off_act, new_on_act}

-- a choice of acts within a choice settles as the choice of what they make
pub settled_pick2 : (t : Table) (i : ℕ) (a b : Bool) (x y z : Came) → settled t i (pick a (pick b x y) z) ≡ pick a (pick b (settled t i x) (settled t i y)) (settled t i z)
settled_pick2 t i true b x y z = chosen (settled t i) b x y
settled_pick2 t i false b x y z = refl

pub new_off_settles : (t : Table) (ws : List ℕ) (i : ℕ) (want : Wanted) → new_off_of t ws i want.register want.len want.m ≡ settled t i (new_off_act t ws want)
unfolding new_off_of new_off_act settled settle_act settle_of
new_off_settles t ws i want =
    sym (settled_pick2 t i (new_ok t.limits.s want.register want.len want.m) (room_for false t.marks (end_of t.upper t.limits.h) (want.len + 2)) _ _ _)

pub new_on_settles : (t : Table) (ws : List ℕ) (i : ℕ) (want : Wanted) → new_on_of t ws i want.register want.len want.m ≡ settled t i (new_on_act t ws want)
unfolding new_on_of new_on_act settled settle_act settle_of
new_on_settles t ws i want =
    sym (settled_pick2 t i (new_ok t.limits.s want.register want.len want.m) (room_for_two t.marks (end_of t.upper t.limits.h) want.len) _ _ _)
