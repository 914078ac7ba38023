-- A function of a choice.
use Rattle.std.specs.Prelude.{◌≡◌, refl, Bool, true, false}
use Rattle.machine.specs.Basics.{pick}

-- a function of a choice is the choice of what the function makes of the two
pub chosen : {A B : Type 0} (f : A → B) (b : Bool) (x y : A) → f (pick b x y) ≡ pick b (f x) (f y)
chosen f true x y = refl
chosen f false x y = refl
