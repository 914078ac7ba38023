-- What is made new, where there is a replica for all of it.
use Rattle.std.specs.Prelude.{◌≡◌, Bool, true, false, Option, Some, None}

abbrev pub Remade : {A : Type 0} → Option A → Bool → A → Type 0
Remade (Some x) good new = (good ≡ true) × (x ≡ new)
Remade None good new = good ≡ false
