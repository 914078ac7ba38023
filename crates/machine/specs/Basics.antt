-- Choices by a test, and what a test shows; tests and changes along a list.
use Rattle.std.specs.Prelude.{ℕ, zero, suc, List, [], ◌∷◌, Bool, true, false, Result}
use Rattle.table.specs.declared.Refusal.{Refusal}

-- the first of the two if the test holds, else the second
abbrev pub pick {ℓ} : {A : Type ℓ} → Bool → A → A → A
pick true a b = a
pick false a b = b

-- a test that is passed, or what it refuses with
abbrev pub Gate : Type 0
Gate = Result (Unit {0}) Refusal

-- what a test that came out true shows
abbrev pub When : Bool → Type 0 → Type 0
When true A = A
When false A = Unit {0}

-- the test holds of each
unfoldable pub all_of : {A : Type 0} → (A → Bool) → List A → Bool
all_of good [] = true
all_of good (x ∷ xs) = pick (good x) (all_of good xs) false

-- the first n made new
unfoldable pub first_of : {A : Type 0} → ℕ → (A → A) → List A → List A
first_of zero new xs = xs
first_of (suc n) new [] = []
first_of (suc n) new (x ∷ xs) = new x ∷ first_of n new xs
