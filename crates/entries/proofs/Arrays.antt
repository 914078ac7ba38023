-- Arrays of structs as lists: the first entries made new one by one.
use Prim.Native.Nat.{ℕ, zero, suc, ◌+◌, ◌<◌}
use mathlib.Core.Path.{◌≡◌, refl, ap, ◌∙◌}
use mathlib.Core.List.{List, [], ◌∷◌, ◌++◌}
use native.Mathlib.Omega.{arith}
use native.Mathlib.Numerals.{add-one}
use lib.ListN.{length, get_or, set, take, drop}
use Rattle.machine.specs.Basics.{first_of}
use Rattle.machine.proofs.Agree.Rows.{get_d_behind}

-- one more of the first made new
pub first_suc :
    {A : Type 0} (new : A → A) (d : A) (xs : List A) (i : ℕ) → i < length xs →
    set (first_of i new xs) i (new (get_or xs i d)) ≡ first_of (suc i) new xs
unfolding first_of
first_suc new d [] i h = absurd (omega arith)
first_suc new d (x ∷ xs) zero h = refl
first_suc new d (x ∷ xs) (suc i) h = ap (λ ys. new x ∷ ys) (first_suc new d xs i (omega arith))

-- the next of u, of which i are made new, is that of xs
pub next_of : {A : Type 0} (new : A → A) (xs u : List A) (i : ℕ) (d : A) → u ≡ first_of i new xs → i < length xs → get_or u i d ≡ get_or xs i d
next_of new xs u i d k h = ap (λ l. get_or l i d) k ∙ get_d_behind i new xs i d (omega arith)

-- one more of u made new
pub one_more : {A : Type 0} (new : A → A) (xs u : List A) (i : ℕ) (y d : A) → u ≡ first_of i new xs → i < length xs → y ≡ new (get_or u i d) → set u i y ≡ first_of (i + 1) new xs
one_more new xs u i y d k h e = rw (e, next_of new xs u i d k h, k, add-one) (first_suc new d xs i h)

-- the first n alone made new, and the others after them
pub whole_row : {A : Type 0} (new : A → A) (n : ℕ) (xs : List A) → first_of n new (take n xs) ++ drop n xs ≡ first_of n new xs
unfolding first_of
whole_row new zero xs = refl
whole_row new (suc n) [] = refl
whole_row new (suc n) (x ∷ xs) = ap (λ ys. new x ∷ ys) (whole_row new n xs)
