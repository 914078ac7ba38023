-- Tests and changes along a list, by its entries.
use Rattle.std.specs.Prelude.{ℕ, zero, suc, ◌≤◌, ◌<◌, ◌≡◌, refl, List, [], ◌∷◌, map, Bool, true, length, get_or, take}
use Rattle.std.proofs.Common.{ap, arith}
use Rattle.machine.specs.Basics.{all_of, first_of}

-- a test that holds of each entry holds of the first n
pub all_take : {A : Type 0} (good : A → Bool) (d : A) (n : ℕ) (l : List A) → ((r : ℕ) → r < n → r < length l → good (get_or l r d) ≡ true) → all_of good (take n l) ≡ true
unfolding all_of
all_take good d zero l h = refl
all_take good d (suc n) [] h = refl
all_take good d (suc n) (a ∷ l) h = rw (h 0 (omega arith) (omega arith)) (all_take good d n l (λ r m i. h (suc r) (omega arith) (omega arith)))

-- a list by f, made new, is the list by g
pub first_map : {A B : Type 0} (new : B → B) (f g : A → B) (d : A) (n : ℕ) (l : List A) → length l ≤ n → ((r : ℕ) → r < length l → new (f (get_or l r d)) ≡ g (get_or l r d))
    → first_of n new (map f l) ≡ map g l
unfolding first_of
first_map new f g d zero [] m h = refl
first_map new f g d zero (a ∷ l) m h = absurd (omega arith)
first_map new f g d (suc n) [] m h = refl
first_map new f g d (suc n) (a ∷ l) m h = rw (h 0 (omega arith), first_map new f g d n l (omega arith) (λ r i. h (suc r) (omega arith)))

pub length_first : {A : Type 0} (n : ℕ) (new : A → A) (l : List A) → length (first_of n new l) ≡ length l
unfolding first_of
length_first zero new l = refl
length_first (suc n) new [] = refl
length_first (suc n) new (a ∷ l) = ap suc (length_first n new l)

-- an entry of the first n, and one behind them
pub get_d_first : {A : Type 0} (n : ℕ) (new : A → A) (l : List A) (i : ℕ) (d : A) → i < n → i < length l → get_or (first_of n new l) i d ≡ new (get_or l i d)
unfolding first_of
get_d_first zero new l i d a b = absurd (omega arith)
get_d_first (suc n) new [] i d a b = absurd (omega arith)
get_d_first (suc n) new (c ∷ l) zero d a b = refl
get_d_first (suc n) new (c ∷ l) (suc i) d a b = get_d_first n new l i d (omega arith) (omega arith)

pub get_d_behind : {A : Type 0} (n : ℕ) (new : A → A) (l : List A) (i : ℕ) (d : A) → n ≤ i → get_or (first_of n new l) i d ≡ get_or l i d
unfolding first_of
get_d_behind zero new l i d a = refl
get_d_behind (suc n) new [] i d a = refl
get_d_behind (suc n) new (c ∷ l) zero d a = absurd (omega arith)
get_d_behind (suc n) new (c ∷ l) (suc i) d a = get_d_behind n new l i d (omega arith)
