-- Functions changed at one number, lists without a number twice, and sums: what the theory of the heap leans on.
use Rattle.std.specs.Prelude.{◌≡◌, refl, ◌≢◌, List, [], ◌∷◌, true, false, ℕ, zero, suc, ◌+◌, ◌≤◌, ◌<◌, length, get_or, set, eqb}
use Rattle.std.proofs.Common.{ap, arith, get_or-set_same, get_or-set_other, eq-eqb, ne_eqb, inl, inr}
use Rattle.std.proofs.Math.Decide.{ℕ_discrete}
use Rattle.machine.specs.Basics.{pick}
use Rattle.machine.specs.Objects.Base.{In}

-- what cannot be shows anything
pub clash : {A : Type 0} → ◌≡◌ {A = ℕ} 0 1 → A
clash e = absurd (omega arith)

pub off_on : {A : Type 0} → false ≡ true → A
off_on e = clash cc

-- ---- a function changed at one number
unfoldable pub upd : {A : Type 0} → (ℕ → A) → ℕ → A → ℕ → A
upd f x a y = pick (eqb y x) a (f y)

pub upd_same : {A : Type 0} (f : ℕ → A) (x : ℕ) (a : A) → upd f x a x ≡ a
unfolding upd
upd_same f x a = rw (eq-eqb x x refl)

pub upd_other : {A : Type 0} (f : ℕ → A) (x : ℕ) (a : A) (y : ℕ) → y ≢ x → upd f x a y ≡ f y
unfolding upd
upd_other f x a y h = rw (ne_eqb y x h)

-- what holds at x of a, and at the others of f, holds of the changed function
pub upd_all : {A : Type 0} (P : ℕ → A → Type 0) (f : ℕ → A) (x : ℕ) (a : A)
    → P x a → ((y : ℕ) → y ≢ x → P y (f y)) → (y : ℕ) → P y (upd f x a y)
upd_all P f x a p q y = go (ℕ_discrete y x)
  where
    go : Dec (y ≡ x) → P y (upd f x a y)
    go (yes e) = rw e (rw upd_same p)
    go (no h) = rw (upd_other f x a y h) (q y h)

-- the same for a list and `set`
pub set_all : {A : Type 0} (Q : ℕ → A → Type 0) (l : List A) (x : ℕ) (a d : A)
    → x < length l → Q x a → ((y : ℕ) → y ≢ x → Q y (get_or l y d)) → (y : ℕ) → Q y (get_or (set l x a) y d)
set_all Q l x a d h p q y = on (ℕ_discrete y x)
  where
    on : Dec (y ≡ x) → Q y (get_or (set l x a) y d)
    on (yes e) = rw (e, get_or-set_same l x a d h) p
    on (no n) = rw (get_or-set_other l x y a d n) (q y n)

-- ---- slot i of object x changed
abbrev pub slot : {A : Type 0} → (ℕ → ℕ → A) → ℕ → ℕ → A → ℕ → ℕ → A
slot f x i v = upd f x (upd (f x) i v)

pub slot_same : {A : Type 0} (f : ℕ → ℕ → A) (x i : ℕ) (v : A) → slot f x i v x i ≡ v
slot_same f x i v = rw (upd_same f x (upd (f x) i v)) (upd_same (f x) i v)

pub slot_other : {A : Type 0} (f : ℕ → ℕ → A) (x i : ℕ) (v : A) (a j : ℕ) → ((a ≡ x) × (j ≡ i) → ⊥) → slot f x i v a j ≡ f a j
slot_other f x i v a j q = go (ℕ_discrete a x)
  where
    go : Dec (a ≡ x) → slot f x i v a j ≡ f a j
    go (yes e) = rw e (rw (upd_same f x (upd (f x) i v)) (upd_other (f x) i v j (λ w. q (e, w))))
    go (no h) = rw (upd_other f x (upd (f x) i v) a h)

-- a slot is the changed one, or another
pub here? : (a j x i : ℕ) → Dec ((a ≡ x) × (j ≡ i))
here? a j x i = go (ℕ_discrete a x) (ℕ_discrete j i)
  where
    go : Dec (a ≡ x) → Dec (j ≡ i) → Dec ((a ≡ x) × (j ≡ i))
    go (yes p) (yes q) = yes (p, q)
    go (yes p) (no q) = no (λ r. q r.1)
    go (no p) (yes q) = no (λ r. p r.0)
    go (no p) (no q) = no (λ r. p r.0)

-- what holds at (x, i), and wherever else, holds everywhere
pub at_slot : (x i : ℕ) (P : ℕ → ℕ → Type 0) → P x i → ((a j : ℕ) → ((a ≡ x) × (j ≡ i) → ⊥) → P a j) → (a j : ℕ) → P a j
at_slot x i P p q a j = go (here? a j x i)
  where
    go : Dec ((a ≡ x) × (j ≡ i)) → P a j
    go (yes e) = rw (e.0, e.1) p
    go (no h) = q a j h

-- the same for a function of one number
pub at_one : (x : ℕ) (P : ℕ → Type 0) → P x → ((a : ℕ) → a ≢ x → P a) → (a : ℕ) → P a
at_one x P p q a = go (ℕ_discrete a x)
  where
    go : Dec (a ≡ x) → P a
    go (yes e) = rw e p
    go (no n) = q a n

-- a number is in a list, or not
pub in? : (x : ℕ) (l : List ℕ) → Dec (In x l)
in? x [] = no (λ i. i)
in? x (y ∷ l) = go (ℕ_discrete x y) (in? x l)
  where
    go : Dec (x ≡ y) → Dec (In x l) → Dec (In x (y ∷ l))
    go (yes e) d = yes (inl e)
    go (no f) (yes i) = yes (inr i)
    go (no f) (no g) = no (elim [ inl e ↦ f e | inr i ↦ g i ])

abbrev pub Nodup : List ℕ → Type 0
Nodup [] = Unit {0}
Nodup (x ∷ l) = (In x l → ⊥) × Nodup l

-- ---- sums below a number
unfoldable pub sum_to : ℕ → (ℕ → ℕ) → ℕ
sum_to zero f = 0
sum_to (suc n) f = f n + sum_to n f

pub sum_to_ext : (n : ℕ) (f g : ℕ → ℕ) → ((x : ℕ) → x < n → f x ≡ g x) → sum_to n f ≡ sum_to n g
unfolding sum_to
sum_to_ext zero f g h = refl
sum_to_ext (suc n) f g h = omega (arith, h n (omega arith), sum_to_ext n f g (λ x l. h x (omega arith)))

-- a sum of zeros, and one whose parts are at most 1
pub sum_none : (n : ℕ) (f : ℕ → ℕ) → ((x : ℕ) → x < n → f x ≡ 0) → sum_to n f ≡ 0
unfolding sum_to
sum_none zero f h = refl
sum_none (suc n) f h = omega (arith, h n (omega arith), sum_none n f (λ x l. h x (omega arith)))

pub sum_ones : (n : ℕ) (f : ℕ → ℕ) → ((x : ℕ) → f x ≤ 1) → sum_to n f ≤ n
unfolding sum_to
sum_ones zero f h = omega arith
sum_ones (suc n) f h = omega (arith, h n, sum_ones n f h)

-- two functions that differ at x only: the sums differ as the values at x do
pub sum_to_at : (n x : ℕ) (f g : ℕ → ℕ) → x < n → ((y : ℕ) → y ≢ x → f y ≡ g y) → sum_to n f + g x ≡ sum_to n g + f x
unfolding sum_to
sum_to_at zero x f g l h = omega arith
sum_to_at (suc n) x f g l h = go (λ m. sum_to_at n x f g m h) (ℕ_discrete n x)
  where
    go : (x < n → sum_to n f + g x ≡ sum_to n g + f x) → Dec (n ≡ x) → f n + sum_to n f + g x ≡ g n + sum_to n g + f x
    go ih (yes e) =
        let r : sum_to n f ≡ sum_to n g = sum_to_ext n f g (λ y m. h y (omega arith)) in
        let a : f n ≡ f x = ap f e in
        let b : g n ≡ g x = ap g e in
        omega arith
    go ih (no d) = omega (arith, h n d, ih (omega arith))

-- a part of a sum is at most the sum
pub sum_to_part : (n x : ℕ) (f : ℕ → ℕ) → x < n → f x ≤ sum_to n f
unfolding sum_to
sum_to_part zero x f l = omega arith
sum_to_part (suc n) x f l = go (λ m. sum_to_part n x f m) (ℕ_discrete x n)
  where
    go : (x < n → f x ≤ sum_to n f) → Dec (x ≡ n) → f x ≤ f n + sum_to n f
    go ih (yes e) = let a : f x ≡ f n = ap f e in omega arith
    go ih (no d) = omega (arith, ih (omega arith))
