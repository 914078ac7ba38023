-- Sums of words while collecting: the words of the objects that the flip found apart from those made since, and quotients.
use Rattle.std.specs.Prelude.{ℕ, zero, suc, ◌+◌, ◌-◌, ◌*◌, ◌/◌, ◌≤◌, ◌<◌, ◌≡◌, refl, Bool, true, false, leb, eqb}
use Rattle.std.proofs.Common.{ap, sym, ◌∙◌, arith, le-div_iff_mul-le, eqb-true, leb-true, leb-false, le-leb, ne_eqb}
use Rattle.std.proofs.Math.Decide.{ℕ_discrete, dec_le}
use Rattle.std.proofs.lemmas.Bool.{eqb-false}
use Rattle.machine.specs.Basics.{pick}
use Rattle.machine.specs.Sum.{room_sum}
use Rattle.machine.proofs.Objects.Base.{clash, upd, upd_same, upd_other, upd_all, sum_to, sum_to_at}
use Rattle.machine.proofs.Objects.State.{Hd, white, claimed, count, locked, Shape, Snapshot, IsSeen, IsPlaced}
use Rattle.machine.proofs.Objects.Counts.{is_placed, claims, new_words}

-- ---- sums
pub sum_two : (n : ℕ) (f a b : ℕ → ℕ) → ((x : ℕ) → f x ≡ a x + 2 * b x) → sum_to n f ≡ sum_to n a + 2 * sum_to n b
unfolding sum_to
sum_two zero f a b h = refl
sum_two (suc n) f a b h = omega (arith, h n, sum_two n f a b h)

-- what is 0 from m on
pub sum_short : (m n : ℕ) (f : ℕ → ℕ) → m ≤ n → ((x : ℕ) → m ≤ x → f x ≡ 0) → sum_to n f ≡ sum_to m f
unfolding sum_to
sum_short zero zero f l h = refl
sum_short (suc m) zero f l h = absurd (omega arith)
sum_short m (suc n) f l h = on (ℕ_discrete m (suc n)) (λ k. sum_short m n f k h)
  where
    on : Dec (m ≡ suc n) → (m ≤ n → sum_to n f ≡ sum_to m f) → f n + sum_to n f ≡ sum_to m f
    on (yes e) ih = rw e refl
    on (no d) ih = omega (arith, h n (omega arith), ih (omega arith))

-- each at most c; and one of them 0
pub sum_each : (n c : ℕ) (f : ℕ → ℕ) → ((x : ℕ) → f x ≤ c) → sum_to n f ≤ n * c
unfolding sum_to
sum_each zero c f h = omega arith
sum_each (suc n) c f h = omega (arith, h n, sum_each n c f h)

pub sum_but_one : (n i c : ℕ) (f : ℕ → ℕ) → i < n → ((x : ℕ) → f x ≤ c) → f i ≡ 0 → sum_to n f + c ≤ n * c
sum_but_one n i c f l h z =
    omega (
      arith,
      sum_each n c (upd f i c) (upd_all (λ x b. b ≤ c) f i c (omega arith) (λ x d. h x)),
      sum_to_at n i f (upd f i c) l (λ x d. sym (upd_other f i c x d)),
      upd_same f i c,
    )

-- one more, at a number that counted nothing
pub sum_with : (n y c : ℕ) (f : ℕ → ℕ) → y < n → f y ≡ 0 → sum_to n (upd f y c) ≡ sum_to n f + c
sum_with n y c f l z = omega (arith, upd_same f y c, sum_to_at n y (upd f y c) f l (λ x d. upd_other f y c x d))

-- ---- quotients
-- so many at k each, paid but for m of them
pub paid_quotient : (k n w m : ℕ) → 0 < k → k * n ≤ w + k * m → n ≤ w / k + m
paid_quotient k n w m pos h = on (dec_le n m)
  where
    on : Dec (n ≤ m) → n ≤ w / k + m
    on (yes l) = omega arith
    on (no l) =
        let d : ℕ = n - m in
        let e : n ≡ m + d = omega (arith, l) in
        let f : k * n ≡ k * m + k * d = ap (λ x. k * x) e ∙ omega arith in
        let q : d ≤ w / k = (le-div_iff_mul-le pos).1 (omega (arith, h, f)) in
        omega (arith, q, e)

-- demand 3's sum, multiplied out
pub sum_out : (r n k p s : ℕ) → room_sum r n k p s ≡ r + 2 * (r / k) + n + 2 * (p * (s + 2))
sum_out r n k p s = omega arith

-- ---- words
-- the words claimed for an object that the flip found
abbrev pub old_words : Shape → Snapshot → (ℕ → Hd) → ℕ → ℕ
old_words sh g hd x = pick (eqb x 0) 0 (pick (leb x g.n) (pick (is_placed (hd x)) (sh.len x + 2) 0) 0)

pub claims_split : (sh : Shape) (g : Snapshot) (hd : ℕ → Hd) (x : ℕ) → claims sh g hd x ≡ old_words sh g hd x + 2 * new_words sh g x
claims_split sh g hd x = on (eqb x 0) refl (leb x g.n) refl
  where
    on : (a : Bool) → eqb x 0 ≡ a → (b : Bool) → leb x g.n ≡ b
        → pick a 0 (pick b (pick (is_placed (hd x)) (sh.len x + 2) 0) (2 * (sh.len x + 2)))
        ≡ pick a 0 (pick b (pick (is_placed (hd x)) (sh.len x + 2) 0) 0) + 2 * pick b 0 (sh.len x + 2)
    on true p true q = refl
    on true p false q = absurd (omega (arith, eqb-true x 0 p, leb-false x g.n q))
    on false p true q = omega arith
    on false p false q = omega arith

pub placed_true : (h : Hd) → IsPlaced h → is_placed h ≡ true
placed_true white s = absurd s
placed_true (claimed t) s = absurd s
placed_true (count c) s = refl
placed_true (locked i t) s = refl

true_seen : (h : Hd) → is_placed h ≡ true → IsSeen h
true_seen white e = clash cc
true_seen _ e = tt

-- of a placed object that the flip found
pub old_words_lem : (sh : Shape) (g : Snapshot) (hd : ℕ → Hd) (x : ℕ) → 0 < x → x ≤ g.n → IsPlaced (hd x) → old_words sh g hd x ≡ sh.len x + 2
old_words_lem sh g hd x pos l s = rw (ne_eqb x 0 (λ e. omega arith), le-leb x g.n l, placed_true (hd x) s) refl

-- and of none other
pub only_old : (sh : Shape) (g : Snapshot) (hd : ℕ → Hd) (x : ℕ) → 0 < old_words sh g hd x
    → (0 < x) × (x ≤ g.n) × IsSeen (hd x) × (old_words sh g hd x ≡ sh.len x + 2)
only_old sh g hd x = on (eqb x 0) refl (leb x g.n) refl (is_placed (hd x)) refl
  where
    on : (a : Bool) → eqb x 0 ≡ a → (b : Bool) → leb x g.n ≡ b → (c : Bool) → is_placed (hd x) ≡ c
        → 0 < pick a 0 (pick b (pick c (sh.len x + 2) 0) 0)
        → (0 < x) × (x ≤ g.n) × IsSeen (hd x) × (pick a 0 (pick b (pick c (sh.len x + 2) 0) 0) ≡ sh.len x + 2)
    on true p b q c r l = absurd (omega arith)
    on false p true q true r l = (omega (arith, eqb-false x 0 p), leb-true x g.n q, true_seen (hd x) r, refl)
    on false p true q false r l = absurd (omega arith)
    on false p false q c r l = absurd (omega arith)

pub new_none : (sh : Shape) (g : Snapshot) (hd : ℕ → Hd) (x : ℕ) → g.n < x → old_words sh g hd x ≡ 0
new_none sh g hd x l = on (ℕ_discrete 0 (old_words sh g hd x))
  where
    on : Dec (0 ≡ old_words sh g hd x) → old_words sh g hd x ≡ 0
    on (yes e) = sym e
    on (no d) = absurd (omega (arith, (only_old sh g hd x (omega (arith, d))).1))

pub unplaced_none : (sh : Shape) (g : Snapshot) (hd : ℕ → Hd) (x i : ℕ) → hd x ≡ claimed i → old_words sh g hd x ≡ 0
unplaced_none sh g hd x i e = on (eqb x 0) (leb x g.n)
  where
    on : (a b : Bool) → pick a 0 (pick b (pick (is_placed (hd x)) (sh.len x + 2) 0) 0) ≡ 0
    on true b = refl
    on false true = rw e refl
    on false false = refl
