-- The digits of a number are read back as that number.
use Prim.Native.Nat.{ℕ, zero, suc, ◌+◌, ◌-◌, ◌*◌, ◌/◌, ◌%◌, ◌≤◌, ◌<◌}
use native.Mathlib.Omega.{arith}
use mathlib.Core.Path.{◌≡◌, refl, ap, ◌∙◌}
use mathlib.Core.List.{List, [], ◌∷◌, ◌++◌}
use mathlib.Core.Bool.{Bool, true, false}
use lib.Dec.{ltb}
use borrow.Author.Tests.{le-ltb, ne_eqb, ltb-true, ltb-false}
use Rattle.std.specs.Prelude.{Option, Some, None}
use Rattle.script.specs.Line.{digit, digits_from, field_number}
use Rattle.answers.specs.Text.{spelled, decimal}

pub not_none : {A : Type 0} (x : A) → ◌≡◌ {A = Option A} None (Some x) → ⊥
not_none x e = cc

-- the first of the digits left
pub first_digit : (b : ℕ) (s : List ℕ) (v n : ℕ) → digits_from v (b ∷ s) ≡ Some n → (digit b ≡ true) × (digits_from (10 * v + (b - 48)) s ≡ Some n)
unfolding digits_from
first_digit b s v n e = go (digit b) refl
  where
    go : (x : Bool) → digit b ≡ x → (digit b ≡ true) × (digits_from (10 * v + (b - 48)) s ≡ Some n)
    go true f = (f, simp f at e)
    go false f = absurd (not_none n (simp f at e))

-- a text of digits, of which the first is no zero, that stands for n
record Stands (n : ℕ) (s : List ℕ) : Type 0 where
  first : ℕ
  rest : List ℕ
  made : s ≡ first ∷ rest
  low : 48 < first
  high : first ≤ 57
  value : digits_from (first - 48) rest ≡ Some n

-- digits, and one more
digits_snoc : (s : List ℕ) (v n d : ℕ) → d < 10 → digits_from v s ≡ Some n → digits_from v (s ++ ((48 + d) ∷ [])) ≡ Some (10 * n + d)
unfolding digits_from
digits_snoc [] v n d h e =
    let a : v ≡ n = cc in
    let b : 48 + d - 48 ≡ d = omega arith in
    simp (le-ltb (48 + d) 48 (omega arith), le-ltb 57 (48 + d) (omega arith), b, a)
digits_snoc (b ∷ s) v n d h e =
    let f = first_digit b s v n e in
    simp f.0 (digits_snoc s (10 * v + (b - 48)) n d h f.1)

stands : (k n : ℕ) → 0 < n → n < k → Stands n (spelled k n)
unfolding spelled digits_from
stands zero n l h = absurd (omega arith)
stands (suc k) n l h = go (ltb n 10) refl (stands k (n / 10))
  where
    go : (x : Bool) → ltb n 10 ≡ x → (0 < n / 10 → n / 10 < k → Stands (n / 10) (spelled k (n / 10))) → Stands n (spelled (suc k) n)
    go true e ih =
        let m : n < 10 = ltb-true _ _ e in
        record { first = 48 + n; rest = []; made = simp e; low = omega arith; high = omega arith; value = ap Some (omega arith) }
    go false e ih =
        let m : 10 ≤ n = ltb-false _ _ e in
        let s = ih (omega arith) (omega arith) in
        let a : 10 * (n / 10) + n % 10 ≡ n = omega arith in
        record {
          first = s.first;
          rest = s.rest ++ ((48 + n % 10) ∷ []);
          made = simp e (ap (λ (t : List ℕ). t ++ ((48 + n % 10) ∷ [])) s.made);
          low = s.low;
          high = s.high;
          value = digits_snoc s.rest (s.first - 48) (n / 10) (n % 10) (omega arith) s.value ∙ ap Some a;
        }

reads_digits : (b : ℕ) (t : List ℕ) (n : ℕ) → 48 < b → b ≤ 57 → digits_from (b - 48) t ≡ Some n → n ≤ 4294967295 → field_number (b ∷ t) ≡ Some n
unfolding field_number
reads_digits b t n l u e h =
    let x : b ≡ 48 → ⊥ = λ q. omega arith in
    simp (ne_eqb b 48 x, le-ltb b 48 (omega arith), le-ltb 57 b u, e, le-ltb 4294967295 n h)

-- the digits of a number are read back as that number
pub reads_back : (n : ℕ) → n ≤ 4294967295 → field_number (decimal n) ≡ Some n
unfolding decimal
reads_back zero h = unfold field_number spelled in refl
reads_back (suc m) h =
    let s = stands (suc (suc m)) (suc m) (omega arith) (omega arith) in
    ap field_number s.made ∙ reads_digits s.first s.rest (suc m) s.low s.high s.value h
