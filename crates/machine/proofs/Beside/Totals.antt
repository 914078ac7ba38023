-- A sum over objects is at most the total over a list in which each that counts has an address of its own.
use Rattle.std.specs.Prelude.{ℕ, zero, suc, ◌+◌, ◌≤◌, ◌<◌, ◌≡◌, refl, List, [], ◌∷◌, Bool, true, false, length, eqb}
use Rattle.std.proofs.Common.{sym, ◌∙◌, inl, inr, arith, eqb-true, ne_eqb}
use Rattle.std.proofs.Math.Decide.{dec_lt}
use Rattle.std.proofs.lemmas.Bool.{eqb-false}
use Rattle.machine.specs.Basics.{pick}
use Rattle.machine.specs.Objects.Base.{In}
use Rattle.machine.proofs.Objects.Base.{sum_to, sum_to_ext, sum_none}
use Rattle.machine.specs.Live.Live.{total}

-- no two objects that count have the same address
abbrev Alone : (ℕ → ℕ) → (ℕ → ℕ) → Type 0
Alone pa f = (x y : ℕ) → 0 < f x → 0 < f y → pa x ≡ pa y → x ≡ y

-- f without the objects at address q
abbrev without : (ℕ → ℕ) → ℕ → (ℕ → ℕ) → ℕ → ℕ
without pa q f x = pick (eqb (pa x) q) 0 (f x)

without_some : (pa : ℕ → ℕ) (q : ℕ) (f : ℕ → ℕ) (x : ℕ) → 0 < without pa q f x → (pa x ≡ q → ⊥) × (0 < f x)
without_some pa q f x = by (eqb (pa x) q) refl
  where
    by : (b : Bool) → eqb (pa x) q ≡ b → 0 < pick b 0 (f x) → (pa x ≡ q → ⊥) × (0 < f x)
    by true e l = absurd (omega arith)
    by false e l = (eqb-false (pa x) q e, l)

-- only one of them counts, with c at most
without_most : (pa : ℕ → ℕ) (q c : ℕ) (f : ℕ → ℕ) → Alone pa f → ((x : ℕ) → 0 < f x → pa x ≡ q → f x ≤ c)
    → (n : ℕ) → sum_to n f ≤ c + sum_to n (without pa q f)
unfolding sum_to
without_most pa q c f alone most zero = omega arith
without_most pa q c f alone most (suc n) = by (eqb (pa n) q) refl (dec_lt 0 (f n)) (without_most pa q c f alone most n)
  where
    -- the others at q do not count
    same : pa n ≡ q → 0 < f n → (x : ℕ) → x < n → f x ≡ without pa q f x
    same e l x m = on (eqb (pa x) q) refl
      where
        on : (b : Bool) → eqb (pa x) q ≡ b → f x ≡ pick b 0 (f x)
        on true z = go (dec_lt 0 (f x))
          where
            go : Dec (0 < f x) → f x ≡ 0
            go (yes h) = absurd (omega (arith, alone x n h l (eqb-true (pa x) q z ∙ sym e)))
            go (no h) = omega (arith, h)
        on false z = refl

    by : (b : Bool) → eqb (pa n) q ≡ b → Dec (0 < f n) → sum_to n f ≤ c + sum_to n (without pa q f)
        → f n + sum_to n f ≤ c + (pick b 0 (f n) + sum_to n (without pa q f))
    by true e (yes l) ih =
        let z : pa n ≡ q = eqb-true (pa n) q e in
        omega (arith, most n l z, sum_to_ext n f (without pa q f) (same z l))
    by true e (no l) ih = omega (arith, l)
    by false e d ih = omega arith

-- what stands in the list twice, or for no object, only adds to the total
pub sum_total : (pa w : ℕ → ℕ) (n : ℕ) (ms : List ℕ) (f : ℕ → ℕ) → ((x y : ℕ) → 0 < f x → 0 < f y → pa x ≡ pa y → x ≡ y)
    → ((x : ℕ) → 0 < f x → In (pa x) ms × (f x ≤ w (pa x))) → sum_to n f ≤ total w ms
unfolding total
sum_total pa w n [] f alone k = omega (arith, sum_none n f (λ x l. go x (dec_lt 0 (f x))))
  where
    go : (x : ℕ) → Dec (0 < f x) → f x ≡ 0
    go x (yes h) = absurd (k x h).0
    go x (no h) = omega (arith, h)
sum_total pa w n (q ∷ ms) f alone k =
    let rest = sum_total pa w n ms (without pa q f) (λ x y l m. alone x y (without_some pa q f x l).1 (without_some pa q f y m).1) kept in
    omega (arith, without_most pa q (w q) f alone (λ x l e. rw e at (k x l).1) n, rest)
  where
    kept : (x : ℕ) → 0 < without pa q f x → In (pa x) ms × (without pa q f x ≤ w (pa x))
    kept x l =
        let h = without_some pa q f x l in
        let i = k x h.1 in (
          elim i.0 as (λ z. In (pa x) ms) [ inl e ↦ absurd (h.0 e) | inr j ↦ j ],
          rw (ne_eqb (pa x) q h.0) i.1,
        )

-- one for each
pub total_ones : (ms : List ℕ) → total (λ p. 1) ms ≡ length ms
unfolding total
total_ones [] = refl
total_ones (p ∷ ms) = omega (arith, total_ones ms)
