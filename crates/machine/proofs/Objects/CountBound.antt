-- Copies, each once, of slots of objects up to a number: no more than there are such slots.
use Rattle.std.specs.Prelude.{ℕ, zero, suc, ◌≤◌, ◌<◌, ◌≡◌, refl, List, [], ◌∷◌, Bool, true, false, length, eqb}
use Rattle.std.proofs.Common.{sym, inl, inr, arith, eq-eqb, ne_eqb, eqb-true}
use Rattle.machine.specs.Basics.{pick}
use Rattle.machine.specs.History.{Copy, InCopies, NoCopyTwice}
use Rattle.machine.proofs.Objects.Base.{sum_to, sum_to_ext, sum_to_at, sum_none, sum_ones}

-- 1 if slot i of object x is among the copies, else 0
abbrev is_copied : List Copy → ℕ → ℕ → ℕ
is_copied [] x i = 0
is_copied (c ∷ cs) x i = pick (eqb x c.object) (pick (eqb i c.slot) 1 (is_copied cs x i)) (is_copied cs x i)

copied_most : (cs : List Copy) (x i : ℕ) → is_copied cs x i ≤ 1
copied_most [] x i = omega arith
copied_most (c ∷ cs) x i = by (eqb x c.object) (eqb i c.slot) (copied_most cs x i)
  where
    by : (a b : Bool) → is_copied cs x i ≤ 1 → pick a (pick b 1 (is_copied cs x i)) (is_copied cs x i) ≤ 1
    by true true h = omega arith
    by true false h = h
    by false b h = h

not_copied : (cs : List Copy) (x i : ℕ) → (InCopies x i cs → ⊥) → is_copied cs x i ≡ 0
not_copied [] x i h = refl
not_copied (c ∷ cs) x i h = by (eqb x c.object) (eqb i c.slot) refl refl (not_copied cs x i (λ q. h (inr q)))
  where
    by : (a b : Bool) → eqb x c.object ≡ a → eqb i c.slot ≡ b → is_copied cs x i ≡ 0 → pick a (pick b 1 (is_copied cs x i)) (is_copied cs x i) ≡ 0
    by true true p q e = absurd (h (inl (sym (eqb-true x c.object p), sym (eqb-true i c.slot q))))
    by true false p q e = e
    by false b p q e = e

-- ---- sums
sum_most : (n : ℕ) (f g : ℕ → ℕ) → ((x : ℕ) → f x ≤ g x) → sum_to n f ≤ sum_to n g
unfolding sum_to
sum_most zero f g h = omega arith
sum_most (suc n) f g h = omega (arith, h n, sum_most n f g h)

-- each copy counts once, at its object and slot
copies_sum : (n : ℕ) (b : ℕ → ℕ) (cs : List Copy) → NoCopyTwice cs → ((x i : ℕ) → InCopies x i cs → (x ≤ n) × (i < b x))
    → sum_to (suc n) (λ x. sum_to (b x) (is_copied cs x)) ≡ length cs
copies_sum n b [] d h = sum_none (suc n) (λ x. sum_to (b x) (is_copied [] x)) (λ x l. sum_none (b x) (is_copied [] x) (λ i m. refl))
copies_sum n b (c ∷ cs) d h = go (copies_sum n b cs d.1 (λ x i q. h x i (inr q)))
  where
    l : (c.object ≤ n) × (c.slot < b c.object)
    l = h c.object c.slot (inl (refl, refl))

    -- at the object of c: one more, at its slot
    here : sum_to (b c.object) (is_copied (c ∷ cs) c.object) ≡ suc (sum_to (b c.object) (is_copied cs c.object))
    here =
        let z = sum_to_at (b c.object) c.slot (is_copied (c ∷ cs) c.object) (is_copied cs c.object) l.1
        (λ i q. rw (eq-eqb c.object c.object refl, ne_eqb i c.slot q) refl) in
        omega (arith, z, not_copied cs c.object c.slot d.0, one)
      where
        one : is_copied (c ∷ cs) c.object c.slot ≡ 1
        one = rw (eq-eqb c.object c.object refl, eq-eqb c.slot c.slot refl) refl

    go : sum_to (suc n) (λ x. sum_to (b x) (is_copied cs x)) ≡ length cs → sum_to (suc n) (λ x. sum_to (b x) (is_copied (c ∷ cs) x)) ≡ suc (length cs)
    go ih =
        let z = sum_to_at (suc n) c.object (λ x. sum_to (b x) (is_copied (c ∷ cs) x)) (λ x. sum_to (b x) (is_copied cs x)) (omega (arith, l.0))
        (λ x q. sum_to_ext (b x) (is_copied (c ∷ cs) x) (is_copied cs x) (λ i m. rw (ne_eqb x c.object q) refl)) in
        omega (arith, z, here, ih)

pub copies_bound : (n : ℕ) (b : ℕ → ℕ) (made : List Copy) → NoCopyTwice made → ((x i : ℕ) → InCopies x i made → (x ≤ n) × (i < b x)) → length made ≤ sum_to (suc n) b
copies_bound n b made d h =
    omega (arith, copies_sum n b made d h, sum_most (suc n) (λ x. sum_to (b x) (is_copied made x)) b (λ x. sum_ones (b x) (is_copied made x) (copied_most made x)))
