-- The words claimed and the objects pushed while the flip gives replicas: the sums over the headers, before the first visit and at each replica given.
use Rattle.std.specs.Prelude.{ℕ, suc, ◌+◌, ◌≤◌, ◌<◌, ◌≡◌, refl, ◌≢◌, false}
use Rattle.std.proofs.Common.{ap, arith, ne_eqb}
use Rattle.std.proofs.Math.Decide.{ℕ_discrete}
use Rattle.machine.proofs.Objects.Base.{upd, upd_same, upd_other, sum_to_at, sum_none}
use Rattle.machine.proofs.Objects.State.{Hd, white, claimed, count, locked, Shape, IsUnplaced}
use Rattle.machine.proofs.Objects.Counts.{is_placed, is_grey}
use Rattle.machine.proofs.Objects.FlipCounts.{twin_words_of, twinned, grey_ones}

unplaced_is : (h : Hd) → IsUnplaced h → (is_placed h ≡ false) × (is_grey h ≡ 0)
unplaced_is white u = (refl, refl)
unplaced_is (claimed t) u = (refl, refl)
unplaced_is (count c) u = absurd u
unplaced_is (locked i t) u = absurd u

-- ---- nothing placed but nil
module _ (sh : Shape) (hd : ℕ → Hd) (nil : hd 0 ≡ count 0) (all : (x : ℕ) → 0 < x → hd x ≡ white) where
  pub none_twinned : twinned sh hd ≡ 0
  none_twinned = sum_none (suc sh.n) (twin_words_of sh hd) (λ x l. go x (ℕ_discrete x 0))
    where
      go : (x : ℕ) → Dec (x ≡ 0) → twin_words_of sh hd x ≡ 0
      go x (yes e) = rw e refl
      go x (no n) = rw (ne_eqb x 0 n, all x (omega (arith, n))) refl

  pub none_grey : grey_ones sh hd ≡ 0
  none_grey = sum_none (suc sh.n) (λ x. is_grey (hd x)) (λ x l. go x (ℕ_discrete x 0))
    where
      go : (x : ℕ) → Dec (x ≡ 0) → is_grey (hd x) ≡ 0
      go x (yes e) = rw (e, nil) refl
      go x (no n) = ap is_grey (all x (omega (arith, n)))

-- ---- x is given a replica with c slots to copy
module _ (sh : Shape) (hd : ℕ → Hd) (x c : ℕ) (pos : 0 < x) (old : x ≤ sh.n) (un : IsUnplaced (hd x)) where
  hd' : ℕ → Hd
  hd' = upd hd x (count c)

  hx : hd' x ≡ count c
  unfolding hd'
  hx = upd_same hd x (count c)

  ho : (y : ℕ) → y ≢ x → hd' y ≡ hd y
  unfolding hd'
  ho = upd_other hd x (count c)

  tally : twinned sh hd' ≡ twinned sh hd + (sh.len x + 2)
  tally =
      let s = sum_to_at (suc sh.n) x (twin_words_of sh hd') (twin_words_of sh hd) (omega (arith, old)) (λ y n. rw (ho y n) refl) in
      let a : twin_words_of sh hd x ≡ 0 = rw (ne_eqb x 0 (λ e. omega (arith, e, pos)), (unplaced_is (hd x) un).0) refl in
      let b : twin_words_of sh hd' x ≡ sh.len x + 2 = rw (ne_eqb x 0 (λ e. omega (arith, e, pos)), hx) refl in
      omega (arith, s, a, b)

  greys : grey_ones sh hd' ≡ grey_ones sh hd + is_grey (count c)
  greys =
      let s = sum_to_at (suc sh.n) x (λ y. is_grey (hd' y)) (λ y. is_grey (hd y)) (omega (arith, old)) (λ y n. ap is_grey (ho y n)) in
      let a : is_grey (hd x) ≡ 0 = (unplaced_is (hd x) un).1 in
      let b : is_grey (hd' x) ≡ is_grey (count c) = ap is_grey hx in
      omega (arith, s, a, b)

  pub more_twinned : twinned sh (upd hd x (count c)) ≡ twinned sh hd + (sh.len x + 2)
  unfolding hd'
  more_twinned = tally

  pub more_grey : grey_ones sh (upd hd x (count c)) ≡ grey_ones sh hd + is_grey (count c)
  unfolding hd'
  more_grey = greys
