-- Words, copies and payments just after the flip: every word is of a replica, nothing is copied and nothing is owed for what was made since.
use Prim.Native.Nat.{ℕ, suc, ◌+◌, ◌≤◌, ◌<◌}
use Rattle.std.specs.Prelude.{◌≡◌, List, [], false, length, eqb, Option, Some, None}
use Rattle.std.proofs.Math.Path.{refl, ap}
use Rattle.std.proofs.Common.{◌∙◌, arith, le-ltb, le-leb}
use Rattle.std.proofs.Math.Nat.{mul-le-mul_left}
use Rattle.table.specs.declared.Making.{Making}
use Rattle.table.specs.declared.Place.{Place}
use Rattle.table.specs.declared.Place.TheVariants.{Idle, New, Asked}
use Rattle.machine.specs.Basics.{pick}
use Rattle.machine.specs.Flip.{unasked, unasked_entry}
use Rattle.machine.specs.Objects.Base.{In}
use Rattle.machine.proofs.Objects.Base.{sum_to, sum_to_ext, sum_none, in?}
use Rattle.machine.proofs.Objects.State.{Hd, Shape, State, IsSeen, IsPlaced, left}
use Rattle.machine.proofs.Objects.Inv.{from, PendingOk, Off, Inv}
use Rattle.machine.proofs.Objects.Ops.{found_in}
use Rattle.machine.proofs.Objects.Flipped.{Restful}
use Rattle.machine.proofs.Objects.FlipInv.{Mid, readied}
use Rattle.machine.proofs.Objects.Counts.{is_placed, claims, new_words, is_grey, left_to_pay, unfilled, Counts}
use Rattle.machine.proofs.Objects.HeadLaws.{placed_seen}

-- ---- sums over the headers
-- the words of x's replica, if it has one
abbrev pub twin_words_of : Shape → (ℕ → Hd) → ℕ → ℕ
twin_words_of sh hd x = pick (eqb x 0) 0 (pick (is_placed (hd x)) (sh.len x + 2) 0)

-- all replicas' words; the objects that have slots to copy
abbrev pub twinned : Shape → (ℕ → Hd) → ℕ
twinned sh hd = sum_to (suc sh.n) (λ x. pick (eqb x 0) 0 (pick (is_placed (hd x)) (sh.len x + 2) 0))

abbrev pub grey_ones : Shape → (ℕ → Hd) → ℕ
grey_ones sh hd = sum_to (suc sh.n) (λ x. is_grey (hd x))

-- at rest there is no payment in hand
no_payment : (pl : Place) → Restful pl → left_to_pay (unasked pl) ≡ 0
unfolding unasked
no_payment Idle r = refl
no_payment (New want) r = refl
no_payment (Asked want) r = refl
no_payment _ r = absurd r

module _ {K : ℕ → Type 0} {p s : ℕ} {o : State} {vs : List ℕ} {o₁ : State} (v : Inv K p s o) (off : o.on ≡ false) (rest : (t : ℕ) → Restful (o.tasks t).place)
    (m : Mid o vs o₁) where
  abbrev sh : Shape
  sh = o.shape

  off_all : Off o.hd o.stack
  off_all = rw off at v.mode

  hd_old : (x : ℕ) → x ≤ sh.n → (readied o₁).hd x ≡ o₁.hd x
  hd_old x l = rw (m.shape, le-ltb sh.n x l) refl

  -- an object that is seen was visited, and has its filled slots to copy
  seen_in : (x : ℕ) → 0 < x → x ≤ sh.n → IsSeen ((readied o₁).hd x) → In x vs
  seen_in x a b q = go (in? x vs)
    where
      go : Dec (In x vs) → In x vs
      go (yes i) = i
      go (no n) = absurd (rw (hd_old x b ∙ m.same x n ∙ off_all.all x a) at q)

  all_left : (x : ℕ) → 0 < x → x ≤ sh.n → IsPlaced ((readied o₁).hd x) → left (sh.len x) ((readied o₁).hd x) ≡ sh.fill x
  all_left x a b q = ap (left (sh.len x)) (hd_old x b ∙ m.hd₁ x (seen_in x a b (placed_seen ((readied o₁).hd x) q)) a)

  -- what is to be filled of a pending object is at most its length
  to_fill : (q : Option Making) → PendingOk K sh o.hd o.on q → unfilled q ≤ s
  to_fill None w = omega arith
  to_fill (Some d) w = omega (arith, w.3, v.shapes.high d.at.0 w.2)

  pub flip_counts : {base a : ℕ} (k : ℕ) → a ≡ base + twinned o.shape o₁.hd → length o₁.stack ≡ grey_ones o.shape o₁.hd
      → Counts k p s o.shape (found_in o vs) (readied o₁).hd o₁.stack (λ t. unasked_entry (o.tasks t)) base a 0 0 [] (λ t. 0)
  unfolding unasked_entry
  flip_counts {base} {a} k tally greys = record {
    words = omega (arith, tally, sum_to_ext (suc sh.n) (claims sh (found_in o vs) (readied o₁).hd) (twin_words_of sh o₁.hd) claim);
    greys = omega (arith, greys, sum_to_ext (suc sh.n) (λ x. is_grey ((readied o₁).hd x)) (λ x. is_grey (o₁.hd x)) (λ x l. ap is_grey (hd_old x (omega (arith, l)))));
    reach = λ x a b q. from (seen_in x a b q);
    copied = refl;
    once = tt;
    which = λ x i j. absurd j;
    each = λ x i a b q l f. absurd (omega (arith, all_left x a b q, l, f));
    paid = let z : sum_to (suc sh.n) (new_words sh (found_in o vs)) ≡ 0 = sum_none (suc sh.n) (new_words sh (found_in o vs)) none_new in rw z (omega arith);
    most = λ t.
        omega (arith, no_payment (o.tasks t).place (rest t), mul-le-mul_left k (to_fill (o.tasks t).pending (v.entries t).pending));
    forgave = λ t l. absurd (omega arith);
  }
    where
      claim : (x : ℕ) → x < suc sh.n → claims sh (found_in o vs) (readied o₁).hd x ≡ twin_words_of sh o₁.hd x
      claim x l = rw (le-leb x sh.n (omega (arith, l)), hd_old x (omega (arith, l))) refl

      none_new : (x : ℕ) → x < suc sh.n → new_words sh (found_in o vs) x ≡ 0
      none_new x l = rw (le-leb x sh.n (omega (arith, l))) refl

  -- the same, by the parts of `flips (readied o₁) vs`
  pub counts_flipped : {base a j copies : ℕ} (k : ℕ) → a ≡ base + twinned o.shape o₁.hd → length o₁.stack ≡ grey_ones o.shape o₁.hd → j ≡ 0 → copies ≡ 0
      → Counts k p s o₁.shape (found_in (readied o₁) vs) (readied o₁).hd o₁.stack (λ t. unasked_entry (o.tasks t)) base a j copies [] (λ t. 0)
  counts_flipped k tally greys e f = rw (m.shape, m.prim, e, f) (rw m.shape at (flip_counts k tally greys))
