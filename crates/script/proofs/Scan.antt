-- A rest of a line, read byte by byte, is what its fields say.
use Prim.Native.Nat.{ℕ, zero, suc, ◌+◌, ◌-◌, ◌*◌, ◌≤◌, ◌<◌}
use native.Mathlib.Omega.{arith}
use native.Mathlib.Numerals.{add-one}
use mathlib.Core.Path.{◌≡◌, refl, sym, ◌∙◌}
use mathlib.Core.List.{List, [], ◌∷◌}
use mathlib.Core.Bool.{Bool, true, false}
use lib.ListN.{length, get_or, take, drop, drop_of_length-le}
use Rattle.std.proofs.Common.{length-drop, length-take-le}
use Rattle.std.proofs.lemmas.List.{get_or-take}
use lib.Seq.{drop-cons, take-length}
use lib.Dec.{ltb, eqb}
use borrow.Author.Tests.{lt-ltb, le-ltb, eq-eqb, ne_eqb}
use Rattle.std.specs.Prelude.{Option, Some, None}
use Rattle.machine.specs.Basics.{pick}
use Rattle.script.specs.Line.{fields, digit, digits_from, within, field_number}
use Rattle.script.specs.Parts.{with_rest, front_number, longest_name, LongName}

-- a rest of a line, taken apart
pub next : (l : List ℕ) (i : ℕ) → i < length l → drop i l ≡ get_or l i 0 ∷ drop (i + 1) l
next l i h = rw (add-one, drop-cons l i 0)

-- what a slice from index k on is
rest_of : (k : ℕ) (s : List ℕ) → take (length s - k) (drop k s) ≡ drop k s
rest_of k s = rw (← length-drop k s) (take-length (drop k s))

-- there is a first field
pub split : (s : List ℕ) → (f : List ℕ) × (fs : List (List ℕ)) × (fields s ≡ f ∷ fs)
unfolding fields
split [] = ([], [], refl)
split (b ∷ s) = go (eqb b 9) refl (split s)
  where
    go : (x : Bool) → eqb b 9 ≡ x → (f : List ℕ) × (fs : List (List ℕ)) × (fields s ≡ f ∷ fs) → (f : List ℕ) × (fs : List (List ℕ)) × (fields (b ∷ s) ≡ f ∷ fs)
    go true e r = ([], fields s, simp e)
    go false e r = (b ∷ r.0, r.1, simp (e, r.2))

-- a byte that is no tab stands at the front of the first field
onto : (b : ℕ) (s f : List ℕ) (fs : List (List ℕ)) → (b ≡ 9 → ⊥) → fields s ≡ f ∷ fs → fields (b ∷ s) ≡ (b ∷ f) ∷ fs
unfolding fields
onto b s f fs n e = simp (ne_eqb b 9 n, e)

-- ---- a line without a tab, and one with its first tab at index i

pub whole : (s : List ℕ) → ((k : ℕ) → k < length s → get_or s k 0 ≡ 9 → ⊥) → fields s ≡ s ∷ []
whole [] n = unfold fields in refl
whole (b ∷ s) n = onto b s s [] (n 0 (omega arith)) (whole s (λ k h. n (suc k) (omega arith)))

cut_suc : (s : List ℕ) (i : ℕ) → i < length s → get_or s i 0 ≡ 9 → ((k : ℕ) → k < i → get_or s k 0 ≡ 9 → ⊥) → fields s ≡ take i s ∷ fields (drop (suc i) s)
cut_suc [] i h e n = absurd (omega arith)
cut_suc (b ∷ s) zero h e n = unfold fields in simp (eq-eqb b 9 e)
cut_suc (b ∷ s) (suc i) h e n = onto b s (take i s) (fields (drop (suc i) s)) (n 0 (omega arith)) (cut_suc s i (omega arith) e (λ k l. n (suc k) (omega arith)))

pub cut_at : (s : List ℕ) (i : ℕ) → i < length s → get_or s i 0 ≡ 9 → ((k : ℕ) → k < i → get_or s k 0 ≡ 9 → ⊥) → fields s ≡ take i s ∷ fields (take (length s - (i + 1)) (drop (i + 1) s))
cut_at s i h e n = rw (rest_of (i + 1) s, add-one) (cut_suc s i h e n)

-- the first field of a line whose first n bytes are no tab is no shorter
pub front_length : (n : ℕ) (s : List ℕ) → n ≤ length s → ((k : ℕ) → k < n → get_or s k 0 ≡ 9 → ⊥) → (f : List ℕ) × (fs : List (List ℕ)) × (fields s ≡ f ∷ fs) × (n ≤ length f)
front_length zero s h t = let r = split s in (r.0, r.1, r.2, omega arith)
front_length (suc n) [] h t = absurd (omega arith)
front_length (suc n) (b ∷ s) h t =
    let r = front_length n s (omega arith) (λ k l. t (suc k) (omega arith)) in
    (b ∷ r.0, r.1, onto b s r.0 r.1 (t 0 (omega arith)) r.2, omega (arith, r.3))

-- ---- the same by the first bytes of a line, at most n

pub cut_within : (s : List ℕ) (n i : ℕ) → n ≤ length s → n ≤ 7 → i < length (take n s) → get_or (take n s) i 0 ≡ 9 → ((k : ℕ) → k < i → get_or (take n s) k 0 ≡ 9 → ⊥) → (fields s ≡ take i s ∷ fields (take (length s - (i + 1)) (drop (i + 1) s))) × (length (take i s) ≤ longest_name)
cut_within s n i l u h e m =
    let j : i < n = omega (arith, length-take-le n s l) in (
      cut_at s i (omega arith) (sym (get_or-take n s i 0 j) ∙ e) (λ k f g. m k f (get_or-take n s k 0 (omega arith) ∙ g)),
      omega (arith, length-take-le i s (omega arith)),
    )

within_none : (s : List ℕ) (n : ℕ) → n ≤ length s → ((k : ℕ) → k < length (take n s) → get_or (take n s) k 0 ≡ 9 → ⊥) → (k : ℕ) → k < n → get_or s k 0 ≡ 9 → ⊥
within_none s n l m k h e = m k (omega (arith, length-take-le n s l)) (get_or-take n s k 0 h ∙ e)

pub whole_within : (s : List ℕ) (n : ℕ) → n ≡ length s → ((k : ℕ) → k < length (take n s) → get_or (take n s) k 0 ≡ 9 → ⊥) → fields s ≡ s ∷ []
whole_within s n l m = whole s (λ k h. within_none s n (omega arith) m k (omega arith))

pub long_within : (s : List ℕ) (n : ℕ) → n ≤ length s → 6 < n → ((k : ℕ) → k < length (take n s) → get_or (take n s) k 0 ≡ 9 → ⊥) → LongName (fields s)
long_within s n l h m =
    let r = front_length n s l (within_none s n l m) in
    rw r.2 (omega (arith, r.3))

-- ---- the digits of a number

-- a value that is too large stays so
big : (s : List ℕ) (v : ℕ) → 4294967295 < v → within (digits_from v s) ≡ None
unfolding digits_from
big [] v h = rw lt-ltb
big (b ∷ s) v h = go (ltb b 48) (ltb 57 b) refl refl (big s (10 * v + (b - 48)) (omega arith))
  where
    go : (x y : Bool) → ltb b 48 ≡ x → ltb 57 b ≡ y → within (digits_from (10 * v + (b - 48)) s) ≡ None → within (digits_from v (b ∷ s)) ≡ None
    go true y e f ih = simp e
    go false true e f ih = simp (e, f)
    go false false e f ih = simp (e, f, ih)

-- ---- the first field, from its first byte on

bad_first : (s f : List ℕ) (fs : List (List ℕ)) → fields s ≡ f ∷ fs → field_number f ≡ None → front_number (fields s) ≡ None
bad_first s f fs e n = rw (e, n) refl

pub bad_empty : (s : List ℕ) → length s < 1 → front_number (fields s) ≡ None
unfolding fields field_number
bad_empty [] h = refl
bad_empty (b ∷ s) h = absurd (omega arith)

pub bad_low : (s : List ℕ) → 1 ≤ length s → get_or s 0 0 < 48 → front_number (fields s) ≡ None
unfolding fields field_number
bad_low [] h l = absurd (omega arith)
bad_low (b ∷ s) h l = go (eqb b 9) refl
  where
    z : b ≡ 48 → ⊥
    z e = omega arith

    go : (x : Bool) → eqb b 9 ≡ x → front_number (fields (b ∷ s)) ≡ None
    go true e = simp e
    go false e = simp (e, (split s).2, ne_eqb b 48 z, lt-ltb b 48 l)

pub bad_high : (s : List ℕ) → 1 ≤ length s → 57 < get_or s 0 0 → front_number (fields s) ≡ None
unfolding field_number
bad_high [] h l = absurd (omega arith)
bad_high (b ∷ s) h l =
    let n : b ≡ 9 → ⊥ = λ e. omega arith in
    let z : b ≡ 48 → ⊥ = λ e. omega arith in
    let k : 48 ≤ b = omega arith in
    let r = split s in
    bad_first (b ∷ s) (b ∷ r.0) r.1 (onto b s r.0 r.1 n r.2) (simp (ne_eqb b 48 z, le-ltb b 48 k, lt-ltb 57 b l))

pub bad_zero : (s : List ℕ) → 2 ≤ length s → get_or s 0 0 ≡ 48 → (get_or s 1 0 ≡ 9 → ⊥) → front_number (fields s) ≡ None
unfolding field_number
bad_zero [] h e n = absurd (omega arith)
bad_zero (b ∷ []) h e n = absurd (omega arith)
bad_zero (b ∷ d ∷ s) h e n =
    let m : b ≡ 9 → ⊥ = λ q. omega arith in
    let r = split s in
    bad_first (b ∷ d ∷ s) (b ∷ d ∷ r.0) r.1 (onto b (d ∷ s) (d ∷ r.0) r.1 m (onto d s r.0 r.1 n r.2)) (simp (eq-eqb b 48 e))

pub zero_last : (s : List ℕ) → 1 ≤ length s → length s < 2 → get_or s 0 0 ≡ 48 → front_number (fields s) ≡ Some (0, [])
unfolding fields field_number
zero_last [] h k e = absurd (omega arith)
zero_last (b ∷ []) h k e = rw e refl
zero_last (b ∷ d ∷ s) h k e = absurd (omega arith)

pub zero_tab : (s : List ℕ) → 2 ≤ length s → get_or s 0 0 ≡ 48 → get_or s 1 0 ≡ 9 → front_number (fields s) ≡ Some (0, fields (take (length s - 2) (drop 2 s)))
unfolding fields field_number
zero_tab [] h e k = absurd (omega arith)
zero_tab (b ∷ []) h e k = absurd (omega arith)
zero_tab (b ∷ d ∷ s) h e k = rw (e, k, rest_of 2 (b ∷ d ∷ s)) refl

-- ---- the first field, after digits of the value v

-- the number of the first of some fields, where its digits go on behind those of v, and the fields behind it
abbrev pub more : ℕ → List (List ℕ) → Option (ℕ × List (List ℕ))
more v [] = None
more v (f ∷ fs) = with_rest (within (digits_from v f)) fs

pub begins : (s : List ℕ) → 1 ≤ length s → 49 ≤ get_or s 0 0 → get_or s 0 0 ≤ 57 → front_number (fields s) ≡ more 0 (fields (drop 0 s))
unfolding field_number digits_from
begins [] h l u = absurd (omega arith)
begins (b ∷ s) h l u =
    let n : b ≡ 9 → ⊥ = λ e. omega arith in
    let z : b ≡ 48 → ⊥ = λ e. omega arith in
    let k : 48 ≤ b = omega arith in
    let a : 10 * 0 + (b - 48) ≡ b - 48 = omega arith in
    let r = split s in
    rw (onto b s r.0 r.1 n r.2) (simp (ne_eqb b 48 z, le-ltb b 48 k, le-ltb 57 b u, a))

more_byte : (b : ℕ) (s : List ℕ) (v : ℕ) → (b ≡ 9 → ⊥) → more v (fields (b ∷ s)) ≡ pick (digit b) (more (10 * v + (b - 48)) (fields s)) None
unfolding digits_from
more_byte b s v n = rw (onto b s (split s).0 (split s).1 n (split s).2, (split s).2) (go (digit b) refl)
  where
    f : List ℕ
    f = (split s).0

    fs : List (List ℕ)
    fs = (split s).1

    go : (x : Bool) → digit b ≡ x → with_rest (within (digits_from v (b ∷ f))) fs ≡ pick (digit b) (with_rest (within (digits_from (10 * v + (b - 48)) f)) fs) None
    go true e = simp e
    go false e = simp e

more_big : (s : List ℕ) (v : ℕ) → 4294967295 < v → more v (fields s) ≡ None
more_big s v h = rw ((split s).2, big (split s).0 v h) refl

module _ (s : List ℕ) (i v : ℕ) (r : Option (ℕ × List (List ℕ))) (so : r ≡ more v (fields (drop i s))) where
  pub ends : length s ≤ i → v ≤ 4294967295 → r ≡ Some (v, [])
  unfolding fields digits_from
  ends h l = so ∙ rw (drop_of_length-le s h) (simp (le-ltb 4294967295 v l))

  pub ends_tab : i < length s → get_or s i 0 ≡ 9 → v ≤ 4294967295 → r ≡ Some (v, fields (take (length s - (i + 1)) (drop (i + 1) s)))
  unfolding fields digits_from
  ends_tab h e l = so ∙ rw (next s i h, e, rest_of (i + 1) s) (simp (le-ltb 4294967295 v l))

  pub low : i < length s → (get_or s i 0 ≡ 9 → ⊥) → get_or s i 0 < 48 → r ≡ None
  low h n l = so ∙ rw (next s i h, more_byte (get_or s i 0) (drop (i + 1) s) v n) (simp (lt-ltb (get_or s i 0) 48 l))

  pub high : i < length s → 57 < get_or s i 0 → r ≡ None
  high h l =
      let n : get_or s i 0 ≡ 9 → ⊥ = λ e. omega arith in
      let m : 48 ≤ get_or s i 0 = omega arith in
      so ∙ rw (next s i h, more_byte (get_or s i 0) (drop (i + 1) s) v n) (simp (le-ltb (get_or s i 0) 48 m, lt-ltb 57 (get_or s i 0) l))

  pub goes_on : (w : ℕ) → i < length s → 48 ≤ get_or s i 0 → get_or s i 0 ≤ 57 → w ≡ 10 * v + (get_or s i 0 - 48) → r ≡ more w (fields (drop (i + 1) s))
  goes_on w h l u e =
      let n : get_or s i 0 ≡ 9 → ⊥ = λ q. omega arith in
      so ∙ rw (next s i h, more_byte (get_or s i 0) (drop (i + 1) s) v n) (simp (le-ltb (get_or s i 0) 48 l, le-ltb 57 (get_or s i 0) u, e))

  pub too_large : (w : ℕ) → i < length s → 48 ≤ get_or s i 0 → get_or s i 0 ≤ 57 → w ≡ 10 * v + (get_or s i 0 - 48) → 4294967295 < w → r ≡ None
  too_large w h l u e k = goes_on w h l u e ∙ more_big (drop (i + 1) s) w k
