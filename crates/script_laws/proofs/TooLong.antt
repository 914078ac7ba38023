-- A line of more than 50 bytes cannot be read, so that nobody needs to keep one.
use Prim.Native.Nat.{ℕ, zero, suc, ◌+◌, ◌-◌, ◌*◌, ◌≤◌, ◌<◌}
use native.Mathlib.Omega.{arith}
use mathlib.Core.Path.{◌≡◌, refl, sym, ap, ◌∙◌}
use mathlib.Core.List.{List, [], ◌∷◌}
use mathlib.Core.Bool.{Bool, true, false}
use lib.ListN.{length}
use lib.Dec.{ltb, eqb}
use borrow.Author.Tests.{ltb-true, ltb-false, eqb-false}
use Rattle.script.specs.Line.{fields, digits_from, within, field_number, field_numbers, ascii, name_is, record_by, record_in, line_of}
use Rattle.std.specs.Prelude.{Option, Some, None, ◌&&◌}
use Rattle.std.specs.List.{onto_first}
use Rattle.std.specs.Str.{bytes_eq}
use Rattle.script.proofs.Scan.{split}
use Rattle.script.proofs.Records.{many}
use Rattle.script_laws.proofs.Digits.{not_none, first_digit}

-- ---- a number has at most ten digits

abbrev scale : ℕ → ℕ → ℕ
scale zero v = v
scale (suc k) v = scale k (10 * v)

grows : (k : ℕ) (s : List ℕ) (l v n : ℕ) → k ≤ length s → l ≤ v → digits_from v s ≡ Some n → scale k l ≤ n
unfolding digits_from
grows zero [] l v n h m e = let a : v ≡ n = cc in omega arith
grows (suc k) [] l v n h m e = absurd (omega arith)
grows zero (b ∷ s) l v n h m e = grows zero s l (10 * v + (b - 48)) n (omega arith) (omega arith) (first_digit b s v n e).1
grows (suc k) (b ∷ s) l v n h m e = grows k s (10 * l) (10 * v + (b - 48)) n (omega arith) (omega arith) (first_digit b s v n e).1

-- what is within the bound is at most the bound
within_most : (m : Option ℕ) (n : ℕ) → within m ≡ Some n → (m ≡ Some n) × (n ≤ 4294967295)
within_most None n e = absurd (not_none n e)
within_most (Some v) n e = go (ltb 4294967295 v) refl
  where
    go : (x : Bool) → ltb 4294967295 v ≡ x → (Some v ≡ Some n) × (n ≤ 4294967295)
    go true f = absurd (not_none n (simp f at e))
    go false f =
        let a : Some v ≡ Some n = simp f at e in
        let b : v ≡ n = cc in
        let c : v ≤ 4294967295 = ltb-false _ _ f in
        (a, omega arith)

rest_short : (s : List ℕ) (v n : ℕ) → 1 ≤ v → digits_from v s ≡ Some n → n ≤ 4294967295 → length s ≤ 9
rest_short s v n h e k = go (ltb 9 (length s)) refl
  where
    go : (x : Bool) → ltb 9 (length s) ≡ x → length s ≤ 9
    go true f =
        let a : 9 < length s = ltb-true _ _ f in
        let b : scale 10 1 ≤ n = grows 10 s 1 v n (omega arith) h e in
        absurd (omega arith)
    go false f = ltb-false _ _ f

positive : (b : ℕ) → 48 ≤ b → (b ≡ 48 → ⊥) → 1 ≤ b - 48
positive b l a = go (ltb 48 b) refl
  where
    go : (x : Bool) → ltb 48 b ≡ x → 1 ≤ b - 48
    go true e = let k : 48 < b = ltb-true _ _ e in omega arith
    go false e = let k : b ≤ 48 = ltb-false _ _ e in absurd (a (omega arith))

number_length : (f : List ℕ) (n : ℕ) → field_number f ≡ Some n → length f ≤ 10
unfolding field_number
number_length [] n e = omega arith
number_length (b ∷ []) n e = omega arith
number_length (b ∷ d ∷ s) n e = go (eqb b 48) (ltb b 48) (ltb 57 b) refl refl refl
  where
    go : (x y z : Bool) → eqb b 48 ≡ x → ltb b 48 ≡ y → ltb 57 b ≡ z → length (b ∷ d ∷ s) ≤ 10
    go true y z p q r = absurd (not_none n (simp p at e))
    go false true z p q r = absurd (not_none n (simp (p, q) at e))
    go false false true p q r = absurd (not_none n (simp (p, q, r) at e))
    go false false false p q r =
        let w = within_most (digits_from (b - 48) (d ∷ s)) n (simp (p, q, r) at e) in
        let l : 48 ≤ b = ltb-false _ _ q in
        let a : b ≡ 48 → ⊥ = eqb-false _ _ p in
        let m : 1 ≤ b - 48 = positive b l a in
        omega (arith, rest_short (d ∷ s) (b - 48) n m w.0 w.1)

-- ---- the length of a line, by its fields

total : List (List ℕ) → ℕ
total [] = 0
total (f ∷ fs) = suc (length f) + total fs

total_onto : (b : ℕ) (s : List ℕ) → total (onto_first b (fields s)) ≡ suc (total (fields s))
unfolding total
total_onto b s = rw (split s).2 (omega arith)

total_fields : (s : List ℕ) → total (fields s) ≡ suc (length s)
unfolding total fields
total_fields [] = refl
total_fields (b ∷ s) = go (eqb b 9) refl (total_fields s)
  where
    go : (x : Bool) → eqb b 9 ≡ x → total (fields s) ≡ suc (length s) → total (fields (b ∷ s)) ≡ suc (suc (length s))
    go true e ih = simp e (omega arith)
    go false e ih = simp e (total_onto b s ∙ ap suc ih)

total_numbers : (fs : List (List ℕ)) (ns : List ℕ) → field_numbers fs ≡ Some ns → total fs ≤ 11 * length ns
unfolding total field_numbers
total_numbers [] ns e = omega arith
total_numbers (f ∷ fs) ns e = go (field_number f) (field_numbers fs) refl refl (total_numbers fs)
  where
    go :
        (m : Option ℕ) (ms : Option (List ℕ)) → field_number f ≡ m → field_numbers fs ≡ ms →
        ((k : List ℕ) → field_numbers fs ≡ Some k → total fs ≤ 11 * length k) → total (f ∷ fs) ≤ 11 * length ns
    go None ms p q ih = absurd (not_none ns (simp p at e))
    go (Some v) None p q ih = absurd (not_none ns (simp (p, q) at e))
    go (Some v) (Some k) p q ih =
        let a : Some (v ∷ k) ≡ Some ns = simp (p, q) at e in
        let b : v ∷ k ≡ ns = cc in
        let c : suc (length k) ≡ length ns = ap length b in
        omega (arith, number_length f v p, ih k q)

-- ---- a name of more than six bytes is none

longer : (f g : List ℕ) → length g < length f → bytes_eq f g ≡ false
longer [] g h = absurd (omega arith)
longer (x ∷ f) [] h = refl
longer (x ∷ f) (y ∷ g) h = go (eqb x y) (longer f g (omega arith))
  where
    go : (b : Bool) → bytes_eq f g ≡ false → (b && bytes_eq f g) ≡ false
    go true e = e
    go false e = refl

nameless : (f : List ℕ) (ns : List ℕ) → 6 < length f → record_by (name_is f) ns ≡ None
unfolding record_by
nameless f [] h = simp (longer f (ascii "report") (omega arith))
nameless f (a ∷ []) h = simp (longer f (ascii "step") (omega arith))
nameless f (a ∷ b ∷ []) h = simp (longer f (ascii "fill") (omega arith), longer f (ascii "fillp") (omega arith), longer f (ascii "clear") (omega arith))
nameless f (a ∷ b ∷ c ∷ []) h =
    simp
    (longer f (ascii "setup") (omega arith), longer f (ascii "move") (omega arith), longer f (ascii "same") (omega arith), longer f (ascii "put") (omega arith), longer f (ascii "get") (omega arith))
nameless f (a ∷ b ∷ c ∷ d ∷ []) h =
    simp
    (longer f (ascii "setup") (omega arith), longer f (ascii "new") (omega arith), longer f (ascii "load") (omega arith), longer f (ascii "store") (omega arith), longer f (ascii "storep") (omega arith))
nameless f (a ∷ b ∷ c ∷ d ∷ e ∷ ns) h = refl

pub too_long : (s : List ℕ) → 50 < length s → line_of s ≡ None
unfolding line_of total
too_long s h = rw (split s).2 (go (field_numbers rest) refl)
  where
    name : List ℕ
    name = (split s).0

    rest : List (List ℕ)
    rest = (split s).1

    size : suc (length name) + total rest ≡ suc (length s)
    size = sym (ap total (split s).2) ∙ total_fields s

    few : (ns : List ℕ) → field_numbers rest ≡ Some ns → (x y : Bool) → ltb 6 (length name) ≡ x → ltb 4 (length ns) ≡ y → record_by (name_is name) ns ≡ None
    few ns e true y p q = nameless name ns (ltb-true _ _ p)
    few ns e false true p q = let l : 4 < length ns = ltb-true _ _ q in many (name_is name) ns (omega arith)
    few ns e false false p q =
        let a : length name ≤ 6 = ltb-false _ _ p in
        let b : length ns ≤ 4 = ltb-false _ _ q in
        absurd (omega (arith, total_numbers rest ns e, size))

    go : (m : Option (List ℕ)) → field_numbers rest ≡ m → record_in (name_is name) (field_numbers rest) ≡ None
    go None e = rw e
    go (Some ns) e = rw e (few ns e (ltb 6 (length name)) (ltb 4 (length ns)) refl refl)
