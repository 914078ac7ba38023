-- Text that is put into a buffer, and the digits of a number.
use Prim.Native.Nat.{ℕ, zero, suc, ◌+◌, ◌/◌, ◌%◌, ◌^◌, ◌≤◌, ◌<◌}
use native.Mathlib.Omega.{arith}
use mathlib.Core.Path.{◌≡◌, refl, sym, ap, ◌∙◌}
use mathlib.Core.List.{List, [], ◌∷◌, ◌++◌, append_assoc}
use mathlib.Core.Bool.{Bool, true, false}
use lib.ListN.{length, take, drop, set, length-set, length-append}
use borrow.Rule.Slice.PartMut.{put_mid}
use Rattle.std.proofs.Math.Seq.{sets, sets-eq, paste}
use Rattle.std.proofs.lemmas.List.Edits.{paste_all}
use Rattle.std.proofs.lemmas.Slice.{put_mid-paste}
use lib.Dec.{ltb}
use borrow.Author.Tests.{lt-ltb, le-ltb, ltb-false}
use Rattle.std.specs.Fmt.{decimal as printed}
use Rattle.std.proofs.lemmas.Fmt.{decimal_by_steps, length-decimal-le}
use Rattle.answers.specs.Text.{put, mode_text, spelled, decimal, Wrote, wrote, written}

-- what is put byte by byte is what the library stores so
put_sets : (t l : List ℕ) (i : ℕ) → put l i t ≡ sets l i t
unfolding put
put_sets [] l i = refl
put_sets (b ∷ t) l i = put_sets t (set l i b) (i + 1) ∙ ap (λ (k : ℕ). sets (set l i b) k t) (omega arith)

-- a part of the buffer that holds the text
pub put_part :
    (l t u : List ℕ) (at k p : ℕ) → at + length t ≤ length l → u ≡ t → k ≡ length t → p ≡ at + length t
    → wrote p (put_mid at k l u) ≡ written t l at
put_part l t u at k p h e f g =
    let a : put_mid at k l u ≡ paste l at t k = put_mid-paste at k l u t k e refl f in
    let b : paste l at t k ≡ take at l ++ (t ++ drop (at + k) l) = paste_all l at t k f in
    let d : put l at t ≡ take at l ++ (t ++ drop (at + length t) l) = put_sets t l at ∙ sets-eq t l at h ∙ append_assoc (take at l) t (drop (at + length t) l) in
    cc (a, b, d)

pub put_length : (t l : List ℕ) (i : ℕ) → length (put l i t) ≡ length l
unfolding put
put_length [] l i = refl
put_length (b ∷ t) l i = put_length t (set l i b) (i + 1) ∙ length-set l i b

pub put_append : (s t l : List ℕ) (i : ℕ) → put l i (s ++ t) ≡ put (put l i s) (i + length s) t
unfolding put
put_append [] t l i = ap (λ (k : ℕ). put l k t) (omega arith)
put_append (b ∷ s) t l i =
    put_append s t (set l i b) (i + 1) ∙ ap (λ (k : ℕ). put (put (set l i b) (i + 1) s) k t) (omega arith)

-- one text after another
pub written_append :
    (s t l : List ℕ) (i : ℕ) → written (s ++ t) l i ≡ written t (written s l i).bytes (written s l i).next
written_append s t l i =
    let a : i + length (s ++ t) ≡ i + length s + length t = omega (arith, length-append s t) in
    cc (a, put_append s t l i)

-- one text after another, as two calls leave them
pub then_text :
    (s t l o o' : List ℕ) (at p q : ℕ) → wrote p o ≡ written s l at → wrote q o' ≡ written t o p → wrote q o' ≡ written (s ++ t) l at
then_text s t l o o' at p q e f =
    let a : p ≡ at + length s = ap (λ (w : Wrote). w.next) e in
    let b : o ≡ put l at s = ap (λ (w : Wrote). w.bytes) e in
    f ∙ sym (written_append s t l at ∙ cc (a, b))

-- ---- decimal digits

-- more room for digits than are needed changes nothing
spelled_more : (j k n : ℕ) → n < j → n < k → spelled j n ≡ spelled k n
unfolding spelled
spelled_more zero k n h l = absurd (omega arith)
spelled_more (suc j) zero n h l = absurd (omega arith)
spelled_more (suc j) (suc k) n h l = go (ltb n 10) refl (spelled_more j k (n / 10))
  where
    go : (x : Bool) → ltb n 10 ≡ x → (n / 10 < j → n / 10 < k → spelled j (n / 10) ≡ spelled k (n / 10)) → spelled (suc j) n ≡ spelled (suc k) n
    go true e ih = simp e
    go false e ih =
        let m : 10 ≤ n = ltb-false _ _ e in
        simp (e, ih (omega arith) (omega arith))

decimal_small : (n : ℕ) → n < 10 → decimal n ≡ (48 + n) ∷ []
unfolding decimal spelled
decimal_small n h = rw lt-ltb

decimal_more : (n : ℕ) → 10 ≤ n → decimal n ≡ decimal (n / 10) ++ ((48 + n % 10) ∷ [])
unfolding decimal spelled
decimal_more n h = simp (le-ltb n 10 h) (ap (λ (s : List ℕ). s ++ ((48 + n % 10) ∷ [])) (spelled_more n (suc (n / 10)) (n / 10) (omega arith) (omega arith)))

-- the digits are those that the library prints
pub decimal_is : (n : ℕ) → n < 2 ^ 64 → decimal n ≡ printed n
decimal_is n h = decimal_by_steps (λ m ds. decimal m ≡ ds) decimal_small (λ m ds k e. decimal_more m k ∙ ap (λ (s : List ℕ). s ++ ((48 + m % 10) ∷ [])) e) n h

-- a number of 32 bits has at most ten digits
pub decimal_ten : (n : ℕ) → n ≤ 4294967295 → length (decimal n) ≤ 10
decimal_ten n h = rw (decimal_is n (omega arith)) (length-decimal-le 10 n (omega arith) (omega arith) (omega arith))

-- where a text ends
pub wrote_next : (p at : ℕ) (s l o : List ℕ) → wrote p o ≡ written s l at → p ≡ at + length s
wrote_next p at s l o e = ap (λ (w : Wrote). w.next) e

pub wrote_length : (p at : ℕ) (s l o : List ℕ) → wrote p o ≡ written s l at → length o ≡ length l
wrote_length p at s l o e = ap (λ (w : Wrote). length w.bytes) e ∙ put_length s l at

pub mode_length : (on : Bool) → length (mode_text on) ≤ 11
unfolding mode_text
mode_length true = omega arith
mode_length false = omega arith
