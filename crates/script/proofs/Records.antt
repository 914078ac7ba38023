-- What a record says, by the number of its numbers.
use Prim.Native.Nat.{ℕ, zero, suc, ◌+◌, ◌≤◌, ◌<◌}
use Prim.Native.String.{String}
use native.Mathlib.Omega.{arith}
use mathlib.Core.Path.{◌≡◌, refl, ap, sym}
use mathlib.Core.List.{List, [], ◌∷◌, ◌++◌, append-nil}
use mathlib.Core.Bool.{Bool, true, false}
use lib.ListN.{length, get_or, take, set}
use native.Mathlib.Numerals.{add-one}
use Rattle.std.specs.Prelude.{Option, Some, None}
use Rattle.std.proofs.Common.{length-append}
use Rattle.std.specs.Str.{bytes_eq}
use Rattle.std.proofs.lemmas.Slice.Eq.{bytes_eq-Decides}
use Rattle.script.specs.Line.{fields, before, field_number, field_numbers, ascii, name_is, record_by, record_in, said_in, line_of}
use Rattle.std.proofs.lemmas.Option.{same_Some, none-some}
use Rattle.script.specs.Parts.{with_rest, front_number, LongName}
use Rattle.script.proofs.Scan.{split}

-- ---- the numbers of a record, one by one

pub none : (is : String → Bool) (ns : List ℕ) → length ns < 1 → record_by is ns ≡ record_by is []
none is [] h = refl
none is (a ∷ ns) h = absurd (omega arith)

pub one : (is : String → Bool) (ns : List ℕ) → 1 ≤ length ns → length ns < 2 → record_by is ns ≡ record_by is (get_or ns 0 0 ∷ [])
one is [] h k = absurd (omega arith)
one is (a ∷ []) h k = refl
one is (a ∷ b ∷ ns) h k = absurd (omega arith)

pub two : (is : String → Bool) (ns : List ℕ) → 2 ≤ length ns → length ns < 3 → record_by is ns ≡ record_by is (get_or ns 0 0 ∷ get_or ns 1 0 ∷ [])
two is [] h k = absurd (omega arith)
two is (a ∷ []) h k = absurd (omega arith)
two is (a ∷ b ∷ []) h k = refl
two is (a ∷ b ∷ c ∷ ns) h k = absurd (omega arith)

pub three : (is : String → Bool) (ns : List ℕ) → 3 ≤ length ns → length ns < 4 → record_by is ns ≡ record_by is (get_or ns 0 0 ∷ get_or ns 1 0 ∷ get_or ns 2 0 ∷ [])
three is [] h k = absurd (omega arith)
three is (a ∷ []) h k = absurd (omega arith)
three is (a ∷ b ∷ []) h k = absurd (omega arith)
three is (a ∷ b ∷ c ∷ []) h k = refl
three is (a ∷ b ∷ c ∷ d ∷ ns) h k = absurd (omega arith)

pub four : (is : String → Bool) (ns : List ℕ) → 4 ≤ length ns → length ns < 5 → record_by is ns ≡ record_by is (get_or ns 0 0 ∷ get_or ns 1 0 ∷ get_or ns 2 0 ∷ get_or ns 3 0 ∷ [])
four is [] h k = absurd (omega arith)
four is (a ∷ []) h k = absurd (omega arith)
four is (a ∷ b ∷ []) h k = absurd (omega arith)
four is (a ∷ b ∷ c ∷ []) h k = absurd (omega arith)
four is (a ∷ b ∷ c ∷ d ∷ []) h k = refl
four is (a ∷ b ∷ c ∷ d ∷ e ∷ ns) h k = absurd (omega arith)

-- a record with more than four numbers is none
pub many : (is : String → Bool) (ns : List ℕ) → 5 ≤ length ns → record_by is ns ≡ None
unfolding record_by
many is [] h = absurd (omega arith)
many is (a ∷ []) h = absurd (omega arith)
many is (a ∷ b ∷ []) h = absurd (omega arith)
many is (a ∷ b ∷ c ∷ []) h = absurd (omega arith)
many is (a ∷ b ∷ c ∷ d ∷ []) h = absurd (omega arith)
many is (a ∷ b ∷ c ∷ d ∷ e ∷ ns) h = refl

-- ---- a name that is too long

differs : (f w : List ℕ) → length w < length f → bytes_eq f w ≡ false
differs f w h = go (bytes_eq f w) refl
  where
    go : (b : Bool) → bytes_eq f w ≡ b → bytes_eq f w ≡ false
    go false e = e
    go true e = absurd (omega (arith, ap length ((bytes_eq-Decides f w).0 e), h))

unnamed : (f ns : List ℕ) → 6 < length f → record_by (name_is f) ns ≡ None
unfolding record_by
unnamed f [] h = simp (differs f (ascii "report") (omega arith))
unnamed f (a ∷ []) h = simp (differs f (ascii "step") (omega arith))
unnamed f (a ∷ b ∷ []) h = simp (differs f (ascii "fill") (omega arith), differs f (ascii "fillp") (omega arith), differs f (ascii "clear") (omega arith))
unnamed f (a ∷ b ∷ c ∷ []) h =
    simp (differs f (ascii "setup") (omega arith), differs f (ascii "move") (omega arith), differs f (ascii "same") (omega arith), differs f (ascii "put") (omega arith), differs f (ascii "get") (omega arith))
unnamed f (a ∷ b ∷ c ∷ d ∷ []) h =
    simp (differs f (ascii "setup") (omega arith), differs f (ascii "new") (omega arith), differs f (ascii "load") (omega arith), differs f (ascii "store") (omega arith), differs f (ascii "storep") (omega arith))
unnamed f (a ∷ b ∷ c ∷ d ∷ e ∷ ns) h = refl

pub nameless : (s : List ℕ) → LongName (fields s) → line_of s ≡ None
unfolding line_of
nameless s h = go (fields s) refl h
  where
    go : (fs : List (List ℕ)) → fields s ≡ fs → LongName fs → said_in fs ≡ None
    go [] e l = absurd l
    go (f ∷ fs) e l = said (field_numbers fs)
      where
        said : (m : Option (List ℕ)) → record_in (name_is f) m ≡ None
        said None = refl
        said (Some ns) = unnamed f ns l

-- ---- numbers before those of some fields

abbrev pub befores : List ℕ → Option (List ℕ) → Option (List ℕ)
befores [] m = m
befores (a ∷ ms) m = before (Some a) (befores ms m)

pub befores_bad : (ms : List ℕ) → befores ms None ≡ None
befores_bad [] = refl
befores_bad (a ∷ ms) = simp (befores_bad ms)

pub befores_end : (ms ns : List ℕ) → befores ms (Some ns) ≡ Some (ms ++ ns)
befores_end [] ns = refl
befores_end (a ∷ ms) ns = simp (befores_end ms ns)

befores_suc : (ns : List ℕ) (k v : ℕ) (m : Option (List ℕ)) → k < length ns → befores (take (suc k) (set ns k v)) m ≡ befores (take k ns) (before (Some v) m)
befores_suc [] k v m h = absurd (omega arith)
befores_suc (a ∷ ns) zero v m h = refl
befores_suc (a ∷ ns) (suc k) v m h = ap (before (Some a)) (befores_suc ns k v m (omega arith))

pub befores_on : (ns : List ℕ) (k v : ℕ) (m : Option (List ℕ)) → k < length ns → befores (take (k + 1) (set ns k v)) m ≡ befores (take k ns) (before (Some v) m)
befores_on ns k v m h = rw add-one (befores_suc ns k v m h)

-- fields by the first of them
pub front_read : (gs : List (List ℕ)) (v : ℕ) (fs : List (List ℕ)) → front_number gs ≡ Some (v, fs) → field_numbers gs ≡ before (Some v) (field_numbers fs)
unfolding field_numbers
front_read [] v fs e = absurd (none-some (v, fs) e)
front_read (f ∷ gs) v fs e = go (field_number f) refl e
  where
    go : (m : Option ℕ) → field_number f ≡ m → with_rest m gs ≡ Some (v, fs) → field_numbers (f ∷ gs) ≡ before (Some v) (field_numbers fs)
    go None q h = absurd (none-some (v, fs) h)
    go (Some w) q h =
        let p = same_Some (w, gs) (v, fs) h in
        rw (q, ap (λ (x : ℕ × List (List ℕ)). x.0) p, ap (λ (x : ℕ × List (List ℕ)). x.1) p) refl

-- what the fields say that are left
stuck_at : (is : String → Bool) (ms : List ℕ) → record_in is (befores ms None) ≡ None
stuck_at is ms = rw (befores_bad ms) refl

pub stuck : (is : String → Bool) (ms s : List ℕ) → front_number (fields s) ≡ None → record_in is (befores ms (field_numbers (fields s))) ≡ None
unfolding field_numbers
stuck is ms s e = go (field_number (split s).0) refl (rw (split s).2 at e)
  where
    go : (m : Option ℕ) → field_number (split s).0 ≡ m → with_rest m (split s).1 ≡ None → record_in is (befores ms (field_numbers (fields s))) ≡ None
    go None q h = rw ((split s).2, q, befores_bad ms) refl
    go (Some v) q h = absurd (none-some (v, (split s).1) (sym h))

pub ended : (is : String → Bool) (ms : List ℕ) → record_in is (befores ms (field_numbers [])) ≡ record_by is ms
unfolding field_numbers
ended is ms = rw (befores_end ms [], append-nil ms) refl

pub crowded : (is : String → Bool) (ms s : List ℕ) → 4 ≤ length ms → record_in is (befores ms (field_numbers (fields s))) ≡ None
unfolding field_numbers
crowded is ms s h = rw (split s).2 (go (field_number (split s).0) (field_numbers (split s).1))
  where
    go : (m : Option ℕ) (k : Option (List ℕ)) → record_in is (befores ms (before m k)) ≡ None
    go None k = stuck_at is ms
    go (Some v) None = stuck_at is ms
    go (Some v) (Some ns) = rw (befores_end ms (v ∷ ns)) (many is (ms ++ (v ∷ ns)) (omega (arith, length-append ms (v ∷ ns))))
