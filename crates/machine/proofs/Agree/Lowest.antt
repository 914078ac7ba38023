-- The searches over a list of tasks: what is found passes the test, what passes the test is found.
use Rattle.std.specs.Prelude.{ℕ, zero, suc, ◌+◌, ◌≤◌, ◌<◌, ◌≡◌, refl, List, [], ◌∷◌, Bool, true, false, length, get_or, take, Option, Some, None}
use Rattle.std.proofs.Common.{ap, sym, ◌∙◌, arith, get_or-take}
use Rattle.table.specs.declared.Task.{Task}
use Rattle.machine.specs.Basics.{pick}
use Rattle.machine.specs.Entries.{no_task}
use Rattle.machine.specs.Tasks.{lowest_of, is_found}
use Rattle.machine.proofs.Objects.Base.{clash, off_on}

-- ---- what a search says it found
pub found_at : (f : Option ℕ) → is_found f ≡ true → (q : ℕ) × (f ≡ Some q)
found_at (Some q) e = (q, refl)
found_at None e = off_on e

-- ---- among all of a list, whose first has number i
lowest_is : (test : ℕ → Task → Bool) (l : List Task) (i q : ℕ) → lowest_of test l i ≡ Some q
    → (j : ℕ) × (q ≡ i + j) × (j < length l) × (test q (get_or l j no_task) ≡ true)
unfolding lowest_of
lowest_is test [] i q e = clash cc
lowest_is test (a ∷ l) i q e = go (test i a) refl (lowest_is test l (suc i) q) e
  where
    go : (b : Bool) → test i a ≡ b → (lowest_of test l (suc i) ≡ Some q → (j : ℕ) × (q ≡ suc i + j) × (j < length l) × (test q (get_or l j no_task) ≡ true))
        → pick b (Some i) (lowest_of test l (suc i)) ≡ Some q → (j : ℕ) × (q ≡ i + j) × (j < length (a ∷ l)) × (test q (get_or (a ∷ l) j no_task) ≡ true)
    go true h ih e = let z : i ≡ q = cc in (0, omega arith, omega arith, ap (λ n. test n a) (sym z) ∙ h)
    go false h ih e = let m = ih e in (suc m.0, omega (arith, m.1), omega (arith, m.2), m.3)

lowest_some : (test : ℕ → Task → Bool) (l : List Task) (i j n : ℕ) → n ≡ i + j → j < length l → test n (get_or l j no_task) ≡ true
    → is_found (lowest_of test l i) ≡ true
unfolding lowest_of
lowest_some test [] i j n s m e = absurd (omega arith)
lowest_some test (a ∷ l) i zero n s m e = let z : i ≡ n = omega arith in rw (ap (λ n. test n a) z ∙ e) refl
lowest_some test (a ∷ l) i (suc j) n s m e = go (test i a) (lowest_some test l (suc i) j n (omega arith) (omega arith) e)
  where
    go : (b : Bool) → is_found (lowest_of test l (suc i)) ≡ true → is_found (pick b (Some i) (lowest_of test l (suc i))) ≡ true
    go true ih = refl
    go false ih = ih

-- ---- among the first p of a list
length_taken : (p : ℕ) (l : List Task) → length (take p l) ≤ p
length_taken zero l = omega arith
length_taken (suc p) [] = omega arith
length_taken (suc p) (a ∷ l) = omega (arith, length_taken p l)

long_taken : (p : ℕ) (l : List Task) (i : ℕ) → i < p → i < length l → i < length (take p l)
long_taken zero l i a b = absurd (omega arith)
long_taken (suc p) [] i a b = absurd (omega arith)
long_taken (suc p) (e ∷ l) zero a b = omega arith
long_taken (suc p) (e ∷ l) (suc i) a b = omega (arith, long_taken p l i (omega arith) (omega arith))

pub lowest_found : (test : ℕ → Task → Bool) (ts : List Task) (p q : ℕ) → lowest_of test (take p ts) 0 ≡ Some q → (q < p) × (test q (get_or ts q no_task) ≡ true)
lowest_found test ts p q e =
    let m = lowest_is test (take p ts) 0 q e in
    let l : q < p = omega (arith, m.1, m.2, length_taken p ts) in
    let z : m.0 ≡ q = omega (arith, m.1) in
    (l, ap (test q) (sym (get_or-take p ts q no_task l) ∙ ap (λ n. get_or (take p ts) n no_task) (sym z)) ∙ m.3)

pub lowest_one : (test : ℕ → Task → Bool) (ts : List Task) (p i : ℕ) → i < p → i < length ts → test i (get_or ts i no_task) ≡ true
    → is_found (lowest_of test (take p ts) 0) ≡ true
lowest_one test ts p i l m e =
    lowest_some test (take p ts) 0 i i (omega arith) (long_taken p ts i l m) (ap (test i) (get_or-take p ts i no_task l) ∙ e)

-- a search that found none: the test holds of none
pub lowest_none : (test : ℕ → Task → Bool) (ts : List Task) (p : ℕ) → is_found (lowest_of test (take p ts) 0) ≡ false
    → (i : ℕ) → i < p → i < length ts → test i (get_or ts i no_task) ≡ false
lowest_none test ts p e i l m = go (test i (get_or ts i no_task)) refl
  where
    go : (b : Bool) → test i (get_or ts i no_task) ≡ b → b ≡ false
    go true h = off_on (sym e ∙ lowest_one test ts p i l m h)
    go false h = refl
