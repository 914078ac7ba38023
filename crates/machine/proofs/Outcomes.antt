-- One outcome for each call; 01's number and the refusal, each from the other.
use Rattle.std.specs.Prelude.{ℕ, ◌≤◌, ◌<◌, ◌≡◌, refl, List, Bool, true, false, eqb}
use Rattle.std.proofs.Common.{sym, ◌∙◌, eqb-true, arith}
use Rattle.std.proofs.lemmas.Bool.{eqb-false}
use Rattle.table.specs.declared.Limits.{Limits}
use Rattle.table.specs.declared.Table.{Table}
use Rattle.table.specs.declared.Refusal.{Refusal}
use Rattle.table.specs.declared.Refusal.TheVariants.{WrongLimit}
use Rattle.machine.specs.Basics.{pick}
use Rattle.machine.specs.Numbers.{number_of, refusal}
use Rattle.machine.specs.Entries.{Ends}
use Rattle.machine.specs.Call.{Call}
use Rattle.machine.specs.Calls.{Meets, MeetsSetup}

-- two that are both the same third are the same
pub same_end : {A : Type 0} {x y z : A} → x ≡ z → y ≡ z → x ≡ y
same_end p q = p ∙ sym q

-- two outcomes that meet a call's contract are the same: answer, table and every word
pub one_outcome : (c : Call) (t : Table) (ws : List ℕ) (x y : Ends) → Meets c t ws x → Meets c t ws y → x ≡ y
one_outcome c t ws x y p q = same_end p q

-- and so for set-up
pub one_setup : (l : Limits) (t : Table) (ws : List ℕ) (x y : Ends) → MeetsSetup l t ws x → MeetsSetup l t ws y → x ≡ y
one_setup l t ws x y p q = same_end p q

-- each refusal has the number by which the definitions name it
pub numbered : (x : Refusal) → refusal (number_of x) ≡ x
numbered WrongLimit = refl
numbered _ = refl

-- one test of a number n from k on: it is k, whose refusal is x, or it is above k
pub tested : (n k : ℕ) (x rest : Refusal) → k ≤ n → number_of x ≡ k → (k < n → number_of rest ≡ n) → number_of (pick (eqb n k) x rest) ≡ n
tested n k x rest low e above = on (eqb n k) refl
  where
    on : (b : Bool) → eqb n k ≡ b → number_of (pick b x rest) ≡ n
    on true h = e ∙ sym (eqb-true n k h)
    on false h = above (omega (arith, eqb-false n k h))

-- each number from 1 to 11 is that of the refusal which it names
pub refusal_number : (n : ℕ) → 1 ≤ n → n ≤ 11 → number_of (refusal n) ≡ n
refusal_number n from1 to11 =
    tested n 1 _ _ from1 refl λ from2.
    tested n 2 _ _ from2 refl λ from3.
    tested n 3 _ _ from3 refl λ from4.
    tested n 4 _ _ from4 refl λ from5.
    tested n 5 _ _ from5 refl λ from6.
    tested n 6 _ _ from6 refl λ from7.
    tested n 7 _ _ from7 refl λ from8.
    tested n 8 _ _ from8 refl λ from9.
    tested n 9 _ _ from9 refl λ from10.
    tested n 10 _ _ from10 refl λ from11.
    omega arith
