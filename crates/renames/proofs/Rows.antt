-- A row made new in place, seen from its loop: how it begins, goes on, stops and ends.
use Rattle.std.specs.Prelude.{Option}
use Prim.Native.Nat.{ℕ, ◌+◌, ◌<◌, ◌≤◌}
use mathlib.Core.Path.{◌≡◌, refl, ◌∙◌}
use mathlib.Core.List.{List}
use mathlib.Core.Bool.{Bool, true, false}
use native.Mathlib.Omega.{arith}
use native.Mathlib.Numerals.{add-one}
use lib.ListN.{length, get_or, set, take, drop, drop_of_length-le}
use lib.Seq.{drop-cons}
use Rattle.table.specs.declared.Primary.{Primary}
use Rattle.table.specs.declared.Making.{Making}
use Rattle.table.specs.declared.Task.{Task}
use Rattle.entries.proofs.Arrays.{next_of, one_more}
use Rattle.machine.specs.Basics.{pick, all_of, first_of}
use Rattle.machine.specs.Entries.{entry}
use Rattle.machine.specs.Switch.{new_name, has_replica, new_pending, pending_has_replica, new_entry, entry_has_replicas}

-- The loop's invariant: of the n, i are made new, and each of them was good.
pub record Changing {A : Type 0} (good : A → Bool) (new : A → A) (xs : List A) (n : ℕ) (u : List A) (i : ℕ) : Type 0 where
  pub low : i ≤ n
  pub all : length xs ≡ n
  pub so : all_of good xs ≡ all_of good (drop i xs)
  pub done : u ≡ first_of i new xs

pub begins : {A : Type 0} (good : A → Bool) (new : A → A) (xs : List A) (n : ℕ) → length xs ≡ n → Changing good new xs n xs 0
unfolding first_of
begins good new xs n l = record { low = omega arith; all = l; so = refl; done = refl }

module _ {A : Type 0} {good : A → Bool} {new : A → A} {xs : List A} {n : ℕ} {u : List A} {i : ℕ} (k : Changing good new xs n u i) where
  pub ends : n ≤ i → (all_of good xs ≡ true) × (u ≡ first_of n new xs)
  unfolding all_of
  ends h =
      let e : i ≡ n = omega (arith, k.low) in
      let l : length xs ≤ i = omega (arith, k.all) in
      (k.so ∙ rw (drop_of_length-le xs l), rw e at k.done)

  module _ (d : A) (h : i < n) where
    turn : all_of good xs ≡ pick (good (get_or xs i d)) (all_of good (drop (i + 1) xs)) false
    unfolding all_of
    turn =
        let l : i < length xs = omega (arith, k.all) in
        k.so ∙ rw (drop-cons xs i d l, add-one)

    next_one : get_or u i d ≡ get_or xs i d
    next_one = next_of new xs u i d k.done (omega (arith, k.all))

    pub goes_on : {y : A} → (good (get_or u i d) ≡ true) × (y ≡ new (get_or u i d)) → Changing good new xs n (set u i y) (i + 1)
    goes_on {y} (g, e) =
        let l : i < length xs = omega (arith, k.all) in
        record { low = omega arith; all = k.all; so = turn ∙ rw (← next_one, g); done = one_more new xs u i y d k.done l e }

    pub stops : good (get_or u i d) ≡ false → all_of good xs ≡ false
    stops g = turn ∙ rw (← next_one, g)

-- A task: its pending pointer, then its registers.
module _ (ws : List ℕ) (s : ℕ) (e : Task) where
  pub entry_good : pending_has_replica ws s e.pending ≡ true → all_of (has_replica ws s) (take 8 e.regs) ≡ true → entry_has_replicas ws s e ≡ true
  unfolding entry_has_replicas
  entry_good p q = rw (p, q)

  pub entry_lost : pending_has_replica ws s e.pending ≡ true → all_of (has_replica ws s) (take 8 e.regs) ≡ false → entry_has_replicas ws s e ≡ false
  unfolding entry_has_replicas
  entry_lost p q = rw (p, q)

  pub entry_gone : pending_has_replica ws s e.pending ≡ false → entry_has_replicas ws s e ≡ false
  unfolding entry_has_replicas
  entry_gone p = rw p

  pub entry_new :
      (regs : List Primary) (f : Option Making) → regs ≡ first_of 8 (new_name ws s) e.regs → f ≡ new_pending ws s e.pending →
      entry regs f e.storing e.place ≡ new_entry ws s e
  unfolding new_entry
  entry_new regs f p q = rw (p, q)
