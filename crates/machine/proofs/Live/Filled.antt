-- The slots filled of an object: of a pending one those that are, of any other all.
use Prim.Native.Nat.{ℕ, zero, suc, ◌<◌}
use Rattle.std.specs.Prelude.{◌≡◌, Bool, true, false, List, eqb, Option, Some, None}
use Rattle.std.proofs.Math.Path.{refl}
use Rattle.std.proofs.Common.{sym, arith}
use Rattle.std.proofs.Math.Decide.{ℕ_discrete}
use borrow.Author.Tests.{eqb-true, eq-eqb}
use Rattle.table.specs.declared.Making.{Making}
use Rattle.table.specs.declared.Table.{Table}
use Rattle.machine.specs.Basics.{pick}
use Rattle.machine.specs.Words.{primary}
use Rattle.machine.specs.Entries.{task_at, pending_with}
use Rattle.machine.specs.Live.Reachable.{Pending}
use Rattle.machine.specs.Live.Live.{length_at, filled_or, filled_among, filled_at}

module _ (t : Table) (ws : List ℕ) (p : ℕ) where
  or_is : (d : Option Making) (n x : ℕ) → ((r len f : ℕ) → d ≡ pending_with (primary p) r len f → f ≡ x) → n ≡ x → filled_or p d n ≡ x
  or_is None n x h e = e
  or_is (Some d) n x h e = by (eqb d.at.0 p) refl
    where
      by : (b : Bool) → eqb d.at.0 p ≡ b → pick b d.filled n ≡ x
      by true k = h d.register d.len d.filled (λ i. pending_with (primary (eqb-true d.at.0 p k i)) d.register d.len d.filled)
      by false k = e

  among_none : (n m : ℕ) → ((i r len f : ℕ) → i < m → (task_at t i).pending ≡ pending_with (primary p) r len f → ⊥) → filled_among t p n m ≡ n
  unfolding filled_among
  among_none n zero h = refl
  among_none n (suc m) h =
      or_is (task_at t m).pending (filled_among t p n m) n (λ r len f e. absurd (h m r len f (omega arith) e))
      (among_none n m (λ i r len f l. h i r len f (omega arith)))

  among_some : (n m i r len f : ℕ) → i < m → (task_at t i).pending ≡ pending_with (primary p) r len f
      → ((j r' len' f' : ℕ) → j < m → (task_at t j).pending ≡ pending_with (primary p) r' len' f' → f' ≡ f) → filled_among t p n m ≡ f
  unfolding filled_among
  among_some n zero i r len f l e h = absurd (omega arith)
  among_some n (suc m) i r len f l e h =
      on (ℕ_discrete i m) (λ k. among_some n m i r len f k e (λ j r' len' f' l. h j r' len' f' (omega arith)))
    where
      on : Dec (i ≡ m) → (i < m → filled_among t p n m ≡ f) → filled_or p (task_at t m).pending (filled_among t p n m) ≡ f
      on (yes z) ih = rw (sym z, e, eq-eqb p p refl) refl
      on (no d) ih =
          or_is (task_at t m).pending (filled_among t p n m) f (λ r' len' f' k. h m r' len' f' (omega arith) k) (ih (omega arith))

  -- of an object that is not pending: its L
  pub filled_whole : (Pending t p → ⊥) → filled_at t ws p ≡ length_at ws p
  unfolding filled_at
  filled_whole h = among_none (length_at ws p) t.limits.p (λ i r len f l e. h (i, l, r, len, f, e))

  -- of one that is pending: the f of its task; no table in a run has two tasks with the same pending object
  pub filled_pending : (i r len f : ℕ) → i < t.limits.p → (task_at t i).pending ≡ pending_with (primary p) r len f
      → ((j r' len' f' : ℕ) → j < t.limits.p → (task_at t j).pending ≡ pending_with (primary p) r' len' f' → f' ≡ f) → filled_at t ws p ≡ f
  unfolding filled_at
  filled_pending i r len f l e h = among_some (length_at ws p) t.limits.p i r len f l e h
