-- A pass of a flip that visits in order, seen from its loop.
use Rattle.std.specs.Prelude.{Ok, Err}
use Prim.Native.Nat.{ℕ, ◌+◌, ◌<◌, ◌≤◌}
use mathlib.Core.Path.{◌≡◌, refl, sym, ◌∙◌}
use mathlib.Core.List.{List}
use native.Mathlib.Numerals.{add-one}
use lib.ListN.{length, get_or, drop, drop_of_length-le}
use lib.Seq.{drop-cons}
use Rattle.table.specs.declared.Marks.{Marks}
use Rattle.table.specs.declared.Refusal.{Refusal}
use Rattle.machine.specs.Basics.{Gate}
use Rattle.machine.specs.Flip.{Went, next, pass_of}
use Rattle.visits.specs.declared.Space.{Space}
use Rattle.visits.specs.Visits.{Leaves, left}

-- The loop's invariant: i are visited; the pass from the start is the pass from here, of the same space.
pub record Passing {A : Type 0} (visit : ℕ → ℕ → A → Marks → List ℕ → Went) (xs : List A) (a b : Space) (i : ℕ) : Type 0 where
  pub words : b.words.ghost_name ≡ a.words.ghost_name
  pub long : length b.words.now ≡ length a.words.now
  pub s : b.s ≡ a.s
  pub end : b.end ≡ a.end
  pub so : pass_of (visit a.end a.s) xs a.marks a.words.now ≡ pass_of (visit a.end a.s) (drop i xs) b.marks b.words.now

pub begins : {A : Type 0} (visit : ℕ → ℕ → A → Marks → List ℕ → Went) (xs : List A) (a : Space) → Passing visit xs a a 0
begins visit xs a = record { words = refl; long = refl; s = refl; end = refl; so = refl }

module _ {A : Type 0} {visit : ℕ → ℕ → A → Marks → List ℕ → Went} {xs : List A} {a b : Space} {i : ℕ} (k : Passing visit xs a b i) where
  pub ends : length xs ≤ i → Leaves (Ok tt) a b (pass_of (visit a.end a.s) xs)
  unfolding pass_of
  ends h = record { so = sym (k.so ∙ rw (drop_of_length-le xs h)); words = k.words; long = k.long; s = k.s; end = k.end }

  -- the visit to the next one came to v and left the space at c
  module _ {v : Gate} {c : Space} (d : A) (h : i < length xs) (e : Leaves v b c (visit b.end b.s (get_or xs i d))) where
    turn : pass_of (visit a.end a.s) xs a.marks a.words.now ≡ next (left v c) (pass_of (visit a.end a.s) (drop (i + 1) xs))
    unfolding pass_of
    turn = k.so ∙ rw (drop-cons xs i d h, add-one, e.so, k.s, k.end)

    pub goes_on : v ≡ Ok tt → Passing visit xs a c (i + 1)
    goes_on o = record { words = e.words ∙ k.words; long = e.long ∙ k.long; s = e.s ∙ k.s; end = e.end ∙ k.end; so = turn ∙ rw o }

    pub stops : {x : Refusal} → v ≡ Err x → Leaves (Err x) a c (pass_of (visit a.end a.s) xs)
    stops {x} o = record { so = sym (turn ∙ rw o); words = e.words ∙ k.words; long = e.long ∙ k.long; s = e.s ∙ k.s; end = e.end ∙ k.end }
