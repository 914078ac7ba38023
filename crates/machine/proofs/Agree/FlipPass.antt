-- The passes of the flip: what was visited is exactly the pending objects, the roots and the registers, or there was no room.
use Rattle.std.specs.Prelude.{ℕ, zero, suc, ◌≤◌, ◌<◌, ◌≡◌, refl, ◌⊎◌, false, length, get_or, Result, Ok, Err}
use Rattle.std.proofs.Common.{ap, sym, subst, ◌∙◌, inl, inr, arith}
use mathlib.Core.List.{List, [], ◌∷◌, map}
use Rattle.std.proofs.Math.Decide.{ℕ_discrete, dec_lt}
use Rattle.std.proofs.lemmas.List.{length-map, get_or-replicate}
use Rattle.std.proofs.Math.ListN.{get_or-map, get_or-eq_default}
use Rattle.table.specs.declared.Primary.{Primary}
use Rattle.table.specs.declared.Marks.{Marks}
use Rattle.table.specs.declared.Task.{Task}
use Rattle.table.specs.declared.Refusal.{Refusal}
use Rattle.machine.specs.Numbers.{refusal}
use Rattle.machine.specs.Words.{primary}
use Rattle.machine.specs.Entries.{no_task, nil}
use Rattle.machine.specs.Flip.{Went, onward, next, pass_of, visit_of, pending_pass, register_pass}
use Rattle.machine.specs.Objects.Base.{In}
use Rattle.machine.proofs.Objects.State.{State, root, pending_is}
use Rattle.machine.proofs.Objects.Inv.{Sound, Inv}
use Rattle.machine.proofs.Objects.Flipped.{Comes}
use Rattle.machine.proofs.Agree.Encode.{at_primary, at_task}
use Rattle.machine.proofs.Agree.FlipVisit.{Visited, Cramped, After, AfterPass, root_visit, pending_visit}

-- ---- sets of objects
-- the list has exactly the objects of D
abbrev pub Exact : (ℕ → Type 0) → List ℕ → Type 0
Exact D vs = ((y : ℕ) → In y vs → D y) × ((y : ℕ) → D y → In y vs)

-- D, and the first r of f
abbrev pub Plus : (ℕ → Type 0) → (ℕ → ℕ) → ℕ → ℕ → Type 0
Plus D f r y = D y ⊎ ((q : ℕ) × (q < r) × (f q ≡ y))

exact_start : (D : ℕ → Type 0) (f : ℕ → ℕ) (vs : List ℕ) → Exact D vs → Exact (Plus D f 0) vs
exact_start D f vs k = (λ y i. inl (k.0 y i), λ y. elim [ inl d ↦ k.1 y d | inr w ↦ absurd (omega (arith, w.1)) ])

exact_more : (D : ℕ → Type 0) (f : ℕ → ℕ) (r : ℕ) (vs : List ℕ) → Exact (Plus D f r) vs → Exact (Plus D f (suc r)) (f r ∷ vs)
exact_more D f r vs k = (old, new)
  where
    wider : (y : ℕ) → Plus D f r y → Plus D f (suc r) y
    wider y (inl d) = inl d
    wider y (inr (q, l, e)) = inr (q, omega (arith, l), e)

    old : (y : ℕ) → In y (f r ∷ vs) → Plus D f (suc r) y
    old y (inl e) = inr (r, omega arith, sym e)
    old y (inr i) = wider y (k.0 y i)

    new : (y : ℕ) → Plus D f (suc r) y → In y (f r ∷ vs)
    new y (inl d) = inr (k.1 y (inl d))
    new y (inr (q, l, e)) = go (ℕ_discrete q r)
      where
        go : Dec (q ≡ r) → In y (f r ∷ vs)
        go (yes z) = inl (sym e ∙ ap f z)
        go (no n) = inr (k.1 y (inr (q, omega (arith, l, n), e)))

-- nil is among them
nil_plus : (D : ℕ → Type 0) (f : ℕ → ℕ) (r : ℕ) (vs : List ℕ) → D 0 → Exact (Plus D f r) vs → In 0 vs
nil_plus D f r vs d k = k.1 0 (inl d)

-- ---- passes
module _ (K : ℕ → Type 0) (pa : ℕ → ℕ) (o : State) (base end size : ℕ) where
  -- a pass that goes on has visited exactly the objects of D; one that stops found no room
  abbrev pub SomePass : (ℕ → Type 0) → Result Marks Refusal → List ℕ → Type 0
  SomePass D (Ok m) ws = (vs : List ℕ) × Exact D vs × Visited K pa o base end size vs m ws
  SomePass D (Err x) ws = (x ≡ refusal 10) × Cramped K pa o base end size

  abbrev pub Some : (ℕ → Type 0) → Went → Type 0
  Some D w = SomePass D w.pass w.words

  after_some : (D : ℕ → Type 0) (vs : List ℕ) (w : Went) → Exact D vs → After K pa o base end size vs w → Some D w
  after_some D vs w k = go w.pass
    where
      go : (x : Result Marks Refusal) → AfterPass K pa o base end size vs x w.words → SomePass D x w.words
      go (Ok m) a = (vs, k, a)
      go (Err x) a = a

  some_next : (D E : ℕ → Type 0) (w : Went) (rest : Marks → List ℕ → Went) → Some D w
      → ((vs : List ℕ) (m : Marks) (ws : List ℕ) → Exact D vs → Visited K pa o base end size vs m ws → Some E (rest m ws)) → Some E (next w rest)
  some_next D E w rest k h = go w.pass k
    where
      go : (x : Result Marks Refusal) → SomePass D x w.words → Some E (onward x w.words rest)
      go (Ok m) (vs, a, b) = h vs m w.words a b
      go (Err x) a = a

  -- a visit to each entry of a list
  some_pass : {A : Type 0} (visit : A → Marks → List ℕ → Went) (d : A) (D : ℕ → ℕ → Type 0) (l : List A)
      → ((r : ℕ) → r < length l → (vs : List ℕ) (m : Marks) (ws : List ℕ) → Exact (D r) vs → Visited K pa o base end size vs m ws → Some (D (suc r)) (visit (get_or l r d) m ws))
      → (vs : List ℕ) (m : Marks) (ws : List ℕ) → Exact (D 0) vs → Visited K pa o base end size vs m ws → Some (D (length l)) (pass_of visit l m ws)
  unfolding pass_of
  some_pass visit d D [] h vs m ws k a = (vs, k, a)
  some_pass visit d D (x ∷ l) h vs m ws k a =
      some_next (D 1) (D (length (x ∷ l))) (visit x m ws) (pass_of visit l) (h 0 (omega arith) vs m ws k a)
      (some_pass visit d (λ r. D (suc r)) l (λ r i. h (suc r) (omega arith)))

  abbrev pub pends : ℕ → ℕ
  pends u = pending_is (o.tasks u).pending

  abbrev pub Nil : ℕ → Type 0
  Nil y = y ≡ 0

  -- D, and the registers of the first i tasks
  abbrev pub RegsTo : (ℕ → Type 0) → ℕ → ℕ → Type 0
  RegsTo D zero = D
  RegsTo D (suc i) = Plus (RegsTo D i) (root (o.tasks i).regs) 8

  -- the pending objects and registers of the first p tasks, the roots, and nil
  abbrev pub All : ℕ → ℕ → Type 0
  All p = RegsTo (Plus (Plus Nil pends p) (root o.roots) 8) p

  regs_nil : (D : ℕ → Type 0) (i : ℕ) → D 0 → RegsTo D i 0
  regs_nil D zero d = d
  regs_nil D (suc i) d = inl (regs_nil D i d)

  module _ (p s : ℕ) (v : Inv K p s o) (off : o.on ≡ false) (s_high : s ≤ 255) (b_low : 2 ≤ base) (nilp : pa 0 ≡ 0) where
    -- the roots, or the registers of one task
    row_pass : (D : ℕ → Type 0) → D 0 → (l : List Primary) → length l ≡ 8 → ((r : ℕ) → Sound K o.shape (root l r)) → ((r : ℕ) → Comes o (root l r))
        → (vs : List ℕ) (m : Marks) (ws : List ℕ) → Exact D vs → Visited K pa o base end size vs m ws → Some (Plus D (root l) 8) (pass_of (visit_of end s) (map (at_primary pa) l) m ws)
    row_pass D d l e q c vs m ws k a =
        rw (length-map l (at_primary pa), e)
        at (some_pass (visit_of end s) (at_primary pa nil) (Plus D (root l)) (map (at_primary pa) l) step vs m ws (exact_start D (root l) vs k) a)
      where
        step : (r : ℕ) → r < length (map (at_primary pa) l) → (vs : List ℕ) (m : Marks) (ws : List ℕ) → Exact (Plus D (root l) r) vs → Visited K pa o base end size vs m ws
            → Some (Plus D (root l) (suc r)) (visit_of end s (get_or (map (at_primary pa) l) r (at_primary pa nil)) m ws)
        step r i vs m ws k a =
            rw (get_or-map (at_primary pa) l r nil)
            (after_some (Plus D (root l) (suc r)) (root l r ∷ vs) (visit_of end s (primary (pa (root l r))) m ws) (exact_more D (root l) r vs k)
            (root_visit K pa o base end size p s v off s_high b_low nilp vs m ws a (root l r) (q r) (c r) (nil_plus D (root l) r vs d k)))

    module _ (ra : ℕ → ℕ) (es : List Task) (same : (r : ℕ) → r < length es → get_or es r no_task ≡ at_task pa ra (o.tasks r)) where
      pending_pass_lem : (vs : List ℕ) (m : Marks) (ws : List ℕ) → Exact Nil vs → Visited K pa o base end size vs m ws
          → Some (Plus Nil pends (length es)) (pass_of (pending_pass end s) es m ws)
      pending_pass_lem vs m ws k a = some_pass (pending_pass end s) no_task (Plus Nil pends) es step vs m ws (exact_start Nil pends vs k) a
        where
          -- no two tasks have one pending object
          fresh : (r : ℕ) (vs : List ℕ) → Exact (Plus Nil pends r) vs → 0 < pends r → In (pends r) vs → ⊥
          fresh r vs k l i = go (k.0 (pends r) i)
            where
              go : Plus Nil pends r (pends r) → ⊥
              go (inl e) = omega (arith, e, l)
              go (inr (q, n, e)) = omega (arith, n, v.owners.pendings r q l (sym e))

          step : (r : ℕ) → r < length es → (vs : List ℕ) (m : Marks) (ws : List ℕ) → Exact (Plus Nil pends r) vs → Visited K pa o base end size vs m ws
              → Some (Plus Nil pends (suc r)) (pending_pass end s (get_or es r no_task) m ws)
          step r i vs m ws k a =
              rw (same r i)
              (after_some (Plus Nil pends (suc r)) (pends r ∷ vs) (pending_pass end s (at_task pa ra (o.tasks r)) m ws) (exact_more Nil pends r vs k)
              (pending_visit K pa o base end size p s v off s_high b_low nilp vs m ws a (o.tasks r).pending (v.entries r).pending (inr (inl (r, refl)))
              (nil_plus Nil pends r vs refl k) (fresh r vs k)))

      registers_pass : (D : ℕ → Type 0) → D 0 → (vs : List ℕ) (m : Marks) (ws : List ℕ) → Exact D vs → Visited K pa o base end size vs m ws
          → Some (RegsTo D (length es)) (pass_of (register_pass end s) es m ws)
      registers_pass D d = some_pass (register_pass end s) no_task (RegsTo D) es step
        where
          step : (r : ℕ) → r < length es → (vs : List ℕ) (m : Marks) (ws : List ℕ) → Exact (RegsTo D r) vs → Visited K pa o base end size vs m ws
              → Some (RegsTo D (suc r)) (register_pass end s (get_or es r no_task) m ws)
          step r i vs m ws k a =
              rw (same r i)
              (row_pass (RegsTo D r) (regs_nil D r d) (o.tasks r).regs (v.entries r).eight (v.entries r).regs (λ q. inr (inr (inr (r, q, refl)))) vs m ws k a)

      -- all three
      pub three_passes : length es ≡ p → (roots : List Primary) → roots ≡ map (at_primary pa) o.roots → (vs : List ℕ) (m : Marks) (ws : List ℕ) → Exact Nil vs
          → Visited K pa o base end size vs m ws
          → Some (All p)
          (next (next (pass_of (pending_pass end s) es m ws) (pass_of (visit_of end s) roots)) (pass_of (register_pass end s) es))
      three_passes n roots e vs m ws k a = subst (λ (z : ℕ). Some (All z) (next (next (pass_of (pending_pass end s) es m ws) (pass_of (visit_of end s) roots)) (pass_of (register_pass end s) es))) n (
          let D₁ : ℕ → Type 0 = Plus Nil pends (length es) in
          let D₂ : ℕ → Type 0 = Plus (Plus Nil pends (length es)) (root o.roots) 8 in
          some_next D₂ (RegsTo D₂ (length es)) (next (pass_of (pending_pass end s) es m ws) (pass_of (visit_of end s) roots)) (pass_of (register_pass end s) es)
          (some_next D₁ D₂ (pass_of (pending_pass end s) es m ws) (pass_of (visit_of end s) roots) (pending_pass_lem vs m ws k a)
          (λ vs m ws k a. rw e (row_pass D₁ (inl refl) o.roots v.eight v.roots (λ q. inr (inr (inl (q, refl)))) vs m ws k a)))
          (registers_pass D₂ (inl (inl refl))))

    -- ---- all that comes is visited
    regs_in : (D : ℕ → Type 0) (i y : ℕ) → D y → RegsTo D i y
    regs_in D zero y d = d
    regs_in D (suc i) y d = inl (regs_in D i y d)

    reg_in : (D : ℕ → Type 0) (i t r : ℕ) → t < i → r < 8 → RegsTo D i (root (o.tasks t).regs r)
    reg_in D zero t r l m = absurd (omega arith)
    reg_in D (suc i) t r l m = go (ℕ_discrete t i) (λ n. reg_in D i t r n m)
      where
        go : Dec (t ≡ i) → (t < i → RegsTo D i (root (o.tasks t).regs r)) → RegsTo D (suc i) (root (o.tasks t).regs r)
        go (yes e) ih = inr (r, m, ap (λ (z : ℕ). root (o.tasks z).regs r) (sym e))
        go (no n) ih = inl (ih (omega (arith, l, n)))

    pub comes_all : (x : ℕ) → Comes o x → All p x
    comes_all x (inl e) = regs_in (Plus (Plus Nil pends p) (root o.roots) 8) p x (inl (inl e))
    comes_all x (inr (inl (u, e))) = regs_in (Plus (Plus Nil pends p) (root o.roots) 8) p x (inl (go (dec_lt u p)))
      where
        go : Dec (u < p) → Plus Nil pends p x
        go (yes l) = inr (u, l, e)
        go (no n) = inl (sym e ∙ ap (λ (z : Task). pending_is z.pending) (v.owners.beyond u (omega (arith, n))))
    comes_all x (inr (inr (inl (r, e)))) = regs_in (Plus (Plus Nil pends p) (root o.roots) 8) p x (go (dec_lt r 8))
      where
        go : Dec (r < 8) → Plus (Plus Nil pends p) (root o.roots) 8 x
        go (yes l) = inr (r, l, e)
        go (no n) = inl (inl (sym e ∙ ap (λ (z : Primary). z.0) (get_or-eq_default o.roots nil (omega (arith, n, v.eight)))))
    comes_all x (inr (inr (inr (u, r, e)))) = go (dec_lt u p) (dec_lt r 8)
      where
        nil_in : x ≡ 0 → All p x
        nil_in z = regs_in (Plus (Plus Nil pends p) (root o.roots) 8) p x (inl (inl z))

        go : Dec (u < p) → Dec (r < 8) → All p x
        go (yes l) (yes m) = rw (← e) (reg_in (Plus (Plus Nil pends p) (root o.roots) 8) p u r l m)
        go (yes l) (no m) = nil_in (sym e ∙ ap (λ (z : Primary). z.0) (get_or-eq_default (o.tasks u).regs nil (omega (arith, m, (v.entries u).eight))))
        go (no l) (yes m) =
            nil_in (sym e ∙ ap (λ (z : Task). root z.regs r) (v.owners.beyond u (omega (arith, l)))
            ∙ ap (λ (z : Primary). z.0) (get_or-replicate 8 r nil nil m))
        go (no l) (no m) = nil_in (sym e ∙ ap (λ (z : Primary). z.0) (get_or-eq_default (o.tasks u).regs nil (omega (arith, m, (v.entries u).eight))))
