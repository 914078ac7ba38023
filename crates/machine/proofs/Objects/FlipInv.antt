-- The flip by objects: the heap while the roots are given replicas one by one, and the invariant when all have theirs.
use Rattle.std.specs.Prelude.{ℕ, ◌≤◌, ◌<◌, ◌≡◌, refl, ◌≢◌, ◌⊎◌, List, [], ◌∷◌, Bool, true, false, length, eqb, ltb}
use Rattle.std.proofs.Common.{ap, sym, ◌∙◌, inl, inr, arith, eqb-true, lt-ltb, le-ltb}
use Rattle.std.proofs.Math.Decide.{dec_lt}
use Rattle.std.proofs.Math.ListN.{get_or-eq_default}
use Rattle.std.proofs.lemmas.List.{get_or-replicate}
use Rattle.table.specs.declared.Primary.{Primary}
use Rattle.machine.specs.Entries.{nil}
use Rattle.std.proofs.lemmas.Bool.{eqb-false}
use Rattle.machine.specs.Basics.{pick}
use Rattle.machine.specs.Flip.{unasked_entry}
use Rattle.machine.specs.Objects.Base.{In}
use Rattle.machine.proofs.Objects.Base.{upd_other, upd_all, Nodup}
use Rattle.machine.proofs.Objects.State.{root, pending_is, Hd, count, State}
use Rattle.machine.proofs.Objects.Flipped.{Restful, Comes, Left, Twinned, flipped_inv}
use Rattle.machine.proofs.Objects.Inv.{Off, Inv}
use Rattle.machine.proofs.Objects.Ops.{state, push, twins, found_in, flips}
use Rattle.machine.proofs.Objects.HeadLaws.{push_nodup}

-- o₁ is o, in which of the objects of vs each but nil was given a replica with all its filled slots to copy
pub record Mid (o : State) (vs : List ℕ) (o₁ : State) : Type 0 where
  pub shape : o₁.shape ≡ o.shape
  pub prim : o₁.prim ≡ o.prim
  pub rep : o₁.rep ≡ o.rep
  pub tasks : o₁.tasks ≡ o.tasks
  pub roots : o₁.roots ≡ o.roots
  pub on : o₁.on ≡ o.on
  pub snap : o₁.snap ≡ o.snap
  pub hd₁ : (x : ℕ) → In x vs → 0 < x → o₁.hd x ≡ count (o.shape.fill x)
  pub same : (x : ℕ) → (In x vs → ⊥) → o₁.hd x ≡ o.hd x
  pub nil : o₁.hd 0 ≡ o.hd 0
  pub stacked : (x : ℕ) → In x o₁.stack → In x vs × (0 < x) × (0 < o.shape.fill x)
  pub grey : (x : ℕ) → In x vs → 0 < x → 0 < o.shape.fill x → In x o₁.stack
  pub once : Nodup o₁.stack
  pub blank : (x j : ℕ) → In x vs → 0 < x → o₁.has x j ≡ false

-- nil alone: nothing done yet
pub mid_start : (o : State) → o.stack ≡ [] → Mid o (0 ∷ []) o
mid_start o e = record {
  shape = refl;
  prim = refl;
  rep = refl;
  tasks = refl;
  roots = refl;
  on = refl;
  snap = refl;
  hd₁ = λ x i p. absurd (only x i p);
  same = λ x f. refl;
  nil = refl;
  stacked = λ x i. absurd (rw e at i);
  grey = λ x i p. absurd (only x i p);
  once = rw e tt;
  blank = λ x j i p. absurd (only x i p);
}
  where
    only : (x : ℕ) → In x (0 ∷ []) → 0 < x → ⊥
    only x (inl e) p = omega arith
    only x (inr i) p = i

-- one that has its replica, or is nil, counts twice
pub mid_skip : {o o₁ : State} {vs : List ℕ} (x : ℕ) → Mid o vs o₁ → In x vs → Mid o (x ∷ vs) o₁
mid_skip {o} {o₁} {vs} x k i = record {
  shape = k.shape;
  prim = k.prim;
  rep = k.rep;
  tasks = k.tasks;
  roots = k.roots;
  on = k.on;
  snap = k.snap;
  hd₁ = λ y j. k.hd₁ y (old y j);
  same = λ y f. k.same y (λ j. f (inr j));
  nil = k.nil;
  stacked = λ y j. let m = k.stacked y j in (inr m.0, m.1, m.2);
  grey = λ y j. k.grey y (old y j);
  once = k.once;
  blank = λ y n j. k.blank y n (old y j);
}
  where
    old : (y : ℕ) → In y (x ∷ vs) → In y vs
    old y (inl e) = rw e i
    old y (inr j) = j

-- ---- a push, by the test on the slots to copy
push_out : (c x : ℕ) (st : List ℕ) (y : ℕ) → In y (push c x st) → In y st ⊎ ((y ≡ x) × (0 < c))
push_out c x st y = go (eqb c 0) refl
  where
    go : (b : Bool) → eqb c 0 ≡ b → In y (pick b st (x ∷ st)) → In y st ⊎ ((y ≡ x) × (0 < c))
    go true h i = inl i
    go false h (inl e) = inr (e, omega (arith, eqb-false c 0 h))
    go false h (inr i) = inl i

push_into : (c x : ℕ) (st : List ℕ) (y : ℕ) → In y st ⊎ ((y ≡ x) × (0 < c)) → In y (push c x st)
push_into c x st y = go (eqb c 0) refl
  where
    go : (b : Bool) → eqb c 0 ≡ b → In y st ⊎ ((y ≡ x) × (0 < c)) → In y (pick b st (x ∷ st))
    go true h (inl i) = i
    go true h (inr e) = absurd (omega (arith, eqb-true c 0 h))
    go false h (inl i) = inr i
    go false h (inr e) = inl e.0

-- one more is given its replica
pub mid_twin : {o o₁ : State} {vs : List ℕ} (x : ℕ) → Mid o vs o₁ → 0 < x → (In x vs → ⊥) → Mid o (x ∷ vs) (twins o₁ x (o.shape.fill x))
mid_twin {o} {o₁} {vs} x k p n = record {
  shape = k.shape;
  prim = k.prim;
  rep = k.rep;
  tasks = k.tasks;
  roots = k.roots;
  on = k.on;
  snap = k.snap;
  hd₁ =
      upd_all (λ y h. In y (x ∷ vs) → 0 < y → h ≡ count (o.shape.fill y)) o₁.hd x (count (o.shape.fill x)) (λ i q. refl)
      (λ y f i. k.hd₁ y (old y f i));
  same =
      upd_all (λ y h. (In y (x ∷ vs) → ⊥) → h ≡ o.hd y) o₁.hd x (count (o.shape.fill x)) (λ f. absurd (f (inl refl)))
      (λ y q f. k.same y (λ i. f (inr i)));
  nil = rw (upd_other o₁.hd x (count (o.shape.fill x)) 0 (λ e. omega arith)) k.nil;
  stacked = λ y i. from y (push_out (o.shape.fill x) x o₁.stack y i);
  grey = λ y i a b. push_into (o.shape.fill x) x o₁.stack y (into y i a b);
  once = push_nodup (o.shape.fill x) x o₁.stack (λ i. n (k.stacked x i).0) k.once;
  blank = λ y j.
      upd_all (λ y (h : ℕ → Bool). In y (x ∷ vs) → 0 < y → h j ≡ false) o₁.has x (λ j. false) (λ i q. refl)
      (λ y f i. k.blank y j (old y f i)) y;
}
  where
    old : (y : ℕ) → y ≢ x → In y (x ∷ vs) → In y vs
    old y f (inl e) = absurd (f e)
    old y f (inr i) = i

    from : (y : ℕ) → In y o₁.stack ⊎ ((y ≡ x) × (0 < o.shape.fill x)) → In y (x ∷ vs) × (0 < y) × (0 < o.shape.fill y)
    from y (inl i) = let m = k.stacked y i in (inr m.0, m.1, m.2)
    from y (inr e) = (inl e.0, omega (arith, e.0), omega (arith, e.1, ap o.shape.fill e.0))

    into : (y : ℕ) → In y (x ∷ vs) → 0 < y → 0 < o.shape.fill y → In y o₁.stack ⊎ ((y ≡ x) × (0 < o.shape.fill x))
    into y (inl e) a b = inr (e, omega (arith, ap o.shape.fill e))
    into y (inr i) a b = inl (k.grey y i a b)

-- ---- the flip
-- tasks from p on have nothing, and there are eight roots and eight registers: whoever visits those visits all that comes
pub comes_in : {K : ℕ → Type 0} {p s : ℕ} {o : State} (vs : List ℕ) → Inv K p s o → In 0 vs → ((t : ℕ) → t < p → In (pending_is (o.tasks t).pending) vs)
    → ((r : ℕ) → r < 8 → In (root o.roots r) vs) → ((t r : ℕ) → t < p → r < 8 → In (root (o.tasks t).regs r) vs) → (x : ℕ) → Comes o x → In x vs
comes_in {K} {p} {s} {o} vs v none pendings roots registers = all
  where
    no_more : (ps : List Primary) (r : ℕ) → length ps ≡ 8 → 8 ≤ r → root ps r ≡ 0
    no_more ps r e l = ap (λ (q : Primary). q.0) (get_or-eq_default ps nil {n = r} (omega arith))

    all_nil : (t r : ℕ) → p ≤ t → r < 8 → root (o.tasks t).regs r ≡ 0
    all_nil t r l m = rw (v.owners.beyond t l) (ap (λ (q : Primary). q.0) (get_or-replicate 8 r nil nil m))

    pending : (t : ℕ) → Dec (t < p) → In (pending_is (o.tasks t).pending) vs
    pending t (yes l) = pendings t l
    pending t (no l) = rw (v.owners.beyond t (omega (arith, l))) none

    shared : (r : ℕ) → Dec (r < 8) → In (root o.roots r) vs
    shared r (yes l) = roots r l
    shared r (no l) = rw (no_more o.roots r v.eight (omega (arith, l))) none

    register : (t r : ℕ) → Dec (t < p) → Dec (r < 8) → In (root (o.tasks t).regs r) vs
    register t r (yes l) (yes m) = registers t r l m
    register t r (no l) (yes m) = rw (all_nil t r (omega (arith, l)) m) none
    register t r (yes l) (no m) = rw (no_more (o.tasks t).regs r (v.entries t).eight (omega (arith, m))) none
    register t r (no l) (no m) = rw (no_more (o.tasks t).regs r (v.entries t).eight (omega (arith, m))) none

    all : (x : ℕ) → Comes o x → In x vs
    all x (inl e) = rw e none
    all x (inr (inl (t, e))) = rw (sym e) (pending t (dec_lt t p))
    all x (inr (inr (inl (r, e)))) = rw (sym e) (shared r (dec_lt r 8))
    all x (inr (inr (inr (t, r, e)))) = rw (sym e) (register t r (dec_lt t p) (dec_lt r 8))

-- objects still to be made count as placed while collecting, with nothing to copy and no slot written
abbrev pub readied : State → State
readied o =
    state o.shape o.prim o.rep (λ x. pick (ltb o.shape.n x) (λ j. false) (o.has x))
    (λ x. pick (ltb o.shape.n x) (count 0) (o.hd x)) o.stack o.tasks o.roots o.on o.snap

-- `readied`, since off every object is white, those still to be made too, and while collecting those count as placed (`newer`)
pub flip_inv : {K : ℕ → Type 0} {p s : ℕ} {o : State} {vs : List ℕ} {o₁ : State} → Inv K p s o → o.on ≡ false → ((t : ℕ) → Restful (o.tasks t).place)
    → Mid o vs o₁ → ((x : ℕ) → In x vs → Comes o x) → ((x : ℕ) → Comes o x → In x vs)
    → Inv (Left K o vs) p s (flips (readied o₁) vs (λ t. unasked_entry (o.tasks t)))
flip_inv {K} {p} {s} {o} {vs} {o₁} v off rest k only all = rw same_state (flipped_inv K p s o v rest vs only all hd' has' o₁.stack twinned)
  where
    hd' : ℕ → Hd
    hd' x = pick (ltb o.shape.n x) (count 0) (o₁.hd x)

    has' : ℕ → ℕ → Bool
    has' x = pick (ltb o.shape.n x) (λ j. false) (o₁.has x)

    off_all : Off o.hd o.stack
    off_all = rw off at v.mode

    same_state : flips (readied o₁) vs (λ t. unasked_entry (o.tasks t))
        ≡ state o.shape o.prim o.rep has' hd' o₁.stack (λ t. unasked_entry (o.tasks t)) o.roots true (found_in o vs)
    same_state i = state (k.shape i) (k.prim i) (k.rep i) (λ x. pick (ltb (k.shape i).n x) (λ j. false) (o₁.has x))
        (λ x. pick (ltb (k.shape i).n x) (count 0) (o₁.hd x)) o₁.stack (λ t. unasked_entry (o.tasks t)) (k.roots i) true
        (record { n = (k.shape i).n; fill = (k.shape i).fill; slots = k.prim i; roots = vs })

    twinned : Twinned o.shape vs hd' has' o₁.stack
    twinned = record {
      rooted = λ x i a b. rw (le-ltb o.shape.n x b) (k.hd₁ x i a);
      others = λ x f a b. rw (le-ltb o.shape.n x b) (k.same x f ∙ off_all.all x a);
      nil = rw (le-ltb o.shape.n 0 (omega arith)) (k.nil ∙ v.shapes.nil);
      unmade = λ x l. rw (lt-ltb o.shape.n x l);
      blank = λ x j i a b. rw (le-ltb o.shape.n x b) (k.blank x j i a);
      untouched = λ x j l. rw (lt-ltb o.shape.n x l);
      stacked = k.stacked;
      grey = k.grey;
      once = k.once;
    }
