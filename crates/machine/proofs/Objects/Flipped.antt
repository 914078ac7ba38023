-- The invariant just after the flip, when every root has its replica and nothing is copied yet.
use Rattle.std.specs.Prelude.{ℕ, suc, ◌-◌, ◌≤◌, ◌<◌, ◌⊎◌, List, Bool, false, Option, Some, None}
use Rattle.std.proofs.Math.Path.{◌≡◌, refl}
use Rattle.std.proofs.Common.{ap, sym, ◌∙◌, inl, arith}
use Rattle.std.proofs.Math.Logic.{inr}
use Rattle.std.proofs.Math.Bool.{true}
use Rattle.std.proofs.Math.Decide.{ℕ_discrete, dec_lt}
use Rattle.table.specs.declared.Making.{Making}
use Rattle.table.specs.declared.Place.{Place}
use Rattle.table.specs.declared.Place.TheVariants.{Idle, New, Asked, FillWrite, FillCopy, StoreWrite, Meet, StoreCopy, Take, Read, Put, Release, Looking, Placing}
use Rattle.table.specs.declared.Task.{Task}
use Rattle.machine.specs.Flip.{unasked, unasked_entry}
use Rattle.machine.specs.Objects.Base.{In}
use Rattle.machine.proofs.Objects.Base.{clash, off_on, Nodup, in?}
use Rattle.machine.proofs.Objects.State.{Hd, white, claimed, count, locked, Shape, State, IsSeen, IsPlaced, IsUnplaced, left, root, pending_is, Late, Meeting}
use Rattle.machine.proofs.Objects.Inv.{Sound, Shapes, Reach, from, edge, Colours, PendingOk, EntryOk, PlaceOk, Owners, Inv}
use Rattle.machine.proofs.Objects.Ops.{state, found_in}

-- idle, or at a New
abbrev pub Restful : Place → Type 0
Restful Idle = Unit {0}
Restful (New want) = Unit {0}
Restful (Asked want) = Unit {0}
Restful (FillWrite v) = ⊥
Restful (FillCopy c) = ⊥
Restful (StoreWrite v) = ⊥
Restful (Meet v) = ⊥
Restful (StoreCopy c) = ⊥
Restful (Take n) = ⊥
Restful (Read n job) = ⊥
Restful (Put n job c) = ⊥
Restful (Release n job) = ⊥
Restful (Looking q th) = ⊥
Restful (Placing q th) = ⊥

-- the roots: nil, the pending objects, the shared roots, the registers
abbrev pub Comes : State → ℕ → Type 0
Comes o x =
    (x ≡ 0)
    ⊎ (((t : ℕ) × (pending_is (o.tasks t).pending ≡ x)) ⊎ (((r : ℕ) × (root o.roots r ≡ x)) ⊎ ((t : ℕ) × (r : ℕ) × (root (o.tasks t).regs r ≡ x))))

-- kept by the flip: what was kept before it and is reached from the roots, and the objects still to be made
abbrev pub Left : (ℕ → Type 0) → State → List ℕ → ℕ → Type 0
Left K o vs x = K x × (x ≤ o.shape.n → Reach o.shape (found_in o vs) x)

-- headers, replicas and stack when every root has its replica; the objects still to be made count as placed, with nothing to copy
pub record Twinned (sh : Shape) (vs : List ℕ) (hd : ℕ → Hd) (has : ℕ → ℕ → Bool) (stack : List ℕ) : Type 0 where
  pub rooted : (x : ℕ) → In x vs → 0 < x → x ≤ sh.n → hd x ≡ count (sh.fill x)
  pub others : (x : ℕ) → (In x vs → ⊥) → 0 < x → x ≤ sh.n → hd x ≡ white
  pub nil : hd 0 ≡ count 0
  pub unmade : (x : ℕ) → sh.n < x → hd x ≡ count 0
  pub blank : (x j : ℕ) → In x vs → 0 < x → x ≤ sh.n → has x j ≡ false
  pub untouched : (x j : ℕ) → sh.n < x → has x j ≡ false
  pub stacked : (x : ℕ) → In x stack → In x vs × (0 < x) × (0 < sh.fill x)
  pub grey : (x : ℕ) → In x vs → 0 < x → 0 < sh.fill x → In x stack
  pub once : Nodup stack

-- at rest no Store is unfinished
rest_nowhere : (K : ℕ → Type 0) (s : ℕ) (sh : Shape) (hd : ℕ → Hd) (prim rep : ℕ → ℕ → ℕ) (has : ℕ → ℕ → Bool) (Mt : ℕ → ℕ → Type 0) (on : Bool) (t : ℕ) (e : Task)
    (pl : Place) → Restful pl → PlaceOk K s sh hd prim rep has Mt on t e pl → e.storing ≡ None
rest_nowhere K s sh hd prim rep has Mt on t e Idle r q = q.1
rest_nowhere K s sh hd prim rep has Mt on t e (New want) r q = q.1
rest_nowhere K s sh hd prim rep has Mt on t e (Asked want) r q = q.1.1
rest_nowhere K s sh hd prim rep has Mt on t e _ r q = absurd r

-- what a place at rest stands on, the flip leaves
rest_ok : (K K' : ℕ → Type 0) (s : ℕ) (sh : Shape) (hd hd' : ℕ → Hd) (prim rep : ℕ → ℕ → ℕ) (has has' : ℕ → ℕ → Bool) (Mt Mt' : ℕ → ℕ → Type 0) (on : Bool) (t : ℕ)
    (e : Task) (pl : Place) → Restful pl → PlaceOk K s sh hd prim rep has Mt on t e pl → PlaceOk K' s sh hd' prim rep has' Mt' true t (unasked_entry e) (unasked pl)
unfolding unasked unasked_entry
rest_ok K K' s sh hd hd' prim rep has has' Mt Mt' on t e Idle r q = q
rest_ok K K' s sh hd hd' prim rep has has' Mt Mt' on t e (New want) r q = q
rest_ok K K' s sh hd hd' prim rep has has' Mt Mt' on t e (Asked want) r q = q.1
rest_ok K K' s sh hd hd' prim rep has has' Mt Mt' on t e _ r q = absurd r

module _ (K : ℕ → Type 0) (p s : ℕ) (o : State) (v : Inv K p s o) (rest : (t : ℕ) → Restful (o.tasks t).place) (vs : List ℕ)
    (only : (x : ℕ) → In x vs → Comes o x) (all : (x : ℕ) → Comes o x → In x vs) (hd' : ℕ → Hd) (has' : ℕ → ℕ → Bool) (stack : List ℕ)
    (k : Twinned o.shape vs hd' has' stack) where
  abbrev sh : Shape
  sh = o.shape

  abbrev K' : ℕ → Type 0
  K' = Left K o vs

  abbrev ts' : ℕ → Task
  ts' t = unasked_entry (o.tasks t)

  -- a pending object, by its entry
  pending_kept : (e : Task) → PendingOk K sh o.hd o.on e.pending → K (pending_is e.pending) × (pending_is e.pending ≤ sh.n)
  pending_kept e = go e.pending
    where
      go : (q : Option Making) → PendingOk K sh o.hd o.on q → K (pending_is q) × (pending_is q ≤ sh.n)
      go None w = (v.shapes.kept, omega arith)
      go (Some d) w = (w.1, w.2)

  -- the roots are kept and made
  came : (x : ℕ) → Comes o x → K x × (x ≤ sh.n)
  came x (inl e) = rw e (v.shapes.kept, omega arith)
  came x (inr (inl (t, e))) = rw (sym e) (pending_kept (o.tasks t) (v.entries t).pending)
  came x (inr (inr (inl (r, e)))) = let m = v.roots r in rw (sym e) (m.0, m.1)
  came x (inr (inr (inr (t, r, e)))) = let m = (v.entries t).regs r in rw (sym e) (m.0, m.1)

  -- what is reached is kept and made; and it is a root or all its slots are filled
  reach_kept : {x : ℕ} → Reach sh (found_in o vs) x → K x × (x ≤ sh.n)
  reach_kept {x} (from i) = came x (only x i)
  reach_kept (edge {x} j r a b) = let m = reach_kept r in let n = v.shapes.closed x j m.0 m.1 a b in (n.0, n.1)

  reach_full : {x : ℕ} → Reach sh (found_in o vs) x → (In x vs → ⊥) → sh.fill x ≡ sh.len x
  reach_full (from i) f = absurd (f i)
  reach_full (edge {x} j r a b) f = let m = reach_kept r in let n = v.shapes.closed x j m.0 m.1 a b in n.2

  -- a header is that of a root, of an object that is none, of nil, or of an object still to be made
  by : (Q : ℕ → Hd → Type 0) → ((x : ℕ) → In x vs → 0 < x → x ≤ sh.n → Q x (count (sh.fill x))) → ((x : ℕ) → (In x vs → ⊥) → 0 < x → x ≤ sh.n → Q x white)
      → Q 0 (count 0) → ((x : ℕ) → sh.n < x → Q x (count 0)) → (x : ℕ) → Q x (hd' x)
  by Q a b c d x = go (dec_lt sh.n x) (ℕ_discrete x 0) (in? x vs)
    where
      go : Dec (sh.n < x) → Dec (x ≡ 0) → Dec (In x vs) → Q x (hd' x)
      go (yes l) e i = rw (k.unmade x l) (d x l)
      go (no l) (yes e) i = rw (e, k.nil) c
      go (no l) (no f) (yes i) = let m : 0 < x = omega (arith, f) in let n : x ≤ sh.n = omega (arith, l) in rw (k.rooted x i m n) (a x i m n)
      go (no l) (no f) (no q) = let m : 0 < x = omega (arith, f) in let n : x ≤ sh.n = omega (arith, l) in rw (k.others x q m n) (b x q m n)

  -- objects still to be made have no slot filled
  unmade : (x : ℕ) → sh.n < x → sh.fill x ≡ 0
  unmade x l = omega (arith, (v.shapes.future x l).1, v.shapes.filled x, v.shapes.written x)

  nil_fill : sh.fill 0 ≡ 0
  nil_fill = omega (arith, v.shapes.none, v.shapes.filled 0, v.shapes.written 0)

  keeps : (x : ℕ) → Comes o x → K' x
  keeps x c = ((came x c).0, λ l. from (all x c))

  sound : (x : ℕ) → Comes o x → Sound K sh x → Sound K' sh x
  sound x c m = (keeps x c, m.1, m.2)

  nowhere : (t : ℕ) → (o.tasks t).storing ≡ None
  nowhere t = rest_nowhere K s sh o.hd o.prim o.rep o.has (Meeting o.tasks) o.on t (o.tasks t) (o.tasks t).place (rest t) (v.places t)

  not_late : (x j : ℕ) → Late ts' x j → ⊥
  unfolding unasked_entry
  not_late x j (t, a, b) = rw (nowhere t) at a

  flip_shapes : Shapes K' s sh o.prim hd'
  flip_shapes = record {
    kept = keeps 0 (inl refl);
    none = v.shapes.none;
    nil = by (λ x h. x ≡ 0 → h ≡ count 0) (λ x i a b e. absurd (omega arith)) (λ x i a b e. absurd (omega arith)) (λ e. refl) (λ x l e. refl) 0 refl;
    future = λ x l. let m = v.shapes.future x l in ((m.0, λ r. absurd (omega arith)), m.1);
    low = v.shapes.low;
    high = v.shapes.high;
    filled = v.shapes.filled;
    written = v.shapes.written;
    closed = λ x j q l a b. let m = v.shapes.closed x j q.0 l a b in ((m.0, λ r. edge j (q.1 l) a b), m.1, m.2);
    named = λ x j q. v.shapes.named x j q.0;
  }

  flip_colours : Colours K' sh (found_in o vs) hd' o.prim o.rep has' (stack) (Late ts')
  flip_colours = record {
    stacked = stacked;
    once = k.once;
    grey = λ x c. by (λ x h. h ≡ count (suc c) → In x (stack))
        (λ x i a b e. let z : sh.fill x ≡ suc c = cc in k.grey x i a (omega arith)) (λ x i a b e. clash cc)
        (λ e. clash cc) (λ x l e. clash cc) x;
    bound = by (λ x h. IsPlaced h → left (sh.len x) h ≤ sh.fill x) (λ x i a b q. omega arith) (λ x i a b q. absurd q) (λ q. omega arith) (λ x l q. omega arith);
    unplaced = λ x q l. by (λ x h. K' x → x ≤ sh.n → IsUnplaced h → sh.fill x ≡ sh.len x) (λ x i a b q l u. absurd u)
        (λ x f a b q l u. reach_full (q.1 l) f) (λ q l u. absurd u) (λ x l q r u. absurd u) x q l;
    older = λ x. omega arith;
    newer = λ x l. by (λ x h. sh.n < x → h ≡ count 0) (λ x i a b l. absurd (omega arith)) (λ x i a b l. absurd (omega arith)) (λ l. refl) (λ x l m. refl) x l;
    written = λ x j. by (λ x h. IsPlaced h → left (sh.len x) h ≤ j → j < sh.fill x → has' x j ≡ true) (λ x i a b q l m. absurd (omega arith))
        (λ x i a b q. absurd q) (λ q l m. absurd (omega (arith, nil_fill))) (λ x l q a b. absurd (omega (arith, unmade x l))) x;
    copied = λ x j. by (λ x h. IsPlaced h → left (sh.len x) h ≤ j → j < sh.fill x → (o.rep x j ≡ o.prim x j) ⊎ Late ts' x j) (λ x i a b q l m. absurd (omega arith))
        (λ x i a b q. absurd q) (λ q l m. absurd (omega (arith, nil_fill))) (λ x l q a b. absurd (omega (arith, unmade x l))) x;
    target = target;
    saw = λ x j a b. inr (to_copy x j a, refl, not_late x j);
    roots = λ x i. by (λ x h. In x vs → IsSeen h) (λ x i a b q. tt) (λ x f a b i. absurd (f i)) (λ i. tt) (λ x l i. tt) x i;
    reached = λ x q l. q.1 l;
    known = omega arith;
  }
    where
      stacked : (x : ℕ) → In x (stack) → (0 < x) × (x ≤ sh.n) × K' x × (c : ℕ) × (hd' x ≡ count (suc c))
      stacked x i =
          let m = k.stacked x i in let c = only x m.0 in let l = (came x c).1 in (
            m.1,
            l,
            keeps x c,
            sh.fill x - 1,
            by (λ x h. In x vs → 0 < x → x ≤ sh.n → 0 < sh.fill x → h ≡ count (suc (sh.fill x - 1)))
                (λ x i a b j p l f. ap count (omega arith)) (λ x f a b i. absurd (f i)) (λ i p. absurd (omega arith)) (λ x l i p q. absurd (omega arith)) x m.0 m.1 l m.2,
          )

      -- no slot of a replica is written yet, and nil has none
      target : (x j : ℕ) → IsPlaced (hd' x) → has' x j ≡ true → j < sh.ptr x → IsPlaced (hd' (o.rep x j)) × (o.rep x j ≤ sh.n)
      target x j = by (λ x h. IsPlaced h → has' x j ≡ true → j < sh.ptr x → IsPlaced (hd' (o.rep x j)) × (o.rep x j ≤ sh.n))
          (λ x i a b q e l. off_on (sym (k.blank x j i a b) ∙ e)) (λ x i a b q e l. absurd q)
          (λ q e l. absurd (omega (arith, v.shapes.low 0 (omega arith), v.shapes.none))) (λ x m q e l. off_on (sym (k.untouched x j m) ∙ e)) x

      to_copy : (x j : ℕ) → j < sh.fill x → j < left (sh.len x) (hd' x)
      to_copy x j = by (λ x h. j < sh.fill x → j < left (sh.len x) h) (λ x i a b l. l) (λ x i a b l. omega (arith, v.shapes.filled x, v.shapes.written x))
          (λ l. absurd (omega (arith, nil_fill))) (λ x l m. absurd (omega (arith, unmade x l))) x

  flipped_entry : (t : ℕ) → EntryOk K' sh hd' true (ts' t)
  unfolding unasked_entry
  flipped_entry t = record {
    eight = (v.entries t).eight;
    regs = λ r. sound (root (o.tasks t).regs r) (inr (inr (inr (t, r, refl)))) ((v.entries t).regs r);
    pending = go (o.tasks t).pending (v.entries t).pending (λ x e. inr (inl (t, e)));
    storing = rw (nowhere t) tt;
  }
    where
      go : (q : Option Making) → PendingOk K sh o.hd o.on q → ((x : ℕ) → pending_is q ≡ x → Comes o x) → PendingOk K' sh hd' true q
      go None w c = tt
      go (Some d) w c =
          let m = c d.at.0 refl in (w.0, keeps d.at.0 m, w.2, w.3, w.4, w.5, λ e. rw (k.rooted d.at.0 (all d.at.0 m) w.0 w.2) tt)

  flipped_owners : Owners p sh K' hd' ts'
  unfolding unasked_entry unasked
  flipped_owners = record {
    locker = λ x i t e. absurd (by (λ x h. h ≡ locked i t → ⊥) (λ x a b c e. clash cc)
        (λ x a b c e. clash cc) (λ e. clash cc) (λ x a e. clash cc) x e);
    claimer = λ x t e. absurd (by (λ x h. h ≡ claimed t → ⊥) (λ x a b c e. clash cc)
        (λ x a b c e. clash cc) (λ e. clash cc) (λ x a e. clash cc) x e);
    pendings = v.owners.pendings;
    stores = v.owners.stores;
    beyond = λ t l. rw (v.owners.beyond t l) refl;
  }

  pub flipped_inv : Inv K' p s (state sh o.prim o.rep has' hd' stack ts' o.roots true (found_in o vs))
  unfolding unasked_entry
  flipped_inv = record {
    shapes = flip_shapes;
    mode = flip_colours;
    eight = v.eight;
    roots = λ r. sound (root o.roots r) (inr (inr (inl (r, refl)))) (v.roots r);
    entries = flipped_entry;
    places = λ t.
        rest_ok K K' s sh o.hd hd' o.prim o.rep o.has has' (Meeting o.tasks) (Meeting ts') o.on t (o.tasks t) (o.tasks t).place (rest t) (v.places t);
    owners = flipped_owners;
  }
