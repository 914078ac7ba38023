-- One header changes, and the stack with it: claim, place, take and release keep words, copies and payments.
use Rattle.std.specs.Prelude.{ℕ, zero, suc, ◌+◌, ◌-◌, ◌*◌, ◌≤◌, ◌<◌, ◌≡◌, refl, ◌≢◌, List, [], ◌∷◌, true, length}
use Rattle.std.proofs.Common.{sym, ◌∙◌, inl, inr, arith, ne_eqb, le-leb}
use Rattle.std.proofs.Math.Decide.{ℕ_discrete}
use Rattle.table.specs.declared.Primary.{Primary}
use Rattle.table.specs.declared.Replica.{Replica}
use Rattle.table.specs.declared.Then.{Then}
use Rattle.table.specs.declared.Then.TheVariants.{ToWrite}
use Rattle.table.specs.declared.Place.TheVariants.{Take, Read, Release, Looking, Placing}
use Rattle.table.specs.declared.Task.{Task}
use Rattle.machine.specs.Basics.{pick}
use Rattle.machine.specs.Words.{primary, replica, slot_at}
use Rattle.machine.specs.Tasks.{holding_of}
use Rattle.machine.specs.Look.{go_on}
use Rattle.machine.specs.Switch.{ended_entry}
use Rattle.machine.specs.History.{Copy, copy, InCopies, NoCopyTwice}
use Rattle.machine.proofs.Objects.Base.{clash, upd, upd_same, upd_other, upd_all, sum_to, sum_to_at}
use Rattle.machine.proofs.Objects.State.{Hd, white, claimed, count, locked, Shape, Snapshot, State, IsSeen, IsPlaced, left, ClaimIn, Meeting}
use Rattle.machine.proofs.Objects.Inv.{Reach, PlaceOk, Inv}
use Rattle.machine.proofs.Objects.Ops.{goes, push}
use Rattle.machine.proofs.Objects.MoveLaws.{at_place_lem}
use Rattle.machine.proofs.Objects.Counts.{is_placed, claims, is_grey, then_left, left_to_pay, unfilled, owing, Counts}
use Rattle.machine.proofs.Objects.CountLaws.{owing_sum, ended_owes}
use Rattle.machine.proofs.Objects.CountFinal.{on_colours, not_new, forgiven_final}

-- ---- sums over the objects
claims_at : (sh : Shape) (g : Snapshot) (hd : ℕ → Hd) (y : ℕ) → 0 < y → y ≤ g.n → claims sh g hd y ≡ pick (is_placed (hd y)) (sh.len y + 2) 0
claims_at sh g hd y low old = rw (ne_eqb y 0 (λ e. omega arith), le-leb y g.n old) refl

claims_sum : (sh : Shape) (g : Snapshot) (hd : ℕ → Hd) (y : ℕ) (h : Hd) → 0 < y → y ≤ g.n → y ≤ sh.n
    → sum_to (suc sh.n) (claims sh g (upd hd y h)) + pick (is_placed (hd y)) (sh.len y + 2) 0
    ≡ sum_to (suc sh.n) (claims sh g hd) + pick (is_placed h) (sh.len y + 2) 0
claims_sum sh g hd y h low old l =
    rw (claims_at sh g hd y low old, claims_at sh g (upd hd y h) y low old, upd_same hd y h) at
    (sum_to_at (suc sh.n) y (claims sh g (upd hd y h)) (claims sh g hd) (omega arith) (λ x d. rw (upd_other hd y h x d) refl))

greys_sum : (n : ℕ) (hd : ℕ → Hd) (y : ℕ) (h : Hd) → y < n
    → sum_to n (λ x. is_grey (upd hd y h x)) + is_grey (hd y) ≡ sum_to n (λ x. is_grey (hd x)) + is_grey h
greys_sum n hd y h l =
    rw (upd_same hd y h) at (sum_to_at n y (λ x. is_grey (upd hd y h x)) (λ x. is_grey (hd x)) l (λ x d. rw (upd_other hd y h x d) refl))

-- one with a slot to copy is pushed
pub push_length : (c x : ℕ) (stack : List ℕ) → length (push c x stack) ≡ length stack + is_grey (count c)
push_length zero x stack = omega arith
push_length (suc c) x stack = rw (ne_eqb (suc c) 0 (λ e. omega arith)) (omega arith)

-- ---- places
-- a task that places an object claims it
pub placing_claims : (q : Primary) (th : Then) → ClaimIn (holding_of (Placing q th)) q.0
unfolding holding_of
placing_claims q (ToWrite v) = refl
placing_claims q _ = refl

-- what follows a look pays what the look was to pay
pub on_left : (th : Then) (r : Replica) → left_to_pay (go_on th r) ≡ then_left th
on_left (ToWrite v) r = refl
on_left _ r = refl

-- ---- one header
-- header of y from h₀ to h; the entry of task t from e to e'; nothing was forgiven
record HeadCount (k s : ℕ) (sh : Shape) (g : Snapshot) (hd : ℕ → Hd) (forgiven : ℕ → ℕ) (y : ℕ) (h : Hd) (t : ℕ) (e e' : Task) (stack st : List ℕ)
    (a a' j j' copies copies' : ℕ) (made made' : List Copy) : Type 0 where
  pub some : 0 < y
  pub old : y ≤ g.n
  pub words : a' + pick (is_placed (hd y)) (sh.len y + 2) 0 ≡ a + pick (is_placed h) (sh.len y + 2) 0
  pub greys : length st + j' + is_grey (hd y) ≡ length stack + j + is_grey h
  pub reach : IsSeen h → Reach sh g y
  pub copied : copies' ≡ length made'
  pub once : NoCopyTwice made'
  pub out : (x i : ℕ) → x ≢ y → InCopies x i made' → InCopies x i made
  pub into : (x i : ℕ) → x ≢ y → InCopies x i made → InCopies x i made'
  pub which : (i : ℕ) → InCopies y i made' → IsPlaced h × (left (sh.len y) h ≤ i) × (i < g.fill y)
  pub each : (i : ℕ) → IsPlaced h → left (sh.len y) h ≤ i → i < g.fill y → InCopies y i made'
  pub paid : copies + owing k (forgiven t) e ≤ copies' + owing k (forgiven t) e'
  pub most : owing k (forgiven t) e' ≤ k * (s + 2)
  pub forgave : (u : ℕ) → 0 < forgiven u → ⊥

module _ {K : ℕ → Type 0} {k p s : ℕ} {o : State} {base a j copies : ℕ} {made : List Copy} {forgiven : ℕ → ℕ} (v : Inv K p s o) (on : o.on ≡ true)
    (c : Counts k p s o.shape o.snap o.hd o.stack o.tasks base a j copies made forgiven) where
  counts_head : {y : ℕ} {h : Hd} {t : ℕ} {e' : Task} {st : List ℕ} {a' j' copies' : ℕ} {made' : List Copy} → t < p
      → HeadCount k s o.shape o.snap o.hd forgiven y h t (o.tasks t) e' o.stack st a a' j j' copies copies' made made'
      → Counts k p s o.shape o.snap (upd o.hd y h) st (upd o.tasks t e') base a' j' copies' made' forgiven
  counts_head {y} {h} {t} {e'} {st} {a'} {j'} {copies'} {made'} l q = record {
    words = omega (arith, c.words, q.words, claims_sum o.shape o.snap o.hd y h q.some q.old l_y);
    greys = omega (arith, c.greys, q.greys, greys_sum (suc o.shape.n) o.hd y h (omega (arith, l_y)));
    reach = upd_all (λ x b. 0 < x → x ≤ o.snap.n → IsSeen b → Reach o.shape o.snap x) o.hd y h (λ z m. q.reach) (λ x d. c.reach x);
    copied = q.copied;
    once = q.once;
    which = λ x i. upd_all
        (λ x b. InCopies x i made' → (0 < x) × (x ≤ o.snap.n) × IsPlaced b × (left (o.shape.len x) b ≤ i) × (i < o.snap.fill x)) o.hd y h
        (λ m. let w = q.which i m in (q.some, q.old, w.0, w.1, w.2)) (λ x d m. c.which x i (q.out x i d m)) x;
    each = λ x i. upd_all
        (λ x b. 0 < x → x ≤ o.snap.n → IsPlaced b → left (o.shape.len x) b ≤ i → i < o.snap.fill x → InCopies x i made') o.hd y h
        (λ z m. q.each i) (λ x d z m b n f. q.into x i d (c.each x i z m b n f)) x;
    paid = omega (arith, c.paid, q.paid, owing_sum k p forgiven forgiven o.tasks t e' l (λ u d. refl));
    most = upd_all (λ u e. owing k (forgiven u) e ≤ k * (s + 2)) o.tasks t e' q.most (λ u d. c.most u);
    forgave = λ u z. absurd (q.forgave u z);
  }
    where
      l_y : y ≤ o.shape.n
      l_y = omega (arith, q.old, (on_colours v on).known)

-- ---- the steps
module _ {K : ℕ → Type 0} {k p s : ℕ} {o : State} {base a j copies : ℕ} {made : List Copy} {forgiven : ℕ → ℕ} (v : Inv K p s o) (on : o.on ≡ true)
    (c : Counts k p s o.shape o.snap o.hd o.stack o.tasks base a j copies made forgiven) (t : ℕ) (l : t < p) where
  pub counts_claims : (q : Primary) (th : Then) → (o.tasks t).place ≡ Looking q th → o.hd q.0 ≡ white
      → Counts k p s o.shape o.snap (upd o.hd q.0 (claimed t)) o.stack (upd o.tasks t (goes (o.tasks t) (Placing q th))) base a j copies made forgiven
  counts_claims q th ep e = counts_head v on c l record {
    some = h.1;
    old = old;
    words = rw e refl;
    greys = rw e refl;
    reach = λ z. (on_colours v on).reached q.0 h.2.0 old;
    copied = c.copied;
    once = c.once;
    out = λ x i d m. m;
    into = λ x i d m. m;
    which = λ i m. absurd (rw e at (c.which q.0 i m).2);
    each = λ i z. absurd z;
    paid = rw ep (omega arith);
    most = rw ep at (c.most t);
    forgave = λ u z. let w = forgiven_final v on c u z q.0 h.2.0 h.2.1 in clash cc;
  }
    where
      h : PlaceOk K s o.shape o.hd o.prim o.rep o.has (Meeting o.tasks) o.on t (o.tasks t) (Looking q th)
      h = at_place_lem v t (Looking q th) ep

      old : q.0 ≤ o.snap.n
      old = not_new v on q.0 white e (λ w. clash cc)

  pub counts_places : (q : Primary) (th : Then) → (o.tasks t).place ≡ Placing q th
      → Counts k p s o.shape o.snap (upd o.hd q.0 (count (o.shape.len q.0))) (push (o.shape.len q.0) q.0 o.stack)
      (upd o.tasks t (goes (o.tasks t) (go_on th (replica q.0)))) base (a + (o.shape.len q.0 + 2)) j copies made forgiven
  counts_places q th ep = counts_head v on c l record {
    some = h.1;
    old = old;
    words = rw e (omega arith);
    greys = rw e (omega (arith, push_length (o.shape.len q.0) q.0 o.stack));
    reach = λ z. c.reach q.0 h.1 old (rw e tt);
    copied = c.copied;
    once = c.once;
    out = λ x i d m. m;
    into = λ x i d m. m;
    which = λ i m. absurd (rw e at (c.which q.0 i m).2);
    each = λ i z m n. absurd (omega (arith, (on_colours v on).older q.0, v.shapes.filled q.0, v.shapes.written q.0));
    paid = rw (ep, on_left th (replica q.0)) (omega arith);
    most = rw (on_left th (replica q.0)) (rw ep at (c.most t));
    forgave = λ u z. (c.forgave u z).2 t q.0 (rw ep (placing_claims q th));
  }
    where
      h : PlaceOk K s o.shape o.hd o.prim o.rep o.has (Meeting o.tasks) o.on t (o.tasks t) (Placing q th)
      h = at_place_lem v t (Placing q th) ep

      e : o.hd q.0 ≡ claimed t
      e = h.3

      old : q.0 ≤ o.snap.n
      old = not_new v on q.0 (claimed t) e (λ w. clash cc)

  pub counts_takes : (n x i : ℕ) (st : List ℕ) → (o.tasks t).place ≡ Take n → o.stack ≡ x ∷ st → o.hd x ≡ count (suc i)
      → Counts k p s o.shape o.snap (upd o.hd x (locked i t)) st (upd o.tasks t (goes (o.tasks t) (Read n (slot_at (primary x) i)))) base a (j + 1) copies made forgiven
  counts_takes n x i st ep es e = counts_head v on c l record {
    some = ((on_colours v on).stacked x (rw es (inl refl))).0;
    old = old;
    words = rw e refl;
    greys = rw (e, es) (omega arith);
    reach = λ z. c.reach x ((on_colours v on).stacked x (rw es (inl refl))).0 old (rw e tt);
    copied = c.copied;
    once = c.once;
    out = λ y m d w. w;
    into = λ y m d w. w;
    which = λ m w. let z = rw e at (c.which x m w) in (z.2, z.3, z.4);
    each = λ m z f b. c.each x m ((on_colours v on).stacked x (rw es (inl refl))).0 old (rw e tt) (rw e f) b;
    paid = rw ep (omega arith);
    most = rw ep at (c.most t);
    forgave = λ u z. let w : x ∷ st ≡ [] = sym es ∙ (c.forgave u z).0 in clash cc;
  }
    where
      old : x ≤ o.snap.n
      old = not_new v on x (count (suc i)) e (λ w. clash cc)

  -- a copy is made; the task's entry becomes e', with one copy less to pay
  released : (n : ℕ) (x : Primary) (i : ℕ) (e' : Task) → (o.tasks t).place ≡ Release n (slot_at x i) → 1 ≤ j → left_to_pay e'.place ≡ n - 1
      → unfilled e'.pending ≡ unfilled (o.tasks t).pending
      → Counts k p s o.shape o.snap (upd o.hd x.0 (count i)) (push i x.0 o.stack) (upd o.tasks t e') base a (j - 1) (copies + 1)
      (copy x.0 i ∷ made) forgiven
  released n x i e' ep jobs pays fills = counts_head v on c l record {
    some = some;
    old = old;
    words = rw e refl;
    greys = rw e (omega (arith, push_length i x.0 o.stack));
    reach = λ z. c.reach x.0 some old (rw e tt);
    copied = omega (arith, c.copied);
    once = (λ m. let z = rw e at (c.which x.0 i m) in absurd (omega (arith, z.3)), c.once);
    out = λ y m d w. other y m d w;
    into = λ y m d w. inr w;
    which = λ m w. which m w;
    each = λ m z f b. each m (ℕ_discrete i m) f b;
    paid = rw (ep, pays, fills) (omega arith);
    most = rw (pays, fills) (omega (arith, rw ep at (c.most t)));
    forgave = λ u z. absurd (omega (arith, (c.forgave u z).1));
  }
    where
      h : PlaceOk K s o.shape o.hd o.prim o.rep o.has (Meeting o.tasks) o.on t (o.tasks t) (Release n (slot_at x i))
      h = at_place_lem v t (Release n (slot_at x i)) ep

      e : o.hd x.0 ≡ locked i t
      e = h.2

      some : 0 < x.0
      some = (v.owners.locker x.0 i t e).1

      old : x.0 ≤ o.snap.n
      old = not_new v on x.0 (locked i t) e (λ w. clash cc)

      -- the slot in hand was filled at the flip
      held : suc i ≤ o.snap.fill x.0
      held = (rw e at ((on_colours v on).bound x.0)) tt

      other : (y m : ℕ) → y ≢ x.0 → InCopies y m (copy x.0 i ∷ made) → InCopies y m made
      other y m d (inl z) = absurd (d (sym z.0))
      other y m d (inr z) = z

      which : (m : ℕ) → InCopies x.0 m (copy x.0 i ∷ made) → Unit {0} × (i ≤ m) × (m < o.snap.fill x.0)
      which m (inl z) = (tt, omega (arith, z.1), omega (arith, z.1, held))
      which m (inr z) = let w = rw e at (c.which x.0 m z) in (tt, omega (arith, w.3), w.4)

      each : (m : ℕ) → Dec (i ≡ m) → i ≤ m → m < o.snap.fill x.0 → InCopies x.0 m (copy x.0 i ∷ made)
      each m (yes z) f b = inl (refl, z)
      each m (no d) f b = inr (c.each x.0 m some old (rw e tt) (rw e (omega arith)) b)

  pub counts_releases : (n : ℕ) (x : Primary) (i : ℕ) → (o.tasks t).place ≡ Release n (slot_at x i) → 1 ≤ j
      → Counts k p s o.shape o.snap (upd o.hd x.0 (count i)) (push i x.0 o.stack) (upd o.tasks t (goes (o.tasks t) (Take (n - 1)))) base a (j - 1)
      (copies + 1) (copy x.0 i ∷ made) forgiven
  counts_releases n x i ep jobs = released n x i (goes (o.tasks t) (Take (n - 1))) ep jobs refl refl

  -- the last copy of the payment: the instruction ends
  pub counts_releases_last : (n : ℕ) (x : Primary) (i : ℕ) → (o.tasks t).place ≡ Release n (slot_at x i) → n ≡ 1 → 1 ≤ j
      → Counts k p s o.shape o.snap (upd o.hd x.0 (count i)) (push i x.0 o.stack)
      (upd o.tasks t (ended_entry (o.tasks t).regs (o.tasks t).pending)) base a (j - 1) (copies + 1) (copy x.0 i ∷ made) forgiven
  counts_releases_last n x i ep one jobs =
      let z = ended_owes (o.tasks t).regs (o.tasks t).pending in
      released n x i (ended_entry (o.tasks t).regs (o.tasks t).pending) ep jobs (rw (z.0, one) refl) z.1
