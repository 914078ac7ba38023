-- One header changes, and the stack with it: what is to be shown of headers and copies (`HeadOk`) and of the task that does it (`HeadTask`).
use Rattle.std.specs.Prelude.{ℕ, zero, suc, ◌≤◌, ◌<◌, ◌≡◌, refl, ◌≢◌, ◌⊎◌, List, ◌∷◌, Bool, true, Option, Some, None}
use Rattle.std.proofs.Common.{ap, sym, ◌∙◌, inl, inr, arith, ne_eqb}
use Rattle.table.specs.declared.Making.{Making}
use Rattle.table.specs.declared.Place.{Place}
use Rattle.table.specs.declared.Task.{Task}
use Rattle.machine.specs.Objects.Base.{In}
use Rattle.machine.proofs.Objects.Base.{upd, upd_other, upd_all, Nodup, clash}
use Rattle.machine.proofs.Objects.State.{Hd, white, claimed, count, locked, Shape, Snapshot, State, IsSeen, IsPlaced, IsUnplaced, left, HasJob, HasClaim, MeetsAt, LateAt, Meeting, Late}
use Rattle.machine.proofs.Objects.Inv.{Colours, PendingOk, PlaceOk, Inv}
use Rattle.machine.proofs.Objects.Ops.{state, goes, push}
use Rattle.machine.proofs.Objects.Keep.{Keep}
use Rattle.machine.proofs.Objects.Late.{late_after, late_before, meeting_after}
use Rattle.machine.proofs.Objects.MoveLaws.{task_inv, same_pendings, same_stores, or_right, late_colours}

-- ---- headers go on
pub placed_seen : (h : Hd) → IsPlaced h → IsSeen h
placed_seen white p = p
placed_seen _ p = tt

pub head_placed : (hd : ℕ → Hd) (y : ℕ) (h : Hd) → (IsPlaced (hd y) → IsPlaced h) → (x : ℕ) → IsPlaced (hd x) → IsPlaced (upd hd y h x)
head_placed hd y h f = upd_all (λ x o. IsPlaced (hd x) → IsPlaced o) hd y h f (λ x q p. p)

pub head_seen : (hd : ℕ → Hd) (y : ℕ) (h : Hd) → (IsSeen (hd y) → IsSeen h) → (x : ℕ) → IsSeen (hd x) → IsSeen (upd hd y h x)
head_seen hd y h f = upd_all (λ x o. IsSeen (hd x) → IsSeen o) hd y h f (λ x q p. p)

-- ---- push
push_suc : (c y : ℕ) (st : List ℕ) → push (suc c) y st ≡ y ∷ st
push_suc c y st = rw (ne_eqb (suc c) 0 (λ q. omega arith))

pub in_push : (c y : ℕ) (st : List ℕ) (x : ℕ) → In x (push c y st) → x ≢ y → In x st
in_push zero y st x i q = i
in_push (suc c) y st x i q = on (rw (push_suc c y st) at i)
  where
    on : In x (y ∷ st) → In x st
    on (inl e) = absurd (q e)
    on (inr i) = i

pub push_in : (c y : ℕ) (st : List ℕ) (x : ℕ) → In x st → In x (push c y st)
push_in zero y st x i = i
push_in (suc c) y st x i = rw (push_suc c y st) (inr i)

pub push_out : (c y : ℕ) (st : List ℕ) → (In y st → ⊥) → In y (push c y st) → (n : ℕ) × (count c ≡ count (suc n))
push_out zero y st h i = absurd (h i)
push_out (suc c) y st h i = (c, refl)

pub push_into : (c y : ℕ) (st : List ℕ) (n : ℕ) → count c ≡ count (suc n) → In y (push c y st)
push_into zero y st n e = clash cc
push_into (suc c) y st n e = rw (push_suc c y st) (inl refl)

pub push_nodup : (c y : ℕ) (st : List ℕ) → (In y st → ⊥) → Nodup st → Nodup (push c y st)
push_nodup zero y st h d = d
push_nodup (suc c) y st h d = rw (push_suc c y st) (h, d)

-- what is on the stack has a count
pub unstacked : {K : ℕ → Type 0} {sh : Shape} {g : Snapshot} {hd : ℕ → Hd} {prim rep : ℕ → ℕ → ℕ} {has : ℕ → ℕ → Bool} {stack : List ℕ}
    {Lt : ℕ → ℕ → Type 0} (y : ℕ) → Colours K sh g hd prim rep has stack Lt → ((c : ℕ) → hd y ≡ count (suc c) → ⊥) → In y stack → ⊥
unstacked y c n i = n _ (c.stacked y i).4

-- ---- headers and copies
-- the header of y goes from h₀ to h, the stack to st; has' may differ from has at y
pub record HeadOk (K : ℕ → Type 0) (sh : Shape) (g : Snapshot) (hd : ℕ → Hd) (prim rep : ℕ → ℕ → ℕ) (has has' : ℕ → ℕ → Bool) (stack st : List ℕ)
    (Lt : ℕ → ℕ → Type 0) (y : ℕ) (h₀ h : Hd) : Type 0 where
  pub was : hd y ≡ h₀
  pub made : (0 < y) × (y ≤ sh.n) × K y
  pub once : Nodup st
  pub out : (x : ℕ) → In x st → x ≢ y → In x stack
  pub into : (x : ℕ) → In x stack → x ≢ y → In x st
  pub out_y : In y st → (c : ℕ) × (h ≡ count (suc c))
  pub into_y : (c : ℕ) → h ≡ count (suc c) → In y st
  pub bound : IsPlaced h → left (sh.len y) h ≤ g.fill y
  pub unplaced : IsUnplaced h → IsUnplaced h₀
  -- not one made since the flip
  pub old : h₀ ≢ count 0
  pub seen : IsSeen h₀ → IsSeen h
  pub placed : IsPlaced h₀ → IsPlaced h
  pub other : (x j : ℕ) → x ≢ y → has' x j ≡ has x j
  pub written : IsPlaced h → (j : ℕ) → left (sh.len y) h ≤ j → j < sh.fill y → has' y j ≡ true
  pub copied : IsPlaced h → (j : ℕ) → left (sh.len y) h ≤ j → j < sh.fill y → (rep y j ≡ prim y j) ⊎ Lt y j
  pub target : IsPlaced h → (j : ℕ) → has' y j ≡ true → j < sh.ptr y → IsPlaced (hd (rep y j)) × (rep y j ≤ sh.n)
  -- a slot that is no longer to copy pointed to what is seen
  pub saw : (j : ℕ) → j < sh.ptr y → j < left (sh.len y) h₀ → prim y j ≡ g.slots y j → (Lt y j → ⊥)
      → IsSeen (hd (g.slots y j)) ⊎ (j < left (sh.len y) h)

pub head_colours : {K : ℕ → Type 0} {sh : Shape} {g : Snapshot} {hd : ℕ → Hd} {prim rep : ℕ → ℕ → ℕ} {has has' : ℕ → ℕ → Bool} {stack st : List ℕ}
    {Lt : ℕ → ℕ → Type 0} {y : ℕ} {h₀ h : Hd} → Colours K sh g hd prim rep has stack Lt → HeadOk K sh g hd prim rep has has' stack st Lt y h₀ h
    → Colours K sh g (upd hd y h) prim rep has' st Lt
head_colours {K} {sh} {g} {hd} {prim} {rep} {has} {has'} {stack} {st} {Lt} {y} {h₀} {h} c k = record {
  stacked =
      upd_all (λ x o. In x st → (0 < x) × (x ≤ sh.n) × K x × (c : ℕ) × (o ≡ count (suc c))) hd y h
      (λ i. (k.made.0, k.made.1, k.made.2, (k.out_y i).0, (k.out_y i).1)) (λ x q i. c.stacked x (k.out x i q));
  once = k.once;
  grey = λ x n. upd_all (λ a o. o ≡ count (suc n) → In a st) hd y h (k.into_y n) (λ a q e. k.into a (c.grey a n e) q) x;
  bound = upd_all (λ x o. IsPlaced o → left (sh.len x) o ≤ g.fill x) hd y h k.bound (λ x q. c.bound x);
  unplaced =
      upd_all (λ x o. K x → x ≤ sh.n → IsUnplaced o → g.fill x ≡ sh.len x) hd y h
      (λ a b u. c.unplaced y a b (rw k.was (k.unplaced u))) (λ x q. c.unplaced x);
  older = c.older;
  newer = upd_all (λ x o. g.n < x → o ≡ count 0) hd y h (λ l. absurd (k.old (sym k.was ∙ c.newer y l))) (λ x q. c.newer x);
  written = λ x j.
      upd_all (λ x o. IsPlaced o → left (sh.len x) o ≤ j → j < sh.fill x → has' x j ≡ true) hd y h (λ p. k.written p j)
      (λ x q p l m. k.other x j q ∙ c.written x j p l m) x;
  copied = λ x j.
      upd_all (λ x o. IsPlaced o → left (sh.len x) o ≤ j → j < sh.fill x → (rep x j ≡ prim x j) ⊎ Lt x j) hd y h (λ p. k.copied p j) (λ x q. c.copied x j) x;
  target = λ x j.
      upd_all (λ x o. IsPlaced o → has' x j ≡ true → j < sh.ptr x → IsPlaced (upd hd y h (rep x j)) × (rep x j ≤ sh.n)) hd y h
      (λ p w m. let z = k.target p j w m in (placed _ z.0, z.1)) (λ x q p w m. let z = c.target x j p (sym (k.other x j q) ∙ w) m in (placed _ z.0, z.1)) x;
  saw = λ x j l m.
      upd_all (λ x o. j < sh.ptr x → Before x j → Saw x j o) hd y h (λ m. at_y j m) (λ x q m. away x j) x m (c.saw x j l m);
  roots = λ x i. seen x (c.roots x i);
  reached = c.reached;
  known = c.known;
}
  where
    placed : (x : ℕ) → IsPlaced (hd x) → IsPlaced (upd hd y h x)
    placed = head_placed hd y h (λ p. k.placed (rw k.was at p))

    seen : (x : ℕ) → IsSeen (hd x) → IsSeen (upd hd y h x)
    seen = head_seen hd y h (λ p. k.seen (rw k.was at p))

    Before : ℕ → ℕ → Type 0
    Before x j = IsSeen (hd (g.slots x j)) ⊎ ((j < left (sh.len x) (hd x)) × (prim x j ≡ g.slots x j) × (Lt x j → ⊥))

    Saw : ℕ → ℕ → Hd → Type 0
    Saw x j o = IsSeen (upd hd y h (g.slots x j)) ⊎ ((j < left (sh.len x) o) × (prim x j ≡ g.slots x j) × (Lt x j → ⊥))

    away : (x j : ℕ) → Before x j → Saw x j (hd x)
    away x j (inl w) = inl (seen _ w)
    away x j (inr w) = inr w

    still : (j : ℕ) → prim y j ≡ g.slots y j → (Lt y j → ⊥) → IsSeen (hd (g.slots y j)) ⊎ (j < left (sh.len y) h) → Saw y j h
    still j e n (inl w) = inl (seen _ w)
    still j e n (inr w) = inr (w, e, n)

    at_y : (j : ℕ) → j < sh.ptr y → Before y j → Saw y j h
    at_y j m (inl w) = inl (seen _ w)
    at_y j m (inr w) = still j w.1 w.2 (k.saw j m (rw k.was at w.0) w.1 w.2)

-- ---- other tasks
-- the header of y changes, which the task u does not own
pub keep_head : {K : ℕ → Type 0} {sh : Shape} {prim rep : ℕ → ℕ → ℕ} {has has' : ℕ → ℕ → Bool} {Mt Mt' : ℕ → ℕ → Type 0} {e : Task}
    (hd : ℕ → Hd) (y : ℕ) (h : Hd) (u : ℕ) → ((i : ℕ) → hd y ≡ locked i u → ⊥) → (hd y ≡ claimed u → ⊥)
    → (IsSeen (hd y) → IsSeen h) → (IsPlaced (hd y) → IsPlaced h) → ((x j : ℕ) → x ≢ y → has' x j ≡ has x j) → ((x i : ℕ) → Mt x i → Mt' x i)
    → Keep K sh sh hd (upd hd y h) prim prim rep rep has has' Mt Mt' u e
keep_head {K} {sh} {prim} {rep} {has} {has'} {Mt} {Mt'} {e} hd y h u nl nc seen placed other meets = record {
  size = omega arith;
  sound = λ x h. h;
  len = λ x m. refl;
  ptr = λ x m. refl;
  placed = head_placed hd y h placed;
  seen = head_seen hd y h seen;
  claim = λ x q. rw (upd_other hd y h x (λ w. nc (ap hd (sym w) ∙ q))) q;
  lock = λ x i q. rw (upd_other hd y h x (away x i q)) q;
  slots = λ x i q. refl;
  read = λ x i z q. or_right (meets x i);
  put = λ x i q. or_right (meets x i);
  written = λ x i q w. other x i (away x i q) ∙ w;
  store = λ x i a. refl;
  fill = λ x q z. refl;
  wrote = λ x q z. refl;
  next = λ x q z. refl;
}
  where
    away : (x i : ℕ) → hd x ≡ locked i u → x ≢ y
    away x i q w = nl i (ap hd (sym w) ∙ q)

-- ---- the task that does it
pub record HeadTask (K : ℕ → Type 0) (p s : ℕ) (o : State) (has' : ℕ → ℕ → Bool) (y : ℕ) (h₀ h : Hd) (t : ℕ) (pl : Place) : Type 0 where
  pub low : t < p
  pub on : o.on ≡ true
  pub place : PlaceOk K s o.shape (upd o.hd y h) o.prim o.rep has' (Meeting (upd o.tasks t (goes (o.tasks t) pl))) o.on t
      (goes (o.tasks t) pl) pl
  -- y was nobody's but t's, and is
  pub lock : (i u : ℕ) → h₀ ≡ locked i u → u ≡ t
  pub claim : (u : ℕ) → h₀ ≡ claimed u → u ≡ t
  pub locks : (i u : ℕ) → h ≡ locked i u → (u ≡ t) × HasJob (goes (o.tasks t) pl) y i
  pub claims : (u : ℕ) → h ≡ claimed u → (u ≡ t) × HasClaim (goes (o.tasks t) pl) y
  -- job and claim elsewhere stay
  pub jobs : (x i : ℕ) → x ≢ y → HasJob (o.tasks t) x i → HasJob (goes (o.tasks t) pl) x i
  pub owns : (x : ℕ) → x ≢ y → HasClaim (o.tasks t) x → HasClaim (goes (o.tasks t) pl) x
  pub meets : MeetsAt (o.tasks t).place → MeetsAt pl
  pub late : LateAt (o.tasks t).place → LateAt pl
  pub later : LateAt pl → LateAt (o.tasks t).place

head_pending : (K : ℕ → Type 0) (sh : Shape) (hd hd' : ℕ → Hd) (on : Bool) (d : Option Making) → ((x : ℕ) → IsPlaced (hd x) → IsPlaced (hd' x))
    → PendingOk K sh hd on d → PendingOk K sh hd' on d
head_pending K sh hd hd' on None f o = tt
head_pending K sh hd hd' on (Some d) f o = (o.0, o.1, o.2, o.3, o.4, o.5, λ c. f d.at.0 (o.6 c))

pub head_inv : {K : ℕ → Type 0} {p s : ℕ} (o : State) {has' : ℕ → ℕ → Bool} {st : List ℕ} {y : ℕ} {h₀ h : Hd} (t : ℕ) (pl : Place) → Inv K p s o
    → HeadTask K p s o has' y h₀ h t pl
    → HeadOk K o.shape o.snap o.hd o.prim o.rep o.has has' o.stack st (Late o.tasks) y h₀ h
    → Inv K p s (state o.shape o.prim o.rep has' (upd o.hd y h) st (upd o.tasks t (goes (o.tasks t) pl)) o.roots o.on o.snap)
head_inv {K} {p} {s} o {has'} {st} {y} {h₀} {h} t pl v k c = task_inv v record {
  low = k.low;
  mine = record {
    eight = (v.entries t).eight;
    regs = (v.entries t).regs;
    pending = head_pending K o.shape o.hd (upd o.hd y h) o.on (o.tasks t).pending (head_placed o.hd y h placed) (v.entries t).pending;
    storing = (v.entries t).storing;
  };
  place = k.place;
  size = omega arith;
  sound = λ x h. h;
  keep = λ u d.
      keep_head o.hd y h u (λ i q. d (k.lock i u (sym c.was ∙ q))) (λ q. d (k.claim u (sym c.was ∙ q))) seen placed c.other
      (λ x i. meeting_after o.tasks t (goes (o.tasks t) pl) x i (λ m. (m.0, k.meets m.1)));
  locker = λ x i u d.
      upd_all (λ x o'. o' ≡ locked i u → o.hd x ≡ locked i u) o.hd y h (λ q. absurd (d (k.locks i u q).0)) (λ x w q. q) x;
  locks = λ x i.
      upd_all (λ x o'. o' ≡ locked i t → (0 < x) × (x ≤ o.shape.n) × K x × HasJob (goes (o.tasks t) pl) x i) o.hd y h
      (λ q. (c.made.0, c.made.1, c.made.2, (k.locks i t q).1))
      (λ x w q. let l = v.owners.locker x i t q in (l.1, l.2, l.3, k.jobs x i w l.4)) x;
  claimer = λ x u d.
      upd_all (λ x o'. o' ≡ claimed u → o.hd x ≡ claimed u) o.hd y h (λ q. absurd (d (k.claims u q).0)) (λ x w q. q) x;
  claims =
      upd_all (λ x o'. o' ≡ claimed t → (0 < x) × (x ≤ o.shape.n) × K x × HasClaim (goes (o.tasks t) pl) x) o.hd y h
      (λ q. (c.made.0, c.made.1, c.made.2, (k.claims t q).1))
      (λ x w q. let l = v.owners.claimer x t q in (l.1, l.2, l.3, k.owns x w l.4));
  pendings = same_pendings v t;
  stores = same_stores v t;
} record {
  kept = v.shapes.kept;
  none = v.shapes.none;
  nil = rw (upd_other o.hd y h 0 (λ q. let z = c.made.0 in absurd (omega arith))) v.shapes.nil;
  future = v.shapes.future;
  low = v.shapes.low;
  high = v.shapes.high;
  filled = v.shapes.filled;
  written = v.shapes.written;
  closed = v.shapes.closed;
  named = v.shapes.named;
} (rw k.on colours)
  where
    placed : IsPlaced (o.hd y) → IsPlaced h
    placed p = c.placed (rw c.was at p)

    seen : IsSeen (o.hd y) → IsSeen h
    seen p = c.seen (rw c.was at p)

    before : Colours K o.shape o.snap o.hd o.prim o.rep o.has o.stack (Late o.tasks)
    before = rw k.on at v.mode

    colours : Colours K o.shape o.snap (upd o.hd y h) o.prim o.rep has' st (Late (upd o.tasks t (goes (o.tasks t) pl)))
    colours =
        late_colours (λ x j a l f d. late_after o.tasks t (goes (o.tasks t) pl) x j (λ m. (m.0, k.late m.1)))
        (λ x j l f d. late_before o.tasks t (goes (o.tasks t) pl) x j (λ m. (m.0, k.later m.1))) (head_colours before c)
