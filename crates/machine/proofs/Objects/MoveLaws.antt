-- The entry of one task changes: what is to be shown of it, whatever else the step changes (`TaskOk`), and if nothing else does (`MoveOk`).
use Rattle.std.specs.Prelude.{ℕ, ◌≤◌, ◌<◌, ◌≡◌, refl, ◌≢◌, ◌⊎◌, List, Bool, true, false}
use Rattle.std.proofs.Common.{sym, subst, ◌∙◌, inl, inr, arith}
use Rattle.std.proofs.Math.Decide.{ℕ_discrete}
use Rattle.table.specs.declared.Place.{Place}
use Rattle.table.specs.declared.Place.TheVariants.{Meet, StoreCopy, Looking, Placing}
use Rattle.table.specs.declared.Task.{Task}
use Rattle.machine.specs.Setup.{fresh_task}
use Rattle.machine.proofs.Objects.Base.{upd, upd_same, upd_other, upd_all}
use Rattle.machine.proofs.Objects.State.{Hd, white, claimed, locked, Shape, Snapshot, State, IsSeen, IsPlaced, left, pending_is, On, HasJob, HasClaim, MeetsAt, LateAt, Meeting, Late}
use Rattle.machine.proofs.Objects.Inv.{Sound, Shapes, Colours, EntryOk, PlaceOk, Owners, Mode, Inv}
use Rattle.machine.proofs.Objects.Ops.{state, goes, moves}
use Rattle.machine.proofs.Objects.Keep.{Keep, keep_entry, keep_place}
use Rattle.machine.proofs.Objects.Late.{LateOf, MeetingOf, late_after, late_before, meeting_after}

-- ---- with any other change
-- the entry of t becomes e' while shape, headers and slots become the primed ones
pub record TaskOk (K : ℕ → Type 0) (p s : ℕ) (o : State) (sh' : Shape) (hd' : ℕ → Hd) (prim' rep' : ℕ → ℕ → ℕ) (has' : ℕ → ℕ → Bool)
    (t : ℕ) (e' : Task) : Type 0 where
  pub low : t < p
  pub mine : EntryOk K sh' hd' o.on e'
  pub place : PlaceOk K s sh' hd' prim' rep' has' (Meeting (upd o.tasks t e')) o.on t e' e'.place
  pub size : o.shape.n ≤ sh'.n
  pub sound : (x : ℕ) → Sound K o.shape x → Sound K sh' x
  pub keep : (u : ℕ) → u ≢ t → Keep K o.shape sh' o.hd hd' o.prim prim' o.rep rep' o.has has' (Meeting o.tasks) (Meeting (upd o.tasks t e')) u (o.tasks u)
  -- nobody else locks or claims; what t has locked or claimed then, it has in hand
  pub locker : (x i u : ℕ) → u ≢ t → hd' x ≡ locked i u → o.hd x ≡ locked i u
  pub locks : (x i : ℕ) → hd' x ≡ locked i t → (0 < x) × (x ≤ sh'.n) × K x × HasJob e' x i
  pub claimer : (x u : ℕ) → u ≢ t → hd' x ≡ claimed u → o.hd x ≡ claimed u
  pub claims : (x : ℕ) → hd' x ≡ claimed t → (0 < x) × (x ≤ sh'.n) × K x × HasClaim e' x
  -- nobody else has this pending object, or this slot in store
  pub pendings : (u : ℕ) → u ≢ t → 0 < pending_is e'.pending → pending_is e'.pending ≡ pending_is (o.tasks u).pending → ⊥
  pub stores : (u x i : ℕ) → u ≢ t → On e'.storing x i → On (o.tasks u).storing x i → ⊥

module _ {K : ℕ → Type 0} {p s : ℕ} {o : State} {sh' : Shape} {hd' : ℕ → Hd} {prim' rep' : ℕ → ℕ → ℕ} {has' : ℕ → ℕ → Bool} {t : ℕ} {e' : Task} where
  task_owners : Inv K p s o → TaskOk K p s o sh' hd' prim' rep' has' t e' → Owners p sh' K hd' (upd o.tasks t e')
  task_owners v k = record {
    locker =
        λ x i. upd_all (λ u e. hd' x ≡ locked i u → (u < p) × (0 < x) × (x ≤ sh'.n) × K x × HasJob e x i) o.tasks t e'
        (λ q. let l = k.locks x i q in (k.low, l.0, l.1, l.2, l.3))
        (λ u d q. let l = v.owners.locker x i u (k.locker x i u d q) in (l.0, l.1, omega (arith, l.2, k.size), l.3, l.4));
    claimer =
        λ x. upd_all (λ u e. hd' x ≡ claimed u → (u < p) × (0 < x) × (x ≤ sh'.n) × K x × HasClaim e x) o.tasks t e'
        (λ q. let l = k.claims x q in (k.low, l.0, l.1, l.2, l.3))
        (λ u d q. let l = v.owners.claimer x u (k.claimer x u d q) in (l.0, l.1, omega (arith, l.2, k.size), l.3, l.4));
    pendings = λ u w.
        upd_all (λ u e. 0 < pending_is e.pending → pending_is e.pending ≡ pending_is (upd o.tasks t e' w).pending → u ≡ w) o.tasks t e'
        (pend_mine w) (λ u d. pend_other u d w) u;
    stores = λ u w x i.
        upd_all (λ u e. On e.storing x i → On (upd o.tasks t e' w).storing x i → u ≡ w) o.tasks t e'
        (store_mine x i w) (λ u d. store_other x i u d w) u;
    beyond = upd_all (λ u e. p ≤ u → e ≡ fresh_task) o.tasks t e' (λ q. absurd (omega (arith, k.low))) (λ u d. v.owners.beyond u);
  }
    where
      pend_mine : (w : ℕ) → 0 < pending_is e'.pending → pending_is e'.pending ≡ pending_is (upd o.tasks t e' w).pending → t ≡ w
      pend_mine =
          upd_all (λ w f. 0 < pending_is e'.pending → pending_is e'.pending ≡ pending_is f.pending → t ≡ w) o.tasks t e'
          (λ l q. refl) (λ w d l q. absurd (k.pendings w d l q))

      pend_other : (u : ℕ) → u ≢ t → (w : ℕ) → 0 < pending_is (o.tasks u).pending → pending_is (o.tasks u).pending ≡ pending_is (upd o.tasks t e' w).pending → u ≡ w
      pend_other u d =
          upd_all (λ w f. 0 < pending_is (o.tasks u).pending → pending_is (o.tasks u).pending ≡ pending_is f.pending → u ≡ w) o.tasks t e'
          (λ l q. absurd (k.pendings u d (omega arith) (sym q))) (λ w c. v.owners.pendings u w)

      store_mine : (x i w : ℕ) → On e'.storing x i → On (upd o.tasks t e' w).storing x i → t ≡ w
      store_mine x i =
          upd_all (λ w f. On e'.storing x i → On f.storing x i → t ≡ w) o.tasks t e' (λ a b. refl) (λ w d a b. absurd (k.stores w x i d a b))

      store_other : (x i u : ℕ) → u ≢ t → (w : ℕ) → On (o.tasks u).storing x i → On (upd o.tasks t e' w).storing x i → u ≡ w
      store_other x i u d =
          upd_all (λ w f. On (o.tasks u).storing x i → On f.storing x i → u ≡ w) o.tasks t e'
          (λ a b. absurd (k.stores u x i d b a)) (λ w c. v.owners.stores u w x i)

  -- the whole invariant, from what is shown of the entry, of the shapes, and of the headers and copies
  pub task_inv : {stack' : List ℕ} → Inv K p s o → TaskOk K p s o sh' hd' prim' rep' has' t e' → Shapes K s sh' prim' hd'
      → Mode o.on K sh' o.snap hd' prim' rep' has' stack' (Late (upd o.tasks t e'))
      → Inv K p s (state sh' prim' rep' has' hd' stack' (upd o.tasks t e') o.roots o.on o.snap)
  task_inv v k sh m = record {
    shapes = sh;
    mode = m;
    eight = v.eight;
    roots = λ r. k.sound _ (v.roots r);
    entries = upd_all (λ u e. EntryOk K sh' hd' o.on e) o.tasks t e' k.mine (λ u d. keep_entry (k.keep u d) o.on (v.entries u));
    places =
        upd_all (λ u e. PlaceOk K s sh' hd' prim' rep' has' (Meeting (upd o.tasks t e')) o.on u e e.place) o.tasks t e' k.place
        (λ u d. keep_place (k.keep u d) o.on (v.entries u) s (o.tasks u).place (v.places u));
    owners = task_owners v k;
  }

-- what the invariant says of a task at a known place
pub at_place_lem : {K : ℕ → Type 0} {p s : ℕ} {o : State} → Inv K p s o → (t : ℕ) (pl : Place) → (o.tasks t).place ≡ pl
    → PlaceOk K s o.shape o.hd o.prim o.rep o.has (Meeting o.tasks) o.on t (o.tasks t) pl
at_place_lem {K} {p} {s} {o} v t pl e =
    subst (λ (w : Place). PlaceOk K s o.shape o.hd o.prim o.rep o.has (Meeting o.tasks) o.on t (o.tasks t) w) e (v.places t)

-- an entry with the pending object and the Store that it had
pub same_pendings : {K : ℕ → Type 0} {p s : ℕ} {o : State} → Inv K p s o → (t u : ℕ) → u ≢ t → 0 < pending_is (o.tasks t).pending
    → pending_is (o.tasks t).pending ≡ pending_is (o.tasks u).pending → ⊥
same_pendings v t u d l q = d (sym (v.owners.pendings t u l q))

pub same_stores : {K : ℕ → Type 0} {p s : ℕ} {o : State} → Inv K p s o → (t u x i : ℕ) → u ≢ t → On (o.tasks t).storing x i
    → On (o.tasks u).storing x i → ⊥
same_stores v t u x i d a b = d (sym (v.owners.stores t u x i a b))

-- ---- with no other change
pub record MoveOk (K : ℕ → Type 0) (p s : ℕ) (o : State) (t : ℕ) (e' : Task) : Type 0 where
  pub low : t < p
  pub mine : EntryOk K o.shape o.hd o.on e'
  pub place : PlaceOk K s o.shape o.hd o.prim o.rep o.has (Meeting (upd o.tasks t e')) o.on t e' e'.place
  -- job and claim stay
  pub jobs : (x i : ℕ) → HasJob (o.tasks t) x i → HasJob e' x i
  pub claims : (x : ℕ) → HasClaim (o.tasks t) x → HasClaim e' x
  pub pendings : (u : ℕ) → u ≢ t → 0 < pending_is e'.pending → pending_is e'.pending ≡ pending_is (o.tasks u).pending → ⊥
  pub stores : (u x i : ℕ) → u ≢ t → On e'.storing x i → On (o.tasks u).storing x i → ⊥
  -- a Store stays at Meet as long as its slot is another's job
  pub meets : (x i u : ℕ) → u ≢ t → o.hd x ≡ locked i u → MeetingOf x i (o.tasks t) → MeetingOf x i e'
  -- while collecting: a slot that does not agree stays late; a slot that becomes late has had its old pointer seen
  pub late : o.on ≡ true → (x j : ℕ) → IsPlaced (o.hd x) → left (o.shape.len x) (o.hd x) ≤ j → j < o.shape.fill x → o.rep x j ≢ o.prim x j
      → LateOf x j (o.tasks t) → LateOf x j e'
  pub later : o.on ≡ true → (x j : ℕ) → j < o.snap.fill x → j < o.shape.ptr x → (IsSeen (o.hd (o.snap.slots x j)) → ⊥)
      → LateOf x j e' → LateOf x j (o.tasks t)

-- a Store at Meet is late
pub meets_late : (pl : Place) → MeetsAt pl → LateAt pl
meets_late (Meet v) m = tt
meets_late (StoreCopy c) m = tt
meets_late (Looking q th) m = absurd m
meets_late (Placing q th) m = absurd m
meets_late _ m = m

pub meeting_late : (ts : ℕ → Task) (x j : ℕ) → Meeting ts x j → Late ts x j
meeting_late ts x j (u, a, b) = (u, a, meets_late (ts u).place b)

pub or_right : {A B C : Type 0} → (B → C) → A ⊎ B → A ⊎ C
or_right f (inl a) = inl a
or_right f (inr b) = inr (f b)

-- nothing changes for a task but which Stores are at Meet
pub keep_same : {K : ℕ → Type 0} {sh : Shape} {hd : ℕ → Hd} {prim rep : ℕ → ℕ → ℕ} {has : ℕ → ℕ → Bool} {Mt Mt' : ℕ → ℕ → Type 0} {u : ℕ} {e : Task}
    → ((x i : ℕ) → hd x ≡ locked i u → Mt x i → Mt' x i) → Keep K sh sh hd hd prim prim rep rep has has Mt Mt' u e
keep_same {K} {sh} {hd} {prim} {rep} {has} {Mt} {Mt'} {u} f = record {
  size = omega arith;
  sound = λ x h. h;
  len = λ x m. refl;
  ptr = λ x m. refl;
  placed = λ x h. h;
  seen = λ x h. h;
  claim = λ x h. h;
  lock = λ x i h. h;
  slots = λ x i h. refl;
  read = λ x i q h. or_right (f x i h);
  put = λ x i h. or_right (f x i h);
  written = λ x i h w. w;
  store = λ x i a. refl;
  fill = λ x q z. refl;
  wrote = λ x q z. refl;
  next = λ x q z. refl;
}

seen? : (h : Hd) → Dec (IsSeen h)
seen? white = no (λ p. p)
seen? _ = yes tt

-- other slots are late: a copied slot that does not agree stays so, and what becomes late has had its old pointer seen
pub late_colours : {K : ℕ → Type 0} {sh : Shape} {g : Snapshot} {hd : ℕ → Hd} {prim rep : ℕ → ℕ → ℕ} {has : ℕ → ℕ → Bool} {stack : List ℕ} {Lt Lt' : ℕ → ℕ → Type 0}
    → ((x j : ℕ) → IsPlaced (hd x) → left (sh.len x) (hd x) ≤ j → j < sh.fill x → rep x j ≢ prim x j → Lt x j → Lt' x j)
    → ((x j : ℕ) → j < g.fill x → j < sh.ptr x → (IsSeen (hd (g.slots x j)) → ⊥) → Lt' x j → Lt x j)
    → Colours K sh g hd prim rep has stack Lt → Colours K sh g hd prim rep has stack Lt'
late_colours {K} {sh} {g} {hd} {prim} {rep} {has} {stack} {Lt} {Lt'} f b c = record {
  stacked = c.stacked;
  once = c.once;
  grey = c.grey;
  bound = c.bound;
  unplaced = c.unplaced;
  older = c.older;
  newer = c.newer;
  written = c.written;
  copied = λ x j p l m. same x j p l m (ℕ_discrete (rep x j) (prim x j)) (c.copied x j p l m);
  target = c.target;
  saw = λ x j l m. look x j l m (seen? (hd (g.slots x j))) (c.saw x j l m);
  roots = c.roots;
  reached = c.reached;
  known = c.known;
}
  where
    same : (x j : ℕ) → IsPlaced (hd x) → left (sh.len x) (hd x) ≤ j → j < sh.fill x → Dec (rep x j ≡ prim x j) → (rep x j ≡ prim x j) ⊎ Lt x j
        → (rep x j ≡ prim x j) ⊎ Lt' x j
    same x j p l m (yes e) h = inl e
    same x j p l m (no d) (inl e) = inl e
    same x j p l m (no d) (inr h) = inr (f x j p l m d h)

    look : (x j : ℕ) → j < g.fill x → j < sh.ptr x → Dec (IsSeen (hd (g.slots x j)))
        → IsSeen (hd (g.slots x j)) ⊎ ((j < left (sh.len x) (hd x)) × (prim x j ≡ g.slots x j) × (Lt x j → ⊥))
        → IsSeen (hd (g.slots x j)) ⊎ ((j < left (sh.len x) (hd x)) × (prim x j ≡ g.slots x j) × (Lt' x j → ⊥))
    look x j l m (yes w) h = inl w
    look x j l m (no d) (inl w) = inl w
    look x j l m (no d) (inr h) = inr (h.0, h.1, λ w. h.2 (b x j l m d w))

-- the last of two changes of one entry counts
pub upd_twice : (ts : ℕ → Task) (t : ℕ) (a b : Task) → upd (upd ts t a) t b ≡ upd ts t b
upd_twice ts t a b = λ i u. each u i
  where
    each : (u : ℕ) → upd (upd ts t a) t b u ≡ upd ts t b u
    each =
        upd_all (λ u e. e ≡ upd ts t b u) (upd ts t a) t b (sym (upd_same ts t b))
        (λ u d. upd_other ts t a u d ∙ sym (upd_other ts t b u d))

module _ {K : ℕ → Type 0} {p s : ℕ} (o : State) (t : ℕ) (e' : Task) (v : Inv K p s o) (k : MoveOk K p s o t e') where
  move_mode : (b : Bool) → o.on ≡ b → Mode b K o.shape o.snap o.hd o.prim o.rep o.has o.stack (Late o.tasks)
      → Mode b K o.shape o.snap o.hd o.prim o.rep o.has o.stack (Late (upd o.tasks t e'))
  move_mode false q m = m
  move_mode true q m =
      late_colours (λ x j a l f d. late_after o.tasks t e' x j (k.late q x j a l f d))
      (λ x j l f d. late_before o.tasks t e' x j (k.later q x j l f d)) m

  pub move_inv : Inv K p s (moves o t e')
  move_inv = task_inv v record {
    low = k.low;
    mine = k.mine;
    place = k.place;
    size = omega arith;
    sound = λ x h. h;
    keep = λ u d. keep_same (λ x i h. meeting_after o.tasks t e' x i (k.meets x i u d h));
    locker = λ x i u d h. h;
    locks = λ x i h. let l = v.owners.locker x i t h in (l.1, l.2, l.3, k.jobs x i l.4);
    claimer = λ x u d h. h;
    claims = λ x h. let l = v.owners.claimer x t h in (l.1, l.2, l.3, k.claims x l.4);
    pendings = k.pendings;
    stores = k.stores;
  } v.shapes (move_mode o.on refl v.mode)

-- the place alone changes, to one that is late, at Meet, and with a job and a claim, as the one before
pub go_inv : {K : ℕ → Type 0} {p s : ℕ} (o : State) (t : ℕ) (pl : Place) → Inv K p s o → t < p
    → PlaceOk K s o.shape o.hd o.prim o.rep o.has (Meeting (upd o.tasks t (goes (o.tasks t) pl))) o.on t (goes (o.tasks t) pl) pl
    → ((x i : ℕ) → HasJob (o.tasks t) x i → HasJob (goes (o.tasks t) pl) x i) → ((x : ℕ) → HasClaim (o.tasks t) x → HasClaim (goes (o.tasks t) pl) x)
    → (MeetsAt (o.tasks t).place → MeetsAt pl) → (LateAt (o.tasks t).place → LateAt pl) → (LateAt pl → LateAt (o.tasks t).place)
    → Inv K p s (moves o t (goes (o.tasks t) pl))
go_inv o t pl v l h jobs claims meets late later = move_inv o t (goes (o.tasks t) pl) v record {
  low = l;
  mine = record { eight = (v.entries t).eight; regs = (v.entries t).regs; pending = (v.entries t).pending; storing = (v.entries t).storing };
  place = h;
  jobs = jobs;
  claims = claims;
  pendings = same_pendings v t;
  stores = same_stores v t;
  meets = λ x i u d z m. (m.0, meets m.1);
  late = λ on x j a b c d m. (m.0, late m.1);
  later = λ on x j a b d m. (m.0, later m.1);
}
