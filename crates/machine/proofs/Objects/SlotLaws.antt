-- The laws that steps on slots and entries share: what a change of one slot asks, what other tasks keep, how the parts of a step are joined.
use Rattle.std.specs.Prelude.{ℕ, ◌≤◌, ◌<◌, ◌≡◌, refl, ◌≢◌, ◌⊎◌, List, Bool, true, false}
use Rattle.std.proofs.Common.{sym, ◌∙◌, inl, inr, arith}
use Rattle.table.specs.declared.Place.{Place}
use Rattle.table.specs.declared.Task.{Task}
use Rattle.machine.specs.Tasks.{holding_of}
use Rattle.machine.proofs.Objects.Base.{upd, upd_other, upd_all, at_slot}
use Rattle.machine.proofs.Objects.State.{Hd, locked, Shape, Snapshot, State, IsSeen, IsPlaced, left, pending_is, On, JobIn, ClaimIn, HasJob, HasClaim, MeetsAt, LateAt, Meeting, Late}
use Rattle.machine.proofs.Objects.Inv.{Sound, Shapes, Colours, EntryOk, PlaceOk, Owners, Mode, Inv}
use Rattle.machine.proofs.Objects.Ops.{state, goes, moves}
use Rattle.machine.proofs.Objects.Late.{late_after, late_before, meeting_after}
use Rattle.machine.proofs.Objects.Keep.{Keep, keep_entry, keep_place}
use Rattle.machine.proofs.Objects.MoveLaws.{late_colours, or_right}

abbrev pub Elsewhere : ℕ → ℕ → ℕ → ℕ → Type 0
Elsewhere x i a j = (a ≡ x) × (j ≡ i) → ⊥

-- ---- slot i of x changes, in the primary, the replica or both, and so may which Stores on it are late
pub record SlotOk (sh : Shape) (g : Snapshot) (hd : ℕ → Hd) (prim prim' rep rep' : ℕ → ℕ → ℕ) (has has' : ℕ → ℕ → Bool)
    (Lt Lt' : ℕ → ℕ → Type 0) (x i : ℕ) : Type 0 where
  pub other : (a j : ℕ) → Elsewhere x i a j → (prim' a j ≡ prim a j) × (rep' a j ≡ rep a j) × (has' a j ≡ has a j)
  pub late : (a j : ℕ) → Elsewhere x i a j → Lt a j → Lt' a j
  pub early : (a j : ℕ) → Elsewhere x i a j → Lt' a j → Lt a j
  pub written : IsPlaced (hd x) → left (sh.len x) (hd x) ≤ i → i < sh.fill x → has' x i ≡ true
  pub copied : IsPlaced (hd x) → left (sh.len x) (hd x) ≤ i → i < sh.fill x → (rep' x i ≡ prim' x i) ⊎ Lt' x i
  pub target : IsPlaced (hd x) → has' x i ≡ true → i < sh.ptr x → IsPlaced (hd (rep' x i)) × (rep' x i ≤ sh.n)
  pub saw : i < g.fill x → i < sh.ptr x
      → IsSeen (hd (g.slots x i)) ⊎ ((i < left (sh.len x) (hd x)) × (prim' x i ≡ g.slots x i) × (Lt' x i → ⊥))

pub slot_colours : {K : ℕ → Type 0} {sh : Shape} {g : Snapshot} {hd : ℕ → Hd} {prim prim' rep rep' : ℕ → ℕ → ℕ} {has has' : ℕ → ℕ → Bool} {stack : List ℕ}
    {Lt Lt' : ℕ → ℕ → Type 0} {x i : ℕ}
    → Colours K sh g hd prim rep has stack Lt → SlotOk sh g hd prim prim' rep rep' has has' Lt Lt' x i → Colours K sh g hd prim' rep' has' stack Lt'
slot_colours {K} {sh} {g} {hd} {prim} {prim'} {rep} {rep'} {has} {has'} {stack} {Lt} {Lt'} {x} {i} c k = record {
  stacked = c.stacked;
  once = c.once;
  grey = c.grey;
  bound = c.bound;
  unplaced = c.unplaced;
  older = c.older;
  newer = c.newer;
  written = at_slot x i (λ a j. IsPlaced (hd a) → left (sh.len a) (hd a) ≤ j → j < sh.fill a → has' a j ≡ true) k.written
      (λ a j q p l m. (k.other a j q).2 ∙ c.written a j p l m);
  copied = at_slot x i (λ a j. IsPlaced (hd a) → left (sh.len a) (hd a) ≤ j → j < sh.fill a → (rep' a j ≡ prim' a j) ⊎ Lt' a j) k.copied
      (λ a j q p l m. same a j q (c.copied a j p l m));
  target = at_slot x i (λ a j. IsPlaced (hd a) → has' a j ≡ true → j < sh.ptr a → IsPlaced (hd (rep' a j)) × (rep' a j ≤ sh.n)) k.target
      (λ a j q p h l. rw (k.other a j q).1 (c.target a j p (sym (k.other a j q).2 ∙ h) l));
  saw = at_slot x i (λ a j. j < g.fill a → j < sh.ptr a → IsSeen (hd (g.slots a j)) ⊎ ((j < left (sh.len a) (hd a)) × (prim' a j ≡ g.slots a j) × (Lt' a j → ⊥)))
      k.saw (λ a j q l m. still a j q (c.saw a j l m));
  roots = c.roots;
  reached = c.reached;
  known = c.known;
}
  where
    same : (a j : ℕ) → Elsewhere x i a j → (rep a j ≡ prim a j) ⊎ Lt a j → (rep' a j ≡ prim' a j) ⊎ Lt' a j
    same a j q (inl e) = inl ((k.other a j q).1 ∙ e ∙ sym (k.other a j q).0)
    same a j q (inr e) = inr (k.late a j q e)

    still : (a j : ℕ) → Elsewhere x i a j → IsSeen (hd (g.slots a j)) ⊎ ((j < left (sh.len a) (hd a)) × (prim a j ≡ g.slots a j) × (Lt a j → ⊥))
        → IsSeen (hd (g.slots a j)) ⊎ ((j < left (sh.len a) (hd a)) × (prim' a j ≡ g.slots a j) × (Lt' a j → ⊥))
    still a j q (inl e) = inl e
    still a j q (inr e) = inr (e.0, (k.other a j q).0 ∙ e.1, λ z. e.2 (k.early a j q z))

-- a slot of a primary changes
pub slot_shapes : {K : ℕ → Type 0} {s : ℕ} {sh : Shape} {prim prim' : ℕ → ℕ → ℕ} {hd : ℕ → Hd} (x i : ℕ)
    → Shapes K s sh prim hd → ((a j : ℕ) → Elsewhere x i a j → prim' a j ≡ prim a j) → (i < sh.ptr x → Sound K sh (prim' x i)) → Shapes K s sh prim' hd
slot_shapes {K} {s} {sh} {prim} {prim'} {hd} x i h other here = record {
  kept = h.kept;
  none = h.none;
  nil = h.nil;
  future = h.future;
  low = h.low;
  high = h.high;
  filled = h.filled;
  written = h.written;
  closed = at_slot x i (λ a j. K a → a ≤ sh.n → j < sh.fill a → j < sh.ptr a → Sound K sh (prim' a j)) (λ y m l d. here d)
      (λ a j q y m l d. rw (other a j q) (h.closed a j y m l d));
  named = at_slot x i (λ a j. K a → a ≤ sh.n → j < sh.wrote a → j < sh.ptr a → prim' a j ≤ sh.n) (λ y m l d. (here d).1)
      (λ a j q y m l d. rw (other a j q) (h.named a j y m l d));
}

pub late_mode : {K : ℕ → Type 0} {p s : ℕ} {o : State} → Inv K p s o → (ts : ℕ → Task)
    → ((a j : ℕ) → Late o.tasks a j → Late ts a j) → ((a j : ℕ) → Late ts a j → Late o.tasks a j)
    → Mode o.on K o.shape o.snap o.hd o.prim o.rep o.has o.stack (Late ts)
late_mode {K} {p} {s} {o} v ts f b = by o.on v.mode
  where
    by : (on : Bool) → Mode on K o.shape o.snap o.hd o.prim o.rep o.has o.stack (Late o.tasks)
        → Mode on K o.shape o.snap o.hd o.prim o.rep o.has o.stack (Late ts)
    by true c = late_colours (λ x j a l m d. f x j) (λ x j l m d. b x j) c
    by false c = c

-- ---- what other tasks keep
-- of the shapes, for the entry e
pub record ShapeKept (K : ℕ → Type 0) (sh sh' : Shape) (e : Task) : Type 0 where
  pub size : sh.n ≤ sh'.n
  pub sound : (x : ℕ) → Sound K sh x → Sound K sh' x
  pub len : (x : ℕ) → x ≤ sh.n → sh'.len x ≡ sh.len x
  pub ptr : (x : ℕ) → x ≤ sh.n → sh'.ptr x ≡ sh.ptr x
  pub fill : (x : ℕ) → pending_is e.pending ≡ x → 0 < x → sh'.fill x ≡ sh.fill x
  pub wrote : (x : ℕ) → pending_is e.pending ≡ x → 0 < x → sh'.wrote x ≡ sh.wrote x

pub shape_same : {K : ℕ → Type 0} {sh : Shape} {e : Task} → ShapeKept K sh sh e
shape_same = record { size = omega arith; sound = λ x z. z; len = λ x z. refl; ptr = λ x z. refl; fill = λ x z l. refl; wrote = λ x z l. refl }

-- of slot i of x, for the task u with the entry e
pub record SlotKept (sh : Shape) (hd : ℕ → Hd) (prim prim' rep rep' : ℕ → ℕ → ℕ) (has has' : ℕ → ℕ → Bool) (Mt Mt' : ℕ → ℕ → Type 0) (u : ℕ) (e : Task) (x i : ℕ) : Type 0 where
  pub other : (a j : ℕ) → Elsewhere x i a j → (prim' a j ≡ prim a j) × (rep' a j ≡ rep a j) × (has' a j ≡ has a j)
  pub meets : (a j : ℕ) → Elsewhere x i a j → Mt a j → Mt' a j
  pub read : (q : ℕ) → hd x ≡ locked i u → (prim x i ≡ q) ⊎ Mt x i → (prim' x i ≡ q) ⊎ Mt' x i
  pub put : hd x ≡ locked i u → (rep x i ≡ prim x i) ⊎ Mt x i → (rep' x i ≡ prim' x i) ⊎ Mt' x i
  pub written : hd x ≡ locked i u → has x i ≡ true → has' x i ≡ true
  pub store : On e.storing x i → prim' x i ≡ prim x i
  pub next : pending_is e.pending ≡ x → 0 < x → sh.fill x ≡ i → prim' x i ≡ prim x i

pub slot_keep : {K : ℕ → Type 0} {p : ℕ} {sh sh' : Shape} {hd : ℕ → Hd} {prim prim' rep rep' : ℕ → ℕ → ℕ} {has has' : ℕ → ℕ → Bool} {Mt Mt' : ℕ → ℕ → Type 0}
    {u : ℕ} {e : Task} {ts : ℕ → Task} {x i : ℕ}
    → Owners p sh K hd ts → ShapeKept K sh sh' e → SlotKept sh hd prim prim' rep rep' has has' Mt Mt' u e x i
    → Keep K sh sh' hd hd prim prim' rep rep' has has' Mt Mt' u e
slot_keep {K} {p} {sh} {sh'} {hd} {prim} {prim'} {rep} {rep'} {has} {has'} {Mt} {Mt'} {u} {e} {ts} {x} {i} w h k = record {
  size = h.size;
  sound = h.sound;
  len = h.len;
  ptr = h.ptr;
  placed = λ a z. z;
  seen = λ a z. z;
  claim = λ a z. z;
  lock = λ a j z. z;
  slots = λ a j z. h.ptr a (w.locker a j u z).2;
  read = λ a j q. at_slot x i (λ a j. hd a ≡ locked j u → (prim a j ≡ q) ⊎ Mt a j → (prim' a j ≡ q) ⊎ Mt' a j) (k.read q) (λ a j d z r. far_read a j q d r) a j;
  put = at_slot x i (λ a j. hd a ≡ locked j u → (rep a j ≡ prim a j) ⊎ Mt a j → (rep' a j ≡ prim' a j) ⊎ Mt' a j) k.put (λ a j d z r. far_put a j d r);
  written = at_slot x i (λ a j. hd a ≡ locked j u → has a j ≡ true → has' a j ≡ true) k.written (λ a j d z r. (k.other a j d).2 ∙ r);
  store = at_slot x i (λ a j. On e.storing a j → prim' a j ≡ prim a j) k.store (λ a j d z. (k.other a j d).0);
  fill = h.fill;
  wrote = h.wrote;
  next = λ a z l. at_slot x i (λ a j. pending_is e.pending ≡ a → 0 < a → sh.fill a ≡ j → prim' a j ≡ prim a j) k.next (λ a j d z l f. (k.other a j d).0)
      a (sh.fill a) z l refl;
}
  where
    far_read : (a j q : ℕ) → Elsewhere x i a j → (prim a j ≡ q) ⊎ Mt a j → (prim' a j ≡ q) ⊎ Mt' a j
    far_read a j q d (inl r) = inl ((k.other a j d).0 ∙ r)
    far_read a j q d (inr r) = inr (k.meets a j d r)

    far_put : (a j : ℕ) → Elsewhere x i a j → (rep a j ≡ prim a j) ⊎ Mt a j → (rep' a j ≡ prim' a j) ⊎ Mt' a j
    far_put a j d (inl r) = inl ((k.other a j d).1 ∙ r ∙ sym (k.other a j d).0)
    far_put a j d (inr r) = inr (k.meets a j d r)

-- ---- a task with no job and no claim gets another entry
abbrev pub Holdless : Place → Type 0
Holdless pl = ((x i : ℕ) → JobIn (holding_of pl) x i → ⊥) × ((x : ℕ) → ClaimIn (holding_of pl) x → ⊥)

pub owners_inv : {p : ℕ} {sh sh' : Shape} {K : ℕ → Type 0} {hd : ℕ → Hd} {ts : ℕ → Task} (t : ℕ) (e : Task)
    → Owners p sh K hd ts → t < p → sh.n ≤ sh'.n → Holdless (ts t).place
    → ((u : ℕ) → u ≢ t → 0 < pending_is e.pending → pending_is e.pending ≡ pending_is (ts u).pending → ⊥)
    → ((u x i : ℕ) → u ≢ t → On e.storing x i → On (ts u).storing x i → ⊥)
    → Owners p sh' K hd (upd ts t e)
owners_inv {p} {sh} {sh'} {K} {hd} {ts} t e w l n free pend sto = record {
  locker = λ x i u z. let r = w.locker x i u z in
      (r.0, r.1, omega (arith, r.2), r.3, upd_all (λ a f. HasJob (ts a) x i → HasJob f x i) ts t e (λ h. absurd (free.0 x i h)) (λ a q h. h) u r.4);
  claimer = λ x u z. let r = w.claimer x u z in
      (r.0, r.1, omega (arith, r.2), r.3, upd_all (λ a f. HasClaim (ts a) x → HasClaim f x) ts t e (λ h. absurd (free.1 x h)) (λ a q h. h) u r.4);
  pendings = λ a b. upd_all (λ a f. 0 < pending_is f.pending → pending_is f.pending ≡ pending_is (upd ts t e b).pending → a ≡ b) ts t e
      (upd_all (λ b g. 0 < pending_is e.pending → pending_is e.pending ≡ pending_is g.pending → t ≡ b) ts t e (λ z r. refl) (λ b q z r. absurd (pend b q z r)) b)
      (λ a q. upd_all (λ b g. 0 < pending_is (ts a).pending → pending_is (ts a).pending ≡ pending_is g.pending → a ≡ b) ts t e
      (λ z r. absurd (pend a q (omega arith) (sym r))) (λ b d z r. w.pendings a b z r) b) a;
  stores = λ a b x i. upd_all (λ a f. On f.storing x i → On (upd ts t e b).storing x i → a ≡ b) ts t e
      (upd_all (λ b g. On e.storing x i → On g.storing x i → t ≡ b) ts t e (λ z r. refl) (λ b q z r. absurd (sto b x i q z r)) b)
      (λ a q. upd_all (λ b g. On (ts a).storing x i → On g.storing x i → a ≡ b) ts t e (λ z r. absurd (sto a x i q r z)) (λ b d z r. w.stores a b x i z r) b) a;
  beyond = λ a m. upd_other ts t e a (λ z. absurd (omega arith)) ∙ w.beyond a m;
}

-- ---- the parts of a step joined: headers, stack and roots stay
pub join : {K : ℕ → Type 0} {p s : ℕ} {o : State} {sh' : Shape} {prim' rep' : ℕ → ℕ → ℕ} {has' : ℕ → ℕ → Bool} (t : ℕ) (e : Task)
    → Inv K p s o
    → Shapes K s sh' prim' o.hd
    → Mode o.on K sh' o.snap o.hd prim' rep' has' o.stack (Late (upd o.tasks t e))
    → ((x : ℕ) → Sound K o.shape x → Sound K sh' x)
    → EntryOk K sh' o.hd o.on e
    → PlaceOk K s sh' o.hd prim' rep' has' (Meeting (upd o.tasks t e)) o.on t e e.place
    → Owners p sh' K o.hd (upd o.tasks t e)
    → ((u : ℕ) → u ≢ t → Keep K o.shape sh' o.hd o.hd o.prim prim' o.rep rep' o.has has' (Meeting o.tasks) (Meeting (upd o.tasks t e)) u (o.tasks u))
    → Inv K p s (state sh' prim' rep' has' o.hd o.stack (upd o.tasks t e) o.roots o.on o.snap)
join {K} {p} {s} {o} {sh'} {prim'} {rep'} {has'} t e v h m so eo po w k = record {
  shapes = h;
  mode = m;
  eight = v.eight;
  roots = λ r. so _ (v.roots r);
  entries = upd_all (λ u f. EntryOk K sh' o.hd o.on f) o.tasks t e eo (λ u q. keep_entry (k u q) o.on (v.entries u));
  places = upd_all (λ u f. PlaceOk K s sh' o.hd prim' rep' has' (Meeting (upd o.tasks t e)) o.on u f f.place) o.tasks t e po
      (λ u q. keep_place (k u q) o.on (v.entries u) s (o.tasks u).place (v.places u));
  owners = w;
}

-- its place and nothing else of its entry: no other task has its pending object, or its slot in store
pub goes_owners : {p : ℕ} {sh sh' : Shape} {K : ℕ → Type 0} {hd : ℕ → Hd} {ts : ℕ → Task} (t : ℕ) (pl : Place)
    → Owners p sh K hd ts → t < p → sh.n ≤ sh'.n → Holdless (ts t).place → Owners p sh' K hd (upd ts t (goes (ts t) pl))
goes_owners {ts = ts} t pl w l n free =
    owners_inv t (goes (ts t) pl) w l n free (λ u q z r. q (sym (w.pendings t u z r))) (λ u x i q a b. q (w.stores u t x i b a))

pub goes_entry : {K : ℕ → Type 0} {sh : Shape} {hd : ℕ → Hd} {on : Bool} {e : Task} (pl : Place) → EntryOk K sh hd on e → EntryOk K sh hd on (goes e pl)
goes_entry pl o = record { eight = o.eight; regs = o.regs; pending = o.pending; storing = o.storing }

-- nothing but the entry changes
pub moves_inv : {K : ℕ → Type 0} {p s : ℕ} {o : State} (t : ℕ) (e : Task) → Inv K p s o
    → Mode o.on K o.shape o.snap o.hd o.prim o.rep o.has o.stack (Late (upd o.tasks t e))
    → ((u a j : ℕ) → u ≢ t → o.hd a ≡ locked j u → Meeting o.tasks a j → Meeting (upd o.tasks t e) a j)
    → EntryOk K o.shape o.hd o.on e
    → PlaceOk K s o.shape o.hd o.prim o.rep o.has (Meeting (upd o.tasks t e)) o.on t e e.place
    → Owners p o.shape K o.hd (upd o.tasks t e)
    → Inv K p s (moves o t e)
moves_inv {o = o} t e v m mt eo po w = join t e v v.shapes m (λ x z. z) eo po w (λ u q. record {
  size = omega arith;
  sound = λ a z. z;
  len = λ a z. refl;
  ptr = λ a z. refl;
  placed = λ a z. z;
  seen = λ a z. z;
  claim = λ a z. z;
  lock = λ a j z. z;
  slots = λ a j z. refl;
  read = λ a j c z. or_right (mt u a j q z);
  put = λ a j z. or_right (mt u a j q z);
  written = λ a j z r. r;
  store = λ a j z. refl;
  fill = λ a z l. refl;
  wrote = λ a z l. refl;
  next = λ a z l. refl;
})

-- so, if no Store of the task is late before or after
pub quiet_inv : {K : ℕ → Type 0} {p s : ℕ} {o : State} (t : ℕ) (e : Task) → Inv K p s o
    → (LateAt (o.tasks t).place → ⊥) → (MeetsAt (o.tasks t).place → ⊥) → (LateAt e.place → ⊥)
    → EntryOk K o.shape o.hd o.on e
    → PlaceOk K s o.shape o.hd o.prim o.rep o.has (Meeting (upd o.tasks t e)) o.on t e e.place
    → Owners p o.shape K o.hd (upd o.tasks t e)
    → Inv K p s (moves o t e)
quiet_inv {o = o} t e v before meets after eo po w =
    moves_inv t e v
    (late_mode v (upd o.tasks t e) (λ a j. late_after o.tasks t e a j (λ z. absurd (before z.1))) (λ a j. late_before o.tasks t e a j (λ z. absurd (after z.1))))
    (λ u a j q z. meeting_after o.tasks t e a j (λ r. absurd (meets r.1))) eo po w
