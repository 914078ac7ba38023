-- The steps of a payment keep the invariant: take, read, put, release.
use Rattle.std.specs.Prelude.{ℕ, suc, ◌≤◌, ◌<◌, ◌≡◌, refl, ◌≢◌, ◌⊎◌, List, ◌∷◌, Bool, true, false, ltb, eqb}
use Rattle.std.proofs.Common.{ap, sym, ◌∙◌, inl, inr, arith, ltb-true, lt-ltb, eqb-true}
use Rattle.std.proofs.Math.Decide.{ℕ_discrete}
use Rattle.std.proofs.lemmas.Bool.{eqb-false}
use Rattle.table.specs.declared.Primary.{Primary}
use Rattle.table.specs.declared.Operand.{Operand}
use Rattle.table.specs.declared.Replica.{Replica}
use Rattle.table.specs.declared.Operand.TheVariants.{Plain, Pointer}
use Rattle.table.specs.declared.Then.TheVariants.{ToPut}
use Rattle.table.specs.declared.Place.TheVariants.{Take, Read, Put, Release, Looking}
use Rattle.table.specs.declared.Task.{Task}
use Rattle.machine.specs.Basics.{pick}
use Rattle.machine.specs.Words.{primary, replica, copied_word, slot_at}
use Rattle.machine.specs.Tasks.{holding_of}
use Rattle.machine.specs.Look.{look_ahead}
use Rattle.machine.specs.Objects.Base.{In}
use Rattle.machine.proofs.Objects.Base.{clash, off_on, upd, upd_same, slot, slot_same, slot_other, at_slot}
use Rattle.machine.proofs.Objects.State.{Hd, count, locked, Shape, Snapshot, State, IsSeen, IsPlaced, left, HasJob, is_renamed, Meeting, Late}
use Rattle.machine.proofs.Objects.Inv.{Sound, SoundCopied, Colours, PlaceOk, Inv}
use Rattle.machine.proofs.Objects.Ops.{goes, push, moves, heads, copies}
use Rattle.machine.proofs.Objects.Keep.{Keep}
use Rattle.machine.proofs.Objects.Late.{late_after, late_before, meeting_after}
use Rattle.machine.proofs.Objects.MoveLaws.{task_inv, at_place_lem, same_pendings, same_stores, meeting_late, or_right, late_colours, go_inv}
use Rattle.machine.proofs.Objects.HeadLaws.{placed_seen, in_push, push_in, push_out, push_into, push_nodup, unstacked, HeadOk, head_inv}

-- ---- take: the top of the stack, count to locked
take_ok : {K : ℕ → Type 0} {sh : Shape} {g : Snapshot} {hd : ℕ → Hd} {prim rep : ℕ → ℕ → ℕ} {has : ℕ → ℕ → Bool} {stack : List ℕ}
    {Lt : ℕ → ℕ → Type 0} (x c t : ℕ) (st : List ℕ) → Colours K sh g hd prim rep has stack Lt → stack ≡ x ∷ st → hd x ≡ count (suc c)
    → HeadOk K sh g hd prim rep has has stack st Lt x (count (suc c)) (locked c t)
take_ok {K} {sh} {g} {hd} {prim} {rep} {has} {stack} {Lt} x c t st k es e = record {
  was = e;
  made = let w = d.stacked x (inl refl) in (w.0, w.1, w.2);
  once = d.once.1;
  out = λ y i q. rw es (inr i);
  into = λ y i q. into y q (rw es at i);
  out_y = λ i. absurd (d.once.0 i);
  into_y = λ n w. clash cc;
  bound = λ p. (rw e at (k.bound x)) tt;
  unplaced = λ p. absurd p;
  old = λ w. clash cc;
  seen = λ p. tt;
  placed = λ p. tt;
  other = λ y j q. refl;
  written = λ p j. (rw e at (k.written x j)) tt;
  copied = λ p j. (rw e at (k.copied x j)) tt;
  target = λ p j. (rw e at (k.target x j)) tt;
  saw = λ j m l w n. inr l;
}
  where
    d : Colours K sh g hd prim rep has (x ∷ st) Lt
    d = rw es at k

    into : (y : ℕ) → y ≢ x → In y (x ∷ st) → In y st
    into y q (inl w) = absurd (q w)
    into y q (inr w) = w

pub takes : {K : ℕ → Type 0} {p s : ℕ} (o : State) (t n x c : ℕ) (st : List ℕ) → Inv K p s o → t < p → (o.tasks t).place ≡ Take n
    → o.stack ≡ x ∷ st → o.hd x ≡ count (suc c) → Inv K p s (heads o x (locked c t) st t (goes (o.tasks t) (Read n (slot_at (primary x) c))))
unfolding holding_of
takes {K} {p} {s} o t n x c st v l ep es e = head_inv o t (Read n (slot_at (primary x) c)) v record {
  low = l;
  on = h.0;
  place = (h.0, h.1, upd_same o.hd x (locked c t));
  lock = λ i u w. clash cc;
  claim = λ u w. clash cc;
  locks = λ i u w. let a : u ≡ t = cc in let b : c ≡ i = cc in (a, (refl, b));
  claims = λ u w. clash cc;
  jobs = λ y i d j. absurd (rw ep at j);
  owns = λ y d j. absurd (rw ep at j);
  meets = λ m. rw ep at m;
  late = λ m. rw ep at m;
  later = λ m. absurd m;
} (take_ok x c t st (rw h.0 at v.mode) es e)
  where
    h : PlaceOk K s o.shape o.hd o.prim o.rep o.has (Meeting o.tasks) o.on t (o.tasks t) (Take n)
    h = at_place_lem v t (Take n) ep

-- ---- read
-- a locked slot is filled, so a pointer in it is sound
locked_sound : {K : ℕ → Type 0} {p s : ℕ} (o : State) (t x i : ℕ) → Inv K p s o → o.on ≡ true → o.hd x ≡ locked i t → i < o.shape.ptr x
    → Sound K o.shape (o.prim x i)
locked_sound {K} {p} {s} o t x i v on e l =
    let w = v.owners.locker x i t e in
    let k : Colours K o.shape o.snap o.hd o.prim o.rep o.has o.stack (Late o.tasks) = rw on at v.mode in
    let b : suc i ≤ o.snap.fill x = (rw e at (k.bound x)) tt in
    v.shapes.closed x i w.3 w.2 (omega (arith, k.older x)) l

pub reads : {K : ℕ → Type 0} {p s : ℕ} (o : State) (t n : ℕ) (x : Primary) (i : ℕ) → Inv K p s o → t < p → (o.tasks t).place ≡ Read n (slot_at x i)
    → Inv K p s (moves o t (goes (o.tasks t)
    (look_ahead (pick (ltb i (o.shape.ptr x.0)) (Pointer (primary (o.prim x.0 i))) (Plain (o.prim x.0 i))) (ToPut n (slot_at x i)) (Put n (slot_at x i)))))
unfolding holding_of
reads {K} {p} {s} o t n x i v l ep = by (ltb i (o.shape.ptr x.0)) refl
  where
    h : PlaceOk K s o.shape o.hd o.prim o.rep o.has (Meeting o.tasks) o.on t (o.tasks t) (Read n (slot_at x i))
    h = at_place_lem v t (Read n (slot_at x i)) ep

    aim : i < o.shape.ptr x.0 → Sound K o.shape (o.prim x.0 i)
    aim m = locked_sound o t x.0 i v h.0 h.2 m

    to : (c : Bool) → eqb (o.prim x.0 i) 0 ≡ c → ltb i (o.shape.ptr x.0) ≡ true
        → Inv K p s (moves o t (goes (o.tasks t) (pick c (Put n (slot_at x i) (Pointer (replica 0))) (Looking (primary (o.prim x.0 i)) (ToPut n (slot_at x i))))))
    to true z b =
        let q : o.prim x.0 i ≡ 0 = eqb-true (o.prim x.0 i) 0 z in
        go_inv o t (Put n (slot_at x i) (Pointer (replica 0))) v l
        (h.0, h.1, h.2, sym b, inl q, (rw q at (aim (ltb-true i (o.shape.ptr x.0) b)), rw v.shapes.nil tt)) (λ y j m. rw ep at m)
        (λ y m. rw ep at m) (λ m. rw ep at m) (λ m. rw ep at m) (λ m. absurd m)
    to false z b =
        let q : o.prim x.0 i ≢ 0 = eqb-false (o.prim x.0 i) 0 z in
        let m : i < o.shape.ptr x.0 = ltb-true i (o.shape.ptr x.0) b in
        go_inv o t (Looking (primary (o.prim x.0 i)) (ToPut n (slot_at x i))) v l
        (h.0, omega (arith, q), aim m, (h.1, h.2, m, inl refl)) (λ y j m. rw ep at m)
        (λ y m. rw ep at m) (λ m. rw ep at m) (λ m. rw ep at m) (λ m. absurd m)

    by : (b : Bool) → ltb i (o.shape.ptr x.0) ≡ b
        → Inv K p s (moves o t (goes (o.tasks t) (look_ahead (pick b (Pointer (primary (o.prim x.0 i))) (Plain (o.prim x.0 i))) (ToPut n (slot_at x i)) (Put n (slot_at x i)))))
    by true b = to (eqb (o.prim x.0 i) 0) refl b
    by false b =
        go_inv o t (Put n (slot_at x i) (Plain (o.prim x.0 i))) v l (h.0, h.1, h.2, sym b, inl refl, tt) (λ y j m. rw ep at m) (λ y m. rw ep at m)
        (λ m. rw ep at m) (λ m. rw ep at m) (λ m. absurd m)

-- ---- put: the locked slot of the replica is written
put_colours : {K : ℕ → Type 0} {sh : Shape} {g : Snapshot} {hd : ℕ → Hd} {prim rep : ℕ → ℕ → ℕ} {has : ℕ → ℕ → Bool} {stack : List ℕ}
    {Lt : ℕ → ℕ → Type 0} (x i t w : ℕ) → Colours K sh g hd prim rep has stack Lt → hd x ≡ locked i t → (i < sh.ptr x → IsPlaced (hd w) × (w ≤ sh.n))
    → Colours K sh g hd prim (slot rep x i w) (slot has x i true) stack Lt
put_colours {K} {sh} {g} {hd} {prim} {rep} {has} {stack} {Lt} x i t w c e f = record {
  stacked = c.stacked;
  once = c.once;
  grey = c.grey;
  bound = c.bound;
  unplaced = c.unplaced;
  older = c.older;
  newer = c.newer;
  written =
      at_slot x i (λ a j. IsPlaced (hd a) → left (sh.len a) (hd a) ≤ j → j < sh.fill a → slot has x i true a j ≡ true) (λ p l m. slot_same has x i true)
      (λ a j d p l m. slot_other has x i true a j d ∙ c.written a j p l m);
  -- the slot is still to copy
  copied =
      at_slot x i (λ a j. IsPlaced (hd a) → left (sh.len a) (hd a) ≤ j → j < sh.fill a → (slot rep x i w a j ≡ prim a j) ⊎ Lt a j)
      (λ p l m. let z : suc i ≤ i = rw e at l in absurd (omega arith)) (λ a j d p l m. rw (slot_other rep x i w a j d) (c.copied a j p l m));
  target =
      at_slot x i (λ a j. IsPlaced (hd a) → slot has x i true a j ≡ true → j < sh.ptr a → IsPlaced (hd (slot rep x i w a j)) × (slot rep x i w a j ≤ sh.n))
      (λ p h m. rw (slot_same rep x i w) (f m))
      (λ a j d p h m. rw (slot_other rep x i w a j d) (c.target a j p (sym (slot_other has x i true a j d) ∙ h) m));
  saw = c.saw;
  roots = c.roots;
  reached = c.reached;
  known = c.known;
}

-- a value for a pointer slot leads to what is placed and made
copied_placed : (K : ℕ → Type 0) (sh : Shape) (hd : ℕ → Hd) (c : Operand Replica) → is_renamed c ≡ true → SoundCopied K sh hd c → IsPlaced (hd (copied_word c)) × (copied_word c ≤ sh.n)
copied_placed K sh hd (Plain w) e h = off_on e
copied_placed K sh hd (Pointer r) e h = (h.1, h.0.1)

pub puts : {K : ℕ → Type 0} {p s : ℕ} (o : State) (t n : ℕ) (x : Primary) (i : ℕ) (c : Operand Replica) → Inv K p s o → t < p → (o.tasks t).place ≡ Put n (slot_at x i) c
    → Inv K p s (copies o x.0 i (copied_word c) t (goes (o.tasks t) (Release n (slot_at x i))))
unfolding holding_of
puts {K} {p} {s} o t n x i c v l ep = task_inv v record {
  low = l;
  mine = record { eight = (v.entries t).eight; regs = (v.entries t).regs; pending = (v.entries t).pending; storing = (v.entries t).storing };
  place = (h.0, h.1, h.2, slot_same o.has x.0 i true, same h.4);
  size = omega arith;
  sound = λ y w. w;
  keep = keep;
  locker = λ y j u d w. w;
  locks = λ y j w. let m = v.owners.locker y j t w in (m.1, m.2, m.3, rw ep at m.4);
  claimer = λ y u d w. w;
  claims = λ y w. let m = v.owners.claimer y t w in (m.1, m.2, m.3, rw ep at m.4);
  pendings = same_pendings v t;
  stores = same_stores v t;
} v.shapes (rw h.0 colours)
  where
    e' : Task
    e' = goes (o.tasks t) (Release n (slot_at x i))

    h : PlaceOk K s o.shape o.hd o.prim o.rep o.has (Meeting o.tasks) o.on t (o.tasks t) (Put n (slot_at x i) c)
    h = at_place_lem v t (Put n (slot_at x i) c) ep

    meets : (y j : ℕ) → Meeting o.tasks y j → Meeting (upd o.tasks t e') y j
    meets y j = meeting_after o.tasks t e' y j (λ m. absurd (rw ep at m.1))

    same : (o.prim x.0 i ≡ copied_word c) ⊎ Meeting o.tasks x.0 i
        → (slot o.rep x.0 i (copied_word c) x.0 i ≡ o.prim x.0 i) ⊎ Meeting (upd o.tasks t e') x.0 i
    same (inl q) = inl (slot_same o.rep x.0 i (copied_word c) ∙ sym q)
    same (inr m) = inr (meets x.0 i m)

    keep : (u : ℕ) → u ≢ t
        → Keep K o.shape o.shape o.hd o.hd o.prim o.prim o.rep (slot o.rep x.0 i (copied_word c)) o.has (slot o.has x.0 i true)
        (Meeting o.tasks) (Meeting (upd o.tasks t e')) u (o.tasks u)
    keep u d = record {
      size = omega arith;
      sound = λ y w. w;
      len = λ y m. refl;
      ptr = λ y m. refl;
      placed = λ y w. w;
      seen = λ y w. w;
      claim = λ y w. w;
      lock = λ y j w. w;
      slots = λ y j w. refl;
      read = λ y j q w. or_right (meets y j);
      put = λ y j w. rw (slot_other o.rep x.0 i (copied_word c) y j (away y j w)) (or_right (meets y j));
      written = λ y j w m. slot_other o.has x.0 i true y j (away y j w) ∙ m;
      store = λ y j a. refl;
      fill = λ y q z. refl;
      wrote = λ y q z. refl;
      next = λ y q z. refl;
    }
      where
        -- the job of another is elsewhere
        away : (y j : ℕ) → o.hd y ≡ locked j u → (y ≡ x.0) × (j ≡ i) → ⊥
        away y j w z = let a : o.hd y ≡ o.hd x.0 = ap o.hd z.0 in let b : u ≡ t = cc (a, w, h.2) in d b

    colours : Colours K o.shape o.snap o.hd o.prim (slot o.rep x.0 i (copied_word c)) (slot o.has x.0 i true) o.stack (Late (upd o.tasks t e'))
    colours =
        late_colours (λ y j a b f d. late_after o.tasks t e' y j (λ m. absurd (rw ep at m.1)))
        (λ y j a b d. late_before o.tasks t e' y j (λ m. absurd m.1))
        (put_colours x.0 i t (copied_word c) (rw h.0 at v.mode) h.2
        (λ m. copied_placed K o.shape o.hd c (h.3 ∙ lt-ltb i (o.shape.ptr x.0) m) h.5))

-- ---- release: locked to count
release_ok : {K : ℕ → Type 0} {sh : Shape} {g : Snapshot} {hd : ℕ → Hd} {prim rep : ℕ → ℕ → ℕ} {has : ℕ → ℕ → Bool} {stack : List ℕ}
    {Lt : ℕ → ℕ → Type 0} (x i t : ℕ) → Colours K sh g hd prim rep has stack Lt → (0 < x) × (x ≤ sh.n) × K x → hd x ≡ locked i t → has x i ≡ true
    → (rep x i ≡ prim x i) ⊎ Lt x i → HeadOk K sh g hd prim rep has has stack (push i x stack) Lt x (locked i t) (count i)
release_ok {K} {sh} {g} {hd} {prim} {rep} {has} {stack} {Lt} x i t c m e w same = record {
  was = e;
  made = m;
  once = push_nodup i x stack off c.once;
  out = in_push i x stack;
  into = λ y k q. push_in i x stack y k;
  out_y = push_out i x stack off;
  into_y = push_into i x stack;
  bound = λ p. let b : suc i ≤ g.fill x = (rw e at (c.bound x)) tt in omega arith;
  unplaced = λ p. absurd p;
  old = λ w. clash cc;
  seen = λ p. tt;
  placed = λ p. tt;
  other = λ y j q. refl;
  written = λ p j l n. wr j n (ℕ_discrete j i) l;
  copied = λ p j l n. cp j n (ℕ_discrete j i) l;
  target = λ p j. (rw e at (c.target x j)) tt;
  saw = λ j n l q z. sn j n l q z (ℕ_discrete j i);
}
  where
    off : In x stack → ⊥
    off = unstacked x c (λ n w. let z : ◌≡◌ {A = ℕ} 0 1 = cc (e, w) in clash z)

    wr : (j : ℕ) → j < sh.fill x → Dec (j ≡ i) → i ≤ j → has x j ≡ true
    wr j n (yes q) l = rw q w
    wr j n (no q) l = (rw e at (c.written x j)) tt (omega arith) n

    cp : (j : ℕ) → j < sh.fill x → Dec (j ≡ i) → i ≤ j → (rep x j ≡ prim x j) ⊎ Lt x j
    cp j n (yes q) l = rw q same
    cp j n (no q) l = (rw e at (c.copied x j)) tt (omega arith) n

    -- the slot just copied agrees, so what it points to is placed
    seen : (rep x i ≡ prim x i) ⊎ Lt x i → i < sh.ptr x → prim x i ≡ g.slots x i → (Lt x i → ⊥) → IsPlaced (hd (g.slots x i))
    seen (inl a) n q z = rw (sym q ∙ sym a) ((rw e at (c.target x i)) tt w n).0
    seen (inr a) n q z = absurd (z a)

    sn : (j : ℕ) → j < sh.ptr x → j < suc i → prim x j ≡ g.slots x j → (Lt x j → ⊥) → Dec (j ≡ i) → IsSeen (hd (g.slots x j)) ⊎ (j < i)
    sn j n l q z (yes r) = inl (placed_seen (hd (g.slots x j)) (rw r (seen same (rw r at n) (rw r at q) (rw r at z))))
    sn j n l q z (no r) = inr (omega arith)

pub releases : {K : ℕ → Type 0} {p s : ℕ} (o : State) (t n : ℕ) (x : Primary) (i m : ℕ) → Inv K p s o → t < p → (o.tasks t).place ≡ Release n (slot_at x i) → 0 < m
    → Inv K p s (heads o x.0 (count i) (push i x.0 o.stack) t (goes (o.tasks t) (Take m)))
unfolding holding_of
releases {K} {p} {s} o t n x i m v l ep z = head_inv o t (Take m) v record {
  low = l;
  on = h.0;
  place = (h.0, z);
  lock = λ j u w. cc;
  claim = λ u w. clash cc;
  locks = λ j u w. clash cc;
  claims = λ u w. clash cc;
  jobs = λ y j d w. absurd (d (sym (rw ep at w).0));
  owns = λ y d w. absurd (rw ep at w);
  meets = λ m. rw ep at m;
  late = λ m. rw ep at m;
  later = λ m. absurd m;
} (release_ok x.0 i t (rw h.0 at v.mode) (made.1, made.2, made.3) h.2 h.3 (same h.4))
  where
    h : PlaceOk K s o.shape o.hd o.prim o.rep o.has (Meeting o.tasks) o.on t (o.tasks t) (Release n (slot_at x i))
    h = at_place_lem v t (Release n (slot_at x i)) ep

    made : (t < p) × (0 < x.0) × (x.0 ≤ o.shape.n) × K x.0 × HasJob (o.tasks t) x.0 i
    made = v.owners.locker x.0 i t h.2

    same : (o.rep x.0 i ≡ o.prim x.0 i) ⊎ Meeting o.tasks x.0 i → (o.rep x.0 i ≡ o.prim x.0 i) ⊎ Late o.tasks x.0 i
    same (inl q) = inl q
    same (inr w) = inr (meeting_late o.tasks x.0 i w)
