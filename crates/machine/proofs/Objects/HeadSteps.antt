-- Look and place keep the invariant: a look that claims, one that finds the replica, a place.
use Rattle.std.specs.Prelude.{ℕ, ◌≤◌, ◌<◌, ◌≡◌, refl, List, Bool, true, false}
use Rattle.std.proofs.Common.{ap, sym, ◌∙◌, inr, arith, lt-ltb}
use Rattle.table.specs.declared.Primary.{Primary}
use Rattle.table.specs.declared.Replica.{Replica}
use Rattle.table.specs.declared.Then.{Then}
use Rattle.table.specs.declared.Then.TheVariants.{ToWrite, ToStoreCopy, ToFillCopy, ToPut}
use Rattle.table.specs.declared.Place.{Place}
use Rattle.table.specs.declared.Place.TheVariants.{Looking, Placing}
use Rattle.table.specs.declared.Task.{Task}
use Rattle.machine.specs.Words.{replica}
use Rattle.machine.specs.Tasks.{holding_of}
use Rattle.machine.specs.Look.{go_on}
use Rattle.machine.specs.Objects.Base.{In}
use Rattle.machine.proofs.Objects.Base.{clash, off_on, upd, upd_same, upd_other}
use Rattle.machine.proofs.Objects.State.{Hd, white, claimed, count, locked, Shape, Snapshot, State, IsPlaced, IsUnplaced, left, JobIn, ClaimIn, LateThen, LateAt, Meeting}
use Rattle.machine.proofs.Objects.Inv.{Sound, Shapes, Colours, ThenOk, PlaceOk, Inv}
use Rattle.machine.proofs.Objects.Ops.{goes, push, moves, heads, twins}
use Rattle.machine.proofs.Objects.Keep.{of_store}
use Rattle.machine.proofs.Objects.Late.{meeting_after}
use Rattle.machine.proofs.Objects.MoveLaws.{at_place_lem, or_right, go_inv}
use Rattle.machine.proofs.Objects.HeadLaws.{placed_seen, in_push, push_in, push_out, push_into, push_nodup, unstacked, HeadOk, head_placed, head_inv}
use Rattle.machine.proofs.Objects.CountHeads.{placing_claims}

-- ---- what follows a look, before and after
then_goes : (K : ℕ → Type 0) (sh : Shape) (hd hd' : ℕ → Hd) (prim : ℕ → ℕ → ℕ) (Mt Mt' : ℕ → ℕ → Type 0) (t : ℕ) (e : Task) (pl : Place) (q : ℕ) (th : Then)
    → ((x : ℕ) → IsPlaced (hd x) → IsPlaced (hd' x)) → ((x i : ℕ) → hd x ≡ locked i t → hd' x ≡ locked i t) → ((x i : ℕ) → Mt x i → Mt' x i)
    → ThenOk K sh hd prim Mt t e q th → ThenOk K sh hd' prim Mt' t (goes e pl) q th
then_goes K sh hd hd' prim Mt Mt' t e pl q (ToWrite v) placed lock meets h = h
then_goes K sh hd hd' prim Mt Mt' t e pl q ToStoreCopy placed lock meets h = of_store e.storing (λ x i a h. (h.0, h.1, placed x h.2)) h
then_goes K sh hd hd' prim Mt Mt' t e pl q ToFillCopy placed lock meets h = h
then_goes K sh hd hd' prim Mt Mt' t e pl q (ToPut n job) placed lock meets h = (h.0, lock job.object.0 job.index h.1, h.2, or_right (meets job.object.0 job.index) h.3)

on_place : (K : ℕ → Type 0) (s : ℕ) (sh : Shape) (hd : ℕ → Hd) (prim rep : ℕ → ℕ → ℕ) (has : ℕ → ℕ → Bool) (Mt : ℕ → ℕ → Type 0) (on : Bool) (t : ℕ) (e : Task)
    (q : ℕ) (th : Then) → on ≡ true → Sound K sh q → IsPlaced (hd q) → ThenOk K sh hd prim Mt t e q th
    → PlaceOk K s sh hd prim rep has Mt on t e (go_on th (replica q))
on_place K s sh hd prim rep has Mt on t e q (ToWrite v) c z p h =
    (of_store e.storing (λ x i a b. (h.1 ∙ sym (lt-ltb i (sh.ptr x) b.0), λ c l. rw b.1 (placed_seen (hd q) p))) h.0, h.2)
on_place K s sh hd prim rep has Mt on t e q ToStoreCopy c z p h =
    (c, of_store e.storing (λ x i a h. (sym (lt-ltb i (sh.ptr x) h.0), h.1, h.2)) h, (z, p))
on_place K s sh hd prim rep has Mt on t e q ToFillCopy c z p h = (c, h, (z, p))
on_place K s sh hd prim rep has Mt on t e q (ToPut n job) c z p h = (c, h.0, h.1, sym (lt-ltb job.index (sh.ptr job.object.0) h.2), h.3, (z, p))

late_on : (th : Then) (r : Replica) → LateThen th → LateAt (go_on th r)
late_on ToStoreCopy r l = tt
late_on _ r l = l

on_late : (th : Then) (r : Replica) → LateAt (go_on th r) → LateThen th
on_late ToStoreCopy r l = tt
on_late _ r l = l

look_job : (q : Primary) (th : Then) (r : Replica) (x i : ℕ) → JobIn (holding_of (Looking q th)) x i → JobIn (holding_of (go_on th r)) x i
unfolding holding_of
look_job q (ToWrite v) r x i h = h
look_job q _ r x i h = h

look_claim : (q : Primary) (th : Then) (x : ℕ) → ClaimIn (holding_of (Looking q th)) x → ⊥
unfolding holding_of
look_claim q (ToWrite v) x h = h
look_claim q _ x h = h

place_job : (q : Primary) (th : Then) (x i : ℕ) → JobIn (holding_of (Placing q th)) x i → JobIn (holding_of (Looking q th)) x i
unfolding holding_of
place_job q (ToWrite v) x i h = h
place_job q _ x i h = h

job_place : (q : Primary) (th : Then) (x i : ℕ) → JobIn (holding_of (Looking q th)) x i → JobIn (holding_of (Placing q th)) x i
unfolding holding_of
job_place q (ToWrite v) x i h = h
job_place q _ x i h = h

place_claim : (q : Primary) (th : Then) (x : ℕ) → ClaimIn (holding_of (Placing q th)) x → x ≡ q.0
unfolding holding_of
place_claim q (ToWrite v) x h = sym h
place_claim q _ x h = sym h

-- ---- the steps
-- white to claimed
claim_ok : {K : ℕ → Type 0} {sh : Shape} {g : Snapshot} {hd : ℕ → Hd} {prim rep : ℕ → ℕ → ℕ} {has : ℕ → ℕ → Bool} {stack : List ℕ}
    {Lt : ℕ → ℕ → Type 0} (y t : ℕ) → Colours K sh g hd prim rep has stack Lt → (0 < y) × (y ≤ sh.n) × K y → hd y ≡ white
    → HeadOk K sh g hd prim rep has has stack stack Lt y white (claimed t)
claim_ok {hd = hd} {stack = stack} y t c m e = record {
  was = e;
  made = m;
  once = c.once;
  out = λ x i q. i;
  into = λ x i q. i;
  out_y = λ i. absurd (unstacked y c (λ n w. clash cc) i);
  into_y = λ n w. clash cc;
  bound = λ p. absurd p;
  unplaced = λ p. tt;
  old = λ w. clash cc;
  seen = λ p. tt;
  placed = λ p. p;
  other = λ x j q. refl;
  written = λ p. absurd p;
  copied = λ p. absurd p;
  target = λ p. absurd p;
  saw = λ j m l w n. inr l;
}

pub look_claims : {K : ℕ → Type 0} {p s : ℕ} (o : State) (t : ℕ) (q : Primary) (th : Then) → Inv K p s o → t < p → (o.tasks t).place ≡ Looking q th
    → o.hd q.0 ≡ white → Inv K p s (heads o q.0 (claimed t) o.stack t (goes (o.tasks t) (Placing q th)))
look_claims {K} {p} {s} o t q th v l ep e = head_inv o t (Placing q th) v record {
  low = l;
  on = h.0;
  place = (
    h.0,
    h.1,
    h.2,
    upd_same o.hd q.0 (claimed t),
    then_goes K o.shape o.hd (upd o.hd q.0 (claimed t)) o.prim (Meeting o.tasks) (Meeting (upd o.tasks t (goes (o.tasks t) (Placing q th)))) t
        (o.tasks t) (Placing q th) q.0 th (head_placed o.hd q.0 (claimed t) (λ p. rw e at p))
        (λ x i w. rw (upd_other o.hd q.0 (claimed t) x (λ z. let a : o.hd x ≡ o.hd q.0 = ap o.hd z in clash cc)) w)
        (λ x i. meeting_after o.tasks t (goes (o.tasks t) (Placing q th)) x i (λ m. absurd (rw ep at m.1))) h.3,
  );
  lock = λ i u w. clash cc;
  claim = λ u w. clash cc;
  locks = λ i u w. clash cc;
  claims = λ u w. let z : u ≡ t = cc in (z, placing_claims q th);
  jobs = λ x i d j. job_place q th x i (rw ep at j);
  owns = λ x d j. absurd (look_claim q th x (rw ep at j));
  meets = λ m. rw ep at m;
  late = λ m. rw ep at m;
  later = λ m. rw ep m;
} (claim_ok q.0 t (rw h.0 at v.mode) (h.1, h.2.1, h.2.0) e)
  where
    h : PlaceOk K s o.shape o.hd o.prim o.rep o.has (Meeting o.tasks) o.on t (o.tasks t) (Looking q th)
    h = at_place_lem v t (Looking q th) ep

pub look_goes : {K : ℕ → Type 0} {p s : ℕ} (o : State) (t : ℕ) (q : Primary) (th : Then) → Inv K p s o → t < p → (o.tasks t).place ≡ Looking q th
    → IsPlaced (o.hd q.0) → Inv K p s (moves o t (goes (o.tasks t) (go_on th (replica q.0))))
look_goes {K} {p} {s} o t q th v l ep e =
    go_inv o t (go_on th (replica q.0)) v l
    (on_place K s o.shape o.hd o.prim o.rep o.has (Meeting (upd o.tasks t e')) o.on t e' q.0 th h.0 h.2 e
    (then_goes K o.shape o.hd o.hd o.prim (Meeting o.tasks) (Meeting (upd o.tasks t e')) t (o.tasks t) (go_on th (replica q.0)) q.0 th
    (λ x p. p) (λ x i w. w) (λ x i. meeting_after o.tasks t e' x i (λ m. absurd (rw ep at m.1))) h.3))
    (λ x i j. look_job q th (replica q.0) x i (rw ep at j)) (λ x j. absurd (look_claim q th x (rw ep at j))) (λ m. absurd (rw ep at m))
    (λ m. late_on th (replica q.0) (rw ep at m)) (λ m. rw ep (on_late th (replica q.0) m))
  where
    e' : Task
    e' = goes (o.tasks t) (go_on th (replica q.0))

    h : PlaceOk K s o.shape o.hd o.prim o.rep o.has (Meeting o.tasks) o.on t (o.tasks t) (Looking q th)
    h = at_place_lem v t (Looking q th) ep

-- ---- place
left_all : (len : ℕ) (h : Hd) → IsUnplaced h → left len h ≡ len
left_all len white p = refl
left_all len (claimed t) p = refl
left_all len (count c) p = absurd p
left_all len (locked i t) p = absurd p

-- white or claimed to placed with all slots to copy
twin_ok : {K : ℕ → Type 0} {s : ℕ} {sh : Shape} {g : Snapshot} {hd : ℕ → Hd} {prim rep : ℕ → ℕ → ℕ} {has : ℕ → ℕ → Bool} {stack : List ℕ}
    {Lt : ℕ → ℕ → Type 0} (y : ℕ) (h₀ : Hd) → Colours K sh g hd prim rep has stack Lt → Shapes K s sh prim hd → (0 < y) × (y ≤ sh.n) × K y
    → hd y ≡ h₀ → IsUnplaced h₀
    → HeadOk K sh g hd prim rep has (upd has y (λ j. false)) stack (push (sh.len y) y stack) Lt y h₀ (count (sh.len y))
twin_ok {sh = sh} {g = g} {hd = hd} {has = has} {stack = stack} y h₀ c a m e un = record {
  was = e;
  made = m;
  once = push_nodup (sh.len y) y stack off c.once;
  out = in_push (sh.len y) y stack;
  into = λ x i q. push_in (sh.len y) y stack x i;
  out_y = push_out (sh.len y) y stack off;
  into_y = push_into (sh.len y) y stack;
  bound = λ p. omega (arith, c.unplaced y m.2 m.1 (rw e un));
  unplaced = λ p. absurd p;
  old = λ w. rw w at un;
  seen = λ p. tt;
  placed = λ p. tt;
  other = λ x j q. ap (λ (f : ℕ → Bool). f j) (upd_other has y (λ j. false) x q);
  written = λ p j l n. absurd (none j l n);
  copied = λ p j l n. absurd (none j l n);
  target = λ p j w n. off_on (sym (ap (λ (f : ℕ → Bool). f j) (upd_same has y (λ j. false))) ∙ w);
  saw = λ j n l w z. inr (omega (arith, left_all (sh.len y) h₀ un));
}
  where
    off : In y stack → ⊥
    off = unstacked y c (λ n w. rw (sym e ∙ w) at un)

    none : (j : ℕ) → sh.len y ≤ j → j < sh.fill y → ⊥
    none j l n = omega (arith, a.filled y, a.written y)

pub places : {K : ℕ → Type 0} {p s : ℕ} (o : State) (t : ℕ) (q : Primary) (th : Then) → Inv K p s o → t < p → (o.tasks t).place ≡ Placing q th
    → Inv K p s (moves (twins o q.0 (o.shape.len q.0)) t (goes (o.tasks t) (go_on th (replica q.0))))
places {K} {p} {s} o t q th v l ep = head_inv o t (go_on th (replica q.0)) v record {
  low = l;
  on = h.0;
  place =
      on_place K s o.shape hd' o.prim o.rep (upd o.has q.0 (λ j. false)) (Meeting (upd o.tasks t e')) o.on t e' q.0 th h.0 h.2
      (rw (upd_same o.hd q.0 (count (o.shape.len q.0))) tt)
      (then_goes K o.shape o.hd hd' o.prim (Meeting o.tasks) (Meeting (upd o.tasks t e')) t (o.tasks t) (go_on th (replica q.0)) q.0 th
      (head_placed o.hd q.0 (count (o.shape.len q.0)) (λ p. tt)) lock
      (λ x i. meeting_after o.tasks t e' x i (λ m. absurd (rw ep at m.1))) h.4);
  lock = λ i u w. clash cc;
  claim = λ u w. cc;
  locks = λ i u w. clash cc;
  claims = λ u w. clash cc;
  jobs = λ x i d j. look_job q th (replica q.0) x i (place_job q th x i (rw ep at j));
  owns = λ x d j. absurd (d (place_claim q th x (rw ep at j)));
  meets = λ m. absurd (rw ep at m);
  late = λ m. late_on th (replica q.0) (rw ep at m);
  later = λ m. rw ep (on_late th (replica q.0) m);
} (twin_ok q.0 (claimed t) (rw h.0 at v.mode) v.shapes (h.1, h.2.1, h.2.0) h.3 tt)
  where
    e' : Task
    e' = goes (o.tasks t) (go_on th (replica q.0))

    hd' : ℕ → Hd
    hd' = upd o.hd q.0 (count (o.shape.len q.0))

    h : PlaceOk K s o.shape o.hd o.prim o.rep o.has (Meeting o.tasks) o.on t (o.tasks t) (Placing q th)
    h = at_place_lem v t (Placing q th) ep

    lock : (x i : ℕ) → o.hd x ≡ locked i t → hd' x ≡ locked i t
    lock x i w =
        rw (upd_other o.hd q.0 (count (o.shape.len q.0)) x
        (λ z. let a : o.hd x ≡ o.hd q.0 = ap o.hd z in let n : ◌≡◌ {A = ℕ} 0 1 = cc (a, w, h.3) in clash n)) w
