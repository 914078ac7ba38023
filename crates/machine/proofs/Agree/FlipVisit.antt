-- One visit of the flip: an object that has no replica yet is given one, or there is no room; nil and one that has its replica are passed over.
use Rattle.std.specs.Prelude.{ℕ, ◌+◌, ◌≤◌, ◌<◌, ◌≡◌, refl, ◌≢◌, List, ◌∷◌, Bool, true, false, length, eqb, Option, Some, None, Result, Ok, Err}
use Rattle.std.proofs.Common.{ap, sym, ◌∙◌, inl, inr, arith}
use Rattle.std.proofs.Math.Decide.{ℕ_discrete}
use borrow.Author.Tests.{le-ltb, ne_eqb}
use Rattle.table.specs.declared.Marks.{Marks}
use Rattle.table.specs.declared.Refusal.{Refusal}
use Rattle.table.specs.declared.Making.{Making}
use Rattle.machine.specs.Basics.{pick}
use Rattle.machine.specs.Numbers.{refusal}
use Rattle.machine.specs.Words.{primary, look_of, room_for}
use Rattle.machine.specs.Flip.{Went, went, placing, visit_case, visit_of, visit_pending_of}
use Rattle.machine.specs.Objects.Base.{In}
use Rattle.machine.proofs.Objects.Base.{off_on, upd, in?}
use Rattle.machine.proofs.Objects.State.{white, State, IsPlaced, IsUnplaced, pending_is}
use Rattle.machine.proofs.Objects.Inv.{Sound, PendingOk, Off, Inv}
use Rattle.machine.proofs.Objects.Ops.{twins}
use Rattle.machine.proofs.Objects.Flipped.{Comes}
use Rattle.machine.proofs.Objects.FlipInv.{Mid, mid_skip, mid_twin}
use Rattle.machine.proofs.Objects.FlipCounts.{twinned, grey_ones}
use Rattle.machine.proofs.Agree.Encode.{at_pending}
use Rattle.machine.proofs.Agree.Agree.{Held}
use Rattle.machine.proofs.Agree.Midway.{Midway, twin_need, no_room, twin_length}
use Rattle.machine.proofs.Agree.MidwayRead.{found_by, look_in}
use Rattle.machine.proofs.Agree.Twin.{twin}
use Rattle.machine.proofs.Agree.FlipTally.{more_twinned, more_grey}
use Rattle.machine.proofs.Objects.CountHeads.{push_length}

-- the heap o, in which the objects of vs have replicas: marks and words of the space to come
pub record Visited (K : ℕ → Type 0) (pa : ℕ → ℕ) (o : State) (base end size : ℕ) (vs : List ℕ) (m : Marks) (ws : List ℕ) : Type 0 where
  pub objects : State
  pub ra : ℕ → ℕ
  pub mid : Mid o vs objects
  pub words : Midway K pa ra o.shape objects.hd o.prim o.rep objects.has objects.stack base end m ws
  pub jobs : m.j ≡ 0
  pub copies : m.copies ≡ 0
  pub long : length ws ≡ size
  pub comes : (x : ℕ) → In x vs → Comes o x
  -- every word below A is claimed, and every object with slots to copy is on the stack
  pub tally : m.a ≡ base + twinned o.shape objects.hd
  pub greys : length objects.stack ≡ grey_ones o.shape objects.hd

-- the visit that stops: an object that was not visited, and no room for its replica
pub record Cramped (K : ℕ → Type 0) (pa : ℕ → ℕ) (o : State) (base end size : ℕ) : Type 0 where
  pub before : List ℕ
  pub marks : Marks
  pub words : List ℕ
  pub visited : Visited K pa o base end size before marks words
  pub object : ℕ
  pub held : Held K o.shape object
  pub fresh : In object before → ⊥
  pub comes : Comes o object
  pub none : room_for true marks end (twin_need (o.shape.len object) (o.shape.fill object)) ≡ false

module _ (K : ℕ → Type 0) (pa : ℕ → ℕ) (o : State) (base end size : ℕ) where
  -- a visit that goes on has visited the objects of vs; one that stops found no room
  abbrev pub AfterPass : List ℕ → Result Marks Refusal → List ℕ → Type 0
  AfterPass vs (Ok m) ws = Visited K pa o base end size vs m ws
  AfterPass vs (Err x) ws = (x ≡ refusal 10) × Cramped K pa o base end size

  abbrev pub After : List ℕ → Went → Type 0
  After vs w = AfterPass vs w.pass w.words

  module _ (p s : ℕ) (v : Inv K p s o) (off : o.on ≡ false) (s_high : s ≤ 255) (b_low : 2 ≤ base) (nilp : pa 0 ≡ 0)
      (vs : List ℕ) (m : Marks) (ws : List ℕ) (k : Visited K pa o base end size vs m ws) where
    abbrev o₁ : State
    o₁ = k.objects

    off_all : Off o.hd o.stack
    off_all = rw off at v.mode

    -- only nil and the visited are placed, and no slot of theirs is written
    target : (y j : ℕ) → IsPlaced (o₁.hd y) → o₁.has y j ≡ true → j < o.shape.ptr y → IsPlaced (o₁.hd (o.rep y j))
    target y j q e l = go (ℕ_discrete y 0) (in? y vs)
      where
        go : Dec (y ≡ 0) → Dec (In y vs) → IsPlaced (o₁.hd (o.rep y j))
        go (yes z) i = absurd (omega (arith, v.shapes.low 0 (omega arith), v.shapes.none, ap o.shape.ptr z, l))
        go (no f) (yes i) = off_on (sym (k.mid.blank y j i (omega (arith, f))) ∙ e)
        go (no f) (no n) = absurd (rw (k.mid.same y n ∙ off_all.all y (omega (arith, f))) at q)

    white_still : (x : ℕ) → 0 < x → (In x vs → ⊥) → o₁.hd x ≡ white
    white_still x l n = k.mid.same x n ∙ off_all.all x l

    filled : (x : ℕ) → o.shape.fill x ≤ o.shape.len x
    filled x = omega (arith, v.shapes.filled x, v.shapes.written x)

    comes_too : (x : ℕ) → Comes o x → (y : ℕ) → In y (x ∷ vs) → Comes o y
    comes_too x f y (inl e) = rw e f
    comes_too x f y (inr i) = k.comes y i

    -- an object that was not visited is given its replica
    placing_it : (x : ℕ) → Held K o.shape x → Comes o x → (In x vs → ⊥) → After (x ∷ vs) (placing end (primary (pa x)) (o.shape.len x) (o.shape.fill x) m ws)
    placing_it x h f n = go (room_for true m end (twin_need (o.shape.len x) (o.shape.fill x))) refl
      where
        go : (b : Bool) → room_for true m end (twin_need (o.shape.len x) (o.shape.fill x)) ≡ b
            → After (x ∷ vs) (placing end (primary (pa x)) (o.shape.len x) (o.shape.fill x) m ws)
        go true r =
            let u : IsUnplaced (o₁.hd x) = rw (white_still x h.0 n) tt in
            let w = twin x (o.shape.fill x) k.words h u (filled x) v.shapes.written target r in
            let a = more_twinned o.shape o₁.hd x (o.shape.fill x) h.0 h.1 u in
            let b = more_grey o.shape o₁.hd x (o.shape.fill x) h.0 h.1 u in
            rw w.0 record {
              objects = twins o₁ x (o.shape.fill x);
              ra = upd k.ra x (m.a + 2);
              mid = mid_twin x k.mid h.0 n;
              words = w.1;
              jobs = k.jobs;
              copies = k.copies;
              long = twin_length m ws (pa x) (o.shape.fill x) ∙ k.long;
              comes = comes_too x f;
              tally = omega (arith, k.tally, a);
              greys = omega (arith, k.greys, b, push_length (o.shape.fill x) x o₁.stack);
            }
        go false r =
            rw (no_room m end ws (pa x) (o.shape.len x) (o.shape.fill x) r)
            (refl, record { before = vs; marks = m; words = ws; visited = k; object = x; held = h; fresh = n; comes = f; none = r })

    -- one that was visited, or nil
    passing_it : (x : ℕ) → In x vs → After (x ∷ vs) (went (Ok m) ws)
    passing_it x i = record {
      objects = o₁;
      ra = k.ra;
      mid = mid_skip x k.mid i;
      words = k.words;
      jobs = k.jobs;
      copies = k.copies;
      long = k.long;
      comes = comes_too x (k.comes x i);
      tally = k.tally;
      greys = k.greys;
    }

    look : (x : ℕ) → Held K o.shape x → look_of ws s (primary (pa x)) ≡ found_by (k.ra x) (o.shape.len x) (o₁.hd x)
    look x h = look_in k.words s s_high x h (v.shapes.high x h.1) (v.shapes.low x h.1) b_low

    -- a root or a register
    pub root_visit : (x : ℕ) → Sound K o.shape x → Comes o x → In 0 vs → After (x ∷ vs) (visit_of end s (primary (pa x)) m ws)
    unfolding visit_of
    root_visit x q c i = go (ℕ_discrete x 0)
      where
        held : x ≢ 0 → Held K o.shape x
        held f = (omega (arith, f), q.1, q.0)

        by : (f : x ≢ 0) → Dec (In x vs) → After (x ∷ vs) (visit_case end (primary (pa x)) m ws (look_of ws s (primary (pa x))))
        by f (yes j) = rw (look x (held f), k.mid.hd₁ x j (held f).0) (passing_it x j)
        by f (no n) =
            rw (look x (held f), white_still x (held f).0 n)
            (rw q.2 at (placing_it x (held f) c n))

        go : Dec (x ≡ 0) → After (x ∷ vs) (pick (eqb (pa x) 0) (went (Ok m) ws) (visit_case end (primary (pa x)) m ws (look_of ws s (primary (pa x)))))
        go (yes e) = rw (e, nilp) (passing_it 0 i)
        go (no f) = rw (ne_eqb (pa x) 0 (λ e. omega (arith, k.words.lay.inside x (held f)))) (by f (in? x vs))

    -- a pending object, not visited before
    pub pending_visit : (q : Option Making) → PendingOk K o.shape o.hd o.on q → Comes o (pending_is q) → In 0 vs → (0 < pending_is q → In (pending_is q) vs → ⊥)
        → After (pending_is q ∷ vs) (visit_pending_of end s (at_pending pa q) m ws)
    unfolding visit_pending_of
    pending_visit None w c i n = passing_it 0 i
    pending_visit (Some d) w c i n =
        let h : Held K o.shape d.at.0 = (w.0, w.2, w.1) in
        rw (look d.at.0 h, white_still d.at.0 w.0 (n w.0), w.4, le-ltb (o.shape.len d.at.0) (o.shape.fill d.at.0) (filled d.at.0))
        (placing_it d.at.0 h c (n w.0))
