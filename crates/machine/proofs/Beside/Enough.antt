-- Enough room: while collecting in a half of the size of demand 3's sum, no New and no place finds less room than it needs.
use Rattle.std.specs.Prelude.{ℕ, zero, suc, ◌+◌, ◌-◌, ◌*◌, ◌/◌, ◌≤◌, ◌<◌, ◌≡◌, refl, List, Bool, true, false, length, eqb}
use Rattle.std.proofs.Common.{sym, ◌∙◌}
use Rattle.std.proofs.Math.Decide.{ℕ_discrete, dec_lt, dec_le}
use native.Mathlib.Omega.{arith}
use Rattle.table.specs.declared.Primary.{Primary}
use Rattle.table.specs.declared.Then.{Then}
use Rattle.table.specs.declared.Place.TheVariants.{Idle, New, Placing}
use Rattle.table.specs.declared.Table.{Table}
use Rattle.machine.specs.Basics.{pick}
use Rattle.machine.specs.Words.{end_of, room_of, wanted}
use Rattle.machine.specs.History.{InCopies, History}
use Rattle.machine.proofs.Objects.Base.{clash, upd, upd_all, sum_to}
use Rattle.machine.proofs.Objects.State.{Hd, white, claimed, count, locked, State, IsSeen, Late}
use Rattle.machine.proofs.Objects.Inv.{Reach, Colours, Inv}
use Rattle.machine.proofs.Objects.MoveLaws.{at_place_lem}
use Rattle.machine.proofs.Objects.Counts.{claims, new_words, is_grey, owing}
use Rattle.machine.proofs.Objects.CountBound.{copies_bound}
use Rattle.machine.specs.Agree.Agree.{end}
use Rattle.machine.proofs.Agree.Agree.{Agree, bottom}
use Rattle.machine.specs.Beside.Room.{place_needs}
use Rattle.machine.proofs.Beside.Collecting.{Collecting}
use Rattle.machine.proofs.Beside.RoomLaws.{sum_two, sum_short, sum_each, sum_but_one, sum_with, paid_quotient, old_words, claims_split, old_words_lem, only_old, new_none, unplaced_none}

-- ---- what is grey was seen, and is no more than one for each
grey_seen : (h : Hd) → 0 < is_grey h → IsSeen h
grey_seen white l = absurd (omega arith)
grey_seen (claimed t) l = absurd (omega arith)
grey_seen (count zero) l = absurd (omega arith)
grey_seen (count (suc c)) l = tt
grey_seen (locked i t) l = tt

grey_one : (h : Hd) → is_grey h ≤ 1
grey_one white = omega arith
grey_one (claimed t) = omega arith
grey_one (count zero) = omega arith
grey_one (count (suc c)) = omega arith
grey_one (locked i t) = omega arith

module _ {K : ℕ → Type 0} {pa ra : ℕ → ℕ} {o : State} {t : Table} {ws : List ℕ} {h : History} (v : Inv K t.limits.p t.limits.s o)
    (k : Agree K pa ra o t ws) (live : o.on ≡ true) (c : Collecting K pa o t h) where
  colours : Colours K o.shape o.snap o.hd o.prim o.rep o.has o.stack (Late o.tasks)
  colours = rw live at v.mode

  -- ---- words and stack
  -- the words of the placed ones among the objects that the flip found; of those made since
  old : ℕ
  old = sum_to (suc o.snap.n) (old_words o.shape o.snap o.hd)

  new : ℕ
  new = sum_to (suc o.shape.n) (new_words o.shape o.snap)

  old_in : (x : ℕ) → 0 < old_words o.shape o.snap o.hd x
      → (0 < x) × (x ≤ o.snap.n) × Reach o.shape o.snap x × (old_words o.shape o.snap o.hd x ≤ o.shape.len x + 2)
  old_in x l =
      let r = only_old o.shape o.snap o.hd x l in
      (r.0, r.1, c.counts.reach x r.0 r.1 r.2, omega (arith, r.3))

  words_split : t.marks.a ≡ bottom t + old + 2 * new
  unfolding old new
  words_split =
      omega (
        arith,
        c.counts.words,
        sum_short (suc o.snap.n) (suc o.shape.n) (old_words o.shape o.snap o.hd) (omega (arith, colours.known))
            (λ x l. new_none o.shape o.snap o.hd x (omega arith)),
        sum_two (suc o.shape.n) (claims o.shape o.snap o.hd) (old_words o.shape o.snap o.hd) (new_words o.shape o.snap)
            (claims_split o.shape o.snap o.hd),
      )

  old_bound : old ≤ h.words
  unfolding old
  old_bound = c.lived.words (old_words o.shape o.snap o.hd) old_in

  -- a grey object is one that the flip found
  newer_black : (x : ℕ) → suc o.snap.n ≤ x → is_grey (o.hd x) ≡ 0
  newer_black x l = rw (colours.newer x (omega arith)) refl

  grey_in : (x : ℕ) → 0 < is_grey (o.hd x) → (0 < x) × (x ≤ o.snap.n) × Reach o.shape o.snap x × (is_grey (o.hd x) ≤ 1)
  grey_in x l =
      let a = pos (ℕ_discrete x 0) in
      let b = found (dec_le x o.snap.n) in
      (a, b, c.counts.reach x a b (grey_seen (o.hd x) l), grey_one (o.hd x))
    where
      pos : Dec (x ≡ 0) → 0 < x
      pos (yes e) =
          let z : is_grey (o.hd x) ≡ 0 = rw (e, v.shapes.nil) refl in
          absurd (omega (arith, z))
      pos (no d) = omega (arith, d)

      found : Dec (x ≤ o.snap.n) → x ≤ o.snap.n
      found (yes e) = e
      found (no d) = absurd (omega (arith, newer_black x (omega (arith, d))))

  greys_sum : length o.stack + t.marks.j ≡ sum_to (suc o.snap.n) (λ x. is_grey (o.hd x))
  greys_sum =
      c.counts.greys
      ∙ sum_short (suc o.snap.n) (suc o.shape.n) (λ x. is_grey (o.hd x)) (omega (arith, colours.known)) newer_black

  greys_bound : length o.stack + t.marks.j ≤ length h.live
  greys_bound = omega (arith, greys_sum, c.lived.number (λ x. is_grey (o.hd x)) grey_in)

  -- ---- copies, and what was made since the flip
  -- each copied slot is a slot of a reached object that is placed
  pub made_bound : t.marks.copies ≤ h.words
  unfolding old
  made_bound =
      omega (
        arith,
        c.counts.copied,
        copies_bound o.snap.n (old_words o.shape o.snap o.hd) c.made c.counts.once slot,
        old_bound,
      )
    where
      slot : (x i : ℕ) → InCopies x i c.made → (x ≤ o.snap.n) × (i < old_words o.shape o.snap o.hd x)
      slot x i m =
          let r = c.counts.which x i m in
          (r.1, omega (arith, r.4, old_words_lem o.shape o.snap o.hd x r.0 r.1 r.2, colours.older x, v.shapes.filled x, v.shapes.written x))

  -- what the tasks owe, each at most for one object of the longest
  pub new_bound : sum_to (suc o.shape.n) (new_words o.shape o.snap) ≤ h.words / t.limits.k + t.limits.p * (t.limits.s + 2)
  new_bound =
      paid_quotient t.limits.k (sum_to (suc o.shape.n) (new_words o.shape o.snap)) h.words (t.limits.p * (t.limits.s + 2))
      (omega (arith, k.sized.limited.k_low))
      (omega (
        arith,
        c.counts.paid,
        made_bound,
        sum_each t.limits.p (t.limits.k * (t.limits.s + 2)) (λ u. owing t.limits.k (c.forgiven u) (o.tasks u)) c.counts.most,
      ))

  -- one of them owes nothing
  pub new_bound_but : (i : ℕ) → i < t.limits.p → owing t.limits.k (c.forgiven i) (o.tasks i) ≡ 0
      → sum_to (suc o.shape.n) (new_words o.shape o.snap) + (t.limits.s + 2) ≤ h.words / t.limits.k + t.limits.p * (t.limits.s + 2)
  new_bound_but i l z =
      paid_quotient t.limits.k (sum_to (suc o.shape.n) (new_words o.shape o.snap) + (t.limits.s + 2)) h.words
      (t.limits.p * (t.limits.s + 2)) (omega (arith, k.sized.limited.k_low))
      (omega (
        arith,
        c.counts.paid,
        made_bound,
        sum_but_one t.limits.p i (t.limits.k * (t.limits.s + 2)) (λ u. owing t.limits.k (c.forgiven u) (o.tasks u)) l c.counts.most z,
      ))

  -- a New not yet claimed owes nothing: no object is pending, nothing is to be paid, and nothing is forgiven but to an idle task
  pub new_owes_nothing : (i r len m : ℕ) → (o.tasks i).place ≡ New (wanted r len m) → owing t.limits.k (c.forgiven i) (o.tasks i) ≡ 0
  new_owes_nothing i r len m e = rw (e, (at_place_lem v i (New (wanted r len m)) e).0) (omega (arith, on (dec_lt 0 (c.forgiven i))))
    where
      on : Dec (0 < c.forgiven i) → c.forgiven i ≡ 0
      on (yes l) =
          let q : New (wanted r len m) ≡ Idle = sym e ∙ (c.counts.forgave i l).3 in
          let z : ◌≡◌ {A = ℕ} 0 1 = cc in
          clash z
      on (no d) = omega (arith, d)

  -- ---- room
  module _
      (enough : h.words + 2 * (h.words / t.limits.k) + length h.live + 2 * (t.limits.p * (t.limits.s + 2)) ≤ t.limits.h) where
    -- a New not yet claimed finds room for its two blocks
    pub new_room : (i r len m : ℕ) → (o.tasks i).place ≡ New (wanted r len m) → i < t.limits.p → 2 * (len + 2) ≤ t.marks.top - t.marks.a - t.marks.j
    unfolding end_of new
    new_room i r len m e l =
        omega (
          arith,
          enough,
          words_split,
          old_bound,
          greys_bound,
          k.marked.stack,
          (at_place_lem v i (New (wanted r len m)) e).3,
          new_bound_but i l (new_owes_nothing i r len m e),
        )

    -- a claimed object is counted among those that the flip reached, and neither among the words claimed nor on the stack
    pub place_room : (i : ℕ) (q : Primary) (th : Then) → (o.tasks i).place ≡ Placing q th → i < t.limits.p
        → place_needs (o.shape.len q.0) ≤ t.marks.top - t.marks.a - t.marks.j
    unfolding end_of old new
    place_room i q th e l = by (eqb (o.shape.len q.0) 0)
      where
        pos : 0 < q.0
        pos = (at_place_lem v i (Placing q th) e).1

        mine : o.hd q.0 ≡ claimed i
        mine = (at_place_lem v i (Placing q th) e).3

        found : Dec (q.0 ≤ o.snap.n) → q.0 ≤ o.snap.n
        found (yes m) = m
        found (no d) =
            let z : claimed i ≡ count 0 = sym mine ∙ colours.newer q.0 (omega (arith, d)) in
            let w : ◌≡◌ {A = ℕ} 0 1 = cc in
            clash w

        below : q.0 ≤ o.snap.n
        below = found (dec_le q.0 o.snap.n)

        reached : Reach o.shape o.snap q.0
        reached = c.counts.reach q.0 (pos) below (rw mine tt)

        words : old + (o.shape.len q.0 + 2) ≤ h.words
        words =
            omega (
              arith,
              sum_with (suc o.snap.n) q.0 (o.shape.len q.0 + 2) (old_words o.shape o.snap o.hd) (omega (arith, below))
                  (unplaced_none o.shape o.snap o.hd q.0 i mine),
              c.lived.words (upd (old_words o.shape o.snap o.hd) q.0 (o.shape.len q.0 + 2))
                  (upd_all (λ x b. 0 < b → (0 < x) × (x ≤ o.snap.n) × Reach o.shape o.snap x × (b ≤ o.shape.len x + 2))
                  (old_words o.shape o.snap o.hd) q.0 (o.shape.len q.0 + 2)
                  (λ m. (pos, below, reached, omega arith)) (λ x d. old_in x)),
            )

        number : length o.stack + t.marks.j + 1 ≤ length h.live
        number =
            omega (
              arith,
              greys_sum,
              sum_with (suc o.snap.n) q.0 1 (λ x. is_grey (o.hd x)) (omega (arith, below)) (rw mine refl),
              c.lived.number (upd (λ x. is_grey (o.hd x)) q.0 1)
                  (upd_all (λ x b. 0 < b → (0 < x) × (x ≤ o.snap.n) × Reach o.shape o.snap x × (b ≤ 1))
                  (λ x. is_grey (o.hd x)) q.0 1 (λ m. (pos, below, reached, omega arith)) (λ x d. grey_in x)),
            )

        room : o.shape.len q.0 + 3 ≤ t.marks.top - t.marks.a - t.marks.j
        room = omega (arith, enough, words_split, words, number, k.marked.stack, new_bound)

        by : (b : Bool) → pick b (o.shape.len q.0 + 2) (o.shape.len q.0 + 3) ≤ t.marks.top - t.marks.a - t.marks.j
        by true = omega (arith, room)
        by false = room

    pub place_fits : (i : ℕ) (q : Primary) (th : Then) → (o.tasks i).place ≡ Placing q th → i < t.limits.p
        → room_of true t.marks (end t) < place_needs (o.shape.len q.0) → ⊥
    place_fits i q th e l m = omega (arith, place_room i q th e l)
