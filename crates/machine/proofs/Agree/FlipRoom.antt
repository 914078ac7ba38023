-- The flip has room: if the words and the number of the objects that it visits are bounded, and the bounds fit into a half, then no visit stops.
use Rattle.std.specs.Prelude.{ℕ, zero, suc, ◌+◌, ◌-◌, ◌≤◌, ◌<◌, ◌≢◌, ◌⊎◌, List, false, not, length, eqb, Option, Some, None, Result, Err}
use Rattle.std.proofs.Math.Path.{◌≡◌, ap}
use Rattle.std.proofs.Common.{sym, ◌∙◌, inl, inr}
use native.Mathlib.Omega.{arith}
use borrow.Author.Tests.{leb-false, ne_eqb}
use Rattle.table.specs.declared.Table.{Table}
use Rattle.table.specs.declared.Marks.{Marks}
use Rattle.table.specs.declared.Refusal.{Refusal}
use Rattle.table.specs.declared.Making.{Making}
use Rattle.table.specs.declared.Answer.{Answer}
use Rattle.table.specs.declared.Answer.TheVariants.{Moved, No}
use Rattle.machine.specs.Basics.{pick}
use Rattle.machine.specs.Numbers.{refusal}
use Rattle.machine.specs.Words.{room_for, bottom_of, end_of}
use Rattle.machine.specs.Entries.{Ends}
use Rattle.machine.specs.Flip.{passes_of, flip_end, flip_of}
use Rattle.machine.specs.Objects.Base.{In}
use Rattle.machine.proofs.Objects.Base.{clash, upd, upd_other, upd_all, sum_to, in?}
use Rattle.machine.proofs.Objects.State.{Hd, white, claimed, count, locked, State, IsPlaced, IsUnplaced, pending_is}
use Rattle.machine.proofs.Objects.Inv.{Reach, from, PendingOk, Off, Inv}
use Rattle.machine.proofs.Objects.Ops.{found_in}
use Rattle.machine.proofs.Objects.Flipped.{Comes}
use Rattle.machine.proofs.Objects.Counts.{is_placed, is_grey}
use Rattle.machine.proofs.Objects.FlipCounts.{twin_words_of}
use Rattle.machine.proofs.Agree.Agree.{bottom, Agree}
use Rattle.machine.proofs.Agree.Midway.{twin_need}
use Rattle.machine.proofs.Agree.Home.{Home}
use Rattle.machine.proofs.Agree.FlipTally.{more_twinned, more_grey}
use Rattle.machine.proofs.Agree.FlipVisit.{Cramped}
use Rattle.machine.proofs.Agree.FlipWords.{FlipMade, flip_either}

-- Whatever is counted of the objects that the flip visits, at most L+2 for each, is at most r in all; at most 1 for each, at most n.
pub record Within (o : State) (r n : ℕ) : Type 0 where
  pub words : (f : ℕ → ℕ) → ((x : ℕ) → 0 < f x → (0 < x) × (x ≤ o.shape.n) × Comes o x × (f x ≤ o.shape.len x + 2)) → sum_to (suc o.shape.n) f ≤ r
  pub number : (f : ℕ → ℕ) → ((x : ℕ) → 0 < f x → (0 < x) × (x ≤ o.shape.n) × Comes o x × (f x ≤ 1)) → sum_to (suc o.shape.n) f ≤ n

-- so it is if that holds of all that the visited lead to
pub within_reached : {o : State} {r n : ℕ} (vs : List ℕ) → ((x : ℕ) → Comes o x → In x vs)
    → ((f : ℕ → ℕ) → ((x : ℕ) → 0 < f x → (0 < x) × (x ≤ o.shape.n) × Reach o.shape (found_in o vs) x × (f x ≤ o.shape.len x + 2)) → sum_to (suc o.shape.n) f ≤ r)
    → ((f : ℕ → ℕ) → ((x : ℕ) → 0 < f x → (0 < x) × (x ≤ o.shape.n) × Reach o.shape (found_in o vs) x × (f x ≤ 1)) → sum_to (suc o.shape.n) f ≤ n)
    → Within o r n
within_reached vs all words number = record {
  words = λ f h. words f (λ x l. let q = h x l in (q.0, q.1, from (all x q.2), q.3));
  number = λ f h. number f (λ x l. let q = h x l in (q.0, q.1, from (all x q.2), q.3));
}

need_is : (len c : ℕ) → twin_need len c ≡ len + 2 + is_grey (count c)
need_is len zero = omega arith
need_is len (suc c) = rw (ne_eqb (suc c) 0 (λ e. omega arith)) (omega arith)

-- only a placed object has words or is grey
words_of : (len y : ℕ) (h : Hd) → 0 < pick (eqb y 0) 0 (pick (is_placed h) (len + 2) 0) → (0 < y) × IsPlaced h × (pick (eqb y 0) 0 (pick (is_placed h) (len + 2) 0) ≤ len + 2)
words_of len zero h = λ l. absurd (omega (arith, l))
words_of len (suc y) h = rw (ne_eqb (suc y) 0 (λ e. omega arith)) (go h)
  where
    go : (h : Hd) → 0 < pick (is_placed h) (len + 2) 0 → (0 < suc y) × IsPlaced h × (pick (is_placed h) (len + 2) 0 ≤ len + 2)
    go white l = absurd (omega (arith, l))
    go (claimed t) l = absurd (omega (arith, l))
    go (count c) l = (omega arith, tt, omega arith)
    go (locked i t) l = (omega arith, tt, omega arith)

grey_of_lem : (h : Hd) → 0 < is_grey h → IsPlaced h × (h ≢ count 0) × (is_grey h ≤ 1)
grey_of_lem white l = absurd (omega (arith, l))
grey_of_lem (claimed t) l = absurd (omega (arith, l))
grey_of_lem (count zero) l = absurd (omega (arith, l))
grey_of_lem (count (suc c)) l = (tt, λ e. let z : ◌≡◌ {A = ℕ} (suc c) 0 = cc in omega arith, omega arith)
grey_of_lem (locked i t) l = (tt, λ e. let z : ◌≡◌ {A = ℕ} 0 1 = cc in omega arith, omega arith)

module _ {K : ℕ → Type 0} {p s : ℕ} {o : State} (v : Inv K p s o) (off : o.on ≡ false) where
  off_all : Off o.hd o.stack
  off_all = rw off at v.mode

  -- what comes was made
  came : (x : ℕ) → Comes o x → x ≤ o.shape.n
  came x (inl e) = omega (arith, e)
  came x (inr (inl (t, e))) = rw (sym e) (go (o.tasks t).pending (v.entries t).pending)
    where
      go : (q : Option Making) → PendingOk K o.shape o.hd o.on q → pending_is q ≤ o.shape.n
      go None w = omega arith
      go (Some d) w = w.2
  came x (inr (inr (inl (r, e)))) = rw (sym e) (v.roots r).1
  came x (inr (inr (inr (t, r, e)))) = rw (sym e) ((v.entries t).regs r).1

  -- an object that finds no room would, with its words and itself, be beyond the bounds
  module _ {pa : ℕ → ℕ} {base end size : ℕ} (f : Cramped K pa o base end size) where
    abbrev o₁ : State
    o₁ = f.visited.objects

    abbrev x : ℕ
    x = f.object

    abbrev c : ℕ
    c = o.shape.fill f.object

    still : o₁.hd x ≡ white
    still = f.visited.mid.same x f.fresh ∙ off_all.all x f.held.0

    -- a placed object was visited, or is x
    placed_comes : (y : ℕ) → 0 < y → IsPlaced (upd o₁.hd x (count c) y) → Comes o y
    placed_comes y = upd_all (λ y h. 0 < y → IsPlaced h → Comes o y) o₁.hd x (count c) (λ l q. f.comes) (λ y n l q. go y l q (in? y f.before)) y
      where
        go : (y : ℕ) → 0 < y → IsPlaced (o₁.hd y) → Dec (In y f.before) → Comes o y
        go y l q (yes i) = f.visited.comes y i
        go y l q (no n) = absurd (rw (f.visited.mid.same y n ∙ off_all.all y l) at q)

    nil_placed : upd o₁.hd x (count c) 0 ≡ count 0
    nil_placed = upd_other o₁.hd x (count c) 0 (λ e. omega (arith, e, f.held.0)) ∙ f.visited.mid.nil ∙ v.shapes.nil

    not_full : (r n : ℕ) → Within o r n → base + (r + n) ≤ end → ⊥
    unfolding room_for
    not_full r n b room =
        let un : IsUnplaced (o₁.hd x) = rw still tt in
        let a = more_twinned o.shape o₁.hd x c f.held.0 f.held.1 un in
        let g = more_grey o.shape o₁.hd x c f.held.0 f.held.1 un in
        let m = f.marks in
        let w = f.visited in
        omega (
          arith,
          a,
          g,
          need_is (o.shape.len x) c,
          leb-false (twin_need (o.shape.len x) c) (m.top - m.a - m.j) f.none,
          w.tally,
          w.greys,
          w.jobs,
          w.words.stacked,
          w.words.free,
          b.words (twin_words_of o.shape (upd o₁.hd x (count c))) words,
          b.number (λ y. is_grey (upd o₁.hd x (count c) y)) number,
          room,
        )
      where
        words : (y : ℕ) → 0 < twin_words_of o.shape (upd o₁.hd x (count c)) y
            → (0 < y) × (y ≤ o.shape.n) × Comes o y × (twin_words_of o.shape (upd o₁.hd x (count c)) y ≤ o.shape.len y + 2)
        words y l =
            let q = words_of (o.shape.len y) y (upd o₁.hd x (count c) y) l in
            let z = placed_comes y q.0 q.1 in
            (q.0, came y z, z, q.2)

        number : (y : ℕ) → 0 < is_grey (upd o₁.hd x (count c) y) → (0 < y) × (y ≤ o.shape.n) × Comes o y × (is_grey (upd o₁.hd x (count c) y) ≤ 1)
        number y l =
            let q = grey_of_lem (upd o₁.hd x (count c) y) l in
            let pos : 0 < y = pos_of y q.1 in
            let z = placed_comes y pos q.0 in
            (pos, came y z, z, q.2)
          where
            pos_of : (y : ℕ) → upd o₁.hd x (count c) y ≢ count 0 → 0 < y
            pos_of zero d = absurd (d nil_placed)
            pos_of (suc y) d = omega arith

module _ {K : ℕ → Type 0} {pa ra : ℕ → ℕ} {o : State} {t : Table} {ws : List ℕ} (v : Inv K t.limits.p t.limits.s o) (k : Agree K pa ra o t ws) (off : o.on ≡ false)
    (home : Home K pa o.shape (bottom t) t.marks.a) {r n : ℕ} (b : Within o r n) (room : r + n ≤ t.limits.h) where
  fits : Cramped K pa o (bottom_of (not t.upper) t.limits.h) (end_of (not t.upper) t.limits.h) (length ws) → ⊥
  unfolding end_of
  fits f = not_full v off f r n b (omega (arith, room))

  pub flip_made : FlipMade K pa o t ws
  flip_made = go (flip_either v k off home)
    where
      go : (((passes_of t ws).pass ≡ Err (refusal 10)) × Cramped K pa o (bottom_of (not t.upper) t.limits.h) (end_of (not t.upper) t.limits.h) (length ws))
          ⊎ FlipMade K pa o t ws → FlipMade K pa o t ws
      go (inl (e, f)) = absurd (fits f)
      go (inr f) = f

  pub flip_fits : (passes_of t ws).pass ≢ Err (refusal 10)
  unfolding flip_of
  flip_fits e =
      let a : ◌≡◌ {A = Answer} (No (refusal 10)) Moved = ap (λ (x : Result Marks Refusal). (flip_end t x).answer) (sym e) ∙ ap (λ (y : Ends). y.out.answer) flip_made.flip in
      let z : ◌≡◌ {A = ℕ} 0 1 = cc in
      clash z
