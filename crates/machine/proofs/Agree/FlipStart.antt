-- Before the flip's first visit: the space to come is empty, and no kept object has a word in it. Fewer kept objects, and other headers of
-- objects that are still to be made, leave the agreement as it is.
use Rattle.std.specs.Prelude.{ℕ, zero, suc, ◌+◌, ◌≤◌, ◌<◌, ◌≡◌, refl, ◌⊎◌, List, [], ◌∷◌, Bool, true, false, not, length}
use Rattle.std.proofs.Common.{ap, sym, subst, ◌∙◌, inl, inr, arith}
use Rattle.std.proofs.Math.Decide.{ℕ_discrete}
use Rattle.table.specs.declared.Marks.{Marks}
use Rattle.table.specs.declared.Table.{Table}
use Rattle.machine.specs.Words.{bottom_of, end_of}
use Rattle.machine.specs.Flip.{empty_space}
use Rattle.machine.proofs.Objects.Base.{sum_to_ext, sum_none}
use Rattle.machine.proofs.Objects.State.{Hd, Shape, State, IsPlaced, owes}
use Rattle.machine.proofs.Objects.Inv.{Off, Inv}
use Rattle.machine.proofs.Objects.FlipInv.{mid_start}
use Rattle.machine.proofs.Agree.Encode.{copy_word, header_word}
use Rattle.machine.proofs.Agree.Mem.{P, R, S, Holds}
use Rattle.machine.specs.Agree.Agree.{end}
use Rattle.machine.proofs.Agree.Agree.{Held, addr, Ok, content, Lay, bottom, Agree}
use Rattle.machine.proofs.Agree.Midway.{Midway}
use Rattle.machine.proofs.Agree.MidwayRead.{space_high}
use Rattle.machine.proofs.Agree.Home.{Home}
use Rattle.machine.proofs.Agree.FlipTally.{none_twinned, none_grey}
use Rattle.machine.proofs.Agree.FlipVisit.{Visited}

-- ---- fewer kept objects
fewer_lay : {K K' : ℕ → Type 0} {sh : Shape} {hd : ℕ → Hd} {pa ra : ℕ → ℕ} {base a end size : ℕ} → ((x : ℕ) → K' x → K x)
    → Lay K sh hd pa ra base a end size → Lay K' sh hd pa ra base a end size
fewer_lay {K} {K'} {sh} f k = record {
  nilp = k.nilp;
  nilr = k.nilr;
  inside = λ x h. k.inside x (held x h);
  where_p = λ x h. k.where_p x (held x h);
  where_r = λ x h. k.where_r x (held x h);
  apart_p = λ x y h g. k.apart_p x y (held x h) (held y g);
  apart_r = λ x y h g. k.apart_r x y (held x h) (held y g);
  apart_pr = λ x y h g. k.apart_pr x y (held x h) (held y g);
}
  where
    held : (x : ℕ) → Held K' sh x → Held K sh x
    held x h = (h.0, h.1, f x h.2)

pub agree_fewer : {K K' : ℕ → Type 0} {pa ra : ℕ → ℕ} {o : State} {t : Table} {ws : List ℕ} → ((x : ℕ) → K' x → K x) → Agree K pa ra o t ws → Agree K' pa ra o t ws
agree_fewer {K} {K'} {pa} {ra} {o} {t} {ws} f k = record {
  sized = k.sized;
  living = k.living;
  on = k.on;
  marked = k.marked;
  lay = fewer_lay f k.lay;
  mem = mem';
  roots = k.roots;
  eight = k.eight;
  tasks = k.tasks;
}
  where
    held : (x : ℕ) → Held K' o.shape x → Held K o.shape x
    held x h = (h.0, h.1, f x h.2)

    mem' : Holds (addr pa ra) (Ok K' o.shape o.hd o.has t.marks.top (end t))
        (content o.shape pa ra o.hd o.prim o.rep o.stack t.marks.top) [] ws
    mem' (P x i) u q = k.mem (P x i) (held x u.0, u.1) q
    mem' (R x i) u q = k.mem (R x i) (held x u.0, u.1, u.2) q
    mem' (S i) u q = k.mem (S i) u q

-- ---- other headers and slots of objects that are still to be made
pub midway_made : {K : ℕ → Type 0} {pa ra : ℕ → ℕ} {sh : Shape} {hd hd' : ℕ → Hd} {prim rep : ℕ → ℕ → ℕ} {has has' : ℕ → ℕ → Bool} {stack : List ℕ}
    {base end : ℕ} {m : Marks} {ws : List ℕ} → ((x : ℕ) → x ≤ sh.n → hd' x ≡ hd x) → ((x : ℕ) → x ≤ sh.n → has' x ≡ has x)
    → Midway K pa ra sh hd prim rep has stack base end m ws → Midway K pa ra sh hd' prim rep has' stack base end m ws
midway_made {K} {pa} {ra} {sh} {hd} {hd'} {prim} {rep} {has} {has'} {stack} {base} {end} {m} {ws} f g k = record {
  lay = record {
    nilp = k.lay.nilp;
    nilr = k.lay.nilr;
    inside = k.lay.inside;
    where_p = k.lay.where_p;
    where_r = λ x h p. k.lay.where_r x h (placed x h p);
    apart_p = k.lay.apart_p;
    apart_r = λ x y h g p q. k.lay.apart_r x y h g (placed x h p) (placed y g q);
    apart_pr = λ x y h g p. k.lay.apart_pr x y h g (placed y g p);
  };
  mem = mem';
  based = k.based;
  free = k.free;
  stacked = k.stacked;
  owed = omega (arith, k.owed, sum_to_ext (suc sh.n) (λ x. owes (hd' x)) (λ x. owes (hd x)) (λ x l. ap owes (f x (omega (arith, l)))));
  inside = k.inside;
}
  where
    placed : (x : ℕ) → Held K sh x → IsPlaced (hd' x) → IsPlaced (hd x)
    placed x h p = subst IsPlaced (f x h.1) p

    mem' : Holds (addr pa ra) (Ok K sh hd' has' m.top end) (content sh pa ra hd' prim rep stack m.top) [] ws
    mem' (P x zero) u q = k.mem (P x 0) u q
    mem' (P x (suc zero)) u q = k.mem (P x 1) u (λ i. i) ∙ ap (header_word (ra x)) (sym (f x u.0.1))
    mem' (P x (suc (suc j))) u q = k.mem (P x (suc (suc j))) u (λ i. i)
    mem' (R x zero) u q = k.mem (R x 0) (u.0, placed x u.0 u.1, tt) (λ i. i)
    mem' (R x (suc zero)) u q = k.mem (R x 1) (u.0, placed x u.0 u.1, tt) (λ i. i) ∙ ap copy_word (sym (f x u.0.1))
    mem' (R x (suc (suc j))) u q =
        k.mem (R x (suc (suc j))) (u.0, placed x u.0 u.1, (u.2.0, ap (λ (z : ℕ → Bool). z j) (sym (g x u.0.1)) ∙ u.2.1)) (λ i. i)
    mem' (S i) u q = k.mem (S i) u q

-- ---- the space to come
-- the space in use lies below or above the other
beyond : (upper : Bool) (h p len a : ℕ) → bottom_of upper h + 2 ≤ p → p + len ≤ a → a ≤ end_of upper h
    → (p + len ≤ bottom_of (not upper) h) ⊎ (end_of (not upper) h + 2 ≤ p)
unfolding bottom_of end_of
beyond true h p len a b c d = inr (omega arith)
beyond false h p len a b c d = inl (omega arith)

room_in : (upper : Bool) (h : ℕ) → bottom_of upper h ≤ end_of upper h
unfolding end_of
room_in upper h = omega arith

module _ {K : ℕ → Type 0} {p s : ℕ} {pa ra : ℕ → ℕ} {o : State} {t : Table} {ws : List ℕ} (v : Inv K p s o) (k : Agree K pa ra o t ws) (off : o.on ≡ false)
    (home : Home K pa o.shape (bottom t) t.marks.a) where
  abbrev base : ℕ
  base = bottom_of (not t.upper) t.limits.h

  abbrev end' : ℕ
  end' = end_of (not t.upper) t.limits.h

  off_all : Off o.hd o.stack
  off_all = rw off at v.mode

  unplaced : (x : ℕ) → 0 < x → IsPlaced (o.hd x) → ⊥
  unplaced x l q = rw (off_all.all x l) at q

  no_owes : (x : ℕ) → owes (o.hd x) ≡ 0
  no_owes x = go (ℕ_discrete x 0)
    where
      go : Dec (x ≡ 0) → owes (o.hd x) ≡ 0
      go (yes e) = rw (e, v.shapes.nil) refl
      go (no n) = ap owes (off_all.all x (omega (arith, n)))

  empty_lay : Lay K o.shape o.hd pa ra base base end' (length ws)
  empty_lay = record {
    nilp = k.lay.nilp;
    nilr = k.lay.nilr;
    inside = k.lay.inside;
    where_p = λ x h. let w = home x h in
        inr (beyond t.upper t.limits.h (pa x) (o.shape.len x) t.marks.a w.0 w.1 (omega (arith, k.marked.free, k.marked.stack)));
    where_r = λ x h q. absurd (unplaced x h.0 q);
    apart_p = k.lay.apart_p;
    apart_r = λ x y h g q. absurd (unplaced x h.0 q);
    apart_pr = λ x y h g q. absurd (unplaced y g.0 q);
  }

  empty_mem : Holds (addr pa ra) (Ok K o.shape o.hd o.has end' end') (content o.shape pa ra o.hd o.prim o.rep o.stack end') [] ws
  empty_mem (P x zero) u q = k.mem (P x 0) u q
  empty_mem (P x (suc zero)) u q = k.mem (P x 1) u q
  empty_mem (P x (suc (suc j))) u q = k.mem (P x (suc (suc j))) u q
  empty_mem (R x i) u q = absurd (unplaced x u.0.0 u.1)
  empty_mem (S i) u q = absurd (omega (arith, u.0, u.1))

  pub flip_start : Visited K pa o base end' (length ws) (0 ∷ []) (empty_space t.upper t.limits.h) ws
  flip_start = record {
    objects = o;
    ra = ra;
    mid = mid_start o off_all.empty;
    words = record {
      lay = empty_lay;
      mem = empty_mem;
      based = omega arith;
      free = omega (arith, room_in (not t.upper) t.limits.h);
      stacked = omega (arith, ap length off_all.empty);
      owed = omega (arith, sum_none (suc o.shape.n) (λ x. owes (o.hd x)) (λ x l. no_owes x));
      inside = omega (arith, space_high (not t.upper) t.limits.h, k.sized.size);
    };
    jobs = refl;
    copies = refl;
    long = refl;
    comes = λ x. elim [ inl e ↦ inl e | inr i ↦ absurd i ];
    tally = omega (arith, none_twinned o.shape o.hd v.shapes.nil off_all.all);
    greys = omega (arith, ap length off_all.empty, none_grey o.shape o.hd v.shapes.nil off_all.all);
  }
