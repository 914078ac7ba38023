-- What a check of an object and a look at it find in the words of `Midway`; table and words that agree while collecting are `Midway`.
use Rattle.std.specs.Prelude.{ℕ, ◌+◌, ◌-◌, ◌*◌, ◌≤◌, ◌≡◌, refl, List, Bool, true, false}
use Rattle.std.proofs.Math.Path.{ap}
use Rattle.std.proofs.Common.{◌∙◌}
use native.Mathlib.Omega.{arith}
use Rattle.std.proofs.Math.ListN.{length, get_or}
use borrow.Author.Tests.{le-ltb, ne_eqb}
use Rattle.table.specs.declared.Marks.{Marks}
use Rattle.table.specs.declared.Table.{Table}
use Rattle.table.specs.declared.Look.{Look}
use Rattle.table.specs.declared.Look.TheVariants.{White, Claimed, Forwarded}
use Rattle.machine.specs.Words.{primary, replica, descriptor, length_in, pointers_in, object_by, object_of, header_of, look_of, bottom_of, end_of, described}
use Rattle.machine.proofs.Objects.State.{Hd, white, claimed, count, locked, Shape, State}
use Rattle.machine.proofs.Agree.Encode.{header_word}
use Rattle.machine.proofs.Agree.Mem.{P}
use Rattle.machine.specs.Agree.Agree.{end}
use Rattle.machine.proofs.Agree.Agree.{Held, bottom, Agree}
use Rattle.machine.proofs.Agree.Midway.{Midway}

-- what a look at an object finds, by its header
abbrev pub found_by : ℕ → ℕ → Hd → Look
found_by r len white = White len
found_by r len (claimed t) = Claimed
found_by r len (count c) = Forwarded (replica r) len
found_by r len (locked i t) = Forwarded (replica r) len

pub whole : (n s p len m : ℕ) → len ≤ s → m ≤ len → s ≤ 255 → p + len ≤ n → object_by n s p (descriptor len m) ≡ described len m
whole n s p len m a b c d =
    let l : length_in (descriptor len m) ≡ len = omega arith in
    let q : pointers_in (descriptor len m) ≡ m = omega arith in
    rw (l, q, le-ltb s len a, le-ltb len m b, le-ltb (n - p) len (omega arith)) refl

pub forwarded : (n len h : ℕ) → 4 ≤ h → h + len ≤ n → header_of n len h ≡ Forwarded (replica h) len
forwarded n len h a b =
    rw (ne_eqb h 0 (λ e. omega arith), ne_eqb h 1 (λ e. omega arith), le-ltb h 4 a, le-ltb n h (omega arith), le-ltb (n - h) len (omega arith)) refl

module _ {K : ℕ → Type 0} {pa ra : ℕ → ℕ} {sh : Shape} {hd : ℕ → Hd} {prim rep : ℕ → ℕ → ℕ} {has : ℕ → ℕ → Bool} {stack : List ℕ} {base end : ℕ} {m : Marks} {ws : List ℕ}
    (k : Midway K pa ra sh hd prim rep has stack base end m ws) (s : ℕ) (s_high : s ≤ 255) (x : ℕ) (held : Held K sh x) (high : sh.len x ≤ s) (low : sh.ptr x ≤ sh.len x) where
  pub object_in : object_of ws s (primary (pa x)) ≡ described (sh.len x) (sh.ptr x)
  unfolding object_of
  object_in =
      let i : (4 ≤ pa x) × (pa x + sh.len x ≤ length ws) = k.lay.inside x held in
      let z : pa x - 2 ≡ pa x - 2 + 0 = omega arith in
      let d : get_or ws (pa x - 2) 0 ≡ descriptor (sh.len x) (sh.ptr x) = ap (λ i. get_or ws i 0) z ∙ k.mem (P x 0) (held, omega arith) (λ i. i) in
      rw (le-ltb (pa x) 4 i.0, le-ltb (length ws) (pa x) (omega arith), d) (whole (length ws) s (pa x) (sh.len x) (sh.ptr x) high low s_high i.1)

  header_in : 2 ≤ base → (h : Hd) → hd x ≡ h → header_of (length ws) (sh.len x) (header_word (ra x) h) ≡ found_by (ra x) (sh.len x) h
  header_in b white e = refl
  header_in b (claimed t) e = refl
  header_in b (count c) e =
      let w = k.lay.where_r x held (rw e tt) in forwarded (length ws) (sh.len x) (ra x) (omega (arith, w, b)) (omega (arith, w, k.free, k.stacked, k.inside))
  header_in b (locked i t) e =
      let w = k.lay.where_r x held (rw e tt) in forwarded (length ws) (sh.len x) (ra x) (omega (arith, w, b)) (omega (arith, w, k.free, k.stacked, k.inside))

  pub look_in : 2 ≤ base → look_of ws s (primary (pa x)) ≡ found_by (ra x) (sh.len x) (hd x)
  unfolding look_of
  look_in b =
      let z : pa x - 1 ≡ pa x - 2 + 1 = omega (arith, k.lay.inside x held) in
      let w : get_or ws (pa x - 1) 0 ≡ header_word (ra x) (hd x) = ap (λ i. get_or ws i 0) z ∙ k.mem (P x 1) (held, omega arith) (λ i. i) in
      rw (object_in, w) (header_in b (hd x) refl)

-- where a space lies
pub space_low : (upper : Bool) (h : ℕ) → 2 ≤ bottom_of upper h
unfolding bottom_of
space_low true h = omega arith
space_low false h = omega arith

pub space_high : (upper : Bool) (h : ℕ) → end_of upper h ≤ 2 + 2 * h
unfolding end_of bottom_of
space_high true h = omega arith
space_high false h = omega arith

pub midway_of : {K : ℕ → Type 0} {pa ra : ℕ → ℕ} {o : State} {t : Table} {ws : List ℕ} → Agree K pa ra o t ws → o.on ≡ true
    → Midway K pa ra o.shape o.hd o.prim o.rep o.has o.stack (bottom t) (end t) t.marks ws
midway_of {t = t} {ws = ws} k e = record {
  lay = k.lay;
  mem = k.mem;
  based = k.marked.based;
  free = k.marked.free;
  stacked = k.marked.stack;
  owed = k.marked.owed (k.on ∙ e);
  inside = omega (arith, space_high t.upper t.limits.h, k.sized.size);
}
