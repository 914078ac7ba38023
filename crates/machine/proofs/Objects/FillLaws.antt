-- One slot of a pending object is written, and counted: what that keeps of shapes, headers and copies.
use Rattle.std.specs.Prelude.{ℕ, suc, ◌≤◌, ◌<◌, ◌≡◌, ◌⊎◌, List, Bool, true}
use Rattle.std.proofs.Common.{ap, ◌∙◌, inl, arith}
use Rattle.std.proofs.Math.Decide.{ℕ_discrete}
use Rattle.machine.proofs.Objects.Base.{upd_other, upd_all}
use Rattle.machine.proofs.Objects.State.{Hd, Shape, Snapshot, IsPlaced, left}
use Rattle.machine.proofs.Objects.Inv.{Sound, Shapes, Reach, from, edge, Colours}
use Rattle.machine.proofs.Objects.Ops.{wrote_one, filled_one}

-- what the snapshot leads to, under other numbers of pointer slots
pub reach_keep : {sh sh' : Shape} {g : Snapshot} → ((a j : ℕ) → j < g.fill a → j < sh.ptr a → j < sh'.ptr a) → {x : ℕ} → Reach sh g x → Reach sh' g x
reach_keep h (from i) = from i
reach_keep h (edge {x} j r a b) = edge j (reach_keep h r) a (h x j a b)

-- below n + 1: n, or below n
pub last : (P : ℕ → Type 0) (n j : ℕ) → P n → (j < n → P j) → j < suc n → P j
last P n j p q l = on (ℕ_discrete j n)
  where
    on : Dec (j ≡ n) → P j
    on (yes e) = rw e p
    on (no d) = q (omega arith)

-- ---- the next slot of x has been written
pub wrote_shapes : {K : ℕ → Type 0} {s : ℕ} {sh : Shape} {prim : ℕ → ℕ → ℕ} {hd : ℕ → Hd} (x : ℕ) → Shapes K s sh prim hd → sh.fill x < sh.len x
    → (sh.fill x < sh.ptr x → prim x (sh.fill x) ≤ sh.n) → Shapes K s (wrote_one sh x) prim hd
wrote_shapes {K} {sh = sh} {prim = prim} x h l here = record {
  kept = h.kept;
  none = h.none;
  nil = h.nil;
  future = h.future;
  low = h.low;
  high = h.high;
  filled = upd_all (λ a w. sh.fill a ≤ w) sh.wrote x (suc (sh.fill x)) (omega arith) (λ a q. h.filled a);
  written = upd_all (λ a w. w ≤ sh.len a) sh.wrote x (suc (sh.fill x)) (omega arith) (λ a q. h.written a);
  closed = h.closed;
  named = λ a j. upd_all (λ a w. K a → a ≤ sh.n → j < w → j < sh.ptr a → prim a j ≤ sh.n) sh.wrote x (suc (sh.fill x))
      (λ k m f d. last (λ j. j < sh.ptr x → prim x j ≤ sh.n) (sh.fill x) j here (λ z. h.named x j k m (omega (arith, h.filled x))) f d) (λ a q. h.named a j) a;
}

pub wrote_colours : {K : ℕ → Type 0} {sh : Shape} {g : Snapshot} {hd : ℕ → Hd} {prim rep : ℕ → ℕ → ℕ} {has : ℕ → ℕ → Bool} {stack : List ℕ}
    {Lt : ℕ → ℕ → Type 0} (x : ℕ) → Colours K sh g hd prim rep has stack Lt → Colours K (wrote_one sh x) g hd prim rep has stack Lt
wrote_colours x c = record {
  stacked = c.stacked;
  once = c.once;
  grey = c.grey;
  bound = c.bound;
  unplaced = c.unplaced;
  older = c.older;
  newer = c.newer;
  written = c.written;
  copied = c.copied;
  target = c.target;
  saw = c.saw;
  roots = c.roots;
  reached = λ a k l. reach_keep (λ b j z r. r) (c.reached a k l);
  known = c.known;
}

-- ---- it counts
pub filled_sound : (K : ℕ → Type 0) (sh : Shape) (x : ℕ) → sh.fill x < sh.len x → (a : ℕ) → Sound K sh a → Sound K (filled_one sh x) a
filled_sound K sh x l a z = (
  z.0,
  z.1,
  upd_other sh.fill x (suc (sh.fill x)) a (λ e. let b : sh.fill a ≡ sh.fill x = ap sh.fill e in let c : sh.len a ≡ sh.len x = ap sh.len e in absurd (omega (arith, z.2)))
      ∙ z.2,
)

pub filled_shapes : {K : ℕ → Type 0} {s : ℕ} {sh : Shape} {prim : ℕ → ℕ → ℕ} {hd : ℕ → Hd} (x : ℕ) → Shapes K s sh prim hd
    → sh.fill x < sh.len x → sh.wrote x ≡ suc (sh.fill x) → (sh.fill x < sh.ptr x → Sound K sh (prim x (sh.fill x)))
    → Shapes K s (filled_one sh x) prim hd
filled_shapes {K} {s} {sh} {prim} x h l w here = record {
  kept = h.kept;
  none = h.none;
  nil = h.nil;
  future = h.future;
  low = h.low;
  high = h.high;
  filled = upd_all (λ a f. f ≤ sh.wrote a) sh.fill x (suc (sh.fill x)) (omega (arith, w)) (λ a q. h.filled a);
  written = h.written;
  closed = λ a j k m f d. filled_sound K sh x l (prim a j)
      (upd_all (λ a f. K a → a ≤ sh.n → j < f → j < sh.ptr a → Sound K sh (prim a j)) sh.fill x (suc (sh.fill x))
      (λ k m f d. last (λ j. j < sh.ptr x → Sound K sh (prim x j)) (sh.fill x) j here (λ z. h.closed x j k m z) f d)
      (λ a q. h.closed a j) a k m f d);
  named = h.named;
}

pub filled_colours : {K : ℕ → Type 0} {sh : Shape} {g : Snapshot} {hd : ℕ → Hd} {prim rep : ℕ → ℕ → ℕ} {has : ℕ → ℕ → Bool} {stack : List ℕ}
    {Lt : ℕ → ℕ → Type 0} (x : ℕ) → Colours K sh g hd prim rep has stack Lt → has x (sh.fill x) ≡ true → rep x (sh.fill x) ≡ prim x (sh.fill x)
    → Colours K (filled_one sh x) g hd prim rep has stack Lt
filled_colours {K} {sh} {g} {hd} {prim} {rep} {has} {stack} {Lt} x c w e = record {
  stacked = c.stacked;
  once = c.once;
  grey = c.grey;
  bound = c.bound;
  unplaced = c.unplaced;
  older = upd_all (λ a f. g.fill a ≤ f) sh.fill x (suc (sh.fill x)) (omega (arith, c.older x)) (λ a q. c.older a);
  newer = c.newer;
  written = λ a j. upd_all (λ a f. IsPlaced (hd a) → left (sh.len a) (hd a) ≤ j → j < f → has a j ≡ true) sh.fill x (suc (sh.fill x))
      (λ p l. last (λ j. has x j ≡ true) (sh.fill x) j w (λ z. c.written x j p l z)) (λ a q. c.written a j) a;
  copied = λ a j. upd_all (λ a f. IsPlaced (hd a) → left (sh.len a) (hd a) ≤ j → j < f → (rep a j ≡ prim a j) ⊎ Lt a j) sh.fill x (suc (sh.fill x))
      (λ p l. last (λ j. (rep x j ≡ prim x j) ⊎ Lt x j) (sh.fill x) j (inl e) (λ z. c.copied x j p l z)) (λ a q. c.copied a j) a;
  target = c.target;
  saw = c.saw;
  roots = c.roots;
  reached = λ a k l. reach_keep (λ b j z r. r) (c.reached a k l);
  known = c.known;
}
