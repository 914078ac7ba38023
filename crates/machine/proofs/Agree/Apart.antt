-- Two places that mean something and have one address are one place.
use Rattle.std.specs.Prelude.{ℕ, zero, suc, ◌+◌, ◌-◌, ◌≤◌, ◌<◌, ◌≡◌, ◌≢◌, ◌⊎◌, Bool}
use Rattle.std.proofs.Common.{ap, sym, inl, inr, arith}
use Rattle.std.proofs.Math.Decide.{ℕ_discrete}
use Rattle.machine.proofs.Objects.State.{Hd, Shape, IsPlaced}
use Rattle.machine.proofs.Agree.Mem.{Loc, P, R, S, Apart}
use Rattle.machine.specs.Agree.Agree.{end}
use Rattle.machine.proofs.Agree.Agree.{Held, addr, Written, Ok, Beside, Lay}

-- a word of a replica that means something is one of its block
pub written_in_lem : (len : ℕ) (has : ℕ → Bool) (o : ℕ) → Written len has o → o < len + 2
written_in_lem len has zero w = omega arith
written_in_lem len has (suc zero) w = omega arith
written_in_lem len has (suc (suc j)) w = omega (arith, w.0)

-- words of two blocks that do not overlap have different addresses
beside_off : (p len q men o u : ℕ) → Beside p len q men → 2 ≤ p → 2 ≤ q → o < len + 2 → u < men + 2 → p - 2 + o ≡ q - 2 + u → ⊥
beside_off p len q men o u (inl w) f h l m e = omega arith
beside_off p len q men o u (inr w) f h l m e = omega arith

same_at : (B : ℕ → ℕ → Loc) (a len : ℕ → ℕ) (x y o u : ℕ) → (x ≢ y → Beside (a x) (len x) (a y) (len y)) → 2 ≤ a x → 2 ≤ a y
    → o < len x + 2 → u < len y + 2 → a x - 2 + o ≡ a y - 2 + u → B x o ≡ B y u
same_at B a len x y o u far f h l m e = on (ℕ_discrete x y)
  where
    on : Dec (x ≡ y) → B x o ≡ B y u
    on (yes d) = let z : a x ≡ a y = ap a d in let w : o ≡ u = omega arith in cc
    on (no d) = absurd (beside_off (a x) (len x) (a y) (len y) o u (far d) f h l m e)

-- a word of a primary's block is none of the stack's
off_stack : (p len base a top end o u : ℕ) → ((base + 2 ≤ p) × (p + len ≤ a)) ⊎ ((p + len ≤ base) ⊎ (end + 2 ≤ p)) → 4 ≤ p → base ≤ a → a ≤ top
    → o < len + 2 → top ≤ u → u < end → p - 2 + o ≡ u → ⊥
off_stack p len base a top end o u (inl w) f b c l m n e = omega arith
off_stack p len base a top end o u (inr (inl w)) f b c l m n e = omega arith
off_stack p len base a top end o u (inr (inr w)) f b c l m n e = omega arith

pub apart : {K : ℕ → Type 0} {sh : Shape} {hd : ℕ → Hd} (has : ℕ → ℕ → Bool) {pa ra : ℕ → ℕ} {base a top end size : ℕ}
    → Lay K sh hd pa ra base a end size → ((x : ℕ) → sh.wrote x ≤ sh.len x) → base ≤ a → a ≤ top
    → Apart (addr pa ra) (Ok K sh hd has top end)
apart {K} {sh} {hd} has {pa} {ra} {base} {a} {top} {end} {size} k in_len low high = go
  where
    pp : (x o : ℕ) → o < sh.wrote x + 2 → o < sh.len x + 2
    pp x o l = omega (arith, in_len x)

    four : (x : ℕ) → Held K sh x → 2 ≤ pa x
    four x h = omega (arith, k.inside x h)

    two : (x : ℕ) → Held K sh x → IsPlaced (hd x) → 2 ≤ ra x
    two x h i = omega (arith, k.where_r x h i)

    go : Apart (addr pa ra) (Ok K sh hd has top end)
    go (P x o) (P y u) v w e =
        same_at P pa sh.len x y o u (k.apart_p x y v.0 w.0) (four x v.0) (four y w.0) (pp x o v.1) (pp y u w.1) e
    go (P x o) (R y u) v w e =
        absurd (beside_off (pa x) (sh.len x) (ra y) (sh.len y) o u (k.apart_pr x y v.0 w.0 w.1) (four x v.0) (two y w.0 w.1)
        (pp x o v.1) (written_in_lem (sh.len y) (has y) u w.2) e)
    go (P x o) (S u) v w e =
        absurd (off_stack (pa x) (sh.len x) base a top end o u (k.where_p x v.0) (k.inside x v.0).0 low high (pp x o v.1) w.0 w.1 e)
    go (R x o) (P y u) v w e =
        absurd (beside_off (pa y) (sh.len y) (ra x) (sh.len x) u o (k.apart_pr y x w.0 v.0 v.1) (four y w.0) (two x v.0 v.1)
        (pp y u w.1) (written_in_lem (sh.len x) (has x) o v.2) (sym e))
    go (R x o) (R y u) v w e =
        same_at R ra sh.len x y o u (k.apart_r x y v.0 w.0 v.1 w.1) (two x v.0 v.1) (two y w.0 w.1)
        (written_in_lem (sh.len x) (has x) o v.2) (written_in_lem (sh.len y) (has y) u w.2) e
    go (R x o) (S u) v w e = absurd (omega (arith, k.where_r x v.0 v.1, written_in_lem (sh.len x) (has x) o v.2))
    go (S o) (P y u) v w e =
        absurd (off_stack (pa y) (sh.len y) base a top end u o (k.where_p y w.0) (k.inside y w.0).0 low high (pp y u w.1) v.0 v.1 (sym e))
    go (S o) (R y u) v w e = absurd (omega (arith, k.where_r y w.0 w.1, written_in_lem (sh.len y) (has y) u w.2))
    go (S o) (S u) v w e = ap S e
