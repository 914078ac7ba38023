-- While off every primary lies in the space in use, below A: so it is after set-up and switch-over, and New keeps it. Steps that leave
-- lengths, addresses and A alone keep it by computation.
use Rattle.std.specs.Prelude.{ℕ, suc, ◌+◌, ◌≤◌, ◌≡◌}
use Rattle.std.proofs.Math.Decide.{ℕ_discrete}
use Rattle.std.proofs.Common.{arith}
use Rattle.machine.proofs.Objects.Base.{upd, upd_same, upd_other}
use Rattle.machine.proofs.Objects.State.{Shape}
use Rattle.machine.proofs.Objects.Ops.{one_more}
use Rattle.machine.proofs.Agree.Agree.{Held}

abbrev pub Home : (ℕ → Type 0) → (ℕ → ℕ) → Shape → ℕ → ℕ → Type 0
Home K pa sh base a = (x : ℕ) → Held K sh x → (base + 2 ≤ pa x) × (pa x + sh.len x ≤ a)

-- no object was made
pub home_none : (K : ℕ → Type 0) (pa : ℕ → ℕ) (sh : Shape) (base a : ℕ) → sh.n ≡ 0 → Home K pa sh base a
home_none K pa sh base a e x h = absurd (omega (arith, h.0, h.1, e))

-- one object more, claimed at A
pub home_new : (K : ℕ → Type 0) (pa : ℕ → ℕ) (sh : Shape) (base a len m : ℕ) → base ≤ a → Home K pa sh base a
    → Home K (upd pa (suc sh.n) (a + 2)) (one_more sh len m) base (a + (len + 2))
home_new K pa sh base a len m low h x g = go (ℕ_discrete x (suc sh.n))
  where
    go : Dec (x ≡ suc sh.n) → (base + 2 ≤ upd pa (suc sh.n) (a + 2) x) × (upd pa (suc sh.n) (a + 2) x + upd sh.len (suc sh.n) len x ≤ a + (len + 2))
    go (yes e) = rw (e, upd_same pa (suc sh.n) (a + 2), upd_same sh.len (suc sh.n) len) (omega arith)
    go (no n) =
        let w = h x (g.0, omega (arith, g.1, n), g.2) in
        rw (upd_other pa (suc sh.n) (a + 2) x n, upd_other sh.len (suc sh.n) len x n) (omega (arith, w))
