-- An address names one object: nil has 0, no other kept object has, and no two have the same.
use Rattle.std.specs.Prelude.{ℕ, zero, suc, ◌≤◌, ◌<◌, ◌≡◌, refl, ◌≢◌, List, eqb}
use Rattle.std.proofs.Common.{ap, sym, ◌∙◌, inl, inr, arith, eq-eqb, ne_eqb}
use Rattle.std.proofs.Math.Decide.{ℕ_discrete}
use Rattle.table.specs.declared.Table.{Table}
use Rattle.machine.proofs.Objects.State.{Hd, Shape, State, IsPlaced}
use Rattle.machine.proofs.Objects.Inv.{Sound}
use Rattle.machine.proofs.Agree.Agree.{Held, Beside, Lay, Agree}
use Rattle.machine.proofs.Agree.MidwayRead.{space_low}

-- a kept object that is not nil has words
pub held_of : (K : ℕ → Type 0) (sh : Shape) (x : ℕ) → x ≢ 0 → K x → x ≤ sh.n → Held K sh x
held_of K sh zero f k m = absurd (f refl)
held_of K sh (suc x) f k m = (omega arith, m, k)

pub sound_held : (K : ℕ → Type 0) (sh : Shape) (x : ℕ) → 0 < x → Sound K sh x → Held K sh x
sound_held K sh x l s = (l, s.1, s.0)

-- a test of two numbers is that of their addresses, if equal addresses have equal numbers
names_eqb : (a : ℕ → ℕ) (x y : ℕ) → (a x ≡ a y → x ≡ y) → eqb (a x) (a y) ≡ eqb x y
names_eqb a x y f = go (ℕ_discrete x y)
  where
    go : Dec (x ≡ y) → eqb (a x) (a y) ≡ eqb x y
    go (yes e) = eq-eqb (a x) (a y) (ap a e) ∙ sym (eq-eqb x y e)
    go (no n) = ne_eqb (a x) (a y) (λ e. n (f e)) ∙ sym (ne_eqb x y n)

beside_ne : (p len q men : ℕ) → Beside p len q men → p ≡ q → ⊥
beside_ne p len q men (inl w) e = omega arith
beside_ne p len q men (inr w) e = omega arith

module _ {K : ℕ → Type 0} {sh : Shape} {hd : ℕ → Hd} {pa ra : ℕ → ℕ} {base a end size : ℕ} (k : Lay K sh hd pa ra base a end size) where
  pub pa_nil : (x : ℕ) → K x → x ≤ sh.n → pa x ≡ 0 → x ≡ 0
  pa_nil x kx mx e = go (ℕ_discrete x 0)
    where
      go : Dec (x ≡ 0) → x ≡ 0
      go (yes z) = z
      go (no n) = absurd (omega (arith, k.inside x (held_of K sh x n kx mx)))

  pub pa_inj : (x y : ℕ) → K x → x ≤ sh.n → K y → y ≤ sh.n → pa x ≡ pa y → x ≡ y
  pa_inj x y kx mx ky my e = go (ℕ_discrete x 0) (ℕ_discrete y 0) (ℕ_discrete x y)
    where
      go : Dec (x ≡ 0) → Dec (y ≡ 0) → Dec (x ≡ y) → x ≡ y
      go p q (yes z) = z
      go (yes p) q (no n) = absurd (n (p ∙ sym (pa_nil y ky my (sym e ∙ ap pa p ∙ k.nilp))))
      go (no p) (yes q) (no n) = absurd (n (pa_nil x kx mx (e ∙ ap pa q ∙ k.nilp) ∙ sym q))
      go (no p) (no q) (no n) =
          absurd (beside_ne (pa x) (sh.len x) (pa y) (sh.len y) (k.apart_p x y (held_of K sh x p kx mx) (held_of K sh y q ky my) n) e)

  pub pa_eqb : (x y : ℕ) → K x → x ≤ sh.n → K y → y ≤ sh.n → eqb (pa x) (pa y) ≡ eqb x y
  pa_eqb x y kx mx ky my = names_eqb pa x y (pa_inj x y kx mx ky my)

  pub pa_zero : (x : ℕ) → K x → x ≤ sh.n → eqb (pa x) 0 ≡ eqb x 0
  pa_zero x kx mx = ap (eqb (pa x)) (sym k.nilp) ∙ names_eqb pa x 0 (λ e. pa_nil x kx mx (e ∙ k.nilp))

-- the pointer of a primary and of a replica is at least 4
pub pa_four : {K : ℕ → Type 0} {pa ra : ℕ → ℕ} {o : State} {t : Table} {ws : List ℕ} → Agree K pa ra o t ws
    → (x : ℕ) → Held K o.shape x → 4 ≤ pa x
pa_four k x h = (k.lay.inside x h).0

pub ra_four : {K : ℕ → Type 0} {pa ra : ℕ → ℕ} {o : State} {t : Table} {ws : List ℕ} → Agree K pa ra o t ws
    → (x : ℕ) → Held K o.shape x → IsPlaced (o.hd x) → 4 ≤ ra x
ra_four {K} {pa} {ra} {o} {t} {ws} k x h i = omega (arith, space_low t.upper t.limits.h, k.lay.where_r x h i)
