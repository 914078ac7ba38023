-- Texts in which a byte does not occur.
use Prim.Native.Nat.{ℕ, zero, suc, ◌+◌, ◌/◌, ◌%◌, ◌<◌}
use native.Mathlib.Omega.{arith}
use mathlib.Core.Path.{◌≡◌, refl}
use mathlib.Core.List.{List, [], ◌∷◌, ◌++◌}
use mathlib.Core.Bool.{Bool, true, false, false≢true}
use lib.Dec.{ltb, eqb}
use borrow.Author.Tests.{ne_eqb}
use Rattle.machine.specs.Basics.{pick}
use Rattle.answers.specs.Text.{spelled, decimal}
use Rattle.script_laws.specs.Lines.{lacks}

-- what a text that begins with b shows
pub lacks_first : (x b : ℕ) (s : List ℕ) → lacks x (b ∷ s) ≡ true → (eqb b x ≡ false) × (lacks x s ≡ true)
lacks_first x b s h = go (eqb b x) refl
  where
    go : (y : Bool) → eqb b x ≡ y → (eqb b x ≡ false) × (lacks x s ≡ true)
    go true e = absurd (false≢true (simp e at h))
    go false e = (e, simp e at h)

pub lacks_append : (x : ℕ) (s t : List ℕ) → lacks x s ≡ true → lacks x t ≡ true → lacks x (s ++ t) ≡ true
lacks_append x [] t h k = k
lacks_append x (b ∷ s) t h k =
    let f = lacks_first x b s h in
    simp (f.0, lacks_append x s t f.1 k)

digit_lacks : (x d : ℕ) → x < 48 → lacks x ((48 + d) ∷ []) ≡ true
digit_lacks x d h = simp (ne_eqb (48 + d) x (λ e. omega arith))

spelled_lacks : (x k n : ℕ) → x < 48 → lacks x (spelled k n) ≡ true
unfolding spelled
spelled_lacks x zero n h = refl
spelled_lacks x (suc k) n h = go (ltb n 10) (spelled_lacks x k (n / 10) h)
  where
    go : (y : Bool) → lacks x (spelled k (n / 10)) ≡ true → lacks x (pick y ((48 + n) ∷ []) (spelled k (n / 10) ++ ((48 + n % 10) ∷ []))) ≡ true
    go true ih = digit_lacks x n h
    go false ih = lacks_append x (spelled k (n / 10)) ((48 + n % 10) ∷ []) ih (digit_lacks x (n % 10) h)

-- a number has neither a tab nor a newline
pub decimal_lacks : (x n : ℕ) → x < 48 → lacks x (decimal n) ≡ true
unfolding decimal
decimal_lacks x n h = spelled_lacks x (suc n) n h
