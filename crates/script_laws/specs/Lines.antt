-- What a line is.
use Rattle.std.specs.Prelude.{ℕ, ◌≤◌, ◌≡◌, List, [], ◌∷◌, ◌++◌, Bool, true, false, length, eqb}
use Rattle.machine.specs.Basics.{pick}
use Rattle.answers.specs.Text.{newline}

-- the byte x does not occur
abbrev pub lacks : ℕ → List ℕ → Bool
lacks x [] = true
lacks x (b ∷ s) = pick (eqb b x) false (lacks x s)

-- bytes without a newline, and then one; at most so many in all
pub record OneLine (most : ℕ) (s : List ℕ) : Type 0 where
  pub bytes : List ℕ
  pub made : s ≡ bytes ++ newline
  pub whole : lacks 10 bytes ≡ true
  pub short : length s ≤ most
