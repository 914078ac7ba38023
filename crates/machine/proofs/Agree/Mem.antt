-- One law for every write: a memory that holds its content at every place that means something but those of a list, and
-- a write at the list's head.
use Rattle.std.specs.Prelude.{◌≡◌, ◌⊎◌, List, [], ◌∷◌, ℕ, ◌<◌, length, get_or, set}
use Rattle.std.proofs.Common.{sym, ◌∙◌, inl, inr, get_or-set_same, get_or-set_other}
use Rattle.std.proofs.Math.Decide.{ℕ_discrete}

-- places: word o of a primary's block (descriptor, header, slots), of a replica's block, and word o of the stack
pub data Loc : Type 0 where
  P : (x o : ℕ) → Loc
  R : (x o : ℕ) → Loc
  S : (o : ℕ) → Loc
  deriving Discrete as Loc-discrete

abbrev pub InLocs : Loc → List Loc → Type 0
InLocs x [] = ⊥
InLocs x (y ∷ l) = (x ≡ y) ⊎ InLocs x l

abbrev pub Holds : (Loc → ℕ) → (Loc → Type 0) → (Loc → ℕ) → List Loc → List ℕ → Type 0
Holds addr Ok content ls ws = (l : Loc) → Ok l → (InLocs l ls → ⊥) → get_or ws (addr l) 0 ≡ content l

abbrev pub Apart : (Loc → ℕ) → (Loc → Type 0) → Type 0
Apart addr Ok = (a b : Loc) → Ok a → Ok b → addr a ≡ addr b → a ≡ b

pub write : (addr : Loc → ℕ) (Ok : Loc → Type 0) (content : Loc → ℕ) (ls : List Loc) (ws : List ℕ) (a : Loc) (i v : ℕ)
    → Apart addr Ok → Holds addr Ok content (a ∷ ls) ws → Ok a → addr a ≡ i → content a ≡ v → i < length ws → Holds addr Ok content ls (set ws i v)
write addr Ok content ls ws a i v apart h va ea ec lt l vl out = on (Loc-discrete ℕ_discrete l a)
  where
    on : Dec (l ≡ a) → get_or (set ws i v) (addr l) 0 ≡ content l
    on (yes e) = rw (e, ea, ec) (get_or-set_same ws i v 0 lt)
    on (no q) = get_or-set_other ws i (addr l) v 0 (λ k. q (apart l a vl va (k ∙ sym ea))) ∙ h l vl (elim [ inl e ↦ q e | inr m ↦ out m ])
