-- What the reader's parts answer.
use Rattle.std.specs.Prelude.{ℕ, ◌<◌, List, [], ◌∷◌, Option, Some, None, length}
use denote.Ref.{Bor}
use Rattle.script.specs.Line.{fields, field_number}

-- the fields behind a field, of which this is what follows: nothing, or what stands behind its tab
abbrev pub left : Option (Bor (List ℕ)) → List (List ℕ)
left None = []
left (Some s) = fields s.now

-- the number of the first of some fields, and the fields behind it
abbrev pub with_rest : Option ℕ → List (List ℕ) → Option (ℕ × List (List ℕ))
with_rest None fs = None
with_rest (Some v) fs = Some (v, fs)

abbrev pub front_number : List (List ℕ) → Option (ℕ × List (List ℕ))
front_number [] = None
front_number (f ∷ fs) = with_rest (field_number f) fs

-- no name is longer
abbrev pub longest_name : ℕ
longest_name = 6

-- the first of some fields is longer than every name
abbrev pub LongName : List (List ℕ) → Type 0
LongName [] = ⊥
LongName (f ∷ fs) = longest_name < length f
