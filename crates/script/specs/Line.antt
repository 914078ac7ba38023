-- The line language of the script program: what a line of bytes, without its newline, says.
use Prim.Native.Char.{code}
use Rattle.std.specs.Prelude.{ℕ, ◌+◌, ◌-◌, ◌*◌, List, [], ◌∷◌, Bool, true, false, ltb, eqb, ◌==◌, Option, Some, None}
use Rattle.std.specs.List.{slice_split}
use Rattle.std.specs.Str.{bytes_eq}
use Prim.Native.String.{String, [] as end, ◌∷◌ as ◌then◌}
use Rattle.machine.specs.Basics.{pick}
use Rattle.script.specs.declared.Said.{Said}
use Rattle.script.specs.declared.Said.TheVariants.{Setup, New, Fill, FillPointer, Load, Store, StorePointer, Move, Clear, Same, Put, Get, Step, Report}

-- ---- fields: the parts of a line between its tabs; an empty line has one empty field

abbrev pub tab : ℕ
tab = 9

unfoldable pub fields : List ℕ → List (List ℕ)
fields s = slice_split (λ b. b == tab) s

-- ---- numbers: decimal, without sign or leading zero, at most 4294967295

-- 0 to 9 are 48 to 57 in ASCII
abbrev pub digit : ℕ → Bool
digit b = pick (ltb b 48) false (pick (ltb 57 b) false true)

-- the number whose digits are those of v and then a field's
unfoldable pub digits_from : ℕ → List ℕ → Option ℕ
digits_from v [] = Some v
digits_from v (b ∷ s) = pick (digit b) (digits_from (10 * v + (b - 48)) s) None

abbrev pub within : Option ℕ → Option ℕ
within None = None
within (Some v) = pick (ltb 4294967295 v) None (Some v)

abbrev pub alone : List ℕ → Option ℕ
alone [] = Some 0
alone (b ∷ s) = None

-- the number that a field is: 0, or a digit from 1 to 9 and then digits
unfoldable pub field_number : List ℕ → Option ℕ
field_number [] = None
field_number (b ∷ s) = pick (eqb b 48) (alone s) (pick (digit b) (within (digits_from (b - 48) s)) None)

abbrev pub before : Option ℕ → Option (List ℕ) → Option (List ℕ)
before None ns = None
before (Some v) None = None
before (Some v) (Some ns) = Some (v ∷ ns)

-- all fields read as numbers
unfoldable pub field_numbers : List (List ℕ) → Option (List ℕ)
field_numbers [] = Some []
field_numbers (f ∷ fs) = before (field_number f) (field_numbers fs)

-- ---- names, in ASCII

-- the bytes of a text
abbrev pub ascii : String → List ℕ
ascii end = []
ascii (c then s) = code c ∷ ascii s

abbrev pub name_is : List ℕ → String → Bool
name_is field name = bytes_eq field (ascii name)

-- ---- records: a name and its numbers

-- the rate of a set-up that names none
abbrev pub default_rate : ℕ
default_rate = 1

-- what a record with these numbers says, by a test for its name
unfoldable pub record_by : (String → Bool) → List ℕ → Option Said
record_by is [] = pick (is "report") (Some Report) None
record_by is (a ∷ []) = pick (is "step") (Some (Step a)) None
record_by is (a ∷ b ∷ []) =
    pick (is "fill") (Some (Fill a b))
    (pick (is "fillp") (Some (FillPointer a b))
    (pick (is "clear") (Some (Clear a b))
    None))
record_by is (a ∷ b ∷ c ∷ []) =
    pick (is "setup") (Some (Setup a b c default_rate))
    (pick (is "move") (Some (Move a b c))
    (pick (is "same") (Some (Same a b c))
    (pick (is "put") (Some (Put a b c))
    (pick (is "get") (Some (Get a b c))
    None))))
record_by is (a ∷ b ∷ c ∷ d ∷ []) =
    pick (is "setup") (Some (Setup a b c d))
    (pick (is "new") (Some (New a b c d))
    (pick (is "load") (Some (Load a b c d))
    (pick (is "store") (Some (Store a b c d))
    (pick (is "storep") (Some (StorePointer a b c d))
    None))))
record_by is (a ∷ b ∷ c ∷ d ∷ e ∷ ns) = None

abbrev pub record_in : (String → Bool) → Option (List ℕ) → Option Said
record_in is None = None
record_in is (Some ns) = record_by is ns

abbrev pub said_in : List (List ℕ) → Option Said
said_in [] = None
said_in (f ∷ fs) = record_in (name_is f) (field_numbers fs)

-- what a line says, if it can be read
unfoldable pub line_of : List ℕ → Option Said
line_of s = said_in (fields s)
