-- Lines and what each says: one of every record, and lines of each kind that answers 12.
use Prim.Native.String.{String}
use Rattle.std.specs.Prelude.{◌≡◌, List, [], ◌∷◌, Option, Some, None}
use Rattle.script.specs.Line.{ascii, line_of, default_rate}
use Rattle.script.specs.declared.Said.{Said}
use Rattle.script.specs.declared.Said.TheVariants.{Setup, New, Fill, FillPointer, Load, Store, StorePointer, Move, Clear, Same, Put, Get, Step, Report}

pub record Example : Type 0 where
  pub line : String
  pub says : Option Said

abbrev pub example : String → Option Said → Example
example s r = record { line = s; says = r }

-- each line says what stands beside it
abbrev pub Hold : List Example → Type 0
Hold [] = Unit {0}
Hold (e ∷ es) = (line_of (ascii e.line) ≡ e.says) × Hold es

abbrev pub readable : List Example
readable =
    example "setup\t1\t4\t64" (Some (Setup 1 4 64 default_rate))
    ∷ example "setup\t8\t255\t8190\t16" (Some (Setup 8 255 8190 16))
    ∷ example "new\t0\t0\t1\t0" (Some (New 0 0 1 0))
    ∷ example "fill\t0\t4294967295" (Some (Fill 0 4294967295))
    ∷ example "fillp\t0\t7" (Some (FillPointer 0 7))
    ∷ example "load\t0\t1\t0\t0" (Some (Load 0 1 0 0))
    ∷ example "store\t0\t1\t2\t3" (Some (Store 0 1 2 3))
    ∷ example "storep\t0\t1\t2\t3" (Some (StorePointer 0 1 2 3))
    ∷ example "move\t0\t1\t2" (Some (Move 0 1 2))
    ∷ example "clear\t0\t300" (Some (Clear 0 300))
    ∷ example "same\t0\t1\t2" (Some (Same 0 1 2))
    ∷ example "put\t0\t1\t2" (Some (Put 0 1 2))
    ∷ example "get\t0\t1\t2" (Some (Get 0 1 2))
    ∷ example "step\t10" (Some (Step 10))
    ∷ example "report" (Some Report)
    ∷ []

-- an empty line; an empty field; a tab too many, at the end and in front; CR; blanks; signs; leading zeros; a number
-- above 4294967295; unknown names; a field too few; a field too many
abbrev pub bad : List Example
bad =
    example "" None
    ∷ example "step\t" None
    ∷ example "report\t" None
    ∷ example "\treport" None
    ∷ example "step\t0\r" None
    ∷ example "step 0" None
    ∷ example "step\t 0" None
    ∷ example "step\t+1" None
    ∷ example "step\t-0" None
    ∷ example "step\t00" None
    ∷ example "step\t01" None
    ∷ example "step\t4294967296" None
    ∷ example "stop\t0" None
    ∷ example "Step\t0" None
    ∷ example "step" None
    ∷ example "setup\t1\t4" None
    ∷ example "step\t0\t0" None
    ∷ example "setup\t1\t4\t64\t1\t1" None
    ∷ []
