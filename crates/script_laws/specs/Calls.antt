-- The line of each call: its name and its numbers, each behind a tab; and what that line says.
use Rattle.std.specs.Prelude.{ℕ, ◌≤◌, List, [], ◌∷◌, ◌++◌}
use Prim.Native.String.{String}
use Rattle.machine.specs.Call.{Call, New, Fill, FillPointer, Load, Store, StorePointer, Move, Clear, Same, Put, Get, Step, Report}
use Rattle.script.specs.Line.{ascii, tab}
use Rattle.answers.specs.Text.{decimal}
use Rattle.script.specs.declared.Said.{Said}
use Rattle.script.specs.declared.Said.TheVariants as said

unfoldable pub tabbed : List ℕ → List ℕ
tabbed [] = []
tabbed (n ∷ ns) = tab ∷ (decimal n ++ tabbed ns)

abbrev pub record_for : String → List ℕ → List ℕ
record_for name ns = ascii name ++ tabbed ns

-- numbers of 32 bits
abbrev pub Small : List ℕ → Type 0
Small [] = Unit {0}
Small (n ∷ ns) = (n ≤ 4294967295) × Small ns

abbrev pub name_for : Call → String
name_for (New task register len m) = "new"
name_for (Fill task word) = "fill"
name_for (FillPointer task register) = "fillp"
name_for (Load task to from slot) = "load"
name_for (Store task object slot word) = "store"
name_for (StorePointer task object slot register) = "storep"
name_for (Move task to from) = "move"
name_for (Clear task register) = "clear"
name_for (Same task a b) = "same"
name_for (Put task root register) = "put"
name_for (Get task register root) = "get"
name_for (Step task) = "step"
name_for Report = "report"

abbrev pub numbers_for : Call → List ℕ
numbers_for (New task register len m) = task ∷ register ∷ len ∷ m ∷ []
numbers_for (Fill task word) = task ∷ word ∷ []
numbers_for (FillPointer task register) = task ∷ register ∷ []
numbers_for (Load task to from slot) = task ∷ to ∷ from ∷ slot ∷ []
numbers_for (Store task object slot word) = task ∷ object ∷ slot ∷ word ∷ []
numbers_for (StorePointer task object slot register) = task ∷ object ∷ slot ∷ register ∷ []
numbers_for (Move task to from) = task ∷ to ∷ from ∷ []
numbers_for (Clear task register) = task ∷ register ∷ []
numbers_for (Same task a b) = task ∷ a ∷ b ∷ []
numbers_for (Put task root register) = task ∷ root ∷ register ∷ []
numbers_for (Get task register root) = task ∷ register ∷ root ∷ []
numbers_for (Step task) = task ∷ []
numbers_for Report = []

abbrev pub line_for : Call → List ℕ
line_for c = record_for (name_for c) (numbers_for c)

abbrev pub said_for : Call → Said
said_for (New task register len m) = said.New task register len m
said_for (Fill task word) = said.Fill task word
said_for (FillPointer task register) = said.FillPointer task register
said_for (Load task to from slot) = said.Load task to from slot
said_for (Store task object slot word) = said.Store task object slot word
said_for (StorePointer task object slot register) = said.StorePointer task object slot register
said_for (Move task to from) = said.Move task to from
said_for (Clear task register) = said.Clear task register
said_for (Same task a b) = said.Same task a b
said_for (Put task root register) = said.Put task root register
said_for (Get task register root) = said.Get task register root
said_for (Step task) = said.Step task
said_for Report = said.Report

-- set-up with its rate, and without
abbrev pub setup_line : (p s h k : ℕ) → List ℕ
setup_line p s h k = record_for "setup" (p ∷ s ∷ h ∷ k ∷ [])

abbrev pub short_setup_line : (p s h : ℕ) → List ℕ
short_setup_line p s h = record_for "setup" (p ∷ s ∷ h ∷ [])
