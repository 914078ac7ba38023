-- What an action leaves: what it does, and every word.
use Rattle.std.specs.Prelude.{ℕ, List}
use Rattle.table.specs.declared.Deed.{Deed}
use Rattle.table.specs.declared.Deed.TheVariants.{Fails}
use Rattle.machine.specs.Numbers.{refusal}

pub record Acted : Type 0 where
  pub deed : Deed
  pub words : List ℕ

abbrev pub acted : Deed → List ℕ → Acted
acted d ws = record { deed = d; words = ws }

-- a refusal by 01's number, with the words as they are
abbrev pub fails : ℕ → List ℕ → Acted
fails n ws = acted (Fails (refusal n)) ws
