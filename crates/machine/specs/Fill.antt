-- The steps of a Fill: write primary; look at the value if a pointer; write replica and count the slot.
use Rattle.std.specs.Prelude.{ℕ, ◌+◌, List, Bool, set, leb, Option, Some, None}
use Rattle.table.specs.declared.Primary.{Primary}
use Rattle.table.specs.declared.Replica.{Replica}
use Rattle.table.specs.declared.Marks.{Marks}
use Rattle.machine.specs.Entries.{pending_with}
use Rattle.table.specs.declared.Descriptor.{Descriptor}
use Rattle.table.specs.declared.Making.{Making}
use Rattle.table.specs.declared.Operand.{Operand}
use Rattle.table.specs.declared.Then.TheVariants.{ToFillCopy}
use Rattle.table.specs.declared.Place.TheVariants.{FillCopy, Take}
use Rattle.table.specs.declared.Deed.TheVariants.{Goes, GoesWith, EndsWith}
use Rattle.machine.specs.Basics.{pick}
use Rattle.machine.specs.Words.{operand_word, copied_word, object_of, look_of, if_forwarded}
use Rattle.machine.specs.Deeds.{Acted, acted, fails}
use Rattle.machine.specs.Look.{look_ahead}

-- slot f of the pending object, whose object is this, written; off, the slot counts and the Fill ends
abbrev pub fill_write_in : Bool → Marks → List ℕ → Primary → ℕ → ℕ → ℕ → Operand Primary → Option Descriptor → Acted
fill_write_in on m ws p r len f v (Some o) =
    pick (leb o.len f) (fails 11 ws)
    (pick on
    (acted (Goes m (look_ahead v ToFillCopy FillCopy)) (set ws (p.0 + f) (operand_word v)))
    (acted (EndsWith m (pending_with p r len (f + 1))) (set ws (p.0 + f) (operand_word v))))
fill_write_in on m ws p r len f v None = fails 11 ws

unfoldable pub fill_write_of : Bool → Marks → List ℕ → ℕ → Option Making → Operand Primary → Acted
fill_write_of on m ws s None v = fails 11 ws
fill_write_of on m ws s (Some d) v = fill_write_in on m ws d.at d.register d.len d.filled v (object_of ws s d.at)

-- slot f of its replica written, and counted; then pay k
abbrev pub fill_copy_in : Marks → List ℕ → ℕ → Primary → ℕ → ℕ → ℕ → Operand Replica → Replica → ℕ → Acted
fill_copy_in m ws k p r len f c q l =
    pick (leb l f) (fails 11 ws)
    (acted (GoesWith m (pending_with p r len (f + 1)) (Take k)) (set ws (q.0 + f) (copied_word c)))

unfoldable pub fill_copy_of : Marks → List ℕ → ℕ → ℕ → Option Making → Operand Replica → Acted
fill_copy_of m ws s k None c = fails 11 ws
fill_copy_of m ws s k (Some d) c = if_forwarded (look_of ws s d.at) (fill_copy_in m ws k d.at d.register d.len d.filled c) (fails 11 ws)
