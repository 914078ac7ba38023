-- The steps of a Store behind the look at the old pointer: write primary; meet; look at the new pointer; write replica.
use Rattle.std.specs.Prelude.{ℕ, ◌+◌, ◌-◌, List, Bool, get_or, set, leb, eqb, Option, Some, None}
use Rattle.table.specs.declared.Primary.{Primary}
use Rattle.table.specs.declared.Replica.{Replica}
use Rattle.table.specs.declared.Marks.{Marks}
use Rattle.table.specs.declared.Descriptor.{Descriptor}
use Rattle.table.specs.declared.Slot.{Slot}
use Rattle.table.specs.declared.Operand.{Operand}
use Rattle.table.specs.declared.Then.TheVariants.{ToStoreCopy}
use Rattle.table.specs.declared.Place.TheVariants.{Meet, StoreCopy, Take}
use Rattle.table.specs.declared.Look.{Look}
use Rattle.table.specs.declared.Look.TheVariants.{White, Claimed, Forwarded, Lost}
use Rattle.table.specs.declared.Copying.{Copying}
use Rattle.table.specs.declared.Copying.TheVariants.{Count, Locked, Neither}
use Rattle.table.specs.declared.Sought.TheVariants.{Claimer, Holder}
use Rattle.table.specs.declared.Deed.{Deed}
use Rattle.table.specs.declared.Deed.TheVariants.{Goes, Ends, Waits, Fails}
use Rattle.machine.specs.Basics.{pick}
use Rattle.machine.specs.Numbers.{refusal}
use Rattle.machine.specs.Words.{operand_word, copied_word, object_of, look_of, if_forwarded, copying_of, slot_at}
use Rattle.machine.specs.Deeds.{Acted, acted, fails}
use Rattle.machine.specs.Look.{look_ahead}

-- the primary slot written; off, the Store ends
abbrev pub store_write_in : Bool → Marks → List ℕ → Primary → ℕ → Operand Primary → Option Descriptor → Acted
store_write_in on m ws x i v (Some o) =
    pick (leb o.len i) (fails 11 ws)
    (pick on
    (acted (Goes m (Meet v)) (set ws (x.0 + i) (operand_word v)))
    (acted (Ends m) (set ws (x.0 + i) (operand_word v))))
store_write_in on m ws x i v None = fails 11 ws

unfoldable pub store_write_of : Bool → Marks → List ℕ → ℕ → Option Slot → Operand Primary → Acted
store_write_of on m ws s None v = fails 11 ws
store_write_of on m ws s (Some y) v = store_write_in on m ws y.object y.index v (object_of ws s y.object)

-- Meet: a replica locked at this slot waits for the holder
abbrev pub meet_copying : Marks → List ℕ → Primary → ℕ → Operand Primary → Copying → Acted
meet_copying m ws x i v (Count c) = acted (Goes m (look_ahead v ToStoreCopy StoreCopy)) ws
meet_copying m ws x i v (Locked l) =
    pick (eqb l i) (acted (Waits (Holder (slot_at x i))) ws) (acted (Goes m (look_ahead v ToStoreCopy StoreCopy)) ws)
meet_copying m ws x i v Neither = fails 11 ws

-- no replica: header 0 goes straight to pay; header 1 waits for the claimer
abbrev pub unmet_case : Marks → ℕ → Primary → Look → Deed
unmet_case m k x (White len) = Goes m (Take k)
unmet_case m k x Claimed = Waits (Claimer x)
unmet_case m k x (Forwarded r len) = Fails (refusal 11)
unmet_case m k x Lost = Fails (refusal 11)

abbrev pub meet_in : Marks → List ℕ → Primary → ℕ → Operand Primary → Replica → ℕ → Acted
meet_in m ws x i v r len = meet_copying m ws x i v (copying_of len (get_or ws (r.0 - 1) 0))

unfoldable pub meet_of : Marks → List ℕ → ℕ → ℕ → Option Slot → Operand Primary → Acted
meet_of m ws s k None v = fails 11 ws
meet_of m ws s k (Some y) v = if_forwarded (look_of ws s y.object) (meet_in m ws y.object y.index v) (acted (unmet_case m k y.object (look_of ws s y.object)) ws)

-- the replica's slot written; then pay k
abbrev pub store_copy_in : Marks → List ℕ → ℕ → ℕ → Operand Replica → Replica → ℕ → Acted
store_copy_in m ws k i c r len = pick (leb len i) (fails 11 ws) (acted (Goes m (Take k)) (set ws (r.0 + i) (copied_word c)))

unfoldable pub store_copy_of : Marks → List ℕ → ℕ → ℕ → Option Slot → Operand Replica → Acted
store_copy_of m ws s k None c = fails 11 ws
store_copy_of m ws s k (Some y) c = if_forwarded (look_of ws s y.object) (store_copy_in m ws k y.index c) (fails 11 ws)
