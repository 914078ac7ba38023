-- What the definitions of Among say: at the first p entries the searches are machine's over the table's entries.
use Prim.Native.Nat.{ℕ}
use mathlib.Core.Path.{◌≡◌, refl}
use mathlib.Core.List.{List}
use mathlib.Core.Bool.{Bool}
use lib.ListN.{take}
use Rattle.table.specs.declared.Marks.{Marks}
use Rattle.table.specs.declared.Slot.{Slot}
use Rattle.table.specs.declared.Task.{Task}
use Rattle.table.specs.declared.Sought.{Sought}
use Rattle.machine.specs.Tasks.{seek_of, some, slot_taken, grey_of, closing_of, held_of}
use Rattle.search.specs.Among.{seek_in, any_in, taken_in, grey_in, held_in}

module _ (ts : List Task) (p : ℕ) where
  pub seek_first : (w : Sought) → seek_in (take p ts) w ≡ seek_of ts p w
  unfolding seek_of
  seek_first w = refl

  pub any_first : (w : Sought) → any_in (take p ts) w ≡ some ts p w
  unfolding seek_of
  any_first w = refl

  pub taken_first : (me : ℕ) (slot : Slot) → taken_in (take p ts) me slot ≡ slot_taken ts p me slot.object slot.index
  unfolding slot_taken
  taken_first me slot = refl

  pub grey_first : (m : Marks) (end : ℕ) → grey_in m end (take p ts) ≡ grey_of m end ts p
  unfolding grey_of seek_of
  grey_first m end = refl

  pub held_first : (on : Bool) (m : Marks) (end : ℕ) → held_in on m end (take p ts) ≡ held_of on m end ts p
  unfolding held_of closing_of grey_of seek_of
  held_first on m end = refl
