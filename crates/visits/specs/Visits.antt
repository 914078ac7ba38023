-- What each visit and each pass of a flip leaves of the space that it fills.
use Rattle.std.specs.Prelude.{◌≡◌, ℕ, List, length, Ok, Err}
use Rattle.table.specs.declared.Marks.{Marks}
use Rattle.machine.specs.Basics.{Gate}
use Rattle.machine.specs.Flip.{Went, went}
use Rattle.visits.specs.declared.Space.{Space}

-- how the pass stands, and every word
abbrev pub left : Gate → Space → Went
left (Ok u) new = went (Ok new.marks) new.words.now
left (Err x) new = went (Err x) new.words.now

-- the marks and the words become what the visit makes of them; it is the same space, over the same words, and as many
pub record Leaves (result : Gate) (old new : Space) (visit : Marks → List ℕ → Went) : Type 0 where
  pub so : left result new ≡ visit old.marks old.words.now
  pub words : new.words.ghost_name ≡ old.words.ghost_name
  pub long : length new.words.now ≡ length old.words.now
  pub s : new.s ≡ old.s
  pub end : new.end ≡ old.end
