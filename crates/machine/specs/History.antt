-- What a run did since its latest flip: the copies that its releases completed, and what was live and filled at the flip.
use Rattle.std.specs.Prelude.{ℕ, ◌≡◌, ◌⊎◌, List, [], ◌∷◌, Bool, true, false}
use Rattle.table.specs.declared.Place.{Place}
use Rattle.table.specs.declared.Place.TheVariants.{Idle, New, Asked, FillWrite, FillCopy, StoreWrite, Meet, StoreCopy, Take, Read, Put, Release, Looking, Placing}
use Rattle.table.specs.declared.Answer.{Answer}
use Rattle.table.specs.declared.Answer.TheVariants.{Accepted, Done, Value, Moved, Wait, Report, No}
use Rattle.table.specs.declared.Table.{Table}
use Rattle.machine.specs.Basics.{pick}
use Rattle.machine.specs.Entries.{task_at, Ends}
use Rattle.machine.specs.Call.{Call}
use Rattle.machine.specs.Calls.{then}
use Rattle.machine.specs.Live.Live.{live_of, size_of, filled_at}

-- a copy: the object and the slot
pub record Copy : Type 0 where
  pub object : ℕ
  pub slot : ℕ

abbrev pub copy : ℕ → ℕ → Copy
copy x i = record { object = x; slot = i }

abbrev pub InCopies : ℕ → ℕ → List Copy → Type 0
InCopies x i [] = ⊥
InCopies x i (c ∷ cs) = ((c.object ≡ x) × (c.slot ≡ i)) ⊎ InCopies x i cs

abbrev pub NoCopyTwice : List Copy → Type 0
NoCopyTwice [] = Unit {0}
NoCopyTwice (c ∷ cs) = (InCopies c.object c.slot cs → ⊥) × NoCopyTwice cs

-- the copies since the latest flip, the pointers live at it with their words in all, and the slots filled then
pub record History : Type 0 where
  pub copies : List Copy
  pub live : List ℕ
  pub words : ℕ
  pub filled : ℕ → ℕ

abbrev pub no_history : History
no_history = record { copies = []; live = []; words = 0; filled = λ p. 0 }

-- a step that moved on or was done
abbrev pub went : Answer → Bool
went Accepted = false
went Done = true
went (Value v) = false
went Moved = true
went (Wait q) = false
went (Report on live copies) = false
went (No x) = false

-- a release completes a copy
abbrev pub with_copy : Place → Answer → List Copy → List Copy
with_copy Idle x cs = cs
with_copy (New want) x cs = cs
with_copy (Asked want) x cs = cs
with_copy (FillWrite v) x cs = cs
with_copy (FillCopy c) x cs = cs
with_copy (StoreWrite v) x cs = cs
with_copy (Meet v) x cs = cs
with_copy (StoreCopy c) x cs = cs
with_copy (Take n) x cs = cs
with_copy (Read n job) x cs = cs
with_copy (Put n job c) x cs = cs
with_copy (Release n job) x cs = pick (went x) (copy job.object.0 job.index ∷ cs) cs
with_copy (Looking p next) x cs = cs
with_copy (Placing p next) x cs = cs

-- the collector was off, and is on: a flip
abbrev pub is_flip : Bool → Bool → Bool
is_flip true b = false
is_flip false b = b

-- at a flip
abbrev pub flip_history : Table → List ℕ → History
flip_history t ws = record { copies = []; live = live_of t ws; words = size_of t ws; filled = filled_at t ws }

abbrev pub with_copies : History → List Copy → History
with_copies h cs = record { copies = cs; live = h.live; words = h.words; filled = h.filled }

-- a step of a task that was at this place: from table t and words ws to e
abbrev pub step_history : Table → List ℕ → Place → Ends → History → History
step_history t ws before e h =
    pick (is_flip t.on e.out.table.on) (flip_history t ws)
    (with_copies h (with_copy before e.out.answer h.copies))

abbrev pub history_after : Call → Ends → Ends → History → History
history_after (Call.New task r len m) e f h = h
history_after (Call.Fill task w) e f h = h
history_after (Call.FillPointer task r) e f h = h
history_after (Call.Load task to from slot) e f h = h
history_after (Call.Store task o slot w) e f h = h
history_after (Call.StorePointer task o slot r) e f h = h
history_after (Call.Move task to from) e f h = h
history_after (Call.Clear task r) e f h = h
history_after (Call.Same task a b) e f h = h
history_after (Call.Put task root r) e f h = h
history_after (Call.Get task r root) e f h = h
history_after (Call.Step task) e f h = step_history e.out.table e.words (task_at e.out.table task).place f h
history_after Call.Report e f h = h

-- the copy that a call completes
abbrev pub copied : Call → Ends → Ends → List Copy → List Copy
copied (Call.New task r len m) e f cs = cs
copied (Call.Fill task w) e f cs = cs
copied (Call.FillPointer task r) e f cs = cs
copied (Call.Load task to from slot) e f cs = cs
copied (Call.Store task o slot w) e f cs = cs
copied (Call.StorePointer task o slot r) e f cs = cs
copied (Call.Move task to from) e f cs = cs
copied (Call.Clear task r) e f cs = cs
copied (Call.Same task a b) e f cs = cs
copied (Call.Put task root r) e f cs = cs
copied (Call.Get task r root) e f cs = cs
copied (Call.Step task) e f cs = with_copy (task_at e.out.table task).place f.out.answer cs
copied Call.Report e f cs = cs

-- over a run
unfoldable pub history_of : List Call → Ends → History → History
history_of [] e h = h
history_of (c ∷ cs) e h = history_of cs (then c e) (history_after c e (then c e) h)

-- the copies that a run's releases complete, and that none of its steps is a flip
unfoldable pub copies_of : List Call → Ends → List Copy → List Copy
copies_of [] e cs = cs
copies_of (c ∷ cs) e ds = copies_of cs (then c e) (copied c e (then c e) ds)

abbrev pub NoFlip : List Call → Ends → Type 0
NoFlip [] e = Unit {0}
NoFlip (c ∷ cs) e = (is_flip e.out.table.on (then c e).out.table.on ≡ false) × NoFlip cs (then c e)
