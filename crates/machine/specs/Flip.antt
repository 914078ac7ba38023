-- The flip, one step: the pending objects, then the roots, then the registers task by task.
use Rattle.std.specs.Prelude.{ℕ, List, [], ◌∷◌, Bool, true, not, take, ltb, eqb, Option, Some, None, Result, Ok, Err}
use Rattle.table.specs.declared.Primary.{Primary}
use Rattle.table.specs.declared.Marks.{Marks}
use Rattle.table.specs.declared.Refusal.{Refusal}
use Rattle.table.specs.declared.Replica.{Replica}
use Rattle.table.specs.declared.Making.{Making}
use Rattle.table.specs.declared.Place.{Place}
use Rattle.table.specs.declared.Place.TheVariants.{Idle, New, Asked, FillWrite, FillCopy, StoreWrite, Meet, StoreCopy, Take, Read, Put, Release, Looking, Placing}
use Rattle.table.specs.declared.Task.{Task}
use Rattle.table.specs.declared.Table.{Table}
use Rattle.table.specs.declared.Look.{Look}
use Rattle.table.specs.declared.Look.TheVariants.{White, Claimed, Forwarded, Lost}
use Rattle.table.specs.declared.Answer.TheVariants.{Moved}
use Rattle.table.specs.declared.Outcome.{Outcome}
use Rattle.machine.specs.Basics.{pick, first_of}
use Rattle.machine.specs.Numbers.{refusal}
use Rattle.machine.specs.Words.{look_of, bottom_of, end_of, slot_at, wanted}
use Rattle.machine.specs.Entries.{entry, marks_at, out, refused, Ends, ends, keeping}
use Rattle.machine.specs.Look.{place_of}

-- what a visit leaves: how the pass stands, and every word
pub record Went : Type 0 where
  pub pass : Result Marks Refusal
  pub words : List ℕ

abbrev pub went : Result Marks Refusal → List ℕ → Went
went x ws = record { pass = x; words = ws }

abbrev pub stops : ℕ → List ℕ → Went
stops n ws = went (Err (refusal n)) ws

-- what comes next is done where the pass goes on; one that has stopped stays as it is, and so do the words
abbrev pub onward : Result Marks Refusal → List ℕ → (Marks → List ℕ → Went) → Went
onward (Ok m) ws rest = rest m ws
onward (Err x) ws rest = went (Err x) ws

abbrev pub next : Went → (Marks → List ℕ → Went) → Went
next w rest = onward w.pass w.words rest

-- a visit to each of these in order
unfoldable pub pass_of : {A : Type 0} → (A → Marks → List ℕ → Went) → List A → Marks → List ℕ → Went
pass_of visit [] m ws = went (Ok m) ws
pass_of visit (x ∷ xs) m ws = next (visit x m ws) (pass_of visit xs)

abbrev pub placed_on : Option (Marks × Replica) → List ℕ → Went
placed_on (Some (m, r)) ws = went (Ok m) ws
placed_on None ws = stops 10 ws

-- a replica for the object at p, of length len, with count slots to copy
abbrev pub placing : ℕ → Primary → ℕ → ℕ → Marks → List ℕ → Went
placing end p len count m ws = placed_on (place_of m end ws p len count).placed (place_of m end ws p len count).words

-- a root or a register: a non-nil white object is placed
abbrev pub visit_case : ℕ → Primary → Marks → List ℕ → Look → Went
visit_case end p m ws (White len) = placing end p len len m ws
visit_case end p m ws Claimed = stops 11 ws
visit_case end p m ws (Forwarded r len) = went (Ok m) ws
visit_case end p m ws Lost = stops 11 ws

unfoldable pub visit_of : ℕ → ℕ → Primary → Marks → List ℕ → Went
visit_of end s p m ws = pick (eqb p.0 0) (went (Ok m) ws) (visit_case end p m ws (look_of ws s p))

-- a pending object: its replica has the filled slots to copy
abbrev pub pending_case : ℕ → Primary → ℕ → Marks → List ℕ → Look → Went
pending_case end p f m ws (White len) = pick (ltb len f) (stops 11 ws) (placing end p len f m ws)
pending_case end p f m ws Claimed = stops 11 ws
pending_case end p f m ws (Forwarded r len) = stops 11 ws
pending_case end p f m ws Lost = stops 11 ws

unfoldable pub visit_pending_of : ℕ → ℕ → Option Making → Marks → List ℕ → Went
visit_pending_of end s None m ws = went (Ok m) ws
visit_pending_of end s (Some d) m ws = pending_case end d.at d.filled m ws (look_of ws s d.at)

abbrev pub pending_pass : ℕ → ℕ → Task → Marks → List ℕ → Went
pending_pass end s e m ws = visit_pending_of end s e.pending m ws

abbrev pub register_pass : ℕ → ℕ → Task → Marks → List ℕ → Went
register_pass end s e m ws = pass_of (visit_of end s) e.regs m ws

-- the space to come, with A at its bottom, an empty stack, no job and no copy
abbrev pub empty_space : Bool → ℕ → Marks
empty_space upper h = marks_at (bottom_of (not upper) h) (end_of (not upper) h) 0 0

abbrev pub tasks_of : Table → List Task
tasks_of t = take t.limits.p t.tasks

unfoldable pub passes_of : Table → List ℕ → Went
passes_of t ws =
    next
    (next
    (pass_of (pending_pass (end_of (not t.upper) t.limits.h) t.limits.s) (tasks_of t) (empty_space t.upper t.limits.h) ws)
    (pass_of (visit_of (end_of (not t.upper) t.limits.h) t.limits.s) t.roots))
    (pass_of (register_pass (end_of (not t.upper) t.limits.h) t.limits.s) (tasks_of t))

-- "Each New that stood waiting goes on in the collecting rules"
unfoldable pub unasked : Place → Place
unasked Idle = Idle
unasked (New want) = New want
unasked (Asked want) = New want
unasked (FillWrite v) = FillWrite v
unasked (FillCopy c) = FillCopy c
unasked (StoreWrite v) = StoreWrite v
unasked (Meet v) = Meet v
unasked (StoreCopy c) = StoreCopy c
unasked (Take n) = Take n
unasked (Read n job) = Read n job
unasked (Put n job c) = Put n job c
unasked (Release n job) = Release n job
unasked (Looking p then) = Looking p then
unasked (Placing p then) = Placing p then

unfoldable pub unasked_entry : Task → Task
unasked_entry e = entry e.regs e.pending e.storing (unasked e.place)

-- the spaces change roles, the collector is on
abbrev pub flipped : Table → Marks → Table
flipped t m =
    keeping t (not t.upper) true m t.life t.roots (first_of t.limits.p unasked_entry t.tasks)

abbrev pub flip_end : Table → Result Marks Refusal → Outcome
flip_end t (Ok m) = out (flipped t m) Moved
flip_end t (Err x) = refused t x

unfoldable pub flip_of : Table → List ℕ → Ends
flip_of t ws = ends (flip_end t (passes_of t ws).pass) (passes_of t ws).words
