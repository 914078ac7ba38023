-- Tables and task entries with some of their parts changed, and how a call ends.
use Rattle.std.specs.Prelude.{ℕ, List, [], Bool, true, get_or, set, ltb, Option, Some, None}
use Rattle.table.specs.declared.Primary.{Primary}
use Rattle.table.specs.declared.Limits.{Limits}
use Rattle.table.specs.declared.Marks.{Marks}
use Rattle.table.specs.declared.Making.{Making}
use Rattle.table.specs.declared.Slot.{Slot}
use Rattle.table.specs.declared.Place.{Place}
use Rattle.table.specs.declared.Place.TheVariants.{Idle}
use Rattle.table.specs.declared.Task.{Task}
use Rattle.table.specs.declared.Life.{Life}
use Rattle.table.specs.declared.Life.TheVariants.{Spent, Broken}
use Rattle.table.specs.declared.Table.{Table}
use Rattle.table.specs.declared.Refusal.{Refusal}
use Rattle.table.specs.declared.Answer.{Answer}
use Rattle.table.specs.declared.Answer.TheVariants.{No}
use Rattle.table.specs.declared.Outcome.{Outcome}
use Rattle.machine.specs.Words.{slot_at}
use Rattle.machine.specs.Numbers.{refusal, Effect, harmless, ends_new, spends, breaks, effect_of}

-- a pending object, the slot of a Store, a task entry, a table and the marks, by their parts
abbrev pub pending_with : Primary → ℕ → ℕ → ℕ → Option Making
pending_with p r len f = Some (record { at = p; register = r; len = len; filled = f })

abbrev pub storing_on : Primary → ℕ → Option Slot
storing_on x i = Some (slot_at x i)

abbrev pub entry : List Primary → Option Making → Option Slot → Place → Task
entry regs pending storing place = record { regs = regs; pending = pending; storing = storing; place = place }

abbrev pub table : Limits → Bool → Bool → Marks → Life → List Primary → List Task → Table
table limits upper on marks life roots tasks =
    record { limits = limits; upper = upper; on = on; marks = marks; life = life; roots = roots; tasks = tasks }

-- t with these parts: its limits stay as set-up made them
abbrev pub keeping : Table → Bool → Bool → Marks → Life → List Primary → List Task → Table
keeping t upper on marks life roots tasks = table t.limits upper on marks life roots tasks

abbrev pub marks_at : ℕ → ℕ → ℕ → ℕ → Marks
marks_at a top j copies = record { a = a; top = top; j = j; copies = copies }

abbrev pub no_task : Task
no_task = entry [] None None Idle

abbrev pub task_at : Table → ℕ → Task
task_at t i = get_or t.tasks i no_task

abbrev pub nil : Primary
nil = record { 0 = 0 }

abbrev pub register : Task → ℕ → Primary
register e r = get_or e.regs r nil

-- the register that a pending object goes to is one
abbrev pub pending_ok : Option Making → Bool
pending_ok None = true
pending_ok (Some d) = ltb d.register 8

-- the marks and one entry changed
abbrev pub entered : Table → Marks → ℕ → Task → Table
entered t m i e = keeping t t.upper t.on m t.life t.roots (set t.tasks i e)

unfoldable pub with_task : Table → ℕ → Task → Table
with_task t i e = entered t t.marks i e

unfoldable pub with_place : Table → ℕ → Place → Table
with_place t i place = with_task t i (entry (task_at t i).regs (task_at t i).pending (task_at t i).storing place)

-- the task has moved to a place, with these marks and this pending object
unfoldable pub moved_table : Table → ℕ → Marks → Option Making → Place → Table
moved_table t i m pending place = entered t m i (entry (task_at t i).regs pending (task_at t i).storing place)

unfoldable pub with_register : Table → ℕ → ℕ → Primary → Table
with_register t i r p =
    with_task t i (entry (set (task_at t i).regs r p) (task_at t i).pending (task_at t i).storing (task_at t i).place)

abbrev pub with_roots : Table → List Primary → Table
with_roots t roots = keeping t t.upper t.on t.marks t.life roots t.tasks

unfoldable pub with_root : Table → ℕ → Primary → Table
with_root t r p = with_roots t (set t.roots r p)

abbrev pub with_life : Table → Life → Table
with_life t life = keeping t t.upper t.on t.marks life t.roots t.tasks

abbrev pub out : Table → Answer → Outcome
out t x = record { table = t; answer = x }

-- "10 and 11 leave the table as it came but marked dead", the others as it came
abbrev pub marked : Table → Effect → Table
marked t harmless = t
marked t ends_new = t
marked t spends = with_life t Spent
marked t breaks = with_life t Broken

abbrev pub refused : Table → Refusal → Outcome
refused t x = out (marked t (effect_of x)) (No x)

-- a refusal by 01's number
abbrev pub no : Table → ℕ → Outcome
no t n = refused t (refusal n)

-- how a call ends: table and answer, and every word of the buffer
pub record Ends : Type 0 where
  pub out : Outcome
  pub words : List ℕ

abbrev pub ends : Outcome → List ℕ → Ends
ends o ws = record { out = o; words = ws }
