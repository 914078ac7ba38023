-- The end of an instruction, and the switch-over.
use Rattle.std.specs.Prelude.{ℕ, List, Bool, true, false, set, take, eqb, Option, Some, None}
use Rattle.table.specs.declared.Primary.{Primary}
use Rattle.table.specs.declared.Marks.{Marks}
use Rattle.table.specs.declared.Making.{Making}
use Rattle.table.specs.declared.Place.TheVariants.{Idle}
use Rattle.table.specs.declared.Task.{Task}
use Rattle.table.specs.declared.Table.{Table}
use Rattle.table.specs.declared.Look.{Look}
use Rattle.table.specs.declared.Look.TheVariants.{White, Claimed, Forwarded, Lost}
use Rattle.table.specs.declared.Answer.{Answer}
use Rattle.table.specs.declared.Outcome.{Outcome}
use Rattle.machine.specs.Basics.{pick, all_of, first_of}
use Rattle.machine.specs.Words.{primary, look_of, end_of}
use Rattle.machine.specs.Entries.{entry, task_at, out, no, Ends, ends, entered, keeping, pending_with}
use Rattle.machine.specs.Tasks.{grey_of, all_idle}

-- what a pointer becomes: its replica, and nil stays nil
abbrev pub replica_in : Primary → Look → Primary
replica_in p (White len) = p
replica_in p Claimed = p
replica_in p (Forwarded r len) = primary r.0
replica_in p Lost = p

unfoldable pub new_name : List ℕ → ℕ → Primary → Primary
new_name ws s p = pick (eqb p.0 0) p (replica_in p (look_of ws s p))

abbrev pub is_forwarded : Look → Bool
is_forwarded (White len) = false
is_forwarded Claimed = false
is_forwarded (Forwarded r len) = true
is_forwarded Lost = false

unfoldable pub has_replica : List ℕ → ℕ → Primary → Bool
has_replica ws s p = pick (eqb p.0 0) true (is_forwarded (look_of ws s p))

unfoldable pub new_pending : List ℕ → ℕ → Option Making → Option Making
new_pending ws s None = None
new_pending ws s (Some d) = pending_with (new_name ws s d.at) d.register d.len d.filled

unfoldable pub pending_has_replica : List ℕ → ℕ → Option Making → Bool
pending_has_replica ws s None = true
pending_has_replica ws s (Some d) = has_replica ws s d.at

unfoldable pub new_entry : List ℕ → ℕ → Task → Task
new_entry ws s e = entry (first_of 8 (new_name ws s) e.regs) (new_pending ws s e.pending) e.storing e.place

unfoldable pub entry_has_replicas : List ℕ → ℕ → Task → Bool
entry_has_replicas ws s e =
    pick (pending_has_replica ws s e.pending) (all_of (has_replica ws s) (take 8 e.regs)) false

-- every register, root and pending pointer its replica, and the collector off
abbrev pub switched : Table → List ℕ → Table
switched t ws =
    keeping t t.upper false t.marks t.life
    (first_of 8 (new_name ws t.limits.s) t.roots)
    (first_of t.limits.p (new_entry ws t.limits.s) t.tasks)

-- t, the table after the action, switched over; or `came`, the table before it, dead for a pointer without replica
unfoldable pub switch_of : Table → Table → List ℕ → Answer → Outcome
switch_of came t ws x =
    pick (all_of (has_replica ws t.limits.s) (take 8 t.roots))
    (pick (all_of (entry_has_replicas ws t.limits.s) (take t.limits.p t.tasks))
    (out (switched t ws) x)
    (no came 11))
    (no came 11)

-- the collector on, nothing grey and all tasks idle
unfoldable pub switch_due : Table → Bool
switch_due t =
    pick t.on
    (pick (grey_of t.marks (end_of t.upper t.limits.h) t.tasks t.limits.p) false (all_idle t.tasks t.limits.p))
    false

-- the task idle; a pending object with all its slots filled goes to its register
abbrev pub ended_entry : List Primary → Option Making → Task
ended_entry regs None = entry regs None None Idle
ended_entry regs (Some d) =
    pick (eqb d.filled d.len) (entry (set regs d.register d.at) None None Idle) (entry regs (Some d) None Idle)

abbrev pub ended_table : Table → ℕ → Marks → Option Making → Table
ended_table t i m pending = entered t m i (ended_entry (task_at t i).regs pending)

abbrev pub switched_or : Table → Table → List ℕ → Answer → Outcome
switched_or came t ws x = pick (switch_due t) (switch_of came t ws x) (out t x)

-- the instruction of task i ends in this step, with an answer: the action left these marks, this pending object, these words
unfoldable pub finish_of : Table → List ℕ → ℕ → Marks → Option Making → Answer → Ends
finish_of t ws i m pending x = ends (switched_or t (ended_table t i m pending) ws x) ws
