-- The gate of a call that needs its task idle, and what it gives: the task's entry.
use Rattle.std.specs.Prelude.{ℕ, ◌≡◌, ◌≤◌, ◌<◌, Result, Ok, Err}
use Rattle.table.specs.declared.Table.{Table}
use Rattle.table.specs.declared.Task.{Task}
use Rattle.table.specs.declared.Refusal.{Refusal}
use Rattle.table.specs.declared.Outcome.{Outcome}
use Rattle.machine.specs.Basics.{pick, Gate}
use Rattle.machine.specs.Numbers.{refusal}
use Rattle.machine.specs.Entries.{task_at, refused}
use Rattle.machine.specs.Gate.{pair_gate_of}
use Rattle.machine.specs.Complete.{idle_at}

-- behind a gate, out of turn (6): the task's place is not `Idle`
abbrev pub turn_behind : Gate → Table → ℕ → Result Task Refusal
turn_behind (Ok u) t task = pick (idle_at t task) (Ok (task_at t task)) (Err (refusal 6))
turn_behind (Err x) t task = Err x

abbrev pub turn_of : Table → ℕ → ℕ → ℕ → ℕ → Result Task Refusal
turn_of t n task a b = turn_behind (pair_gate_of t.limits t.life t.upper t.marks n task a b) t task

-- what it shows of the numbers of a call that may go on
pub record Admits (t : Table) (task a b : ℕ) : Type 0 where
  pub task_high : task < 8
  pub a_high : a < 8
  pub b_high : b < 8
  pub p_high : t.limits.p ≤ 8
  pub h_high : t.limits.h ≤ 8190

abbrev pub Turned : Result Task Refusal → Table → ℕ → ℕ → ℕ → Type 0
Turned (Ok e) t task a b = Admits t task a b × (e ≡ task_at t task)
Turned (Err x) t task a b = Unit {0}

-- what the tests behind it give, or its refusal
abbrev pub turned_or : Result Task Refusal → Table → Outcome → Outcome
turned_or (Ok e) t o = o
turned_or (Err x) t o = refused t x
