-- What a call gives by its opening.
use Rattle.std.specs.Prelude.{ℕ, ◌≡◌, List, Bool, true, false, length, ltb, Result, Ok, Err}
use Rattle.std.proofs.Common.{refl}
use Rattle.table.specs.declared.Table.{Table}
use Rattle.table.specs.declared.Task.{Task}
use Rattle.table.specs.declared.Refusal.{Refusal}
use Rattle.table.specs.declared.Outcome.{Outcome}
use Rattle.machine.specs.Basics.{pick, Gate}
use Rattle.machine.specs.Numbers.{refusal}
use Rattle.machine.specs.Entries.{no, task_at}
use Rattle.machine.specs.Gate.{behind, through, call_gate, pair_gate, pair_gate_of}
use Rattle.machine.specs.Complete.{idle_at, with_two}
use Rattle.opening.specs.Turn.{turn_behind, turn_of, turned_or}

-- a call without a register, and one with a single register, by the gate of two
none_named : (g : Gate) (t : Table) (o : Outcome) → through g t o ≡ through (behind g (Ok tt)) t o
none_named (Ok u) t o = refl
none_named (Err x) t o = refl

one_named : (g : Gate) (b : Bool) (t : Table) (o : Outcome) → through g t (pick b (no t 3) o) ≡ through (behind g (pick b (Err (refusal 3)) (pick b (Err (refusal 3)) (Ok tt)))) t o
one_named (Ok u) true t o = refl
one_named (Ok u) false t o = refl
one_named (Err x) b t o = refl

module _ (t : Table) (ws : List ℕ) (task : ℕ) where
  pub no_register : (o : Outcome) → through (call_gate t ws task) t o ≡ through (pair_gate t ws task 0 0) t o
  unfolding pair_gate_of
  no_register o = none_named (call_gate t ws task) t o

  pub one_register : (r : ℕ) (o : Outcome) → through (call_gate t ws task) t (pick (ltb 7 r) (no t 3) o) ≡ through (pair_gate t ws task r r) t o
  unfolding pair_gate_of
  one_register r o = one_named (call_gate t ws task) (ltb 7 r) t o

-- a call gives what its opening leaves of o
turned : (g : Gate) (t : Table) (task : ℕ) (o : Outcome) → through g t (pick (idle_at t task) o (no t 6)) ≡ turned_or (turn_behind g t task) t o
turned (Err x) t task o = refl
turned (Ok u) t task o = on (idle_at t task)
  where
    on : (b : Bool) → pick b o (no t 6) ≡ turned_or (pick b (Ok (task_at t task)) (Err (refusal 6))) t o
    on true = refl
    on false = refl

pub by_opening : (t : Table) (ws : List ℕ) (task a b : ℕ) (r : Result Task Refusal) → r ≡ turn_of t (length ws) task a b → (o : Outcome)
    → with_two t ws task a b o ≡ turned_or r t o
by_opening t ws task a b r e o = rw e (turned (pair_gate t ws task a b) t task o)
