-- What every call tests first: limits and buffer (1), the dead number, the table's numbers (11), the task (2).
use Rattle.std.specs.Prelude.{ℕ, ◌+◌, ◌-◌, ◌*◌, List, Bool, true, false, length, ltb, eqb, Ok, Err}
use Rattle.table.specs.declared.Limits.{Limits}
use Rattle.table.specs.declared.Marks.{Marks}
use Rattle.table.specs.declared.Life.{Life}
use Rattle.table.specs.declared.Life.TheVariants.{Living, Spent, Broken}
use Rattle.table.specs.declared.Table.{Table}
use Rattle.table.specs.declared.Outcome.{Outcome}
use Rattle.machine.specs.Basics.{pick, Gate}
use Rattle.machine.specs.Numbers.{refusal}
use Rattle.machine.specs.Words.{bottom_of, end_of}
use Rattle.machine.specs.Entries.{refused}

-- P 1 to 8, S 1 to 255, H 64 to 8190, k 1 to 16
unfoldable pub limits_ok : Limits → Bool
limits_ok l =
    pick (ltb l.p 1) false
    (pick (ltb 8 l.p) false
    (pick (ltb l.s 1) false
    (pick (ltb 255 l.s) false
    (pick (ltb l.h 64) false
    (pick (ltb 8190 l.h) false
    (pick (ltb l.k 1) false
    (pick (ltb 16 l.k) false true)))))))

-- the limits, and a buffer of exactly 2+2H words
unfoldable pub sizes_ok : Limits → ℕ → Bool
sizes_ok l n = pick (limits_ok l) (eqb n (2 + 2 * l.h)) false

-- bottom ≤ A, A + J ≤ top ≤ end, J at most P, copies at most H
unfoldable pub marks_ok : Limits → Bool → Marks → Bool
marks_ok l upper m =
    pick (ltb m.a (bottom_of upper l.h)) false
    (pick (ltb (end_of upper l.h) m.top) false
    (pick (ltb m.top m.a) false
    (pick (ltb (m.top - m.a) m.j) false
    (pick (ltb l.p m.j) false
    (pick (ltb l.h m.copies) false true)))))

-- the dead number, or what the tests behind it give
abbrev pub living_or : Life → Gate → Gate
living_or Living g = g
living_or Spent g = Err (refusal 10)
living_or Broken g = Err (refusal 11)

unfoldable pub gate_of : Limits → Life → Bool → Marks → ℕ → Gate
gate_of l life upper m n =
    pick (sizes_ok l n) (living_or life (pick (marks_ok l upper m) (Ok tt) (Err (refusal 11)))) (Err (refusal 1))

-- a gate, and behind it another
abbrev pub behind : Gate → Gate → Gate
behind (Ok u) g = g
behind (Err x) g = Err x

-- no such task
unfoldable pub task_gate_of : Limits → Life → Bool → Marks → ℕ → ℕ → Gate
task_gate_of l life upper m n task = behind (gate_of l life upper m n) (pick (ltb task l.p) (Ok tt) (Err (refusal 2)))

-- a register or root above 7
unfoldable pub pair_gate_of : Limits → Life → Bool → Marks → ℕ → ℕ → ℕ → ℕ → Gate
pair_gate_of l life upper m n task a b =
    behind (task_gate_of l life upper m n task)
    (pick (ltb 7 a) (Err (refusal 3)) (pick (ltb 7 b) (Err (refusal 3)) (Ok tt)))

-- what the tests behind the gate give, or the gate's refusal
abbrev pub through : Gate → Table → Outcome → Outcome
through (Ok u) t o = o
through (Err x) t o = refused t x

abbrev pub table_gate : Table → List ℕ → Gate
table_gate t ws = gate_of t.limits t.life t.upper t.marks (length ws)

abbrev pub call_gate : Table → List ℕ → ℕ → Gate
call_gate t ws task = task_gate_of t.limits t.life t.upper t.marks (length ws) task

abbrev pub pair_gate : Table → List ℕ → ℕ → ℕ → ℕ → Gate
pair_gate t ws task a b = pair_gate_of t.limits t.life t.upper t.marks (length ws) task a b
