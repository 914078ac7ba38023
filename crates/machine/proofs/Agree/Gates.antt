-- What every call tests first, passed: limits and buffer, the dead number, the table's numbers; the task and the registers.
use Rattle.std.specs.Prelude.{ℕ, ◌+◌, ◌-◌, ◌*◌, ◌≤◌, ◌≡◌, List, Bool, true, length, ltb, Ok, Err}
use Rattle.std.proofs.Math.Path.{refl}
use Rattle.std.proofs.Common.{arith, le-ltb, eq-eqb}
use Rattle.table.specs.declared.Limits.{Limits}
use Rattle.table.specs.declared.Marks.{Marks}
use Rattle.table.specs.declared.Table.{Table}
use Rattle.table.specs.declared.Holding.{Holding}
use Rattle.table.specs.declared.Holding.TheVariants.{Rests}
use Rattle.machine.specs.Basics.{pick}
use Rattle.machine.specs.Numbers.{refusal}
use Rattle.machine.specs.Words.{bottom_of, end_of}
use Rattle.machine.specs.Gate.{limits_ok, sizes_ok, marks_ok, gate_of, behind, task_gate_of, pair_gate_of, table_gate, call_gate, pair_gate}
use Rattle.machine.specs.Bounds.{Limited, Sized}
use Rattle.machine.specs.Tasks.{holding_of}
use Rattle.machine.proofs.Objects.Base.{sum_ones}
use Rattle.machine.proofs.Objects.State.{State, jobs_in}
use Rattle.machine.proofs.Agree.Agree.{Agree}
use Rattle.machine.proofs.Agree.Spaces.{top_high}

-- ---- jobs in hand: at most one a task
pub jobs_one : (h : Holding) → jobs_in h ≤ 1
jobs_one Rests = omega arith
jobs_one _ = omega arith

-- ---- the tests, of numbers
limits_ok_lem : (l : Limits) → Limited l → 1 ≤ l.s → limits_ok l ≡ true
unfolding limits_ok
limits_ok_lem l b s =
    rw (
      le-ltb l.p 1 b.p_low,
      le-ltb 8 l.p b.p_high,
      le-ltb l.s 1 s,
      le-ltb 255 l.s b.s_high,
      le-ltb l.h 64 b.h_low,
      le-ltb 8190 l.h b.h_high,
      le-ltb l.k 1 b.k_low,
      le-ltb 16 l.k b.k_high,
    ) refl

pub sizes_ok_lem : (l : Limits) (n : ℕ) → Sized l n → 1 ≤ l.s → sizes_ok l n ≡ true
unfolding sizes_ok
sizes_ok_lem l n z s = rw (limits_ok_lem l z.limited s) (eq-eqb n (2 + 2 * l.h) z.size)

marks_ok_lem : (l : Limits) (upper : Bool) (m : Marks) → bottom_of upper l.h ≤ m.a → m.a + m.j ≤ m.top → m.top ≤ end_of upper l.h → m.j ≤ l.p
    → m.copies ≤ l.h → marks_ok l upper m ≡ true
unfolding marks_ok
marks_ok_lem l upper m a b c d e =
    rw (
      le-ltb m.a (bottom_of upper l.h) a,
      le-ltb (end_of upper l.h) m.top c,
      le-ltb m.top m.a (omega arith),
      le-ltb (m.top - m.a) m.j (omega arith),
      le-ltb l.p m.j d,
      le-ltb l.h m.copies e,
    ) refl

module _ {K : ℕ → Type 0} {pa ra : ℕ → ℕ} {o : State} {t : Table} {ws : List ℕ} (k : Agree K pa ra o t ws) where
  pub jobs_high : t.marks.j ≤ t.limits.p
  jobs_high =
      omega (
        arith,
        k.marked.jobs,
        sum_ones t.limits.p (λ i. jobs_in (holding_of (o.tasks i).place)) (λ i. jobs_one (holding_of (o.tasks i).place)),
      )

  -- the limits that the tests ask for: S is at least 1, which no clause of `Agree` says
  pub table_gate_lem : 1 ≤ t.limits.s → table_gate t ws ≡ Ok tt
  unfolding gate_of
  table_gate_lem s =
      rw (
        sizes_ok_lem t.limits (length ws) k.sized s,
        k.living,
        marks_ok_lem t.limits t.upper t.marks k.marked.based k.marked.free (top_high k) jobs_high k.marked.copies,
      ) refl

  pub call_gate_lem : 1 ≤ t.limits.s → (task : ℕ) → call_gate t ws task ≡ pick (ltb task t.limits.p) (Ok tt) (Err (refusal 2))
  unfolding task_gate_of
  call_gate_lem s task = rw (table_gate_lem s) refl

  pub pair_gate_lem : 1 ≤ t.limits.s → (task a b : ℕ) → pair_gate t ws task a b
      ≡ behind (pick (ltb task t.limits.p) (Ok tt) (Err (refusal 2))) (pick (ltb 7 a) (Err (refusal 3)) (pick (ltb 7 b) (Err (refusal 3)) (Ok tt)))
  unfolding pair_gate_of
  pair_gate_lem s task a b = rw (call_gate_lem s task) refl
