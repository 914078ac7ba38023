-- Where the space in use lies: its first word, its end, and both inside the buffer.
use Rattle.std.specs.Prelude.{ℕ, ◌≤◌, List, length}
use Rattle.std.proofs.Common.{arith}
use Rattle.table.specs.declared.Table.{Table}
use Rattle.machine.proofs.Objects.State.{State}
use Rattle.machine.proofs.Agree.MidwayRead.{space_high}
use Rattle.machine.specs.Agree.Agree.{end}
use Rattle.machine.proofs.Agree.Agree.{Agree}

pub end_inside : {K : ℕ → Type 0} {pa ra : ℕ → ℕ} {o : State} {t : Table} {ws : List ℕ} → Agree K pa ra o t ws → end t ≤ length ws
end_inside {K} {pa} {ra} {o} {t} {ws} k = omega (arith, space_high t.upper t.limits.h, k.sized.size)

-- the marks, in their order
pub top_high : {K : ℕ → Type 0} {pa ra : ℕ → ℕ} {o : State} {t : Table} {ws : List ℕ} → Agree K pa ra o t ws → t.marks.top ≤ end t
top_high {K} {pa} {ra} {o} {t} {ws} k = omega (arith, k.marked.stack)

pub a_high : {K : ℕ → Type 0} {pa ra : ℕ → ℕ} {o : State} {t : Table} {ws : List ℕ} → Agree K pa ra o t ws → t.marks.a ≤ t.marks.top
a_high {K} {pa} {ra} {o} {t} {ws} k = omega (arith, k.marked.free)
