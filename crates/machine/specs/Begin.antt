-- Begin of New, Fill and Store.
use Rattle.std.specs.Prelude.{ℕ, ◌+◌, List, Bool, true, false, not, get_or, ltb, leb, eqb, Option, Some, None}
use Rattle.table.specs.declared.Primary.{Primary}
use Rattle.table.specs.declared.Descriptor.{Descriptor}
use Rattle.table.specs.declared.Making.{Making}
use Rattle.table.specs.declared.Operand.{Operand}
use Rattle.table.specs.declared.Operand.TheVariants.{Plain, Pointer}
use Rattle.table.specs.declared.Then.TheVariants.{ToWrite}
use Rattle.table.specs.declared.Place.{Place}
use Rattle.table.specs.declared.Place.TheVariants.{New, FillWrite, StoreWrite, Looking}
use Rattle.table.specs.declared.Table.{Table}
use Rattle.table.specs.declared.Answer.TheVariants.{Accepted}
use Rattle.table.specs.declared.Outcome.{Outcome}
use Rattle.machine.specs.Basics.{pick}
use Rattle.machine.specs.Words.{primary, object_of, end_of, wanted}
use Rattle.machine.specs.Entries.{entry, task_at, register, with_task, with_place, out, no, storing_on}
use Rattle.machine.specs.Gate.{through, call_gate, pair_gate}
use Rattle.machine.specs.Tasks.{held_of, slot_taken}
use Rattle.machine.specs.Complete.{idle_at}

-- a flip is asked, or the heap is closing
abbrev pub held_at : Table → Bool
held_at t = held_of t.on t.marks (end_of t.upper t.limits.h) t.tasks t.limits.p

-- the task begun
abbrev pub begun : Table → ℕ → Place → Outcome
begun t i place = out (with_place t i place) Accepted

-- New: register at most 7, L at most S, m at most L
unfoldable pub new_ok : ℕ → ℕ → ℕ → ℕ → Bool
new_ok s r len m = pick (ltb 7 r) false (pick (ltb s len) false (pick (ltb len m) false true))

abbrev pub if_nothing : Option Making → Outcome → Outcome → Outcome
if_nothing None o x = o
if_nothing (Some d) o x = x

unfoldable pub begin_new_of : Table → List ℕ → ℕ → ℕ → ℕ → ℕ → Outcome
begin_new_of t ws task r len m =
    through (call_gate t ws task) t
    (pick (new_ok t.limits.s r len m)
    (pick (idle_at t task)
    (if_nothing (task_at t task).pending
    (pick (held_at t) (no t 7) (begun t task (New (wanted r len m))))
    (no t 6))
    (no t 6))
    (no t 3))

-- Fill: the next slot is to be a pointer exactly if a pointer is given
abbrev pub is_pointer : Operand Primary → Bool
is_pointer (Plain w) = false
is_pointer (Pointer p) = true

abbrev pub same_test : Bool → Bool → Bool
same_test true b = b
same_test false b = not b

abbrev pub fill_slot : Table → ℕ → ℕ → Operand Primary → Option Descriptor → Outcome
fill_slot t task f v (Some o) =
    pick (leb o.len f) (no t 11)
    (pick (same_test (is_pointer v) (ltb f o.m)) (begun t task (FillWrite v)) (no t 5))
fill_slot t task f v None = no t 11

abbrev pub fill_pending : Table → List ℕ → ℕ → Operand Primary → Option Making → Outcome
fill_pending t ws task v None = no t 6
fill_pending t ws task v (Some d) = pick (held_at t) (no t 7) (fill_slot t task d.filled v (object_of ws t.limits.s d.at))

unfoldable pub fill_from : Table → List ℕ → ℕ → Operand Primary → Outcome
fill_from t ws task v = pick (idle_at t task) (fill_pending t ws task v (task_at t task).pending) (no t 6)

unfoldable pub begin_fill_of : Table → List ℕ → ℕ → ℕ → Outcome
begin_fill_of t ws task w = through (call_gate t ws task) t (fill_from t ws task (Plain w))

unfoldable pub begin_fill_pointer_of : Table → List ℕ → ℕ → ℕ → Outcome
begin_fill_pointer_of t ws task r =
    through (call_gate t ws task) t
    (pick (ltb 7 r) (no t 3) (fill_from t ws task (Pointer (register (task_at t task) r))))

-- Store: while collecting, a non-nil old pointer is looked at first
abbrev pub store_place : Bool → ℕ → Operand Primary → Place
store_place on old (Plain w) = StoreWrite (Plain w)
store_place on old (Pointer p) = pick on (pick (eqb old 0) (StoreWrite (Pointer p)) (Looking (primary old) (ToWrite (Pointer p)))) (StoreWrite (Pointer p))

abbrev pub storing : Table → ℕ → Primary → ℕ → Place → Outcome
storing t task x slot place = out (with_task t task (entry (task_at t task).regs (task_at t task).pending (storing_on x slot) place)) Accepted

abbrev pub store_slot : Table → List ℕ → ℕ → Primary → ℕ → Operand Primary → Option Descriptor → Outcome
store_slot t ws task x slot v (Some o) =
    pick (leb o.len slot) (no t 5)
    (pick (same_test (is_pointer v) (ltb slot o.m))
    (pick (slot_taken t.tasks t.limits.p task x slot) (no t 8)
    (storing t task x slot (store_place t.on (get_or ws (x.0 + slot) 0) v)))
    (no t 5))
store_slot t ws task x slot v None = no t 11

unfoldable pub store_from : Table → List ℕ → ℕ → Primary → ℕ → Operand Primary → Outcome
store_from t ws task x slot v =
    pick (idle_at t task)
    (pick (held_at t) (no t 7)
    (pick (eqb x.0 0) (no t 4)
    (store_slot t ws task x slot v (object_of ws t.limits.s x))))
    (no t 6)

unfoldable pub begin_store_of : Table → List ℕ → ℕ → ℕ → ℕ → ℕ → Outcome
begin_store_of t ws task o slot w =
    through (call_gate t ws task) t
    (pick (ltb 7 o) (no t 3) (store_from t ws task (register (task_at t task) o) slot (Plain w)))

unfoldable pub begin_store_pointer_of : Table → List ℕ → ℕ → ℕ → ℕ → ℕ → Outcome
begin_store_pointer_of t ws task o slot r =
    through (pair_gate t ws task o r) t
    (store_from t ws task (register (task_at t task) o) slot (Pointer (register (task_at t task) r)))
