-- Every call but a step: the store that is told of it stands beside the table again, and the answer is not 11; a Load and a Same answer what the store does.
use Rattle.std.specs.Prelude.{ℕ, ◌≡◌, List, []}
use Rattle.table.specs.declared.Limits.{Limits}
use Rattle.table.specs.declared.Table.{Table}
use Rattle.table.specs.declared.Answer.{Answer}
use Rattle.table.specs.declared.Outcome.{Outcome}
use Rattle.machine.specs.History.{History}
use Rattle.machine.specs.Call.{Call}
use Rattle.machine.specs.Calls.{call}
use Rattle.machine.specs.StillStore.{Store, told, load_answer, same_answer}
use Rattle.machine.proofs.Beside.Good.{Good, Undamaged}
use Rattle.machine.proofs.Beside.Completes.{Meant}
use Rattle.machine.proofs.Beside.Registers.{move_meant, clear_meant, put_meant, get_meant, report_meant, same_meant}
use Rattle.machine.proofs.Beside.Loads.{load_meant}
use Rattle.machine.proofs.Beside.Begins.{Keeps, begin_new_keeps, begin_fill_keeps, begin_fill_pointer_keeps}
use Rattle.machine.proofs.Beside.BeginStore.{begin_store_keeps, begin_store_pointer_keeps}

abbrev pub NotStep : Call → Type 0
NotStep (Call.New task r len m) = Unit {0}
NotStep (Call.Fill task w) = Unit {0}
NotStep (Call.FillPointer task r) = Unit {0}
NotStep (Call.Load task to from slot) = Unit {0}
NotStep (Call.Store task o slot w) = Unit {0}
NotStep (Call.StorePointer task o slot r) = Unit {0}
NotStep (Call.Move task to from) = Unit {0}
NotStep (Call.Clear task r) = Unit {0}
NotStep (Call.Same task a b) = Unit {0}
NotStep (Call.Put task root r) = Unit {0}
NotStep (Call.Get task r root) = Unit {0}
NotStep (Call.Step task) = ⊥
NotStep Call.Report = Unit {0}

meant_keeps : {l : Limits} {hy : History} {ws : List ℕ} {f : Answer → Store} {y : Answer} {r : Outcome} → Meant l hy ws f y r → Keeps l hy ws f r
meant_keeps k = (k.good, k.fine)

pub call_keeps : {l : Limits} {w : Store} {hy : History} {t : Table} {ws : List ℕ} → Good l w hy t ws → (c : Call) → NotStep c
    → Good l (told w c (call c t ws).out.answer []) hy (call c t ws).out.table (call c t ws).words × Undamaged (call c t ws).out.answer
call_keeps g (Call.New task r len m) n = begin_new_keeps g task r len m
call_keeps g (Call.Fill task v) n = begin_fill_keeps g task v
call_keeps g (Call.FillPointer task r) n = begin_fill_pointer_keeps g task r
call_keeps g (Call.Load task to from slot) n = meant_keeps (load_meant g task to from slot)
call_keeps g (Call.Store task r slot v) n = begin_store_keeps g task r slot v
call_keeps g (Call.StorePointer task r slot q) n = begin_store_pointer_keeps g task r slot q
call_keeps g (Call.Move task to from) n = meant_keeps (move_meant g task to from)
call_keeps g (Call.Clear task r) n = meant_keeps (clear_meant g task r)
call_keeps g (Call.Same task a b) n = meant_keeps (same_meant g task a b)
call_keeps g (Call.Put task to r) n = meant_keeps (put_meant g task to r)
call_keeps g (Call.Get task r from) n = meant_keeps (get_meant g task r from)
call_keeps g (Call.Step task) n = absurd n
call_keeps g Call.Report n = meant_keeps (report_meant g)

-- ---- the answers
module _ {l : Limits} {w : Store} {hy : History} {t : Table} {ws : List ℕ} (g : Good l w hy t ws) where
  pub load_answers : (task to from slot : ℕ) → (call (Call.Load task to from slot) t ws).out.answer ≡ load_answer w l.p task to from slot
  load_answers task to from slot = rw (← g.limits) (load_meant g task to from slot).answer

  pub same_answers : (task a b : ℕ) → (call (Call.Same task a b) t ws).out.answer ≡ same_answer w l.p task a b
  same_answers task a b = rw (← g.limits) (same_meant g task a b).answer
