-- Calls in a row: as long as the heap is not exhausted, table and store stand side by side.
use Rattle.std.specs.Prelude.{ℕ, ◌<◌, ◌≡◌, refl, ◌⊎◌, List, [], ◌∷◌, Bool, Ok, Err}
use Rattle.std.proofs.Common.{ap, inl, ltb-true}
use Rattle.std.proofs.Math.Logic.{inr}
use Rattle.std.proofs.Math.Bool.{true, false}
use Rattle.std.proofs.Math.Dec.{ltb}
use Rattle.table.specs.declared.Limits.{Limits}
use Rattle.table.specs.declared.Task.{Task}
use Rattle.table.specs.declared.Table.{Table}
use Rattle.table.specs.declared.Refusal.TheVariants.{Exhausted}
use Rattle.table.specs.declared.Answer.{Answer}
use Rattle.table.specs.declared.Answer.TheVariants.{No}
use Rattle.machine.specs.History.{History, history_after, history_of}
use Rattle.machine.specs.Basics.{pick}
use Rattle.machine.specs.Numbers.{refusal}
use Rattle.machine.specs.Entries.{task_at, no, Ends, ends}
use Rattle.machine.specs.Step.{step_through, task_step_of, step_of}
use Rattle.machine.specs.Call.{Call}
use Rattle.machine.specs.Calls.{then, run}
use Rattle.machine.specs.StillStore.{Store, happen_all}
use Rattle.machine.specs.Kinds.{follows, beside, step_kinds}
use Rattle.machine.proofs.Agree.Gates.{call_gate_lem}
use Rattle.machine.specs.Beside.Room.{WantsRoom}
use Rattle.machine.proofs.Beside.Histories.{as_it_was, no_copy, history_is}
use Rattle.machine.proofs.Beside.Good.{Good, Undamaged, Fine, Comes}
use Rattle.machine.proofs.Beside.Glue.{entry_of}
use Rattle.machine.proofs.Beside.Steps.{step_at}
use Rattle.machine.proofs.Beside.Calls.{call_keeps}
use Rattle.machine.specs.Beside.Run.{Spends, Living}
use Rattle.machine.proofs.Beside.SlotsStay.{told_step}

-- the answer is neither 10 nor 11, and 9 only comes to a step of a New for want of room
abbrev pub Well : Call → Table → Answer → Type 0
Well (Call.New task r len m) t x = Undamaged x
Well (Call.Fill task w) t x = Undamaged x
Well (Call.FillPointer task r) t x = Undamaged x
Well (Call.Load task to from slot) t x = Undamaged x
Well (Call.Store task o slot w) t x = Undamaged x
Well (Call.StorePointer task o slot r) t x = Undamaged x
Well (Call.Move task to from) t x = Undamaged x
Well (Call.Clear task r) t x = Undamaged x
Well (Call.Same task a b) t x = Undamaged x
Well (Call.Put task root r) t x = Undamaged x
Well (Call.Get task r root) t x = Undamaged x
Well (Call.Step task) t x = Fine t (task_at t task).place x
Well Call.Report t x = Undamaged x

-- what one call more makes of table and store
abbrev pub Proceeds : Limits → Store → History → Call → Ends → Type 1
Proceeds l w hy c e =
    (((then c e).out.answer ≡ No Exhausted) × Spends c e.out.table e.words)
    ⊎ (Good l (follows w c e (then c e)) (history_after c e (then c e) hy) (then c e).out.table (then c e).words × Well c e.out.table (then c e).out.answer)

module _ {l : Limits} {w : Store} {hy : History} {t : Table} {ws : List ℕ} (g : Good l w hy t ws) (i : ℕ) where
  -- a step of one of the tasks, and of none
  task_comes : i < t.limits.p → Comes l w hy t ws i (task_at t i).place (WantsRoom t ws i (task_at t i).place) (task_step_of t ws i)
  task_comes ip =
      rw (ap (λ (e : Task). e.place) (entry_of g i ip)) (step_at g i ip (g.objects.tasks i).place refl)

  step_comes : Comes l w hy t ws i (task_at t i).place (WantsRoom t ws i (task_at t i).place) (step_of t ws i)
  unfolding step_of happen_all
  step_comes = rw (call_gate_lem g.agree g.long i) (on (ltb i t.limits.p) refl)
    where
      on : (b : Bool) → ltb i t.limits.p ≡ b
          → Comes l w hy t ws i (task_at t i).place (WantsRoom t ws i (task_at t i).place) (step_through (pick b (Ok tt) (Err (refusal 2))) t ws (task_step_of t ws i))
      on true e = task_comes (ltb-true i t.limits.p e)
      on false e =
          inr (rw (history_is t ws (task_at t i).place (ends (no t 2) ws) hy hy.copies (as_it_was t.on) (no_copy (task_at t i).place (no t 2).answer hy.copies refl)) g, tt)

-- a step, told to the store
step_proceeds : (l : Limits) (w : Store) (hy : History) (i : ℕ) (e : Ends) → Good l w hy e.out.table e.words → Proceeds l w hy (Call.Step i) e
step_proceeds l w hy i e g = on (step_comes g i)
  where
    on : Comes l w hy e.out.table e.words i (task_at e.out.table i).place (WantsRoom e.out.table e.words i (task_at e.out.table i).place) (step_of e.out.table e.words i)
        → Proceeds l w hy (Call.Step i) e
    on (inl h) = inl h
    on (inr h) =
        inr (
          rw
              (told_step w i (step_of e.out.table e.words i).out.answer
              (step_kinds (step_of e.out.table e.words i).out.answer (task_at e.out.table i).place (task_at (step_of e.out.table e.words i).out.table i).place))
              h.0,
          h.1,
        )

pub proceeds : (l : Limits) (w : Store) (hy : History) (c : Call) (e : Ends) → Good l w hy e.out.table e.words → Proceeds l w hy c e
proceeds l w hy (Call.New task r len m) e g = inr (call_keeps g (Call.New task r len m) tt)
proceeds l w hy (Call.Fill task v) e g = inr (call_keeps g (Call.Fill task v) tt)
proceeds l w hy (Call.FillPointer task r) e g = inr (call_keeps g (Call.FillPointer task r) tt)
proceeds l w hy (Call.Load task to from slot) e g = inr (call_keeps g (Call.Load task to from slot) tt)
proceeds l w hy (Call.Store task o slot v) e g = inr (call_keeps g (Call.Store task o slot v) tt)
proceeds l w hy (Call.StorePointer task o slot r) e g = inr (call_keeps g (Call.StorePointer task o slot r) tt)
proceeds l w hy (Call.Move task to from) e g = inr (call_keeps g (Call.Move task to from) tt)
proceeds l w hy (Call.Clear task r) e g = inr (call_keeps g (Call.Clear task r) tt)
proceeds l w hy (Call.Same task a b) e g = inr (call_keeps g (Call.Same task a b) tt)
proceeds l w hy (Call.Put task root r) e g = inr (call_keeps g (Call.Put task root r) tt)
proceeds l w hy (Call.Get task r root) e g = inr (call_keeps g (Call.Get task r root) tt)
proceeds l w hy (Call.Step task) e g = step_proceeds l w hy task e g
proceeds l w hy Call.Report e g = inr (call_keeps g Call.Report tt)

pub good_run : (l : Limits) (cs : List Call) (e : Ends) (w : Store) (hy : History) → Good l w hy e.out.table e.words → Living cs e
    → Good l (beside cs e w) (history_of cs e hy) (run cs e).out.table (run cs e).words
unfolding run beside history_of
good_run l [] e w hy g h = g
good_run l (c ∷ cs) e w hy g h = on (λ k. good_run l cs (then c e) (follows w c e (then c e)) (history_after c e (then c e) hy) k h.1) (proceeds l w hy c e g)
  where
    on : (Good l (follows w c e (then c e)) (history_after c e (then c e) hy) (then c e).out.table (then c e).words
        → Good l (beside cs (then c e) (follows w c e (then c e))) (history_of cs (then c e) (history_after c e (then c e) hy)) (run cs (then c e)).out.table (run cs (then c e)).words)
        → Proceeds l w hy c e → Good l (beside cs (then c e) (follows w c e (then c e))) (history_of cs (then c e) (history_after c e (then c e) hy)) (run cs (then c e)).out.table (run cs (then c e)).words
    on f (inl q) = absurd (h.0 q.0)
    on f (inr q) = f q.0
