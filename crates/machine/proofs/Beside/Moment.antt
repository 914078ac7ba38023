-- The moment of a Store: each that was begun is written exactly once, and none that was not begun; in every run, from any table.
use Rattle.std.specs.Prelude.{ℕ, ◌+◌, ◌<◌, ◌≡◌, refl, ◌⊎◌, List, [], ◌∷◌, Bool, true, false, length, get_or, set, eqb}
use Rattle.std.proofs.Common.{sym, inl, inr, arith, get_or-set_same, eqb-true}
use Rattle.std.proofs.lemmas.Bool.{eqb-false}
use Rattle.table.specs.declared.Task.{Task}
use Rattle.table.specs.declared.Table.{Table}
use Rattle.table.specs.declared.Answer.{Answer}
use Rattle.table.specs.declared.Outcome.{Outcome}
use Rattle.machine.specs.Basics.{pick, first_of}
use Rattle.machine.specs.Entries.{no_task, task_at, Ends}
use Rattle.machine.specs.Switch.{new_entry}
use Rattle.machine.specs.Flip.{unasked_entry}
use Rattle.machine.specs.Call.{Call}
use Rattle.machine.specs.Calls.{then, run}
use Rattle.machine.specs.StillStore.{task_of}
use Rattle.machine.proofs.Beside.Waits.{unasked_waits}
pub use Rattle.machine.specs.Beside.Waits.{waits, writes}
use Rattle.machine.proofs.Beside.Changes.{Answered, stayed, entered, move_entries, clear_entries, put_entries, get_entries, same_entries, load_entries, report_entries, new_entries, fill_entries, fill_pointer_entries, store_entries, store_pointer_entries}
use Rattle.machine.proofs.Beside.StepChanges.{Stepped, stands, goes, flips, switches, Settled}
use Rattle.machine.proofs.Beside.Fair.{step_entries}
use Rattle.machine.specs.Beside.Others.{Untouched}
use Rattle.machine.proofs.Beside.Others.{first_at, entries_long, others, renamed_keeps}
use Rattle.machine.specs.Beside.Moment.{begins, kinds_of, written_in, begun_in, written_by, begun_by}

-- ---- the task that the call names
answered_own : (b : Answer → ℕ) (t : Table) (i : ℕ) (o : Outcome) → i < length t.tasks → Answered b t i o
    → waits (task_at o.table i).place ≡ waits (task_at t i).place + b o.answer
answered_own b t i o l (stayed e a z) = rw (e, z) (omega arith)
answered_own b t i o l (entered x e a z) = rw (e, get_or-set_same t.tasks i x no_task l) z

-- its place, where the first n entries were made new
renamed_place : (n : ℕ) (ws : List ℕ) (s : ℕ) (l : List Task) (i : ℕ) → (get_or (first_of n (new_entry ws s) l) i no_task).place ≡ (get_or l i no_task).place
renamed_place n ws s l i = on (first_at n (new_entry ws s) l i no_task)
  where
    on : (get_or (first_of n (new_entry ws s) l) i no_task ≡ get_or l i no_task) ⊎ (get_or (first_of n (new_entry ws s) l) i no_task ≡ new_entry ws s (get_or l i no_task))
        → (get_or (first_of n (new_entry ws s) l) i no_task).place ≡ (get_or l i no_task).place
    on (inl q) = rw q
    on (inr q) = rw q (renamed_keeps ws s (get_or l i no_task)).1

unasked_place : (e : Task) → waits (unasked_entry e).place ≡ waits e.place
unfolding unasked_entry
unasked_place e = unasked_waits e.place

begun_place : (n : ℕ) (l : List Task) (i : ℕ) → waits (get_or (first_of n unasked_entry l) i no_task).place ≡ waits (get_or l i no_task).place
begun_place n l i = on (first_at n unasked_entry l i no_task)
  where
    on : (get_or (first_of n unasked_entry l) i no_task ≡ get_or l i no_task) ⊎ (get_or (first_of n unasked_entry l) i no_task ≡ unasked_entry (get_or l i no_task))
        → waits (get_or (first_of n unasked_entry l) i no_task).place ≡ waits (get_or l i no_task).place
    on (inl q) = rw q
    on (inr q) = rw q (unasked_place (get_or l i no_task))

stepped_own : (t : Table) (i : ℕ) (f : Ends) → i < length t.tasks → Stepped t i (task_at t i).place f
    → Settled f.out.answer (task_at t i).place (task_at f.out.table i).place
stepped_own t i f l (stands e a z) = rw (e, z (task_at t i).place) (omega arith)
stepped_own t i f l (goes x e a z) = rw (e, get_or-set_same t.tasks i x no_task l) z
stepped_own t i f l (flips a b e z) =
    rw (z (task_at f.out.table i).place, e) (omega (arith, begun_place t.limits.p t.tasks i))
stepped_own t i f l (switches x a b e z) =
    rw (e, renamed_place t.limits.p f.words t.limits.s (set t.tasks i x) i, get_or-set_same t.tasks i x no_task l) z

-- what no longer waits was written, what waits now and did not before was begun
own : (c : Call) (e : Ends) → task_of c < length e.out.table.tasks
    → writes (kinds_of c e) + waits (task_at (then c e).out.table (task_of c)).place
    ≡ waits (task_at e.out.table (task_of c)).place + begins c (then c e).out.answer
own (Call.New task r len m) e l = omega (arith, answered_own _ _ task _ l (new_entries e.out.table e.words task r len m))
own (Call.Fill task w) e l = omega (arith, answered_own _ _ task _ l (fill_entries e.out.table e.words task w))
own (Call.FillPointer task r) e l = omega (arith, answered_own _ _ task _ l (fill_pointer_entries e.out.table e.words task r))
own (Call.Load task to from slot) e l = omega (arith, answered_own _ _ task _ l (load_entries e.out.table e.words task to from slot))
own (Call.Store task o slot w) e l = omega (arith, answered_own _ _ task _ l (store_entries e.out.table e.words task o slot w))
own (Call.StorePointer task o slot r) e l = omega (arith, answered_own _ _ task _ l (store_pointer_entries e.out.table e.words task o slot r))
own (Call.Move task to from) e l = omega (arith, answered_own _ _ task _ l (move_entries e.out.table e.words task to from))
own (Call.Clear task r) e l = omega (arith, answered_own _ _ task _ l (clear_entries e.out.table e.words task r))
own (Call.Same task a b) e l = omega (arith, answered_own _ _ task _ l (same_entries e.out.table e.words task a b))
own (Call.Put task root r) e l = omega (arith, answered_own _ _ task _ l (put_entries e.out.table e.words task root r))
own (Call.Get task r root) e l = omega (arith, answered_own _ _ task _ l (get_entries e.out.table e.words task r root))
own (Call.Step task) e l = omega (arith, stepped_own e.out.table task _ l (step_entries e.out.table e.words task))
own Call.Report e l = omega (arith, answered_own _ _ 0 _ l (report_entries e.out.table e.words 0))

-- a task that the call does not name waits, or not, as before
other_waits : (c : Call) (t : Table) (f : Ends) (u : ℕ) → Untouched c t f u → waits (task_at f.out.table u).place ≡ waits (task_at t u).place
other_waits c t f u (inl q) = rw q
other_waits c t f u (inr (inl q)) = rw q.3 (unasked_place (task_at t u))
other_waits c t f u (inr (inr q)) = rw (q.3, (renamed_keeps f.words t.limits.s (task_at t u)).1)

-- ---- one call
pub moment_one : (i : ℕ) (c : Call) (e : Ends) → i < length e.out.table.tasks
    → written_in i c e + waits (task_at (then c e).out.table i).place ≡ waits (task_at e.out.table i).place + begun_in i c e
moment_one i c e l = on (eqb (task_of c) i) refl
  where
    on : (b : Bool) → eqb (task_of c) i ≡ b
        → pick b (writes (kinds_of c e)) 0 + waits (task_at (then c e).out.table i).place
        ≡ waits (task_at e.out.table i).place + pick b (begins c (then c e).out.answer) 0
    on true h = let z : i ≡ task_of c = sym (eqb-true (task_of c) i h) in rw z (own c e (omega arith))
    on false h =
        omega (arith, other_waits c e.out.table (then c e) i (others c e.out.table e.words i (λ z. eqb-false (task_of c) i h (sym z))))

-- ---- every list of calls
pub moment : (i : ℕ) (cs : List Call) (e : Ends) → i < length e.out.table.tasks
    → written_by i cs e + waits (task_at (run cs e).out.table i).place ≡ waits (task_at e.out.table i).place + begun_by i cs e
unfolding written_by begun_by run
moment i [] e l = omega arith
moment i (c ∷ cs) e l =
    omega (arith, moment_one i c e l, moment i cs (then c e) (omega (arith, entries_long c e.out.table e.words)))
