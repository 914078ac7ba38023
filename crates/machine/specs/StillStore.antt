-- The store in which nothing moves and nothing is discarded: told each call, its answer and the kind of action it made,
-- never an address, a word of the buffer or whether a collection runs.
use Rattle.std.specs.Prelude.{ℕ, ◌-◌, List, [], ◌∷◌, ◌++◌, Bool, true, false, length, get_or, set, replicate, ltb, leb, eqb}
use Rattle.table.specs.declared.Answer.{Answer}
use Rattle.table.specs.declared.Answer.TheVariants.{Accepted, Done, Value, Moved, Wait, Report, No}
use Rattle.machine.specs.Basics.{pick}
use Rattle.machine.specs.Numbers.{refusal}
use Rattle.machine.specs.Call.{Call}

-- An object: L, m, and the slots filled so far. Objects have the numbers 1, 2, .. in the order in which they were made;
-- a pointer is an object's number, and nil is 0.
pub record Thing : Type 0 where
  pub len : ℕ
  pub m : ℕ
  pub slots : List ℕ

-- What a task has begun: nothing, a New, a Fill of this value, a Store of this value into this slot of this object.
pub data Doing : Type 0 where
  resting : Doing
  making : (register len m : ℕ) → Doing
  filling : (v : ℕ) → Doing
  storing : (x slot v : ℕ) → Doing

-- A task: its registers, its pending object (0 for none), the register that it goes to, what it has begun.
pub record Owner : Type 0 where
  pub regs : List ℕ
  pub pending : ℕ
  pub goes_to : ℕ
  pub doing : Doing

pub record Store : Type 0 where
  pub owners : List Owner
  pub roots : List ℕ
  pub things : List Thing

abbrev pub owner : List ℕ → ℕ → ℕ → Doing → Owner
owner regs pending goes_to doing = record { regs = regs; pending = pending; goes_to = goes_to; doing = doing }

abbrev pub thing : ℕ → ℕ → List ℕ → Thing
thing len m slots = record { len = len; m = m; slots = slots }

abbrev pub store : List Owner → List ℕ → List Thing → Store
store owners roots things = record { owners = owners; roots = roots; things = things }

abbrev pub empty_store : Store
empty_store = store (replicate 8 (owner (replicate 8 0) 0 0 resting)) (replicate 8 0) []

abbrev pub owner_at : Store → ℕ → Owner
owner_at s i = get_or s.owners i (owner [] 0 0 resting)

abbrev pub thing_at : Store → ℕ → Thing
thing_at s x = get_or s.things (x - 1) (thing 0 0 [])

abbrev pub held : Store → ℕ → ℕ → ℕ
held s i r = get_or (owner_at s i).regs r 0

abbrev pub with_owner : Store → ℕ → Owner → Store
with_owner s i o = store (set s.owners i o) s.roots s.things

abbrev pub with_thing : Store → ℕ → Thing → Store
with_thing s x t = store s.owners s.roots (set s.things (x - 1) t)

abbrev pub holding : Store → ℕ → ℕ → ℕ → Store
holding s i r x =
    with_owner s i (owner (set (owner_at s i).regs r x) (owner_at s i).pending (owner_at s i).goes_to (owner_at s i).doing)

abbrev pub doing : Store → ℕ → Doing → Store
doing s i d = with_owner s i (owner (owner_at s i).regs (owner_at s i).pending (owner_at s i).goes_to d)

-- The kinds of action: an object is made, the next slot filled, a slot written, the instruction ended.
pub data Kind : Type 0 where
  Made Filled Written Ended : Kind

-- the new object, pending
abbrev pub makes : Store → ℕ → Doing → Store
makes s i resting = s
makes s i (making r len m) =
    store
    (set s.owners i (owner (owner_at s i).regs (length (s.things ++ (thing len m [] ∷ []))) r (owner_at s i).doing))
    s.roots
    (s.things ++ (thing len m [] ∷ []))
makes s i (filling v) = s
makes s i (storing x slot v) = s

abbrev pub fills_thing : Thing → ℕ → Thing
fills_thing t v = thing t.len t.m (t.slots ++ (v ∷ []))

abbrev pub fills : Store → ℕ → Doing → Store
fills s i resting = s
fills s i (making r len m) = s
fills s i (filling v) = with_thing s (owner_at s i).pending (fills_thing (thing_at s (owner_at s i).pending) v)
fills s i (storing x slot v) = s

abbrev pub writes_thing : Thing → ℕ → ℕ → Thing
writes_thing t slot v = thing t.len t.m (set t.slots slot v)

abbrev pub writes : Store → ℕ → Doing → Store
writes s i resting = s
writes s i (making r len m) = s
writes s i (filling v) = s
writes s i (storing x slot v) = with_thing s x (writes_thing (thing_at s x) slot v)

-- idle again; a pending object with all its slots filled goes to its register
abbrev pub ends_owner : Owner → Thing → Owner
ends_owner o t =
    pick (eqb o.pending 0) (owner o.regs 0 0 resting)
    (pick (eqb (length t.slots) t.len)
    (owner (set o.regs o.goes_to o.pending) 0 0 resting)
    (owner o.regs o.pending o.goes_to resting))

abbrev pub happens : Store → ℕ → Kind → Store
happens s i Made = makes s i (owner_at s i).doing
happens s i Filled = fills s i (owner_at s i).doing
happens s i Written = writes s i (owner_at s i).doing
happens s i Ended = with_owner s i (ends_owner (owner_at s i) (thing_at s (owner_at s i).pending))

unfoldable pub happen_all : Store → ℕ → List Kind → Store
happen_all s i [] = s
happen_all s i (k ∷ ks) = happen_all (happens s i k) i ks

-- what becomes of the store with a call that answered ok or done, or a step that made these
abbrev pub accepted : Store → Call → Store
accepted s (Call.New task r len m) = doing s task (making r len m)
accepted s (Call.Fill task w) = doing s task (filling w)
accepted s (Call.FillPointer task r) = doing s task (filling (held s task r))
accepted s (Call.Load task to from slot) = holding s task to (get_or (thing_at s (held s task from)).slots slot 0)
accepted s (Call.Store task o slot w) = doing s task (storing (held s task o) slot w)
accepted s (Call.StorePointer task o slot r) = doing s task (storing (held s task o) slot (held s task r))
accepted s (Call.Move task to from) = holding s task to (held s task from)
accepted s (Call.Clear task r) = holding s task r 0
accepted s (Call.Same task a b) = s
accepted s (Call.Put task root r) = store s.owners (set s.roots root (held s task r)) s.things
accepted s (Call.Get task r root) = holding s task r (get_or s.roots root 0)
accepted s (Call.Step task) = s
accepted s Call.Report = s

abbrev pub task_of : Call → ℕ
task_of (Call.New task r len m) = task
task_of (Call.Fill task w) = task
task_of (Call.FillPointer task r) = task
task_of (Call.Load task to from slot) = task
task_of (Call.Store task o slot w) = task
task_of (Call.StorePointer task o slot r) = task
task_of (Call.Move task to from) = task
task_of (Call.Clear task r) = task
task_of (Call.Same task a b) = task
task_of (Call.Put task root r) = task
task_of (Call.Get task r root) = task
task_of (Call.Step task) = task
task_of Call.Report = 0

-- the store after a call, by its answer and the kinds of action it made
abbrev pub told : Store → Call → Answer → List Kind → Store
told s c Accepted ks = happen_all (accepted s c) (task_of c) ks
told s c Done ks = happen_all (accepted s c) (task_of c) ks
told s c (Value v) ks = happen_all s (task_of c) ks
told s c Moved ks = happen_all s (task_of c) ks
told s c (Wait q) ks = happen_all s (task_of c) ks
told s c (Report on live copies) ks = happen_all s (task_of c) ks
told s c (No x) ks = happen_all s (task_of c) ks

-- What the store answers to a Load and to a Same: for P tasks, refusals 2, 3, 6, 4 and 5 in that order.
abbrev pub is_resting : Doing → Bool
is_resting resting = true
is_resting (making r len m) = false
is_resting (filling v) = false
is_resting (storing x slot v) = false

abbrev pub refuses : ℕ → Answer
refuses n = No (refusal n)

abbrev pub ready : Store → ℕ → ℕ → ℕ → ℕ → Answer → Answer
ready s p task a b x =
    pick (ltb task p)
    (pick (ltb 7 a) (refuses 3)
    (pick (ltb 7 b) (refuses 3)
    (pick (is_resting (owner_at s task).doing) x (refuses 6))))
    (refuses 2)

abbrev pub slot_answer : Thing → ℕ → Answer
slot_answer t slot =
    pick (leb t.len slot) (refuses 5)
    (pick (ltb slot t.m) Done (Value (get_or t.slots slot 0)))

unfoldable pub load_answer : Store → ℕ → ℕ → ℕ → ℕ → ℕ → Answer
load_answer s p task to from slot =
    ready s p task to from
    (pick (eqb (held s task from) 0) (refuses 4) (slot_answer (thing_at s (held s task from)) slot))

unfoldable pub same_answer : Store → ℕ → ℕ → ℕ → ℕ → Answer
same_answer s p task a b =
    ready s p task a b (pick (eqb (held s task a) (held s task b)) (Value 1) (Value 0))
