-- The searches over the entries of the P tasks, and what is asked of all of them: at the first p entries they are machine's
-- seek_of, some, slot_taken, grey_of and held_of (proofs/Among.antt).
use Rattle.std.specs.Prelude.{ℕ, ◌≡◌, ◌<◌, ◌^◌, List, Bool, true, false, ltb, Option}
use Rattle.std.specs.Fn.{Shared}
use denote.Ref.{Bor}
use Rattle.table.specs.declared.Marks.{Marks}
use Rattle.table.specs.declared.Slot.{Slot}
use Rattle.table.specs.declared.Task.{Task}
use Rattle.table.specs.declared.Sought.{Sought}
use Rattle.table.specs.declared.Sought.TheVariants.{Claiming, Asking, Busy}
use Rattle.machine.specs.Basics.{pick}
use Rattle.machine.specs.Tasks.{lowest_of, sought_task, store_there, is_found}

abbrev pub seek_in : List Task → Sought → Option ℕ
seek_in ts w = lowest_of (sought_task w) ts 0

abbrev pub any_in : List Task → Sought → Bool
any_in ts w = is_found (seek_in ts w)

abbrev pub taken_in : List Task → ℕ → Slot → Bool
taken_in ts me slot = is_found (lowest_of (store_there me slot.object slot.index) ts 0)

abbrev pub grey_in : Marks → ℕ → List Task → Bool
grey_in m end ts =
    pick (ltb m.top end) true
    (pick (ltb 0 m.j) true
    (any_in ts Claiming))

-- closing: the collector on, nothing grey, but a task is busy
abbrev pub closing_in : Marks → ℕ → List Task → Bool
closing_in m end ts = pick (grey_in m end ts) false (any_in ts Busy)

abbrev pub held_in : Bool → Marks → ℕ → List Task → Bool
held_in on m end ts = pick on (closing_in m end ts) (any_in ts Asking)

-- what a call of f answers at a number and an entry is what the test says of them
abbrev pub Computes : {F : Type 0} → Shared F (ℕ × (Bor Task × Unit {0})) Bool → F → (ℕ → Task → Bool) → Type 0
Computes g f test = (i : ℕ) (e : Bor Task) (r : Bool) → i < 2 ^ 32 → g.post f (i, (e, tt)) r → r ≡ test i e.now
