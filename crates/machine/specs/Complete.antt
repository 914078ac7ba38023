-- The instructions that complete in the call: Move, Clear, to and from a shared root, Same, Load.
use Rattle.std.specs.Prelude.{ℕ, ◌+◌, List, Bool, get_or, ltb, leb, eqb, Option, Some, None}
use Rattle.table.specs.declared.Primary.{Primary}
use Rattle.table.specs.declared.Table.{Table}
use Rattle.table.specs.declared.Descriptor.{Descriptor}
use Rattle.table.specs.declared.Answer.TheVariants.{Done, Value}
use Rattle.table.specs.declared.Outcome.{Outcome}
use Rattle.machine.specs.Basics.{pick}
use Rattle.machine.specs.Words.{primary, object_of}
use Rattle.machine.specs.Entries.{task_at, nil, register, with_register, with_root, out, no}
use Rattle.machine.specs.Gate.{through, pair_gate}
use Rattle.machine.specs.Tasks.{holding_of, idle_of}

abbrev pub idle_at : Table → ℕ → Bool
idle_at t i = idle_of (holding_of (task_at t i).place)

-- the gate, with two registers or roots; then the task not idle (6); then the rest
abbrev pub with_two : Table → List ℕ → ℕ → ℕ → ℕ → Outcome → Outcome
with_two t ws task a b o = through (pair_gate t ws task a b) t (pick (idle_at t task) o (no t 6))

-- Move: register `to` gets what register `from` holds
unfoldable pub move_of : Table → List ℕ → ℕ → ℕ → ℕ → Outcome
move_of t ws task to from =
    with_two t ws task to from (out (with_register t task to (register (task_at t task) from)) Done)

-- Clear
unfoldable pub clear_of : Table → List ℕ → ℕ → ℕ → Outcome
clear_of t ws task r = with_two t ws task r r (out (with_register t task r nil) Done)

-- to a shared root, and from it
unfoldable pub put_root_of : Table → List ℕ → ℕ → ℕ → ℕ → Outcome
put_root_of t ws task root r = with_two t ws task root r (out (with_root t root (register (task_at t task) r)) Done)

unfoldable pub get_root_of : Table → List ℕ → ℕ → ℕ → ℕ → Outcome
get_root_of t ws task r root = with_two t ws task r root (out (with_register t task r (get_or t.roots root nil)) Done)

-- Same: are two registers the same object; nil is the same as nil only
unfoldable pub same_of : Table → List ℕ → ℕ → ℕ → ℕ → Outcome
same_of t ws task a b =
    with_two t ws task a b
    (pick (eqb (register (task_at t task) a).0 (register (task_at t task) b).0) (out t (Value 1)) (out t (Value 0)))

-- the slot of an object: a pointer goes to the register, a plain word is answered
abbrev pub load_slot : Table → List ℕ → ℕ → ℕ → Primary → ℕ → Option Descriptor → Outcome
load_slot t ws task to p slot (Some o) =
    pick (leb o.len slot) (no t 5)
    (pick (ltb slot o.m) (out (with_register t task to (primary (get_or ws (p.0 + slot) 0))) Done)
    (out t (Value (get_or ws (p.0 + slot) 0))))
load_slot t ws task to p slot None = no t 11

unfoldable pub load_from : Table → List ℕ → ℕ → ℕ → Primary → ℕ → Outcome
load_from t ws task to p slot =
    pick (eqb p.0 0) (no t 4) (load_slot t ws task to p slot (object_of ws t.limits.s p))

-- Load
unfoldable pub load_of : Table → List ℕ → ℕ → ℕ → ℕ → ℕ → Outcome
load_of t ws task to from slot = with_two t ws task to from (load_from t ws task to (register (task_at t task) from) slot)
