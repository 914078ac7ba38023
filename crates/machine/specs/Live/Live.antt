-- The objects that are live at a moment, each once, found by a search; the words they take, and the slots filled of each.
use Rattle.std.specs.Prelude.{ℕ, zero, suc, ◌+◌, ◌-◌, ◌*◌, min, List, [], ◌∷◌, ◌++◌, Bool, true, false, length, get_or, eqb, Option, Some, None}
use Rattle.table.specs.declared.Descriptor.{Descriptor}
use Rattle.table.specs.declared.Making.{Making}
use Rattle.table.specs.declared.Task.{Task}
use Rattle.table.specs.declared.Table.{Table}
use Rattle.machine.specs.Basics.{pick}
use Rattle.machine.specs.Words.{primary, length_in, object_of}
use Rattle.machine.specs.Entries.{task_at, nil, register}

-- ---- lists
-- p is in the list
unfoldable pub memb : ℕ → List ℕ → Bool
memb p [] = false
memb p (q ∷ l) = pick (eqb p q) true (memb p l)

-- the lists of 0 to n - 1, one behind the other
unfoldable pub gather : ℕ → (ℕ → List ℕ) → List ℕ
gather zero f = []
gather (suc n) f = gather n f ++ f n

-- the sum of a number for each
unfoldable pub total : (ℕ → ℕ) → List ℕ → ℕ
total f [] = 0
total f (p ∷ l) = f p + total f l

-- ---- the search
-- nil or seen before: nothing to do
abbrev pub known : ℕ → List ℕ → Bool
known p seen = pick (eqb p 0) true (memb p seen)

-- At each of these pointers in turn, and first at those that it leads to; each is added to those seen. So many pointers are
-- looked at, at most.
unfoldable pub search : (ℕ → List ℕ) → ℕ → List ℕ → List ℕ → List ℕ
search next zero todo seen = seen
search next (suc n) [] seen = seen
search next (suc n) (p ∷ todo) seen = pick (known p seen) (search next n todo seen) (search next n (next p ++ todo) (p ∷ seen))

-- ---- what is read off table and words
-- the first n slots of the object at p
abbrev pub slots_below : List ℕ → ℕ → ℕ → List ℕ
slots_below ws p n = gather n (λ j. get_or ws (p + j) 0 ∷ [])

-- the pointers in an object, and those in its first f slots
abbrev pub pointers_of : List ℕ → ℕ → Option Descriptor → List ℕ
pointers_of ws p (Some o) = slots_below ws p o.m
pointers_of ws p None = []

abbrev pub pointers_below : List ℕ → ℕ → ℕ → Option Descriptor → List ℕ
pointers_below ws p f (Some o) = slots_below ws p (min f o.m)
pointers_below ws p f None = []

abbrev pub pointers_at : Table → List ℕ → ℕ → List ℕ
pointers_at t ws p = pointers_of ws p (object_of ws t.limits.s (primary p))

-- those in the filled slots of a pending object
abbrev pub filled_pointers : Table → List ℕ → Option Making → List ℕ
filled_pointers t ws None = []
filled_pointers t ws (Some d) = pointers_below ws d.at.0 d.filled (object_of ws t.limits.s d.at)

abbrev pub pending_pointer : Option Making → List ℕ
pending_pointer None = []
pending_pointer (Some d) = d.at.0 ∷ []

abbrev pub registers_of : Task → List ℕ
registers_of e = gather 8 (λ r. (register e r).0 ∷ [])

abbrev pub roots_of : Table → List ℕ
roots_of t = gather 8 (λ r. (get_or t.roots r nil).0 ∷ [])

-- of task i: its registers, and the filled pointer slots of its pending object
abbrev pub held_by : Table → List ℕ → ℕ → List ℕ
held_by t ws i = registers_of (task_at t i) ++ filled_pointers t ws (task_at t i).pending

-- where the search begins
abbrev pub start_of : Table → List ℕ → List ℕ
start_of t ws = roots_of t ++ gather t.limits.p (held_by t ws)

-- the pending objects
abbrev pub pendings_of : Table → List ℕ
pendings_of t = gather t.limits.p (λ i. pending_pointer (task_at t i).pending)

-- ---- what is live
-- what is reachable: every word could be an object's slot 0, and so could the buffer's end, and none leads to more than 255
unfoldable pub reached_of : Table → List ℕ → List ℕ
reached_of t ws = search (pointers_at t ws) (length (start_of t ws) + 256 * (length ws + 1)) (start_of t ws) []

-- and what is pending besides
unfoldable pub live_of : Table → List ℕ → List ℕ
live_of t ws = search (λ p. []) (length (pendings_of t)) (pendings_of t) (reached_of t ws)

-- L of the object at p, as its descriptor says
abbrev pub length_at : List ℕ → ℕ → ℕ
length_at ws p = length_in (get_or ws (p - 2) 0)

-- r of demand 3: the words of the live objects, a pending one with its full L
unfoldable pub size_of : Table → List ℕ → ℕ
size_of t ws = total (λ p. length_at ws p + 2) (live_of t ws)

-- the slots filled of a pending object at p, or else the number given
abbrev pub filled_or : ℕ → Option Making → ℕ → ℕ
filled_or p None n = n
filled_or p (Some d) n = pick (eqb d.at.0 p) d.filled n

-- the same, over the first so many tasks
unfoldable pub filled_among : Table → ℕ → ℕ → ℕ → ℕ
filled_among t p n zero = n
filled_among t p n (suc i) = filled_or p (task_at t i).pending (filled_among t p n i)

-- the slots filled of the object at p: those of a pending object that are, of any other all
unfoldable pub filled_at : Table → List ℕ → ℕ → ℕ
filled_at t ws p = filled_among t p (length_at ws p) t.limits.p
