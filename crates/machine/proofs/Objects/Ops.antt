-- What the steps make of the heap by objects: one setter for each kind of change, each with the entry that task t gets.
use Rattle.std.specs.Prelude.{ℕ, suc, List, [], ◌∷◌, Bool, true, false, eqb, Option}
use Rattle.table.specs.declared.Primary.{Primary}
use Rattle.table.specs.declared.Making.{Making}
use Rattle.table.specs.declared.Place.{Place}
use Rattle.table.specs.declared.Task.{Task}
use Rattle.machine.specs.Basics.{pick}
use Rattle.machine.specs.Entries.{entry}
use Rattle.machine.proofs.Objects.Base.{upd, slot}
use Rattle.machine.proofs.Objects.State.{Hd, white, count, Shape, Snapshot, State}

abbrev pub state : Shape → (ℕ → ℕ → ℕ) → (ℕ → ℕ → ℕ) → (ℕ → ℕ → Bool) → (ℕ → Hd) → List ℕ → (ℕ → Task) → List Primary → Bool → Snapshot → State
state shape prim rep has hd stack tasks roots on snap =
    record { shape = shape; prim = prim; rep = rep; has = has; hd = hd; stack = stack; tasks = tasks; roots = roots; on = on; snap = snap }

abbrev pub shape_of : ℕ → (ℕ → ℕ) → (ℕ → ℕ) → (ℕ → ℕ) → (ℕ → ℕ) → Shape
shape_of n len ptr fill wrote = record { n = n; len = len; ptr = ptr; fill = fill; wrote = wrote }

-- an entry at another place; with another pending object too
abbrev pub goes : Task → Place → Task
goes e place = entry e.regs e.pending e.storing place

abbrev pub goes_with : Task → Option Making → Place → Task
goes_with e pending place = entry e.regs pending e.storing place

-- x on the stack, if it has a slot to copy
abbrev pub push : ℕ → ℕ → List ℕ → List ℕ
push c x stack = pick (eqb c 0) stack (x ∷ stack)

-- nothing but the entry
abbrev pub moves : State → ℕ → Task → State
moves o t e = state o.shape o.prim o.rep o.has o.hd o.stack (upd o.tasks t e) o.roots o.on o.snap

-- a header, and the stack (claim, take, release)
abbrev pub heads : State → ℕ → Hd → List ℕ → ℕ → Task → State
heads o x h stack t e = state o.shape o.prim o.rep o.has (upd o.hd x h) stack (upd o.tasks t e) o.roots o.on o.snap

-- a replica for x with c slots to copy, none of them written
abbrev pub twins : State → ℕ → ℕ → State
twins o x c =
    state o.shape o.prim o.rep (upd o.has x (λ j. false)) (upd o.hd x (count c)) (push c x o.stack) o.tasks o.roots o.on o.snap

-- a slot of a replica (put, and the second write of a Store)
abbrev pub copies : State → ℕ → ℕ → ℕ → ℕ → Task → State
copies o x i v t e =
    state o.shape o.prim (slot o.rep x i v) (slot o.has x i true) o.hd o.stack (upd o.tasks t e) o.roots o.on o.snap

-- a slot of a primary (the first write of a Store)
abbrev pub stores : State → ℕ → ℕ → ℕ → ℕ → Task → State
stores o x i v t e = state o.shape (slot o.prim x i v) o.rep o.has o.hd o.stack (upd o.tasks t e) o.roots o.on o.snap

-- the two writes of a Fill while collecting, and the one write while off
abbrev pub wrote_one : Shape → ℕ → Shape
wrote_one sh x = shape_of sh.n sh.len sh.ptr sh.fill (upd sh.wrote x (suc (sh.fill x)))

abbrev pub filled_one : Shape → ℕ → Shape
filled_one sh x = shape_of sh.n sh.len sh.ptr (upd sh.fill x (suc (sh.fill x))) sh.wrote

abbrev pub half_fills : State → ℕ → ℕ → ℕ → Task → State
half_fills o x v t e =
    state (wrote_one o.shape x) (slot o.prim x (o.shape.fill x) v) o.rep o.has o.hd o.stack (upd o.tasks t e) o.roots o.on o.snap

abbrev pub fills_copy : State → ℕ → ℕ → ℕ → Task → State
fills_copy o x v t e =
    state (filled_one o.shape x) o.prim (slot o.rep x (o.shape.fill x) v) (slot o.has x (o.shape.fill x) true) o.hd o.stack
    (upd o.tasks t e) o.roots o.on o.snap

abbrev pub fills_off : State → ℕ → ℕ → ℕ → Task → State
fills_off o x v t e =
    state (filled_one (wrote_one o.shape x) x) (slot o.prim x (o.shape.fill x) v) o.rep o.has o.hd o.stack (upd o.tasks t e) o.roots
    o.on o.snap

-- one object more, of length len with m pointer slots, nothing filled
abbrev pub one_more : Shape → ℕ → ℕ → Shape
one_more sh len m =
    shape_of (suc sh.n) (upd sh.len (suc sh.n) len) (upd sh.ptr (suc sh.n) m) (upd sh.fill (suc sh.n) 0) (upd sh.wrote (suc sh.n) 0)

abbrev pub makes : State → ℕ → ℕ → ℕ → Task → State
makes o len m t e =
    state (one_more o.shape len m) o.prim o.rep (upd o.has (suc o.shape.n) (λ j. false)) o.hd o.stack (upd o.tasks t e) o.roots
    o.on o.snap

abbrev pub reroots : State → List Primary → State
reroots o roots = state o.shape o.prim o.rep o.has o.hd o.stack o.tasks roots o.on o.snap

-- the flip: what was found, the tasks that had asked, and collecting; the roots were given replicas by `twins`
abbrev pub found_in : State → List ℕ → Snapshot
found_in o roots = record { n = o.shape.n; fill = o.shape.fill; slots = o.prim; roots = roots }

abbrev pub flips : State → List ℕ → (ℕ → Task) → State
flips o roots tasks = state o.shape o.prim o.rep o.has o.hd o.stack tasks o.roots true (found_in o roots)

-- the switch-over: every object white again, and no slot written but those filled
abbrev pub switches : State → State
switches o =
    state (shape_of o.shape.n o.shape.len o.shape.ptr o.shape.fill o.shape.fill) o.prim o.rep o.has (upd (λ x. white) 0 (count 0)) []
    o.tasks o.roots false o.snap
