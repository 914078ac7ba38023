-- Table and words hold what the objects say.
use Rattle.std.specs.Prelude.{ℕ, zero, suc, ◌+◌, ◌-◌, ◌≤◌, ◌<◌, ◌≡◌, ◌≢◌, ◌⊎◌, List, [], map, Bool, true, length, get_or}
use Rattle.table.specs.declared.Table.{Table}
use Rattle.table.specs.declared.Life.TheVariants.{Living}
use Rattle.machine.specs.Words.{descriptor, bottom_of}
use Rattle.machine.specs.Entries.{task_at}
use Rattle.machine.specs.Bounds.{Sized}
use Rattle.machine.specs.Tasks.{holding_of}
use Rattle.machine.proofs.Objects.Base.{sum_to}
use Rattle.machine.proofs.Objects.State.{Hd, Shape, State, IsPlaced, owes, jobs_in}
use Rattle.machine.proofs.Agree.Encode.{at_primary, at_task, header_word, copy_word, slot_word}
use Rattle.machine.proofs.Agree.Mem.{Loc, P, R, S, Holds}
use Rattle.machine.specs.Agree.Agree.{end}

-- an object that has words
abbrev pub Held : (ℕ → Type 0) → Shape → ℕ → Type 0
Held K sh x = (0 < x) × (x ≤ sh.n) × K x

abbrev pub addr : (ℕ → ℕ) → (ℕ → ℕ) → Loc → ℕ
addr pa ra (P x o) = pa x - 2 + o
addr pa ra (R x o) = ra x - 2 + o
addr pa ra (S o) = o

-- the places that mean something: descriptor and header, and the slots that were written; the stack's words
abbrev pub Written : ℕ → (ℕ → Bool) → ℕ → Type 0
Written len has zero = Unit {0}
Written len has (suc zero) = Unit {0}
Written len has (suc (suc j)) = (j < len) × (has j ≡ true)

abbrev pub Ok : (ℕ → Type 0) → Shape → (ℕ → Hd) → (ℕ → ℕ → Bool) → ℕ → ℕ → Loc → Type 0
Ok K sh hd has top end (P x o) = Held K sh x × (o < sh.wrote x + 2)
Ok K sh hd has top end (R x o) = Held K sh x × IsPlaced (hd x) × Written (sh.len x) (has x) o
Ok K sh hd has top end (S o) = (top ≤ o) × (o < end)

abbrev pub content : Shape → (ℕ → ℕ) → (ℕ → ℕ) → (ℕ → Hd) → (ℕ → ℕ → ℕ) → (ℕ → ℕ → ℕ) → List ℕ → ℕ → Loc → ℕ
content sh pa ra hd prim rep stack top (P x zero) = descriptor (sh.len x) (sh.ptr x)
content sh pa ra hd prim rep stack top (P x (suc zero)) = header_word (ra x) (hd x)
content sh pa ra hd prim rep stack top (P x (suc (suc j))) = slot_word pa (sh.ptr x) j (prim x j)
content sh pa ra hd prim rep stack top (R x zero) = descriptor (sh.len x) (sh.ptr x)
content sh pa ra hd prim rep stack top (R x (suc zero)) = copy_word (hd x)
content sh pa ra hd prim rep stack top (R x (suc (suc j))) = slot_word ra (sh.ptr x) j (rep x j)
content sh pa ra hd prim rep stack top (S o) = pa (get_or stack (o - top) 0)

-- two blocks, by the pointers and lengths of their objects, do not overlap
abbrev pub Beside : ℕ → ℕ → ℕ → ℕ → Type 0
Beside p len q men = (p + len + 2 ≤ q) ⊎ (q + men + 2 ≤ p)

-- where the blocks lie: primaries below A in the space in use or outside it, replicas below A in it; none overlap
pub record Lay (K : ℕ → Type 0) (sh : Shape) (hd : ℕ → Hd) (pa ra : ℕ → ℕ) (base a end size : ℕ) : Type 0 where
  pub nilp : pa 0 ≡ 0
  pub nilr : ra 0 ≡ 0
  pub inside : (x : ℕ) → Held K sh x → (4 ≤ pa x) × (pa x + sh.len x ≤ size)
  pub where_p : (x : ℕ) → Held K sh x → ((base + 2 ≤ pa x) × (pa x + sh.len x ≤ a)) ⊎ ((pa x + sh.len x ≤ base) ⊎ (end + 2 ≤ pa x))
  pub where_r : (x : ℕ) → Held K sh x → IsPlaced (hd x) → (base + 2 ≤ ra x) × (ra x + sh.len x ≤ a)
  pub apart_p : (x y : ℕ) → Held K sh x → Held K sh y → x ≢ y → Beside (pa x) (sh.len x) (pa y) (sh.len y)
  pub apart_r : (x y : ℕ) → Held K sh x → Held K sh y → IsPlaced (hd x) → IsPlaced (hd y) → x ≢ y → Beside (ra x) (sh.len x) (ra y) (sh.len y)
  pub apart_pr : (x y : ℕ) → Held K sh x → Held K sh y → IsPlaced (hd y) → Beside (pa x) (sh.len x) (ra y) (sh.len y)

abbrev pub bottom : Table → ℕ
bottom t = bottom_of t.upper t.limits.h

-- A, top, J, the copies
pub record Marked (o : State) (t : Table) : Type 0 where
  pub based : bottom t ≤ t.marks.a
  pub free : t.marks.a + t.marks.j ≤ t.marks.top
  pub stack : t.marks.top + length o.stack ≡ end t
  pub jobs : t.marks.j ≡ sum_to t.limits.p (λ i. jobs_in (holding_of (o.tasks i).place))
  pub copies : t.marks.copies ≤ t.limits.h
  -- what was copied and what is to be copied have room below A
  pub owed : t.on ≡ true → bottom t + t.marks.copies + sum_to (suc o.shape.n) (λ x. owes (o.hd x)) ≤ t.marks.a

pub record Agree (K : ℕ → Type 0) (pa ra : ℕ → ℕ) (o : State) (t : Table) (ws : List ℕ) : Type 0 where
  pub sized : Sized t.limits (length ws)
  pub living : t.life ≡ Living
  pub on : t.on ≡ o.on
  pub marked : Marked o t
  pub lay : Lay K o.shape o.hd pa ra (bottom t) t.marks.a (end t) (length ws)
  pub mem : Holds (addr pa ra) (Ok K o.shape o.hd o.has t.marks.top (end t))
      (content o.shape pa ra o.hd o.prim o.rep o.stack t.marks.top) [] ws
  pub roots : t.roots ≡ map (at_primary pa) o.roots
  pub eight : length t.tasks ≡ 8
  pub tasks : (i : ℕ) → i < 8 → task_at t i ≡ at_task pa ra (o.tasks i)
