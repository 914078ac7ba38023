-- What a collection has done, in objects and in the run's history.
use Rattle.std.specs.Prelude.{ℕ, suc, ◌+◌, ◌≤◌, ◌<◌, ◌≡◌, List, map, length}
use Rattle.table.specs.declared.Table.{Table}
use Rattle.machine.specs.History.{Copy, copy, InCopies, NoCopyTwice, History}
use Rattle.machine.specs.Objects.Base.{In}
use Rattle.machine.proofs.Objects.Base.{sum_to}
use Rattle.machine.proofs.Objects.State.{Shape, Snapshot, State}
use Rattle.machine.proofs.Objects.Inv.{Reach}
use Rattle.machine.proofs.Objects.Counts.{Counts}
use Rattle.machine.proofs.Agree.Agree.{bottom}

abbrev pub copy_at : (ℕ → ℕ) → Copy → Copy
copy_at pa c = copy (pa c.object) c.slot

-- what the flip reached is what was live at it, with its words, and filled as then
pub record Lived (K : ℕ → Type 0) (pa : ℕ → ℕ) (sh : Shape) (g : Snapshot) (h : History) : Type 0 where
  pub live : (x : ℕ) → 0 < x → x ≤ g.n → Reach sh g x → K x × In (pa x) h.live × (h.filled (pa x) ≡ g.fill x)
  pub back : (p : ℕ) → In p h.live → (x : ℕ) × (0 < x) × (x ≤ g.n) × Reach sh g x × (pa x ≡ p)
  -- whatever is counted of the reached objects, at most L+2 for each or at most 1 for each
  pub words : (f : ℕ → ℕ) → ((x : ℕ) → 0 < f x → (0 < x) × (x ≤ g.n) × Reach sh g x × (f x ≤ sh.len x + 2)) → sum_to (suc g.n) f ≤ h.words
  pub number : (f : ℕ → ℕ) → ((x : ℕ) → 0 < f x → (0 < x) × (x ≤ g.n) × Reach sh g x × (f x ≤ 1)) → sum_to (suc g.n) f ≤ length h.live

pub record Collecting (K : ℕ → Type 0) (pa : ℕ → ℕ) (o : State) (t : Table) (h : History) : Type 0 where
  pub made : List Copy
  pub forgiven : ℕ → ℕ
  pub counts : Counts t.limits.k t.limits.p t.limits.s o.shape o.snap o.hd o.stack o.tasks (bottom t) t.marks.a t.marks.j
      t.marks.copies made forgiven
  pub same : h.copies ≡ map (copy_at pa) made
  pub lived : Lived K pa o.shape o.snap h

-- a collection that has ended: each slot filled at the flip of each object then live was copied once, and nothing else
pub record Exact (h : History) : Type 0 where
  pub once : NoCopyTwice h.copies
  pub only : (p i : ℕ) → InCopies p i h.copies → In p h.live × (i < h.filled p)
  pub all : (p i : ℕ) → In p h.live → i < h.filled p → InCopies p i h.copies
