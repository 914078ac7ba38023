-- What is reachable and what is pending at a moment, said of table and words alone, without any walk.
use Rattle.std.specs.Prelude.{ℕ, ◌+◌, ◌<◌, ◌≡◌, ◌≢◌, List, get_or}
use Rattle.table.specs.declared.Table.{Table}
use Rattle.machine.specs.Words.{primary, object_of, described}
use Rattle.machine.specs.Entries.{task_at, nil, register, pending_with}

-- slot j of the object at q is a pointer slot, and it holds p, which is not nil; L and m are what the descriptor says
abbrev pub Points : Table → List ℕ → ℕ → ℕ → ℕ → Type 0
Points t ws q j p =
    (len : ℕ) × (m : ℕ) × (object_of ws t.limits.s (primary q) ≡ described len m) × (j < m) × (get_or ws (q + j) 0 ≡ p) × (p ≢ 0)

-- "Reachable is what pointer slots lead to from registers, roots and the filled slots of pending objects": the first P tasks
-- count; of an object that is pending the slots that are filled, of one that is reachable all, and both of one that is both
pub data Reachable (t : Table) (ws : List ℕ) : ℕ → Type 0 where
  in_register : {p : ℕ} (i r : ℕ) → i < t.limits.p → r < 8 → (register (task_at t i) r).0 ≡ p → p ≢ 0 → Reachable t ws p
  in_root : {p : ℕ} (r : ℕ) → r < 8 → (get_or t.roots r nil).0 ≡ p → p ≢ 0 → Reachable t ws p
  in_pending : {p : ℕ} (q i r len f j : ℕ) → i < t.limits.p → (task_at t i).pending ≡ pending_with (primary q) r len f → j < f → Points t ws q j p
      → Reachable t ws p
  in_slot : {p : ℕ} (q j : ℕ) → Reachable t ws q → Points t ws q j p → Reachable t ws p

-- p is the pointer of the pending object of one of the first P tasks
abbrev pub Pending : Table → ℕ → Type 0
Pending t p = (i : ℕ) × (i < t.limits.p) × (r : ℕ) × (len : ℕ) × (f : ℕ) × ((task_at t i).pending ≡ pending_with (primary p) r len f)
