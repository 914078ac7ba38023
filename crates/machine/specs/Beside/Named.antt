-- The registers of a table are the addresses of the objects that the registers of a store hold.
use Rattle.std.specs.Prelude.{ℕ, ◌<◌, ◌≡◌}
use Rattle.table.specs.declared.Table.{Table}
use Rattle.machine.specs.Entries.{task_at, register}
use Rattle.machine.specs.StillStore.{Store, held}

-- One address for each object, nil's is 0: every register holds that of the object in the store's register, and two
-- registers with the same address hold the same object.
pub record Names (t : Table) (s : Store) : Type 0 where
  pub address : ℕ → ℕ
  pub nil : address 0 ≡ 0
  pub registers : (u r : ℕ) → u < 8 → (register (task_at t u) r).0 ≡ address (held s u r)
  pub apart : (u r k q : ℕ) → u < 8 → k < 8 → (register (task_at t u) r).0 ≡ (register (task_at t k) q).0 → held s u r ≡ held s k q
