-- A register or a root changed keeps the agreement.
use Rattle.std.specs.Prelude.{ℕ, ◌<◌, refl, List}
use Rattle.std.proofs.Common.{ap, arith}
use Rattle.std.proofs.Math.ListN.{set}
use Rattle.table.specs.declared.Table.{Table}
use Rattle.machine.specs.Words.{primary}
use Rattle.machine.specs.Entries.{entry, with_register, with_root}
use Rattle.machine.proofs.Objects.State.{State}
use Rattle.machine.proofs.Objects.Inv.{Inv}
use Rattle.machine.proofs.Objects.Ops.{moves, reroots}
use Rattle.machine.proofs.Agree.Encode.{at_primary}
use Rattle.machine.proofs.Agree.Agree.{Agree}
use Rattle.machine.proofs.Agree.Enter.{entered_register, moves_agree}
use Rattle.std.proofs.lemmas.List.{map-set}

module _ {K : ℕ → Type 0} {pa ra : ℕ → ℕ} {o : State} {t : Table} {ws : List ℕ} (v : Inv K t.limits.p t.limits.s o) (k : Agree K pa ra o t ws) where
  pub register_agree : (i : ℕ) → i < t.limits.p → (r x : ℕ)
      → Agree K pa ra (moves o i (entry (set (o.tasks i).regs r (primary x)) (o.tasks i).pending (o.tasks i).storing (o.tasks i).place))
      (with_register t i r (primary (pa x))) ws
  register_agree i il r x =
      rw (entered_register pa ra o t i r (primary x) (k.tasks i (omega (arith, k.sized.limited.p_high))))
      (moves_agree v k i il (entry (set (o.tasks i).regs r (primary x)) (o.tasks i).pending (o.tasks i).storing (o.tasks i).place) t.marks.j refl (omega arith))

  pub root_agree : (r x : ℕ) → Agree K pa ra (reroots o (set o.roots r (primary x))) (with_root t r (primary (pa x))) ws
  unfolding with_root
  root_agree r x = record {
    sized = k.sized;
    living = k.living;
    on = k.on;
    marked = record {
      based = k.marked.based;
      free = k.marked.free;
      stack = k.marked.stack;
      jobs = k.marked.jobs;
      copies = k.marked.copies;
      owed = k.marked.owed;
    };
    lay = k.lay;
    mem = k.mem;
    roots = rw (map-set (at_primary pa) o.roots r (primary x)) (ap (λ l. set l r (primary (pa x))) k.roots);
    eight = k.eight;
    tasks = k.tasks;
  }
