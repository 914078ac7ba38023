-- Load: the answer is the one that the store gives, and a pointer goes to the register in both.
use Rattle.std.specs.Prelude.{ℕ, ◌<◌, ◌≡◌, List, [], ltb, leb, eqb}
use Rattle.std.proofs.Math.Path.{refl, ap}
use Rattle.std.proofs.Common.{sym, arith}
use borrow.Author.Tests.{ltb-true, leb-false, eqb-false}
use Rattle.table.specs.declared.Limits.{Limits}
use Rattle.table.specs.declared.Place.TheVariants.{Idle}
use Rattle.table.specs.declared.Table.{Table}
use Rattle.table.specs.declared.Answer.{Answer}
use Rattle.table.specs.declared.Answer.TheVariants.{Value}
use Rattle.machine.specs.Entries.{no}
use Rattle.machine.specs.Complete.{load_of}
use Rattle.machine.specs.History.{History}
use Rattle.machine.specs.Basics.{pick}
use Rattle.machine.specs.Call.{Call}
use Rattle.machine.specs.StillStore.{Store, thing_at, happen_all, told, refuses, slot_answer, load_answer}
use Rattle.machine.proofs.Objects.State.{root}
use Rattle.machine.proofs.Objects.Inv.{Sound}
use Rattle.machine.proofs.Agree.Agree.{Held}
use Rattle.machine.proofs.Agree.Names.{held_of}
use Rattle.machine.proofs.Agree.Complete.{load_is, load_of_lem}
use Rattle.machine.proofs.Beside.Good.{Good}
use Rattle.machine.proofs.Beside.Completes.{Meant, choose, refused_well, two}
use Rattle.machine.proofs.Beside.Registers.{idle_at_lem, register_good, sound_register, held_is}

module _ {l : Limits} {w : Store} {hy : History} {t : Table} {ws : List ℕ} (g : Good l w hy t ws) (task to from slot : ℕ) where
  abbrev tells : Answer → Store
  tells x = told w (Call.Load task to from slot) x []

  loaded : task < t.limits.p → (g.objects.tasks task).place ≡ Idle → (x : ℕ) → root (g.objects.tasks task).regs from ≡ x
      → Meant l hy ws tells (pick (eqb x 0) (refuses 4) (slot_answer (thing_at w x) slot)) (load_is t g.pa g.objects task to x slot)
  unfolding happen_all
  loaded ip pe x re =
      choose (eqb x 0) _ _ _ _ (λ c. refused_well g tells (λ x. refl) 4 tt (no t 4) refl refl)
      (λ c.
      let h : Held g.kept g.objects.shape x = held_of g.kept g.objects.shape x (eqb-false x 0 c) sound.0 sound.1 in
      let q = g.still.each x h.0 h.1 in
      rw (q.len, q.ptr)
      (choose (leb (g.objects.shape.len x) slot) _ _ _ _ (λ d. refused_well g tells (λ x. refl) 5 tt (no t 5) refl refl)
      (λ d.
      let m : slot < g.objects.shape.fill x = omega (arith, leb-false (g.objects.shape.len x) slot d, sound.2) in
      choose (ltb slot (g.objects.shape.ptr x)) _ _ _ _
      (λ e.
      record {
        good = rw (held_is g task from ip, re, q.slots slot m)
            (register_good g task ip pe to (g.objects.prim x slot) (g.inv.shapes.closed x slot h.2 h.1 m (ltb-true slot (g.objects.shape.ptr x) e)));
        fine = tt;
        answer = refl;
      })
      (λ e. record { good = g; fine = tt; answer = ap Value (sym (q.slots slot m)) }))))
    where
      sound : Sound g.kept g.objects.shape x
      sound = rw re at (sound_register g task from)

  pub load_meant : Meant l hy ws (λ x. told w (Call.Load task to from slot) x []) (load_answer w t.limits.p task to from slot) (load_of t ws task to from slot)
  unfolding happen_all load_answer
  load_meant =
      rw (load_of_lem g.inv g.agree g.long task to from slot)
      (two g tells (λ x. refl) task to from _ _
      (λ ip e a b.
      rw (held_is g task from ip) (loaded ip (idle_at_lem g task e) (root (g.objects.tasks task).regs from) refl)))
