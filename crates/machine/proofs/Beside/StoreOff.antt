-- The write of a Store while off, which ends it.
use Rattle.std.specs.Prelude.{ℕ, ◌<◌, ◌≡◌, List, false, ltb}
use Rattle.std.proofs.Math.Path.{refl}
use Rattle.std.proofs.Common.{sym, ◌∙◌, arith}
use borrow.Author.Tests.{lt-leb}
use Rattle.table.specs.declared.Limits.{Limits}
use Rattle.table.specs.declared.Primary.{Primary}
use Rattle.table.specs.declared.Operand.{Operand}
use Rattle.table.specs.declared.Place.TheVariants.{StoreWrite}
use Rattle.table.specs.declared.Answer.TheVariants.{Done}
use Rattle.table.specs.declared.Table.{Table}
use Rattle.machine.specs.History.{History}
use Rattle.machine.specs.Words.{operand_word}
use Rattle.machine.specs.Entries.{task_at, storing_on}
use Rattle.machine.specs.Begin.{is_pointer}
use Rattle.machine.specs.Store.{store_write_of}
use Rattle.machine.specs.Switch.{ended_entry}
use Rattle.machine.specs.Step.{settle, settle_of}
use Rattle.machine.specs.Tasks.{holding_of}
use Rattle.machine.specs.StillStore.{Store, storing, owner_at, thing_at, with_thing, writes_thing, with_owner, ends_owner, happen_all}
use Rattle.machine.proofs.Objects.Base.{off_on, upd, upd_same}
use Rattle.machine.proofs.Objects.State.{State}
use Rattle.machine.proofs.Objects.Inv.{Inv, StoringOk}
use Rattle.machine.proofs.Objects.Ops.{stores}
use Rattle.machine.proofs.Objects.MoveLaws.{at_place_lem, upd_twice}
use Rattle.machine.proofs.Objects.StoreSteps.{store_writes_off}
use Rattle.machine.proofs.Objects.Ends.{ends_inv}
use Rattle.machine.proofs.Agree.Encode.{at_primary, at_operand, at_place}
use Rattle.machine.proofs.Agree.Agree.{Held}
use Rattle.machine.proofs.Agree.Names.{sound_held}
use Rattle.machine.proofs.Agree.Read.{object_of_lem}
use Rattle.machine.proofs.Agree.Slots.{stores_agree}
use Rattle.machine.proofs.Beside.Still.{StillTask}
use Rattle.machine.proofs.Beside.StillLaws.{still_written}
use Rattle.machine.proofs.Beside.StillSteps.{still_ended}
use Rattle.machine.proofs.Beside.Good.{Good, Comes}
use Rattle.machine.proofs.Beside.Glue.{operand_word_lem, below}
use Rattle.machine.proofs.Beside.Finish.{finishes}
use Rattle.machine.proofs.Beside.Ending.{ended_jobs, ended_table_lem, filling}

-- the slot written and the instruction ended, by objects
stored_inv : {K : ℕ → Type 0} {p s : ℕ} (o : State) (t : ℕ) (x : Primary) (j : ℕ) (v : Operand Primary) → Inv K p s o → t < p → (o.tasks t).storing ≡ storing_on x j → o.on ≡ false
    → (o.tasks t).place ≡ StoreWrite v → Inv K p s (stores o x.0 j (operand_word v) t (ended_entry (o.tasks t).regs (o.tasks t).pending))
unfolding holding_of
stored_inv {K} {p} {s} o t x j v inv l se off pe =
    rw (e, upd_twice o.tasks t (o.tasks t) (ended_entry (o.tasks t).regs (o.tasks t).pending))
    at (ends_inv (stores o x.0 j (operand_word v) t (o.tasks t)) t (store_writes_off inv t l x j se off v pe) l (rw (e, pe) refl) (λ y c. rw (e, pe) at c) (λ c. rw (e, pe) at c))
  where
    e : upd o.tasks t (o.tasks t) t ≡ o.tasks t
    e = upd_same o.tasks t (o.tasks t)

module _ {l : Limits} {w : Store} {hy : History} {t : Table} {ws : List ℕ} (g : Good l w hy t ws) (i : ℕ) (ip : i < t.limits.p) (x : Primary) (j : ℕ)
    (se : (g.objects.tasks i).storing ≡ storing_on x j) where
  stored : StoringOk g.kept g.objects.shape (storing_on x j)
  stored = rw se at (g.inv.entries i).storing

  held : Held g.kept g.objects.shape x.0
  held = sound_held g.kept g.objects.shape x.0 stored.0 stored.1

  pub store_off_comes : (X : Type 0) (v : Operand Primary) → g.objects.on ≡ false → (g.objects.tasks i).place ≡ StoreWrite v
      → Comes l w hy t ws i (at_place g.pa g.ra (StoreWrite v)) X
      (settle t i (store_write_of false t.marks ws t.limits.s (storing_on (at_primary g.pa x) j) (at_operand g.pa v)))
  unfolding store_write_of settle_of happen_all holding_of
  store_off_comes X v off pe =
      rw (object_of_lem g.inv g.agree x.0 held, lt-leb (g.objects.shape.len x.0) j stored.2, operand_word_lem g.pa v j (g.objects.shape.ptr x.0) kind)
      (finishes g i (at_place g.pa g.ra (StoreWrite v)) X g.kept g.pa g.ra
      (stores g.objects x.0 j (operand_word v) i (ended_entry (g.objects.tasks i).regs (g.objects.tasks i).pending)) _ t.marks (task_at t i).pending Done
      (with_owner (with_thing w x.0 (writes_thing (thing_at w x.0) j (operand_word v))) i
      (ends_owner (owner_at w i) (thing_at (with_thing w x.0 (writes_thing (thing_at w x.0) j (operand_word v))) (owner_at w i).pending))) tt (λ after. rw doing refl)
      (stored_inv g.objects i x j v g.inv ip se off pe)
      (rw (ended_table_lem g i ip t.marks)
      (stores_agree g.inv g.agree i ip (ended_entry (g.objects.tasks i).regs (g.objects.tasks i).pending)
      (rw (pe, ended_jobs (g.objects.tasks i).regs (g.objects.tasks i).pending) refl) x.0 held j (operand_word v) written))
      g.home
      (still_ended (still_written g.still x.0 j (operand_word v) stored.0 stored.1.1 filled) i (below g i ip) (g.objects.tasks i).regs (g.objects.tasks i).pending
      q.regs q.pending q.goes_to
      (filling g.kept g.objects.shape g.objects.hd g.objects.on (g.objects.tasks i).pending (g.inv.entries i).pending)) hy.copies refl (λ f. off_on (sym off ∙ f)) g.collected)
    where
      q : StillTask (g.objects.tasks i) (owner_at w i)
      q = g.still.tasks i (below g i ip)

      kind : is_pointer v ≡ ltb j (g.objects.shape.ptr x.0)
      kind = let h = at_place_lem g.inv i (StoreWrite v) pe in let k = rw se at h.0 in k.0

      filled : j < g.objects.shape.fill x.0
      filled = omega (arith, stored.1.2, stored.2)

      written : j < g.objects.shape.wrote x.0
      written = omega (arith, filled, g.inv.shapes.filled x.0)

      doing : (owner_at w i).doing ≡ storing x.0 j (operand_word v)
      doing = rw (pe, se) at q.doing
