-- An instruction that ends with no change but its end: a payment that finds nothing grey, a New refused for want of room.
use Rattle.std.specs.Prelude.{ℕ, ◌<◌, ◌≡◌, refl, List, [], ◌∷◌, Bool, true, Option, Some, None}
use Rattle.std.proofs.Common.{ap, sym, ◌∙◌, arith}
use Rattle.table.specs.declared.Limits.{Limits}
use Rattle.table.specs.declared.Primary.{Primary}
use Rattle.table.specs.declared.Marks.{Marks}
use Rattle.table.specs.declared.Making.{Making}
use Rattle.table.specs.declared.Place.{Place}
use Rattle.table.specs.declared.Table.{Table}
use Rattle.table.specs.declared.Answer.{Answer}
use Rattle.machine.specs.History.{History, with_copy, with_copies}
use Rattle.machine.specs.Entries.{task_at, entered}
use Rattle.machine.specs.Tasks.{holding_of}
use Rattle.machine.specs.Switch.{ended_entry, ended_table, finish_of}
use Rattle.machine.specs.StillStore.{Store, Ended, owner_at, thing_at, with_owner, ends_owner, happen_all}
use Rattle.machine.specs.Kinds.{step_kinds}
use Rattle.machine.proofs.Objects.State.{Hd, Shape, jobs_in}
use Rattle.machine.proofs.Objects.Inv.{Inv, PendingOk}
use Rattle.machine.proofs.Objects.Ops.{moves}
use Rattle.machine.proofs.Agree.Encode.{at_task}
use Rattle.machine.proofs.Agree.Enter.{entered_ended, moves_agree}
use Rattle.machine.proofs.Beside.Still.{Still}
use Rattle.machine.proofs.Beside.StillSteps.{Filling, still_ended}
use Rattle.machine.proofs.Objects.Base.{off_on}
use Rattle.machine.proofs.Beside.Collecting.{Collecting}
use Rattle.machine.proofs.Beside.Good.{Good, Fine, Comes}
use Rattle.machine.proofs.Beside.Glue.{below, entry_of}
use Rattle.machine.proofs.Beside.Finish.{finishes}
use Rattle.machine.proofs.Beside.StepChanges.{ended_place}

-- an idle task has no job
pub ended_jobs : (regs : List Primary) (d : Option Making) → jobs_in (holding_of (ended_entry regs d).place) ≡ 0
unfolding holding_of
ended_jobs regs d = rw (ended_place regs d) refl

pub filling : (K : ℕ → Type 0) (sh : Shape) (hd : ℕ → Hd) (on : Bool) (d : Option Making) → PendingOk K sh hd on d → Filling sh d
filling K sh hd on None o = tt
filling K sh hd on (Some d) o = (o.0, o.2, o.3, o.4)

module _ {l : Limits} {w : Store} {hy : History} {t : Table} {ws : List ℕ} (g : Good l w hy t ws) (i : ℕ) (ip : i < t.limits.p) where
  -- the table of the end, whatever the marks
  pub ended_table_lem : (m : Marks) → ended_table t i m (task_at t i).pending
      ≡ entered t m i (at_task g.pa g.ra (ended_entry (g.objects.tasks i).regs (g.objects.tasks i).pending))
  ended_table_lem m =
      ap (λ (d : Option Making). ended_table t i m d) (ap (λ e. e.pending) (entry_of g i ip))
      ∙ entered_ended g.pa g.ra g.objects t i m (g.objects.tasks i).pending (entry_of g i ip)

  -- the store's task ends
  pub still_ends : Still g.objects.shape g.objects.prim (moves g.objects i (ended_entry (g.objects.tasks i).regs (g.objects.tasks i).pending)).tasks
      g.objects.roots (with_owner w i (ends_owner (owner_at w i) (thing_at w (owner_at w i).pending)))
  still_ends =
      let q = g.still.tasks i (below g i ip) in
      still_ended g.still i (below g i ip) (g.objects.tasks i).regs (g.objects.tasks i).pending q.regs q.pending q.goes_to
      (filling g.kept g.objects.shape g.objects.hd g.objects.on (g.objects.tasks i).pending (g.inv.entries i).pending)

  pub ends_comes : (before : Place) (X : Type 0) (x : Answer) → Fine t before x → ((after : Place) → step_kinds x before after ≡ Ended ∷ [])
      → jobs_in (holding_of (g.objects.tasks i).place) ≡ 0 → with_copy before x hy.copies ≡ hy.copies → g.objects.on ≡ true
      → Collecting g.kept g.pa (moves g.objects i (ended_entry (g.objects.tasks i).regs (g.objects.tasks i).pending))
      (ended_table t i t.marks (task_at t i).pending) (with_copies hy hy.copies)
      → Inv g.kept t.limits.p t.limits.s (moves g.objects i (ended_entry (g.objects.tasks i).regs (g.objects.tasks i).pending))
      → Comes l w hy t ws i before X (finish_of t ws i t.marks (task_at t i).pending x)
  unfolding happen_all
  ends_comes before X x und kinds none quiet live col inv =
      finishes g i before X g.kept g.pa g.ra (moves g.objects i (ended_entry (g.objects.tasks i).regs (g.objects.tasks i).pending)) ws t.marks
      (task_at t i).pending x (with_owner w i (ends_owner (owner_at w i) (thing_at w (owner_at w i).pending))) und (λ after. rw (kinds after) refl) inv
      (rw (ended_table_lem t.marks)
      (moves_agree g.inv g.agree i ip (ended_entry (g.objects.tasks i).regs (g.objects.tasks i).pending) t.marks.j
      (rw (none, ended_jobs (g.objects.tasks i).regs (g.objects.tasks i).pending) refl) (omega arith)))
      g.home still_ends hy.copies quiet (λ f. col) (λ f. off_on (sym f ∙ live))
