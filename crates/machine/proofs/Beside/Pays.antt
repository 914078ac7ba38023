-- The take of a payment: pop and lock; with nothing on the stack, end or wait.
use Prim.Native.Nat.{ℕ, suc, ◌+◌, ◌-◌, ◌<◌}
use Rattle.std.specs.Prelude.{◌≡◌, Bool, ltb}
use Rattle.std.proofs.Math.Path.{refl}
use Rattle.std.proofs.Common.{inl}
use mathlib.Core.List.{List, [], ◌∷◌}
use Rattle.std.proofs.Math.Bool.{true, false}
use native.Mathlib.Omega.{arith}
use borrow.Author.Tests.{ne_eqb, lt-ltb, le-ltb}
use Rattle.table.specs.declared.Limits.{Limits}
use Rattle.table.specs.declared.Place.{Place}
use Rattle.table.specs.declared.Place.TheVariants.{Take, Read}
use Rattle.table.specs.declared.Sought.TheVariants.{Worker}
use Rattle.table.specs.declared.Answer.TheVariants.{Done}
use Rattle.table.specs.declared.Table.{Table}
use Rattle.machine.specs.History.{History, with_copies}
use Rattle.machine.specs.Basics.{pick}
use Rattle.machine.specs.Words.{primary, slot_at}
use Rattle.machine.specs.Entries.{task_at, marks_at, ends}
use Rattle.machine.specs.Switch.{ended_entry, ended_table, finish_of}
use Rattle.machine.specs.Pay.{take_of}
use Rattle.machine.specs.Step.{wait_of, settle, settle_of, empty_take_of, take_step_of}
use Rattle.machine.specs.Tasks.{holding_of, grey_of}
use Rattle.machine.specs.StillStore.{Store, happen_all}
use Rattle.machine.proofs.Objects.Base.{upd}
use Rattle.machine.proofs.Objects.State.{count, locked, jobs_in, Late}
use Rattle.machine.proofs.Objects.Inv.{Colours}
use Rattle.machine.proofs.Objects.Ops.{goes, moves, heads}
use Rattle.machine.proofs.Objects.MoveLaws.{at_place_lem}
use Rattle.machine.proofs.Objects.PaySteps.{takes}
use Rattle.machine.proofs.Objects.Ends.{take_ends}
use Rattle.machine.proofs.Agree.Encode.{at_place}
use Rattle.machine.specs.Agree.Agree.{end}
use Rattle.machine.proofs.Agree.Agree.{Held}
use Rattle.machine.proofs.Agree.Read.{copying_of_lem, stack_of, stack_room, stack_empty}
use Rattle.machine.proofs.Agree.Heads.{take_agree}
use Rattle.machine.proofs.Agree.Search.{worker_found, not_grey}
use Rattle.machine.proofs.Beside.Doing.{still_goes}
use Rattle.machine.proofs.Objects.CountLaws.{counts_ends_empty}
use Rattle.machine.proofs.Objects.CountHeads.{counts_takes}
use Rattle.machine.proofs.Beside.Collects.{collects}
use Rattle.machine.proofs.Beside.Collecting.{Collecting}
use Rattle.machine.proofs.Beside.Lives.{lived_same}
use Rattle.machine.proofs.Beside.Awake.{grey_jobs}
use Rattle.machine.proofs.Beside.Good.{Good, Comes, comes_moved, comes_wait}
use Rattle.machine.proofs.Beside.Glue.{look_placed, below, moved_goes, busy_at}
use Rattle.machine.proofs.Beside.Ending.{ends_comes}

no_job : (pl : Place) (n : ℕ) → pl ≡ Take n → jobs_in (holding_of pl) ≡ 0
unfolding holding_of
no_job pl n e = rw e refl

module _ {l : Limits} {w : Store} {hy : History} {t : Table} {ws : List ℕ} (g : Good l w hy t ws) (i : ℕ) (ip : i < t.limits.p) (X : Type 0) where
  -- while collecting the headers have colours
  colours : g.objects.on ≡ true → Colours g.kept g.objects.shape g.objects.snap g.objects.hd g.objects.prim g.objects.rep g.objects.has g.objects.stack
      (Late g.objects.tasks)
  colours on = rw on at g.inv.mode

  module _ (n : ℕ) (pe : (g.objects.tasks i).place ≡ Take n) where
    live : g.objects.on ≡ true
    live = (at_place_lem g.inv i (Take n) pe).0

    -- pop and lock
    pops : (x : ℕ) (st : List ℕ) → g.objects.stack ≡ x ∷ st → Comes l w hy t ws i (at_place g.pa g.ra (Take n)) X (settle t i (take_of t.marks ws t.limits.s n))
    unfolding take_of settle_of happen_all holding_of
    pops x st es =
        let h = (colours live).stacked x (rw es (inl refl)) in
        let hx : Held g.kept g.objects.shape x = (h.0, h.1, h.2) in
        let c = h.3 in
        let e : g.objects.hd x ≡ count (suc c) = h.4 in
        let z : suc c - 1 ≡ c = omega arith in
        rw (
          stack_of g.agree es,
          look_placed g.inv g.agree x hx (rw e tt),
          copying_of_lem g.inv g.agree live x hx (rw e tt),
          e,
          ne_eqb (suc c) 0 (λ q. omega arith),
          z,
        )
        (comes_moved g i (below g i ip) (at_place g.pa g.ra (Take n)) X g.kept g.pa g.ra
        (heads g.objects x (locked c i) st i (goes (g.objects.tasks i) (Read n (slot_at (primary x) c)))) live _ _ _ (goes (g.objects.tasks i) (Read n (slot_at (primary x) c))) _
        (moved_goes g i ip (marks_at t.marks.a (t.marks.top + 1) (t.marks.j + 1) t.marks.copies) (Read n (slot_at (primary x) c)))
        (takes g.objects i n x c st g.inv ip pe es e)
        (take_agree g.inv g.agree i ip (goes (g.objects.tasks i) (Read n (slot_at (primary x) c))) x c st es e live (rw pe (omega arith)))
        (still_goes g.still i (below g i ip) (Read n (slot_at (primary x) c)) (busy_at g i ip (Take n) pe tt)) ip tt hy.copies refl
        (collects (g.collecting live) _ _ refl refl (g.collecting live).forgiven (counts_takes g.inv live (g.collecting live).counts i ip n x c st pe es e)))

    -- what was left to pay is forgiven
    forgives : g.objects.stack ≡ [] → grey_of t.marks (end t) t.tasks t.limits.p ≡ false
        → Collecting g.kept g.pa (moves g.objects i (ended_entry (g.objects.tasks i).regs (g.objects.tasks i).pending))
        (ended_table t i t.marks (task_at t i).pending) (with_copies hy hy.copies)
    forgives es e =
        let c = g.collecting live in
        let h = not_grey g.agree g.inv e in
        record {
          made = c.made;
          forgiven = upd c.forgiven i n;
          counts =
              counts_ends_empty g.inv live c.counts i ip n pe es (jobless e) h.2;
          same = c.same;
          lived = lived_same c.lived hy.copies;
        }
      where
        jobless : grey_of t.marks (end t) t.tasks t.limits.p ≡ false → t.marks.j ≡ 0
        jobless e = grey_jobs t.marks (end t) t.tasks t.limits.p e

    -- nothing on the stack: the payment ends if nothing is grey, else it waits
    finds_nothing : g.objects.stack ≡ [] → Comes l w hy t ws i (at_place g.pa g.ra (Take n)) X (empty_take_of t ws i)
    unfolding empty_take_of
    finds_nothing es = on (grey_of t.marks (end t) t.tasks t.limits.p) refl
      where
        on : (b : Bool) → grey_of t.marks (end t) t.tasks t.limits.p ≡ b
            → Comes l w hy t ws i (at_place g.pa g.ra (Take n)) X
            (pick b (ends (wait_of t (Worker i)) ws) (finish_of t ws i t.marks (task_at t i).pending Done))
        on true e =
            let f = worker_found g.agree g.inv i n pe (stack_empty g.agree es) e in
            rw f.1 (comes_wait g i (below g i ip) (at_place g.pa g.ra (Take n)) X f.0)
        on false e = ends_comes g i ip (at_place g.pa g.ra (Take n)) X Done tt (λ after. refl) (no_job (g.objects.tasks i).place n pe) refl live (forgives es e) (take_ends g.objects i n g.inv ip pe)

    pub take_comes : Comes l w hy t ws i (at_place g.pa g.ra (Take n)) X (take_step_of t ws i n)
    unfolding take_step_of
    take_comes = on g.objects.stack refl
      where
        on : (st : List ℕ) → g.objects.stack ≡ st → Comes l w hy t ws i (at_place g.pa g.ra (Take n)) X
            (pick (ltb t.marks.top (end t)) (settle t i (take_of t.marks ws t.limits.s n)) (empty_take_of t ws i))
        on [] e = rw (le-ltb t.marks.top (end t) (omega (arith, stack_empty g.agree e))) (finds_nothing e)
        on (x ∷ st) e = rw (lt-ltb t.marks.top (end t) (stack_room g.agree e)) (pops x st e)
