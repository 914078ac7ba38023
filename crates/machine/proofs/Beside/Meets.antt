-- The meet of a Store with the copier.
use Rattle.std.specs.Prelude.{ℕ, ◌+◌, ◌<◌, List, Bool}
use Rattle.std.proofs.Math.Path.{◌≡◌, refl, ap}
use Rattle.std.proofs.Common.{◌∙◌, arith}
use Rattle.std.proofs.Math.Bool.{true, false}
use Rattle.std.proofs.Math.Dec.{eqb}
use borrow.Author.Tests.{eqb-true, eqb-false}
use Rattle.table.specs.declared.Limits.{Limits}
use Rattle.table.specs.declared.Primary.{Primary}
use Rattle.table.specs.declared.Operand.{Operand}
use Rattle.table.specs.declared.Deed.TheVariants.{Goes, Waits}
use Rattle.table.specs.declared.Then.TheVariants.{ToStoreCopy}
use Rattle.table.specs.declared.Place.TheVariants.{Meet, StoreCopy, Take}
use Rattle.table.specs.declared.Sought.TheVariants.{Claimer, Holder}
use Rattle.table.specs.declared.Answer.TheVariants.{Moved}
use Rattle.table.specs.declared.Task.{Task}
use Rattle.table.specs.declared.Table.{Table}
use Rattle.machine.specs.History.{History}
use Rattle.machine.specs.Basics.{pick}
use Rattle.machine.specs.Words.{if_forwarded, slot_at}
use Rattle.machine.specs.Entries.{task_at, moved_table, out, ends, storing_on}
use Rattle.machine.specs.Deeds.{acted}
use Rattle.machine.specs.Look.{look_ahead}
use Rattle.machine.specs.Store.{unmet_case, meet_in, meet_of}
use Rattle.machine.specs.Step.{wait_of, settle, settle_of}
use Rattle.machine.specs.Tasks.{holding_of}
use Rattle.machine.specs.StillStore.{Store, Doing, owner_at, happen_all, is_resting}
use Rattle.machine.proofs.Objects.State.{Hd, white, claimed, count, locked, IsPlaced, jobs_in}
use Rattle.machine.proofs.Objects.Inv.{StoringOk, SoundOperand}
use Rattle.machine.proofs.Objects.Ops.{goes, moves}
use Rattle.machine.proofs.Objects.StoreSteps.{meets_white, meets_goes}
use Rattle.machine.proofs.Agree.Encode.{at_primary, at_operand, at_place}
use Rattle.machine.proofs.Agree.Agree.{Held}
use Rattle.machine.proofs.Agree.Names.{sound_held}
use Rattle.machine.proofs.Agree.Read.{look_of_lem, copying_of_lem}
use Rattle.machine.proofs.Agree.MidwayRead.{found_by}
use Rattle.machine.proofs.Agree.Enter.{moves_agree}
use Rattle.machine.proofs.Agree.Search.{claimer_found, holder_found}
use Rattle.machine.proofs.Beside.Still.{DoingAt}
use Rattle.machine.proofs.Beside.Doing.{still_goes}
use Rattle.machine.proofs.Beside.Stands.{by_ahead, stands_ahead}
use Rattle.machine.proofs.Objects.CountLaws.{counts_goes, counts_pays}
use Rattle.machine.proofs.Beside.Collects.{collects, not_idle, ahead_left, ahead_free}
use Rattle.machine.proofs.Beside.Good.{Good, Comes, comes_moved, comes_wait}
use Rattle.machine.proofs.Beside.Glue.{at_ahead, below, moved_goes, busy_at}
use Rattle.machine.proofs.Objects.Base.{clash}

-- behind the meet nothing is held, and the store knows no more than that the task is busy
ahead_jobs : (v : Operand Primary) → 0 ≡ jobs_in (holding_of (look_ahead v ToStoreCopy StoreCopy))
unfolding holding_of
ahead_jobs v = by_ahead (λ pl. 0 ≡ jobs_in (holding_of pl)) v ToStoreCopy StoreCopy (λ c. refl) (λ p. refl)

ahead_doing : (e : Task) (d : Doing) (v : Operand Primary) → is_resting d ≡ false
    → DoingAt (goes e (look_ahead v ToStoreCopy StoreCopy)) d (look_ahead v ToStoreCopy StoreCopy)
ahead_doing e d v h = by_ahead (λ pl. DoingAt (goes e pl) d pl) v ToStoreCopy StoreCopy (λ c. h) (λ p. h)

module _ {l : Limits} {w : Store} {hy : History} {t : Table} {ws : List ℕ} (g : Good l w hy t ws) (i : ℕ) (ip : i < t.limits.p) (x : Primary) (j : ℕ)
    (se : (g.objects.tasks i).storing ≡ storing_on x j) (X : Type 0) (v : Operand Primary) (pe : (g.objects.tasks i).place ≡ Meet v) where
  stored : StoringOk g.kept g.objects.shape (storing_on x j)
  stored = rw se at (g.inv.entries i).storing

  held : Held g.kept g.objects.shape x.0
  held = sound_held g.kept g.objects.shape x.0 stored.0 stored.1

  place : (g.objects.on ≡ true) × SoundOperand g.kept g.objects.shape v
  place = let h = rw pe at (g.inv.places i) in (h.0, h.2)

  -- white: straight to the payment
  pays : g.objects.hd x.0 ≡ white
      → Comes l w hy t ws i (at_place g.pa g.ra (Meet v)) X (ends (out (moved_table t i t.marks (task_at t i).pending (Take t.limits.k)) Moved) ws)
  unfolding happen_all holding_of
  pays d =
      comes_moved g i (below g i ip) (at_place g.pa g.ra (Meet v)) X g.kept g.pa g.ra (moves g.objects i (goes (g.objects.tasks i) (Take t.limits.k))) place.0
      t.marks _ _ (goes (g.objects.tasks i) (Take t.limits.k)) ws (moved_goes g i ip t.marks (Take t.limits.k))
      (meets_white g.inv i ip x j se v pe d t.limits.k g.agree.sized.limited.k_low)
      (moves_agree g.inv g.agree i ip (goes (g.objects.tasks i) (Take t.limits.k)) t.marks.j (rw pe refl) (omega arith))
      (still_goes g.still i (below g i ip) (Take t.limits.k) (busy_at g i ip (Meet v) pe tt)) ip tt hy.copies refl
      (collects (g.collecting place.0) _ _ refl refl (g.collecting place.0).forgiven (counts_pays g.inv place.0 (g.collecting place.0).counts i ip (Meet v) pe (not_idle (Meet v) tt) refl))

  -- placed, and not locked at this slot: the new value's replica goes there
  goes_on : IsPlaced (g.objects.hd x.0) → ((u : ℕ) → g.objects.hd x.0 ≡ locked j u → ⊥)
      → Comes l w hy t ws i (at_place g.pa g.ra (Meet v)) X
      (ends (out (moved_table t i t.marks (task_at t i).pending (look_ahead (at_operand g.pa v) ToStoreCopy StoreCopy)) Moved) ws)
  unfolding happen_all holding_of
  goes_on d f =
      comes_moved g i (below g i ip) (at_place g.pa g.ra (Meet v)) X g.kept g.pa g.ra
      (moves g.objects i (goes (g.objects.tasks i) (look_ahead v ToStoreCopy StoreCopy))) place.0 t.marks _ _
      (goes (g.objects.tasks i) (look_ahead v ToStoreCopy StoreCopy)) ws
      (rw (at_ahead g.agree.lay v place.1 ToStoreCopy StoreCopy StoreCopy (λ c. refl)) (moved_goes g i ip t.marks (look_ahead v ToStoreCopy StoreCopy)))
      (meets_goes g.inv i ip x j se v pe d f)
      (moves_agree g.inv g.agree i ip (goes (g.objects.tasks i) (look_ahead v ToStoreCopy StoreCopy)) t.marks.j (rw pe (ap (λ n. t.marks.j + n) (ahead_jobs v))) (omega arith))
      (still_goes g.still i (below g i ip) (look_ahead v ToStoreCopy StoreCopy) (ahead_doing (g.objects.tasks i) (owner_at w i).doing v (busy_at g i ip (Meet v) pe tt))) ip (stands_ahead v ToStoreCopy StoreCopy (λ c. tt)) hy.copies refl
      (collects (g.collecting place.0) _ _ refl refl (g.collecting place.0).forgiven (counts_goes g.inv place.0 (g.collecting place.0).counts i ip (Meet v) (look_ahead v ToStoreCopy StoreCopy) pe (not_idle (Meet v) tt) (ahead_left v ToStoreCopy StoreCopy (λ c. refl)) (ahead_free v ToStoreCopy StoreCopy (λ c x h. h))))

  waits_claimer : (u : ℕ) → g.objects.hd x.0 ≡ claimed u → Comes l w hy t ws i (at_place g.pa g.ra (Meet v)) X (ends (wait_of t (Claimer (at_primary g.pa x))) ws)
  waits_claimer u d = let f = claimer_found g.agree g.inv x.0 u d in rw f.1 (comes_wait g i (below g i ip) (at_place g.pa g.ra (Meet v)) X f.0)

  waits_holder : (u : ℕ) → g.objects.hd x.0 ≡ locked j u → Comes l w hy t ws i (at_place g.pa g.ra (Meet v)) X (ends (wait_of t (Holder (slot_at (at_primary g.pa x) j))) ws)
  waits_holder u d = let f = holder_found g.agree g.inv x.0 j u d in rw f.1 (comes_wait g i (below g i ip) (at_place g.pa g.ra (Meet v)) X f.0)

  pub meet_comes : Comes l w hy t ws i (at_place g.pa g.ra (Meet v)) X
      (settle t i (meet_of t.marks ws t.limits.s t.limits.k (storing_on (at_primary g.pa x) j) (at_operand g.pa v)))
  unfolding meet_of settle_of
  meet_comes = rw (look_of_lem g.inv g.agree x.0 held) (on (g.objects.hd x.0) refl)
    where
      on : (h : Hd) → g.objects.hd x.0 ≡ h
          → Comes l w hy t ws i (at_place g.pa g.ra (Meet v)) X
          (settle t i
          (if_forwarded (found_by (g.ra x.0) (g.objects.shape.len x.0) h) (meet_in t.marks ws (at_primary g.pa x) j (at_operand g.pa v))
          (acted (unmet_case t.marks t.limits.k (at_primary g.pa x) (found_by (g.ra x.0) (g.objects.shape.len x.0) h)) ws)))
      on white e = pays e
      on (claimed u) e = waits_claimer u e
      on (count c) e =
          rw (copying_of_lem g.inv g.agree place.0 x.0 held (rw e tt), e)
          (goes_on (rw e tt) (λ u d. clash cc))
      on (locked m u) e = rw (copying_of_lem g.inv g.agree place.0 x.0 held (rw e tt), e) (at (eqb m j) refl)
        where
          at : (b : Bool) → eqb m j ≡ b
              → Comes l w hy t ws i (at_place g.pa g.ra (Meet v)) X
              (settle t i
              (pick b (acted (Waits (Holder (slot_at (at_primary g.pa x) j))) ws)
              (acted (Goes t.marks (look_ahead (at_operand g.pa v) ToStoreCopy StoreCopy)) ws)))
          at true q = waits_holder u (e ∙ ap (λ (z : ℕ). locked z u) (eqb-true m j q))
          at false q = goes_on (rw e tt) (λ r d. eqb-false m j q (let z : m ≡ j = cc in z))
