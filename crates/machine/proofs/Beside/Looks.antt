-- Look and place, while collecting.
use Rattle.std.specs.Prelude.{ℕ, ◌+◌, ◌-◌, ◌<◌, ◌≡◌, ◌⊎◌, List, set}
use Rattle.std.proofs.Math.Path.{refl}
use Rattle.std.proofs.Common.{inl, inr, arith}
use Rattle.std.proofs.Math.Bool.{true}
use Rattle.table.specs.declared.Limits.{Limits}
use Rattle.table.specs.declared.Primary.{Primary}
use Rattle.table.specs.declared.Then.{Then}
use Rattle.table.specs.declared.Then.TheVariants.{ToWrite}
use Rattle.table.specs.declared.Place.{Place}
use Rattle.table.specs.declared.Place.TheVariants.{Looking, Placing}
use Rattle.table.specs.declared.Task.{Task}
use Rattle.table.specs.declared.Table.{Table}
use Rattle.table.specs.declared.Sought.TheVariants.{Claimer}
use Rattle.table.specs.declared.Deed.TheVariants.{Goes, Fails}
use Rattle.table.specs.declared.Answer.TheVariants.{Moved}
use Rattle.machine.specs.History.{History}
use Rattle.machine.specs.Numbers.{refusal}
use Rattle.machine.specs.Words.{primary, replica, room_of, if_forwarded}
use Rattle.machine.specs.Entries.{task_at, moved_table, out, ends, entered}
use Rattle.machine.specs.Deeds.{acted}
use Rattle.machine.specs.Look.{go_on, unplaced_case, look_step_of, place_step_of}
use Rattle.machine.specs.Step.{wait_of, settle, settle_of}
use Rattle.machine.specs.Tasks.{holding_of}
use Rattle.machine.specs.StillStore.{Store, Doing, owner_at, happen_all}
use Rattle.machine.proofs.Objects.Base.{upd}
use Rattle.machine.proofs.Objects.State.{Hd, white, claimed, count, locked, IsPlaced, jobs_in}
use Rattle.machine.proofs.Objects.Inv.{Sound}
use Rattle.machine.proofs.Objects.Ops.{goes, moves, heads, twins}
use Rattle.machine.proofs.Objects.MoveLaws.{at_place_lem}
use Rattle.machine.proofs.Objects.HeadSteps.{look_claims, look_goes, places}
use Rattle.machine.proofs.Agree.Encode.{at_primary, at_then, at_place, at_task}
use Rattle.machine.specs.Agree.Agree.{end}
use Rattle.machine.proofs.Agree.Agree.{Agree, Held}
use Rattle.machine.proofs.Agree.Names.{sound_held}
use Rattle.machine.proofs.Agree.MidwayRead.{found_by}
use Rattle.machine.proofs.Agree.Read.{look_of_lem}
use Rattle.machine.proofs.Agree.Enter.{moves_agree}
use Rattle.machine.proofs.Agree.PlaceStep.{at_on, place_step, placed_moved}
use Rattle.machine.proofs.Agree.Midway.{twin_need, twin_marks, twin_words}
use Rattle.machine.proofs.Agree.Heads.{claim_agree}
use Rattle.machine.proofs.Agree.Search.{claimer_found}
use Rattle.machine.proofs.Beside.Still.{DoingThen, DoingAt}
use Rattle.machine.proofs.Beside.Doing.{doing_on, doing_claims, still_goes}
use Rattle.machine.proofs.Beside.Stands.{stands_on}
use Rattle.machine.proofs.Objects.CountLaws.{counts_goes}
use Rattle.machine.proofs.Objects.CountHeads.{counts_claims, counts_places, on_left}
use Rattle.machine.proofs.Beside.Collects.{collects, not_idle, on_free}
use Rattle.machine.proofs.Beside.Good.{Good, Comes, comes_moved, comes_wait}
use Rattle.machine.proofs.Beside.Glue.{below, moved_goes}

doing_look : (e : Task) (d : Doing) (q : Primary) (th : Then) (pl : Place) → pl ≡ Looking q th → DoingAt e d pl → DoingThen e d q.0 th
doing_look e d q th pl pe h = rw pe at h

doing_place : (e : Task) (d : Doing) (q : Primary) (th : Then) (pl : Place) → pl ≡ Placing q th → DoingAt e d pl → DoingThen e d q.0 th
doing_place e d q th pl pe h = rw pe at h

-- a look leaves the jobs as they are, and so does what follows it
look_jobs : (q : Primary) (th : Then) (x : ℕ) → jobs_in (holding_of (Looking q th)) ≡ jobs_in (holding_of (go_on th (replica x)))
unfolding holding_of
look_jobs q (ToWrite v) x = refl
look_jobs q _ x = refl

claim_jobs : (q : Primary) (th : Then) → jobs_in (holding_of (Looking q th)) ≡ jobs_in (holding_of (Placing q th))
unfolding holding_of
claim_jobs q (ToWrite v) = refl
claim_jobs q _ = refl

module _ {l : Limits} {w : Store} {hy : History} {t : Table} {ws : List ℕ} (g : Good l w hy t ws) (i : ℕ) (ip : i < t.limits.p) (q : Primary) (th : Then) (X : Type 0) where
  module _ (pe : (g.objects.tasks i).place ≡ Looking q th) where
    place : (g.objects.on ≡ true) × (0 < q.0) × Sound g.kept g.objects.shape q.0
    place = let h = rw pe at (g.inv.places i) in (h.0, h.1, h.2)

    held : Held g.kept g.objects.shape q.0
    held = sound_held g.kept g.objects.shape q.0 place.1 place.2

    doing : DoingThen (g.objects.tasks i) (owner_at w i).doing q.0 th
    doing = doing_look (g.objects.tasks i) (owner_at w i).doing q th (g.objects.tasks i).place pe (g.still.tasks i (below g i ip)).doing

    -- it has a replica
    goes_on : IsPlaced (g.objects.hd q.0)
        → Comes l w hy t ws i (at_place g.pa g.ra (Looking q th)) X
        (ends (out (moved_table t i t.marks (task_at t i).pending (go_on (at_then g.pa th) (replica (g.ra q.0)))) Moved) ws)
    unfolding happen_all
    goes_on d =
        comes_moved g i (below g i ip) (at_place g.pa g.ra (Looking q th)) X g.kept g.pa g.ra
        (moves g.objects i (goes (g.objects.tasks i) (go_on th (replica q.0)))) place.0 t.marks _ _ (goes (g.objects.tasks i) (go_on th (replica q.0))) ws
        (rw (at_on g.pa g.ra th q.0) (moved_goes g i ip t.marks (go_on th (replica q.0)))) (look_goes g.objects i q th g.inv ip pe d)
        (moves_agree g.inv g.agree i ip (goes (g.objects.tasks i) (go_on th (replica q.0))) t.marks.j
        (rw (pe, look_jobs q th q.0) refl) (omega arith))
        (still_goes g.still i (below g i ip) (go_on th (replica q.0)) (doing_on (g.objects.tasks i) (owner_at w i).doing q.0 th doing)) ip (stands_on th q.0) hy.copies refl
        (collects (g.collecting place.0) _ _ refl refl (g.collecting place.0).forgiven (counts_goes g.inv place.0 (g.collecting place.0).counts i ip (Looking q th) (go_on th (replica q.0)) pe (not_idle (Looking q th) tt) (on_left th (replica q.0)) (on_free q.0 th)))

    -- it is white, and claimed now
    claims : g.objects.hd q.0 ≡ white
        → Comes l w hy t ws i (at_place g.pa g.ra (Looking q th)) X
        (ends (out (moved_table t i t.marks (task_at t i).pending (Placing (at_primary g.pa q) (at_then g.pa th))) Moved) (set ws (g.pa q.0 - 1) 1))
    unfolding happen_all
    claims d =
        comes_moved g i (below g i ip) (at_place g.pa g.ra (Looking q th)) X g.kept g.pa g.ra
        (heads g.objects q.0 (claimed i) g.objects.stack i (goes (g.objects.tasks i) (Placing q th))) place.0 t.marks _ _
        (goes (g.objects.tasks i) (Placing q th)) (set ws (g.pa q.0 - 1) 1) (moved_goes g i ip t.marks (Placing q th))
        (look_claims g.objects i q th g.inv ip pe d)
        (claim_agree g.inv g.agree i ip (goes (g.objects.tasks i) (Placing q th)) q.0 held d (rw (pe, claim_jobs q th) refl))
        (still_goes g.still i (below g i ip) (Placing q th) (doing_claims (g.objects.tasks i) (owner_at w i).doing q th doing)) ip tt hy.copies refl
        (collects (g.collecting place.0) _ _ refl refl (g.collecting place.0).forgiven (counts_claims g.inv place.0 (g.collecting place.0).counts i ip q th pe d))

    waits : (u : ℕ) → g.objects.hd q.0 ≡ claimed u
        → Comes l w hy t ws i (at_place g.pa g.ra (Looking q th)) X (ends (wait_of t (Claimer (at_primary g.pa q))) ws)
    waits u d = let f = claimer_found g.agree g.inv q.0 u d in rw f.1 (comes_wait g i (below g i ip) (at_place g.pa g.ra (Looking q th)) X f.0)

    pub look_comes : Comes l w hy t ws i (at_place g.pa g.ra (Looking q th)) X (settle t i (look_step_of t.marks ws t.limits.s (at_primary g.pa q) (at_then g.pa th)))
    unfolding look_step_of settle_of
    look_comes = rw (look_of_lem g.inv g.agree q.0 held) (on (g.objects.hd q.0) refl)
      where
        on : (h : Hd) → g.objects.hd q.0 ≡ h
            → Comes l w hy t ws i (at_place g.pa g.ra (Looking q th)) X
            (settle t i
            (if_forwarded (found_by (g.ra q.0) (g.objects.shape.len q.0) h) (λ r len. acted (Goes t.marks (go_on (at_then g.pa th) r)) ws)
            (unplaced_case t.marks ws (at_primary g.pa q) (at_then g.pa th) (found_by (g.ra q.0) (g.objects.shape.len q.0) h))))
        on white e = claims e
        on (claimed u) e = waits u e
        on (count c) e = goes_on (rw e tt)
        on (locked j u) e = goes_on (rw e tt)

  -- place: for want of room the heap is exhausted
  pub place_comes : (g.objects.tasks i).place ≡ Placing q th
      → (room_of true t.marks (end t) < twin_need (g.objects.shape.len q.0) (g.objects.shape.len q.0) → X)
      → Comes l w hy t ws i (at_place g.pa g.ra (Placing q th)) X
      (settle t i (place_step_of t.marks (end t) ws t.limits.s (at_primary g.pa q) (at_then g.pa th)))
  unfolding settle_of happen_all
  place_comes pe f = on (place_step g.inv g.agree i q th ip pe)
    where
      on : ((place_step_of t.marks (end t) ws t.limits.s (primary (g.pa q.0)) (at_then g.pa th) ≡ acted (Fails (refusal 10)) ws)
          × (room_of true t.marks (end t) < twin_need (g.objects.shape.len q.0) (g.objects.shape.len q.0)))
          ⊎ ((place_step_of t.marks (end t) ws t.limits.s (primary (g.pa q.0)) (at_then g.pa th)
          ≡ acted (Goes (twin_marks t.marks (g.objects.shape.len q.0) (g.objects.shape.len q.0)) (go_on (at_then g.pa th) (replica (t.marks.a + 2))))
          (twin_words t.marks ws (g.pa q.0) (g.objects.shape.len q.0)))
          × Agree g.kept g.pa (upd g.ra q.0 (t.marks.a + 2))
          (moves (twins g.objects q.0 (g.objects.shape.len q.0)) i (goes (g.objects.tasks i) (go_on th (replica q.0))))
          (entered t (twin_marks t.marks (g.objects.shape.len q.0) (g.objects.shape.len q.0)) i
          (at_task g.pa (upd g.ra q.0 (t.marks.a + 2)) (goes (g.objects.tasks i) (go_on th (replica q.0)))))
          (twin_words t.marks ws (g.pa q.0) (g.objects.shape.len q.0)))
          → Comes l w hy t ws i (at_place g.pa g.ra (Placing q th)) X
          (settle t i (place_step_of t.marks (end t) ws t.limits.s (primary (g.pa q.0)) (at_then g.pa th)))
      on (inl h) = rw h.0 (inl (refl, f h.1))
      on (inr h) =
          rw h.0
          (comes_moved g i (below g i ip) (at_place g.pa g.ra (Placing q th)) X g.kept g.pa (upd g.ra q.0 (t.marks.a + 2))
          (moves (twins g.objects q.0 (g.objects.shape.len q.0)) i (goes (g.objects.tasks i) (go_on th (replica q.0)))) (at_place_lem g.inv i (Placing q th) pe).0 _ _ _
          (goes (g.objects.tasks i) (go_on th (replica q.0))) _ (placed_moved g.inv g.agree i q th ip pe _)
          (places g.objects i q th g.inv ip pe) h.1
          (still_goes g.still i (below g i ip) (go_on th (replica q.0))
          (doing_on (g.objects.tasks i) (owner_at w i).doing q.0 th
          (doing_place (g.objects.tasks i) (owner_at w i).doing q th (g.objects.tasks i).place pe (g.still.tasks i (below g i ip)).doing))) ip (stands_on th q.0) hy.copies refl
          (collects (g.collecting (at_place_lem g.inv i (Placing q th) pe).0) _ _ refl refl (g.collecting (at_place_lem g.inv i (Placing q th) pe).0).forgiven (counts_places g.inv (at_place_lem g.inv i (Placing q th) pe).0 (g.collecting (at_place_lem g.inv i (Placing q th) pe).0).counts i ip q th pe)))
