-- The steps of a Fill, collecting and off.
use Rattle.std.specs.Prelude.{ℕ, suc, ◌+◌, ◌<◌, ◌≡◌, List, Bool, true, false, ltb, eqb, Option}
use Rattle.std.proofs.Math.Path.{refl}
use Rattle.std.proofs.Common.{ap, sym, ◌∙◌, arith}
use borrow.Author.Tests.{eqb-true, lt-leb}
use Rattle.table.specs.declared.Limits.{Limits}
use Rattle.table.specs.declared.Primary.{Primary}
use Rattle.machine.specs.Entries.{pending_with}
use Rattle.table.specs.declared.Making.{Making}
use Rattle.table.specs.declared.Operand.{Operand}
use Rattle.table.specs.declared.Replica.{Replica}
use Rattle.table.specs.declared.Operand.TheVariants.{Plain, Pointer}
use Rattle.table.specs.declared.Then.TheVariants.{ToFillCopy}
use Rattle.table.specs.declared.Place.{Place}
use Rattle.table.specs.declared.Place.TheVariants.{FillWrite, FillCopy, Take, Looking}
use Rattle.table.specs.declared.Answer.TheVariants.{Done}
use Rattle.table.specs.declared.Task.{Task}
use Rattle.table.specs.declared.Table.{Table}
use Rattle.machine.specs.History.{History}
use Rattle.machine.specs.Basics.{pick}
use Rattle.machine.specs.Words.{replica, operand_word, copied_word}
use Rattle.machine.specs.Begin.{is_pointer}
use Rattle.machine.specs.Look.{look_ahead}
use Rattle.machine.specs.Fill.{fill_write_of, fill_copy_of}
use Rattle.machine.specs.Switch.{ended_entry}
use Rattle.machine.specs.Step.{settle, settle_of}
use Rattle.machine.specs.Tasks.{holding_of}
use Rattle.machine.specs.StillStore.{Store, Doing, filling, owner_at, thing_at, with_thing, fills_thing, with_owner, ends_owner, happen_all}
use Rattle.machine.proofs.Objects.Base.{off_on, upd, upd_same, slot, slot_same, slot_other}
use Rattle.machine.proofs.Objects.State.{is_renamed, pending_is, OfPending, jobs_in}
use Rattle.machine.proofs.Objects.Inv.{PendingOk, SoundOperand}
use Rattle.machine.proofs.Objects.Ops.{goes, goes_with, half_fills, fills_copy, fills_off, filled_one, wrote_one}
use Rattle.machine.proofs.Objects.MoveLaws.{at_place_lem}
use Rattle.machine.proofs.Objects.FillSteps.{fill_writes, fill_copies, fill_off}
use Rattle.machine.proofs.Agree.Encode.{at_primary, at_operand, at_copied, at_place}
use Rattle.machine.proofs.Agree.Agree.{Held}
use Rattle.machine.proofs.Agree.Read.{object_of_lem}
use Rattle.machine.proofs.Agree.Enter.{entered_moved, entered_ended}
use Rattle.machine.proofs.Agree.Slots.{half_agree, fills_agree, fills_off_agree}
use Rattle.machine.proofs.Beside.Still.{DoingAt, GoesTo, StillTask, Still}
use Rattle.machine.proofs.Beside.StillLaws.{still_entry, still_half}
use Rattle.machine.proofs.Beside.StillSteps.{still_filled, still_ended}
use Rattle.machine.proofs.Beside.Doing.{still_goes}
use Rattle.machine.proofs.Beside.Stands.{by_ahead, stands_ahead}
use Rattle.machine.proofs.Objects.CountFills.{counts_half, counts_fills}
use Rattle.machine.proofs.Beside.Collects.{ahead_left, ahead_free}
use Rattle.machine.proofs.Beside.Lives.{lived_shape}
use Rattle.machine.proofs.Beside.Good.{Good, Comes, comes_moved}
use Rattle.machine.proofs.Beside.Glue.{operand_word_lem, copied_word_lem, at_ahead, look_placed, below, entry_of, moved_goes, busy_at}
use Rattle.machine.proofs.Beside.Finish.{finishes}
use Rattle.machine.proofs.Beside.Ending.{ended_jobs}

ahead_jobs : (v : Operand Primary) → 0 ≡ jobs_in (holding_of (look_ahead v ToFillCopy FillCopy))
unfolding holding_of
ahead_jobs v = by_ahead (λ pl. 0 ≡ jobs_in (holding_of pl)) v ToFillCopy FillCopy (λ c. refl) (λ p. refl)

-- the store knows the value, nil too
ahead_doing : (e : Task) (d : Doing) (v : Operand Primary) → d ≡ filling (operand_word v)
    → DoingAt (goes e (look_ahead v ToFillCopy FillCopy)) d (look_ahead v ToFillCopy FillCopy)
ahead_doing e d (Plain w) h = h
ahead_doing e d (Pointer p) h = on (eqb p.0 0) refl
  where
    on : (b : Bool) → eqb p.0 0 ≡ b → DoingAt (goes e (pick b (FillCopy (Pointer (replica 0))) (Looking p ToFillCopy))) d (pick b (FillCopy (Pointer (replica 0))) (Looking p ToFillCopy))
    on true c = h ∙ ap filling (eqb-true p.0 0 c)
    on false c = h

doing_of : (e : Task) (d : Doing) (v : Operand Primary) (pl : Place) → pl ≡ FillWrite v → DoingAt e d pl → d ≡ filling (operand_word v)
doing_of e d v pl pe h = rw pe at h

copy_doing : (e : Task) (d : Doing) (c : Operand Replica) (pl : Place) → pl ≡ FillCopy c → DoingAt e d pl → d ≡ filling (copied_word c)
copy_doing e d c pl pe h = rw pe at h

goes_to_lem : {x : Primary} {r len f q : ℕ} (d : Option Making) → d ≡ pending_with x r len f → GoesTo d q → q ≡ r
goes_to_lem d e h = rw e at h

module _ {l : Limits} {w : Store} {hy : History} {t : Table} {ws : List ℕ} (g : Good l w hy t ws) (i : ℕ) (ip : i < t.limits.p) (X : Type 0) (x : Primary) (r len f : ℕ)
    (me : (g.objects.tasks i).pending ≡ pending_with x r len f) where
  made : PendingOk g.kept g.objects.shape g.objects.hd g.objects.on (pending_with x r len f)
  made = rw me at (g.inv.entries i).pending

  held : Held g.kept g.objects.shape x.0
  held = (made.0, made.2, made.1)

  at_fill : f ≡ g.objects.shape.fill x.0
  at_fill = made.4

  unfilled : (y j : ℕ) → j < g.objects.shape.fill y → (y ≡ x.0) × (j ≡ g.objects.shape.fill x.0) → ⊥
  unfilled y j m e = let a : g.objects.shape.fill y ≡ g.objects.shape.fill x.0 = ap g.objects.shape.fill e.0 in omega (arith, e.1)

  -- the store's pending object
  pending_is_lem : (owner_at w i).pending ≡ x.0
  pending_is_lem = (g.still.tasks i (below g i ip)).pending ∙ ap pending_is me

  module _ (v : Operand Primary) (pe : (g.objects.tasks i).place ≡ FillWrite v) where
    place : OfPending (pending_with x r len f) (λ x. (g.objects.shape.fill x < g.objects.shape.len x) × (is_pointer v ≡ ltb (g.objects.shape.fill x) (g.objects.shape.ptr x)))
        × SoundOperand g.kept g.objects.shape v
    place = let h = at_place_lem g.inv i (FillWrite v) pe in (rw me at h.1, h.2)

    doing : (owner_at w i).doing ≡ filling (operand_word v)
    doing = doing_of (g.objects.tasks i) (owner_at w i).doing v (g.objects.tasks i).place pe (g.still.tasks i (below g i ip)).doing

    -- collecting: the primary's slot
    pub fill_write_comes : g.objects.on ≡ true
        → Comes l w hy t ws i (at_place g.pa g.ra (FillWrite v)) X
        (settle t i (fill_write_of true t.marks ws t.limits.s (pending_with (at_primary g.pa x) r len f) (at_operand g.pa v)))
    unfolding fill_write_of settle_of happen_all holding_of
    fill_write_comes on =
        rw (
          at_fill,
          object_of_lem g.inv g.agree x.0 held,
          lt-leb (g.objects.shape.len x.0) (g.objects.shape.fill x.0) place.0.0,
          operand_word_lem g.pa v (g.objects.shape.fill x.0) (g.objects.shape.ptr x.0) place.0.1,
        )
        (comes_moved g i (below g i ip) (at_place g.pa g.ra (FillWrite v)) X g.kept g.pa g.ra
        (half_fills g.objects x.0 (operand_word v) i (goes (g.objects.tasks i) (look_ahead v ToFillCopy FillCopy))) on _ _ _
        (goes (g.objects.tasks i) (look_ahead v ToFillCopy FillCopy)) _
        (rw (at_ahead g.agree.lay v place.1 ToFillCopy FillCopy FillCopy (λ c. refl)) (moved_goes g i ip t.marks (look_ahead v ToFillCopy FillCopy)))
        (fill_writes g.inv i ip x r len f me on v pe)
        (half_agree g.inv g.agree i ip (goes (g.objects.tasks i) (look_ahead v ToFillCopy FillCopy)) (rw pe (ap (λ m. t.marks.j + m) (ahead_jobs v))) x.0 held
        (operand_word v) place.0.0)
        (still_goes (still_half g.still x.0 (operand_word v)) i (below g i ip) (look_ahead v ToFillCopy FillCopy)
        (ahead_doing (g.objects.tasks i) (owner_at w i).doing v doing)) ip (stands_ahead v ToFillCopy FillCopy (λ c. tt)) hy.copies refl
        (record {
          made = (g.collecting on).made;
          forgiven = (g.collecting on).forgiven;
          counts =
              counts_half g.inv on (g.collecting on).counts i ip v x (look_ahead v ToFillCopy FillCopy) pe (ahead_left v ToFillCopy FillCopy (λ c. refl))
              (ahead_free v ToFillCopy FillCopy (λ c y h. h));
          same = (g.collecting on).same;
          lived = lived_shape (wrote_one g.objects.shape x.0) refl refl (g.collecting on).lived hy.copies;
        }))

    -- the store after the slot is filled
    filled_store : Store
    filled_store = with_thing w x.0 (fills_thing (thing_at w x.0) (operand_word v))

    -- off: the slot counts, and the Fill ends
    pub fill_off_comes : g.objects.on ≡ false
        → Comes l w hy t ws i (at_place g.pa g.ra (FillWrite v)) X
        (settle t i (fill_write_of false t.marks ws t.limits.s (pending_with (at_primary g.pa x) r len f) (at_operand g.pa v)))
    unfolding fill_write_of settle_of happen_all holding_of filled_store
    fill_off_comes off =
        rw (
          object_of_lem g.inv g.agree x.0 held,
          lt-leb (g.objects.shape.len x.0) f (omega (arith, place.0.0, at_fill)),
          operand_word_lem g.pa v f (g.objects.shape.ptr x.0) (rw at_fill place.0.1),
        )
        (finishes g i (at_place g.pa g.ra (FillWrite v)) X g.kept g.pa g.ra
        (fills_off g.objects x.0 (operand_word v) i (ended_entry (g.objects.tasks i).regs (pending_with x r len (f + 1)))) _ t.marks
        (pending_with (at_primary g.pa x) r len (f + 1)) Done
        (with_owner filled_store i (ends_owner (owner_at w i) (thing_at filled_store (owner_at w i).pending))) tt (λ after. rw (doing, pending_is_lem) refl)
        (fill_off g.inv i ip x r len f me off v pe)
        (rw (entered_ended g.pa g.ra g.objects t i t.marks (pending_with x r len (f + 1)) (entry_of g i ip), at_fill)
        (fills_off_agree g.inv g.agree i ip (ended_entry (g.objects.tasks i).regs (pending_with x r len (g.objects.shape.fill x.0 + 1)))
        (rw (pe, ended_jobs (g.objects.tasks i).regs (pending_with x r len (g.objects.shape.fill x.0 + 1))) refl) x.0 held (operand_word v) place.0.0))
        g.home still hy.copies refl (λ f. off_on (sym off ∙ f)) g.collected)
      where
        q : StillTask (g.objects.tasks i) (owner_at w i)
        q = g.still.tasks i (below g i ip)

        still : Still (filled_one (wrote_one g.objects.shape x.0) x.0) (slot g.objects.prim x.0 (g.objects.shape.fill x.0) (operand_word v))
            (upd g.objects.tasks i (ended_entry (g.objects.tasks i).regs (pending_with x r len (f + 1)))) g.objects.roots
            (with_owner (with_thing w x.0 (fills_thing (thing_at w x.0) (operand_word v))) i
            (ends_owner (owner_at w i) (thing_at (with_thing w x.0 (fills_thing (thing_at w x.0) (operand_word v))) (owner_at w i).pending)))
        still =
            still_ended
            (still_filled (slot g.objects.prim x.0 (g.objects.shape.fill x.0) (operand_word v)) (upd g.objects.shape.wrote x.0 (suc (g.objects.shape.fill x.0)))
            g.still x.0 (operand_word v) made.0 made.2 (slot_same g.objects.prim x.0 (g.objects.shape.fill x.0) (operand_word v))
            (λ y j l. slot_other g.objects.prim x.0 (g.objects.shape.fill x.0) (operand_word v) y j (λ e. unfilled y j l e)))
            i (below g i ip) (g.objects.tasks i).regs (pending_with x r len (f + 1)) q.regs pending_is_lem (goes_to_lem (g.objects.tasks i).pending me q.goes_to)
            (made.0, made.2, made.3, rw (upd_same g.objects.shape.fill x.0 (suc (g.objects.shape.fill x.0))) (omega (arith, at_fill)))

  -- collecting: the replica's slot, and the slot counts
  pub fill_copy_comes : (c : Operand Replica) → (g.objects.tasks i).place ≡ FillCopy c
      → Comes l w hy t ws i (at_place g.pa g.ra (FillCopy c)) X
      (settle t i (fill_copy_of t.marks ws t.limits.s t.limits.k (pending_with (at_primary g.pa x) r len f) (at_copied g.ra c)))
  unfolding fill_copy_of settle_of happen_all holding_of
  fill_copy_comes c pe =
      rw (
        look_placed g.inv g.agree x.0 held (made.6 place.0),
        lt-leb (g.objects.shape.len x.0) f (omega (arith, place.1.0, at_fill)),
        copied_word_lem g.ra c f (g.objects.shape.ptr x.0) (rw at_fill place.1.3),
      )
      (comes_moved g i (below g i ip) (at_place g.pa g.ra (FillCopy c)) X g.kept g.pa g.ra
      (fills_copy g.objects x.0 (copied_word c) i (goes_with (g.objects.tasks i) (pending_with x r len (f + 1)) (Take t.limits.k))) place.0 _ _ _
      (goes_with (g.objects.tasks i) (pending_with x r len (f + 1)) (Take t.limits.k)) _
      (entered_moved g.pa g.ra g.objects t i t.marks (pending_with x r len (f + 1)) (Take t.limits.k) (entry_of g i ip))
      (fill_copies g.inv i ip x r len f me c pe t.limits.k g.agree.sized.limited.k_low)
      (rw at_fill
      (fills_agree g.inv g.agree i ip (goes_with (g.objects.tasks i) (pending_with x r len (g.objects.shape.fill x.0 + 1)) (Take t.limits.k)) (rw pe refl) x.0 held
      (copied_word c) (made.6 place.0) place.1.0))
      (rw (doing, pending_is_lem)
      (still_entry
      (still_filled g.objects.prim g.objects.shape.wrote g.still x.0 (copied_word c) made.0 made.2 place.1.2 (λ y j l. refl))
      i (below g i ip) (goes_with (g.objects.tasks i) (pending_with x r len (f + 1)) (Take t.limits.k))
      (record {
        regs = q.regs;
        pending = pending_is_lem;
        goes_to = goes_to_lem (g.objects.tasks i).pending me q.goes_to;
        doing = busy_at g i ip (FillCopy c) pe tt;
      }))) ip tt hy.copies refl
      (record {
        made = (g.collecting place.0).made;
        forgiven = (g.collecting place.0).forgiven;
        counts = counts_fills g.inv place.0 (g.collecting place.0).counts i ip c x r len f pe me;
        same = (g.collecting place.0).same;
        lived = lived_shape (filled_one g.objects.shape x.0) refl refl (g.collecting place.0).lived hy.copies;
      }))
    where
      q : StillTask (g.objects.tasks i) (owner_at w i)
      q = g.still.tasks i (below g i ip)

      place : (g.objects.on ≡ true)
          × OfPending (pending_with x r len f)
          (λ x. (g.objects.shape.fill x < g.objects.shape.len x) × (g.objects.shape.wrote x ≡ suc (g.objects.shape.fill x))
          × (g.objects.prim x (g.objects.shape.fill x) ≡ copied_word c) × (is_renamed c ≡ ltb (g.objects.shape.fill x) (g.objects.shape.ptr x)))
      place = let h = at_place_lem g.inv i (FillCopy c) pe in (h.0, rw me at h.1.1)

      doing : (owner_at w i).doing ≡ filling (copied_word c)
      doing = copy_doing (g.objects.tasks i) (owner_at w i).doing c (g.objects.tasks i).place pe q.doing
