-- Every step of a task: the heap is exhausted for want of room, or table and store stand side by side again.
use Rattle.std.specs.Prelude.{ℕ, ◌<◌, ◌≡◌, List, Bool, true, false, Option, Some, None}
use Rattle.std.proofs.Math.Path.{refl, ap}
use Rattle.std.proofs.Common.{sym, ◌∙◌, inl, lt-ltb}
use Rattle.std.proofs.Math.Logic.{inr}
use Rattle.table.specs.declared.Limits.{Limits}
use Rattle.table.specs.declared.Primary.{Primary}
use Rattle.table.specs.declared.Making.{Making}
use Rattle.table.specs.declared.Slot.{Slot}
use Rattle.table.specs.declared.Operand.{Operand}
use Rattle.table.specs.declared.Replica.{Replica}
use Rattle.table.specs.declared.Then.{Then}
use Rattle.table.specs.declared.Place.{Place}
use Rattle.table.specs.declared.Place.TheVariants.{Idle, New, Asked, FillWrite, FillCopy, StoreWrite, Meet, StoreCopy, Take, Read, Put, Release, Looking, Placing}
use Rattle.table.specs.declared.Task.{Task}
use Rattle.table.specs.declared.Table.{Table}
use Rattle.machine.specs.History.{History}
use Rattle.machine.specs.Basics.{pick}
use Rattle.machine.specs.Entries.{pending_ok, task_at, no, Ends, ends, pending_with, storing_on}
use Rattle.machine.specs.Tasks.{holding_of, idle_of}
use Rattle.machine.specs.Step.{on_step_of, off_step_of, task_step_of}
use Rattle.machine.specs.StillStore.{Store, happen_all}
use Rattle.machine.proofs.Objects.Base.{off_on}
use Rattle.machine.proofs.Objects.State.{Hd, Shape, OfPending, OfStore}
use Rattle.machine.proofs.Objects.Inv.{PendingOk}
use Rattle.machine.proofs.Objects.MoveLaws.{at_place_lem}
use Rattle.machine.proofs.Agree.Encode.{at_pending, at_storing, at_place, at_task}
use Rattle.machine.proofs.Agree.Names.{sound_held}
use Rattle.machine.proofs.Agree.Read.{object_of_lem}
use Rattle.machine.specs.Beside.Room.{WantsRoom}
use Rattle.machine.proofs.Beside.Stands.{Stands, busy_there}
use Rattle.machine.proofs.Beside.Histories.{as_it_was, history_is}
use Rattle.machine.proofs.Beside.Good.{Good, Comes}
use Rattle.machine.proofs.Beside.Glue.{entry_of}
use Rattle.machine.proofs.Beside.Stores.{store_write_comes, store_copy_comes}
use Rattle.machine.proofs.Beside.StoreOff.{store_off_comes}
use Rattle.machine.proofs.Beside.Meets.{meet_comes}
use Rattle.machine.proofs.Beside.Looks.{look_comes, place_comes}
use Rattle.machine.proofs.Beside.Pays.{take_comes}
use Rattle.machine.proofs.Beside.Copies.{read_comes, put_comes}
use Rattle.machine.proofs.Beside.Releases.{release_comes}
use Rattle.machine.proofs.Beside.Fills.{fill_write_comes, fill_off_comes, fill_copy_comes}
use Rattle.machine.proofs.Beside.News.{new_on_comes}
use Rattle.machine.proofs.Beside.Flips.{new_off_comes}
use Rattle.machine.specs.Words.{slot_at, wanted}

pending_there : (K : ℕ → Type 0) (sh : Shape) (hd : ℕ → Hd) (on : Bool) (pa : ℕ → ℕ) (d : Option Making) → PendingOk K sh hd on d → pending_ok (at_pending pa d) ≡ true
pending_there K sh hd on pa None o = refl
pending_there K sh hd on pa (Some d) o = lt-ltb d.register 8 o.5

-- the step by the entry and the place that it reads, and its three tests
abbrev by : Table → List ℕ → ℕ → Task → Place → Bool → Bool → Bool → Ends
by t ws i e pl idle fine on = pick idle (ends (no t 6) ws) (pick fine (pick on (on_step_of t ws i e pl) (off_step_of t ws i e pl)) (ends (no t 11) ws))

by_entry : (t : Table) (ws : List ℕ) (i : ℕ) (e : Task) → task_at t i ≡ e
    → task_step_of t ws i ≡ by t ws i e e.place (idle_of (holding_of e.place)) (pending_ok e.pending) t.on
unfolding task_step_of
by_entry t ws i e q = ap (λ (e : Task). by t ws i e e.place (idle_of (holding_of e.place)) (pending_ok e.pending) t.on) q

module _ {l : Limits} {w : Store} {hy : History} {t : Table} {ws : List ℕ} (g : Good l w hy t ws) (i : ℕ) (ip : i < t.limits.p) where
  -- a step of an idle task is refused
  rests : (X : Type 0) → Comes l w hy t ws i Idle X (ends (no t 6) ws)
  unfolding happen_all
  rests X = inr (rw (history_is t ws Idle (ends (no t 6) ws) hy hy.copies (as_it_was t.on) refl) g, tt)

  idle_step : (g.objects.tasks i).place ≡ Idle → Comes l w hy t ws i Idle ⊥ (task_step_of t ws i)
  unfolding holding_of
  idle_step pe =
      rw
      (by_entry t ws i (at_task g.pa g.ra (g.objects.tasks i)) (entry_of g i ip)
      ∙ ap (λ (z : Place). by t ws i (at_task g.pa g.ra (g.objects.tasks i)) (at_place g.pa g.ra z) (idle_of (holding_of (at_place g.pa g.ra z)))
      (pending_ok (at_pending g.pa (g.objects.tasks i).pending)) t.on) pe)
      (rests ⊥)

  -- of a task that stands at a place, what collecting and off do there
  acts : (pl : Place) → (g.objects.tasks i).place ≡ pl → Stands pl → (X : Type 0)
      → (g.objects.on ≡ true → Comes l w hy t ws i (at_place g.pa g.ra pl) X (on_step_of t ws i (at_task g.pa g.ra (g.objects.tasks i)) (at_place g.pa g.ra pl)))
      → (g.objects.on ≡ false → Comes l w hy t ws i (at_place g.pa g.ra pl) X (off_step_of t ws i (at_task g.pa g.ra (g.objects.tasks i)) (at_place g.pa g.ra pl)))
      → Comes l w hy t ws i (at_place g.pa g.ra pl) X (task_step_of t ws i)
  acts pl pe s X a b = rw seen (on g.objects.on refl)
    where
      e : Task
      e = at_task g.pa g.ra (g.objects.tasks i)

      seen : task_step_of t ws i
          ≡ pick g.objects.on (on_step_of t ws i (at_task g.pa g.ra (g.objects.tasks i)) (at_place g.pa g.ra pl))
          (off_step_of t ws i (at_task g.pa g.ra (g.objects.tasks i)) (at_place g.pa g.ra pl))
      seen =
          by_entry t ws i (at_task g.pa g.ra (g.objects.tasks i)) (entry_of g i ip)
          ∙ ap (λ (z : Place). by t ws i (at_task g.pa g.ra (g.objects.tasks i)) (at_place g.pa g.ra z) (idle_of (holding_of (at_place g.pa g.ra z)))
          (pending_ok (at_pending g.pa (g.objects.tasks i).pending)) t.on) pe
          ∙ ap (λ (z : Bool). by t ws i (at_task g.pa g.ra (g.objects.tasks i)) (at_place g.pa g.ra pl) z
          (pending_ok (at_pending g.pa (g.objects.tasks i).pending)) t.on) (busy_there g.pa g.ra pl s)
          ∙ ap (λ (z : Bool). by t ws i (at_task g.pa g.ra (g.objects.tasks i)) (at_place g.pa g.ra pl) false z t.on)
          (pending_there g.kept g.objects.shape g.objects.hd g.objects.on g.pa (g.objects.tasks i).pending (g.inv.entries i).pending)
          ∙ ap (λ (z : Bool). by t ws i (at_task g.pa g.ra (g.objects.tasks i)) (at_place g.pa g.ra pl) false true z) g.agree.on

      on : (c : Bool) → g.objects.on ≡ c
          → Comes l w hy t ws i (at_place g.pa g.ra pl) X
          (pick c (on_step_of t ws i (at_task g.pa g.ra (g.objects.tasks i)) (at_place g.pa g.ra pl))
          (off_step_of t ws i (at_task g.pa g.ra (g.objects.tasks i)) (at_place g.pa g.ra pl)))
      on true e = a e
      on false e = b e

  -- a place that only collecting has
  only_on : (pl : Place) → (g.objects.tasks i).place ≡ pl → Stands pl → (X : Type 0) → g.objects.on ≡ true
      → Comes l w hy t ws i (at_place g.pa g.ra pl) X (on_step_of t ws i (at_task g.pa g.ra (g.objects.tasks i)) (at_place g.pa g.ra pl))
      → Comes l w hy t ws i (at_place g.pa g.ra pl) X (task_step_of t ws i)
  only_on pl pe s X live a = acts pl pe s X (λ e. a) (λ e. absurd (off_on (sym e ∙ live)))

  -- the Store's slot, and the pending object, are there where the place needs them
  with_store : {A : Type 1} (P : ℕ → ℕ → Type 0) (s : Option Slot) → (g.objects.tasks i).storing ≡ s → OfStore s P
      → ((x : Primary) (j : ℕ) → (g.objects.tasks i).storing ≡ storing_on x j → A) → A
  with_store P None e h f = absurd h
  with_store P (Some y) e h f = f y.object y.index e

  with_pending : {A : Type 1} (P : ℕ → Type 0) (d : Option Making) → (g.objects.tasks i).pending ≡ d → OfPending d P
      → ((x : Primary) (r len f : ℕ) → (g.objects.tasks i).pending ≡ pending_with x r len f → A) → A
  with_pending P None e h f = absurd h
  with_pending P (Some d) e h f = f d.at d.register d.len d.filled e

  at_store : (v : Operand Primary) → (g.objects.tasks i).place ≡ StoreWrite v → Comes l w hy t ws i (at_place g.pa g.ra (StoreWrite v)) ⊥ (task_step_of t ws i)
  unfolding on_step_of off_step_of
  at_store v pe =
      acts (StoreWrite v) pe tt ⊥
      (λ on. with_store _ (g.objects.tasks i).storing refl (at_place_lem g.inv i (StoreWrite v) pe).0
      (λ x j se. rw (ap (at_storing g.pa) se) (store_write_comes g i ip x j se ⊥ v on pe)))
      (λ off. with_store _ (g.objects.tasks i).storing refl (at_place_lem g.inv i (StoreWrite v) pe).0
      (λ x j se. rw (ap (at_storing g.pa) se) (store_off_comes g i ip x j se ⊥ v off pe)))

  at_fill : (v : Operand Primary) → (g.objects.tasks i).place ≡ FillWrite v → Comes l w hy t ws i (at_place g.pa g.ra (FillWrite v)) ⊥ (task_step_of t ws i)
  unfolding on_step_of off_step_of
  at_fill v pe =
      acts (FillWrite v) pe tt ⊥
      (λ on. with_pending _ (g.objects.tasks i).pending refl (at_place_lem g.inv i (FillWrite v) pe).1
      (λ x r len f me. rw (ap (at_pending g.pa) me) (fill_write_comes g i ip ⊥ x r len f me v pe on)))
      (λ off. with_pending _ (g.objects.tasks i).pending refl (at_place_lem g.inv i (FillWrite v) pe).1
      (λ x r len f me. rw (ap (at_pending g.pa) me) (fill_off_comes g i ip ⊥ x r len f me v pe off)))

  at_fill_copy : (c : Operand Replica) → (g.objects.tasks i).place ≡ FillCopy c → Comes l w hy t ws i (at_place g.pa g.ra (FillCopy c)) ⊥ (task_step_of t ws i)
  unfolding on_step_of
  at_fill_copy c pe =
      only_on (FillCopy c) pe tt ⊥ (at_place_lem g.inv i (FillCopy c) pe).0
      (with_pending _ (g.objects.tasks i).pending refl (at_place_lem g.inv i (FillCopy c) pe).1.1
      (λ x r len f me. rw (ap (at_pending g.pa) me) (fill_copy_comes g i ip ⊥ x r len f me c pe)))

  at_meet : (v : Operand Primary) → (g.objects.tasks i).place ≡ Meet v → Comes l w hy t ws i (at_place g.pa g.ra (Meet v)) ⊥ (task_step_of t ws i)
  unfolding on_step_of
  at_meet v pe =
      only_on (Meet v) pe tt ⊥ (at_place_lem g.inv i (Meet v) pe).0
      (with_store _ (g.objects.tasks i).storing refl (at_place_lem g.inv i (Meet v) pe).1
      (λ x j se. rw (ap (at_storing g.pa) se) (meet_comes g i ip x j se ⊥ v pe)))

  at_store_copy : (c : Operand Replica) → (g.objects.tasks i).place ≡ StoreCopy c → Comes l w hy t ws i (at_place g.pa g.ra (StoreCopy c)) ⊥ (task_step_of t ws i)
  unfolding on_step_of
  at_store_copy c pe =
      only_on (StoreCopy c) pe tt ⊥ (at_place_lem g.inv i (StoreCopy c) pe).0
      (with_store _ (g.objects.tasks i).storing refl (at_place_lem g.inv i (StoreCopy c) pe).1
      (λ x j se. rw (ap (at_storing g.pa) se) (store_copy_comes g i ip x j se ⊥ c pe)))

  at_new : (r len m : ℕ) → (g.objects.tasks i).place ≡ New (wanted r len m) → Comes l w hy t ws i (New (wanted r len m)) (WantsRoom t ws i (New (wanted r len m))) (task_step_of t ws i)
  unfolding on_step_of off_step_of
  at_new r len m pe =
      acts (New (wanted r len m)) pe tt (WantsRoom t ws i (New (wanted r len m))) (λ on. new_on_comes g i ip r len m (WantsRoom t ws i (New (wanted r len m))) pe on)
      (λ off. new_off_comes g i ip r len m (inl pe) off (WantsRoom t ws i (New (wanted r len m))) (New (wanted r len m)) refl (λ after q. rw q refl) (λ none f. (g.agree.on ∙ off, none, f)) refl)

  at_asked : (r len m : ℕ) → (g.objects.tasks i).place ≡ Asked (wanted r len m) → Comes l w hy t ws i (Asked (wanted r len m)) (WantsRoom t ws i (Asked (wanted r len m))) (task_step_of t ws i)
  unfolding on_step_of off_step_of
  at_asked r len m pe =
      acts (Asked (wanted r len m)) pe tt (WantsRoom t ws i (Asked (wanted r len m))) (λ on. absurd (off_on (sym (at_place_lem g.inv i (Asked (wanted r len m)) pe).0 ∙ on)))
      (λ off. new_off_comes g i ip r len m (inr pe) off (WantsRoom t ws i (Asked (wanted r len m))) (Asked (wanted r len m)) refl (λ after q. refl) (λ none f. (g.agree.on ∙ off, none, f)) refl)

  at_placing : (q : Primary) (th : Then) → (g.objects.tasks i).place ≡ Placing q th
      → Comes l w hy t ws i (at_place g.pa g.ra (Placing q th)) (WantsRoom t ws i (at_place g.pa g.ra (Placing q th))) (task_step_of t ws i)
  unfolding on_step_of
  at_placing q th pe =
      let h = at_place_lem g.inv i (Placing q th) pe in
      only_on (Placing q th) pe tt (WantsRoom t ws i (at_place g.pa g.ra (Placing q th))) h.0
      (place_comes g i ip q th (WantsRoom t ws i (at_place g.pa g.ra (Placing q th))) pe
      (λ b. (
        g.objects.shape.len q.0,
        g.objects.shape.ptr q.0,
        object_of_lem g.inv g.agree q.0 (sound_held g.kept g.objects.shape q.0 h.1 h.2),
        b,
      )))

  pub step_at : (pl : Place) → (g.objects.tasks i).place ≡ pl
      → Comes l w hy t ws i (at_place g.pa g.ra pl) (WantsRoom t ws i (at_place g.pa g.ra pl)) (task_step_of t ws i)
  unfolding on_step_of
  step_at Idle pe = idle_step pe
  step_at (New want) pe = at_new want.register want.len want.m pe
  step_at (Asked want) pe = at_asked want.register want.len want.m pe
  step_at (FillWrite v) pe = at_fill v pe
  step_at (FillCopy c) pe = at_fill_copy c pe
  step_at (StoreWrite v) pe = at_store v pe
  step_at (Meet v) pe = at_meet v pe
  step_at (StoreCopy c) pe = at_store_copy c pe
  step_at (Take n) pe = only_on (Take n) pe tt ⊥ (at_place_lem g.inv i (Take n) pe).0 (take_comes g i ip ⊥ n pe)
  step_at (Read n job) pe = only_on (Read n job) pe tt ⊥ (at_place_lem g.inv i (Read n job) pe).0 (read_comes g i ip ⊥ n job.object job.index pe)
  step_at (Put n job c) pe = only_on (Put n job c) pe tt ⊥ (at_place_lem g.inv i (Put n job c) pe).0 (put_comes g i ip ⊥ n job.object job.index c pe)
  step_at (Release n job) pe = only_on (Release n job) pe tt ⊥ (at_place_lem g.inv i (Release n job) pe).0 (release_comes g i ip ⊥ n job.object job.index pe)
  step_at (Looking q th) pe = only_on (Looking q th) pe tt ⊥ (at_place_lem g.inv i (Looking q th) pe).0 (look_comes g i ip q th ⊥ pe)
  step_at (Placing q th) pe = at_placing q th pe
