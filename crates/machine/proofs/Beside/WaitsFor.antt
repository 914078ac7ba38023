-- Whom a step waits for, and why: the claimer of what it looks at, the holder of its Store's own slot, a task with a job or a
-- claim while the stack is empty, a task that keeps a flip from being made for want of room.
use Rattle.std.specs.Prelude.{ℕ, ◌+◌, ◌-◌, ◌<◌, ◌≢◌, List, Bool, take, ltb, leb, eqb, Option, Some, None, Result, Ok, Err}
use Rattle.std.proofs.Math.Path.{◌≡◌, refl, ap}
use Rattle.std.proofs.Common.{◌∙◌, leb-false, ltb-false}
use Rattle.std.proofs.Math.Logic.{inl, inr}
use Rattle.std.proofs.Math.Bool.{true, false}
use Rattle.std.proofs.lemmas.Bool.{eqb-false}
use Rattle.table.specs.declared.Primary.{Primary}
use Rattle.table.specs.declared.Marks.{Marks}
use Rattle.table.specs.declared.Making.{Making}
use Rattle.table.specs.declared.Slot.{Slot}
use Rattle.table.specs.declared.Operand.{Operand}
use Rattle.table.specs.declared.Place.{Place}
use Rattle.table.specs.declared.Place.TheVariants.{Idle, New, Asked, FillWrite, FillCopy, StoreWrite, Meet, StoreCopy, Take, Read, Put, Release, Looking, Placing}
use Rattle.table.specs.declared.Table.{Table}
use Rattle.table.specs.declared.Sought.{Sought}
use Rattle.table.specs.declared.Sought.TheVariants.{Worker, Blocker}
use Rattle.table.specs.declared.Deed.{Deed}
use Rattle.table.specs.declared.Deed.TheVariants.{Goes, GoesWith, Ends, EndsWith, Waits, Fails}
use Rattle.table.specs.declared.Refusal.{Refusal}
use Rattle.table.specs.declared.Answer.{Answer}
use Rattle.table.specs.declared.Answer.TheVariants.{Done, Moved, Wait, No}
use Rattle.table.specs.declared.Outcome.{Outcome}
use Rattle.machine.specs.Basics.{pick, all_of, Gate}
use Rattle.machine.specs.Numbers.{refusal}
use Rattle.machine.specs.Words.{end_of, room_for, wanted}
use Rattle.machine.specs.Entries.{task_at, pending_ok, refused, ends, storing_on}
use Rattle.machine.specs.Entries.{Ends as Ended}
use Rattle.machine.specs.Gate.{call_gate}
use Rattle.machine.specs.Tasks.{sought_of, seek_of, grey_of}
use Rattle.machine.specs.Complete.{idle_at}
use Rattle.machine.specs.Begin.{new_ok}
use Rattle.machine.specs.Store.{meet_of}
use Rattle.machine.specs.Switch.{has_replica, entry_has_replicas, switch_of, switch_due, ended_table, finish_of}
use Rattle.machine.specs.Flip.{passes_of, flip_end, flip_of}
use Rattle.machine.specs.New.{ask_or, new_off_of, room_for_two, new_on_of}
use Rattle.machine.specs.Step.{wait_for, wait_of, settle, settle_of, empty_take_of, take_step_of, off_step_of, on_step_of, task_step_of, step_through, step_of}
use Rattle.machine.proofs.Objects.Base.{clash, off_on}
use Rattle.machine.proofs.Agree.Search.{found_is}
use Rattle.machine.proofs.Beside.Changes.{pick_all}
use Rattle.machine.proofs.Beside.Seeks.{Seeks, NoTask, LookSeeks, look_seeks, MeetSeeks, meet_seeks, place_seeks, fill_write_seeks, fill_copy_seeks, store_write_seeks, store_copy_seeks, take_seeks, read_seeks, put_seeks, release_seeks}
use Rattle.machine.specs.Beside.WaitsFor.{holds, ClaimedBy, MetBy, KeptBy, WaitsFor}

module _ (t : Table) (i q : ℕ) (G : Type 0) where
  abbrev Gives : Ended → Type 0
  Gives f = f.out.answer ≡ Wait q → G

  refuses : (x : Refusal) (ws : List ℕ) → Gives (ends (refused t x) ws)
  refuses x ws e = clash cc

  found : (w : Sought) (ws : List ℕ) → (seek_of t.tasks t.limits.p w ≡ Some q → G) → Gives (ends (wait_of t w) ws)
  unfolding wait_of
  found w ws g = by (seek_of t.tasks t.limits.p w) refl
    where
      by : (f : Option ℕ) → seek_of t.tasks t.limits.p w ≡ f → Gives (ends (wait_for t f) ws)
      by (Some u) h e = let z : u ≡ q = cc in g (h ∙ ap Some z)
      by None h e = refuses (refusal 11) ws e

  -- an end is none
  finished : (ws : List ℕ) (m : Marks) (d : Option Making) (x : Answer) → (x ≡ Wait q → G) → Gives (finish_of t ws i m d x)
  unfolding finish_of switch_of
  finished ws m d x h =
      pick_all (λ (o : Outcome). Gives (ends o ws)) (switch_due (ended_table t i m d)) _ _
      (λ due.
      pick_all (λ (o : Outcome). Gives (ends o ws)) (all_of (has_replica ws t.limits.s) (take 8 t.roots)) _ _
      (λ a.
      pick_all (λ (o : Outcome). Gives (ends o ws)) (all_of (entry_has_replicas ws t.limits.s) (take t.limits.p (ended_table t i m d).tasks)) _ _
      (λ b. h)
      (λ b. refuses (refusal 11) ws))
      (λ a. refuses (refusal 11) ws))
      (λ due. h)

  done : Done ≡ Wait q → G
  done e = clash cc

  moved : Moved ≡ Wait q → G
  moved e = clash cc

  settled : (R : Sought → Type 0) (d : Deed) (ws : List ℕ) → Seeks R d → ((w : Sought) → R w → seek_of t.tasks t.limits.p w ≡ Some q → G) → Gives (settle_of t i d ws)
  unfolding settle_of
  settled R (Goes m place) ws r g = moved
  settled R (GoesWith m pending place) ws r g = moved
  settled R (Ends m) ws r g = finished ws m (task_at t i).pending Done done
  settled R (EndsWith m pending) ws r g = finished ws m pending Done done
  settled R (Waits w) ws r g = found w ws (g w r)
  settled R (Fails x) ws r g = refuses x ws

  unsettled : (d : Deed) (ws : List ℕ) → Seeks NoTask d → Gives (settle_of t i d ws)
  unsettled d ws r = settled NoTask d ws r (λ w b e. absurd b)

  flip_made : (ws : List ℕ) → Gives (flip_of t ws)
  unfolding flip_of
  flip_made ws = passed (passes_of t ws).pass
    where
      passed : (p : Result Marks Refusal) → Gives (ends (flip_end t p) (passes_of t ws).words)
      passed (Ok m) = moved
      passed (Err x) = refuses x (passes_of t ws).words

-- what the search for w shows of the task that it found
sought : (t : Table) (w : Sought) (q : ℕ) → seek_of t.tasks t.limits.p w ≡ Some q → (q < t.limits.p) × (sought_of w q (holds t q) ≡ true)
sought t w q e = found_is t.tasks t.limits.p w q e

-- another than me
other : (a b : ℕ) (c : Bool) → pick (eqb a b) false c ≡ true → (a ≢ b) × (c ≡ true)
other a b c e = by (eqb a b) refl e
  where
    by : (d : Bool) → eqb a b ≡ d → pick d false c ≡ true → (a ≢ b) × (c ≡ true)
    by true h e = off_on e
    by false h e = (eqb-false a b h, e)

module _ (t : Table) (ws : List ℕ) (i q : ℕ) where
  abbrev For : Place → Type 0
  For pl = (q < t.limits.p) × WaitsFor t ws i q pl

  claimed_by : (p : Primary) (w : Sought) → LookSeeks ws t.limits.s p w → seek_of t.tasks t.limits.p w ≡ Some q → (q < t.limits.p) × ClaimedBy t ws p q
  unfolding sought_of
  claimed_by p w r e = let h = sought t w q e in (h.0, (r.1, rw r.0 at h.1))

  met_by : (x : Primary) (k : ℕ) (w : Sought) → MeetSeeks ws t.limits.s x k w → seek_of t.tasks t.limits.p w ≡ Some q → (q < t.limits.p) × MetBy t ws q (storing_on x k)
  unfolding sought_of
  met_by x k w (inl r) e = let h = claimed_by x w r e in (h.0, inl h.1)
  met_by x k w (inr r) e = let h = sought t w q e in (h.0, inr (r.1, r.2, r.3, r.4, rw r.0 at h.1))

  meet_step : (v : Operand Primary) (d : Option Slot) → Gives t i q ((q < t.limits.p) × MetBy t ws q d) (settle t i (meet_of t.marks ws t.limits.s t.limits.k d v))
  unfolding meet_of
  meet_step v None = settled t i q _ NoTask _ _ tt (λ w b e. absurd b)
  meet_step v (Some y) = settled t i q _ (MeetSeeks ws t.limits.s y.object y.index) _ _ (meet_seeks t.marks ws t.limits.s t.limits.k y.object y.index v) (met_by y.object y.index)

  take_step : (n : ℕ) → Gives t i q (For (Take n)) (take_step_of t ws i n)
  unfolding take_step_of empty_take_of sought_of
  take_step n =
      pick_all (Gives t i q (For (Take n))) (ltb t.marks.top (end_of t.upper t.limits.h)) _ _
      (λ e. unsettled t i q (For (Take n)) _ _ (take_seeks t.marks ws t.limits.s n))
      (λ e.
      pick_all (Gives t i q (For (Take n))) (grey_of t.marks (end_of t.upper t.limits.h) t.tasks t.limits.p) _ _
      (λ f. found t i q (For (Take n)) (Worker i) ws (λ h. let z = sought t (Worker i) q h in let y = other q i _ z.1 in (z.0, (ltb-false _ _ e, y.0, y.1))))
      (λ f. finished t i q (For (Take n)) ws t.marks (task_at t i).pending Done (done t i q (For (Take n)))))

  new_off : (r len m : ℕ) → t.on ≡ false → Gives t i q ((q < t.limits.p) × KeptBy t len i q) (new_off_of t ws i r len m)
  unfolding new_off_of room_for sought_of
  new_off r len m off =
      pick_all (Gives t i q _) (new_ok t.limits.s r len m) _ _
      (λ e.
      pick_all (Gives t i q _) (leb (len + 2) (end_of t.upper t.limits.h - t.marks.a)) _ _
      (λ f. finished t i q _ _ _ _ Done (done t i q _))
      (λ f. asked (leb-false _ _ f) (seek_of t.tasks t.limits.p (Blocker i)) refl))
      (λ e. refuses t i q _ (refusal 11) ws)
    where
      asked : end_of t.upper t.limits.h - t.marks.a < len + 2 → (f : Option ℕ) → seek_of t.tasks t.limits.p (Blocker i) ≡ f
          → Gives t i q ((q < t.limits.p) × KeptBy t len i q) (ask_or t ws i (Asked (wanted r len m)) f)
      asked room (Some u) h e =
          let same : u ≡ q = cc in
          let z = sought t (Blocker i) q (h ∙ ap Some same) in
          let y = other q i _ z.1 in
          (z.0, (off, room, y.0, y.1))
      asked room None h e = flip_made t i q _ ws e

  new_on : (r len m : ℕ) → Gives t i q (For (New (wanted r len m))) (new_on_of t ws i r len m)
  unfolding new_on_of
  new_on r len m =
      pick_all (Gives t i q (For (New (wanted r len m)))) (new_ok t.limits.s r len m) _ _
      (λ e.
      pick_all (Gives t i q (For (New (wanted r len m)))) (room_for_two t.marks (end_of t.upper t.limits.h) len) _ _
      (λ f. moved t i q (For (New (wanted r len m))))
      (λ f. finished t i q (For (New (wanted r len m))) ws t.marks (task_at t i).pending (No (refusal 9)) (λ e. clash cc)))
      (λ e. refuses t i q (For (New (wanted r len m))) (refusal 11) ws)

  off_step : (pl : Place) → t.on ≡ false → Gives t i q (For pl) (off_step_of t ws i (task_at t i) pl)
  unfolding off_step_of
  off_step Idle h = refuses t i q _ (refusal 6) ws
  off_step (New want) h = new_off want.register want.len want.m h
  off_step (Asked want) h = new_off want.register want.len want.m h
  off_step (FillWrite v) h = unsettled t i q _ _ _ (fill_write_seeks false t.marks ws t.limits.s (task_at t i).pending v)
  off_step (StoreWrite v) h = unsettled t i q _ _ _ (store_write_seeks false t.marks ws t.limits.s (task_at t i).storing v)
  off_step _ h = refuses t i q _ (refusal 11) ws

  on_step : (pl : Place) → Gives t i q (For pl) (on_step_of t ws i (task_at t i) pl)
  unfolding on_step_of
  on_step Idle = refuses t i q _ (refusal 6) ws
  on_step (New want) = new_on want.register want.len want.m
  on_step (Asked want) = refuses t i q _ (refusal 11) ws
  on_step (FillWrite v) = unsettled t i q _ _ _ (fill_write_seeks true t.marks ws t.limits.s (task_at t i).pending v)
  on_step (FillCopy c) = unsettled t i q _ _ _ (fill_copy_seeks t.marks ws t.limits.s t.limits.k (task_at t i).pending c)
  on_step (StoreWrite v) = unsettled t i q _ _ _ (store_write_seeks true t.marks ws t.limits.s (task_at t i).storing v)
  on_step (Meet v) = meet_step v (task_at t i).storing
  on_step (StoreCopy c) = unsettled t i q _ _ _ (store_copy_seeks t.marks ws t.limits.s t.limits.k (task_at t i).storing c)
  on_step (Take n) = take_step n
  on_step (Read n job) = unsettled t i q _ _ _ (read_seeks t.marks ws t.limits.s n job.object job.index)
  on_step (Put n job c) = unsettled t i q _ _ _ (put_seeks t.marks ws t.limits.s n job.object job.index c)
  on_step (Release n job) = unsettled t i q _ _ _ (release_seeks t.marks ws t.limits.s n job.object job.index)
  on_step (Looking p th) = settled t i q _ (LookSeeks ws t.limits.s p) _ _ (look_seeks t.marks ws t.limits.s p th) (claimed_by p)
  on_step (Placing p th) = unsettled t i q _ _ _ (place_seeks t.marks (end_of t.upper t.limits.h) ws t.limits.s p th)

  -- a step that waits has this reason
  pub waits_for : (step_of t ws i).out.answer ≡ Wait q → (q < t.limits.p) × WaitsFor t ws i q (task_at t i).place
  unfolding step_of task_step_of
  waits_for = gate (call_gate t ws i)
    where
      busy : Gives t i q (For (task_at t i).place) (task_step_of t ws i)
      busy =
          pick_all (Gives t i q (For (task_at t i).place)) (idle_at t i) _ _ (λ e. refuses t i q _ (refusal 6) ws)
          (λ e.
          pick_all (Gives t i q (For (task_at t i).place)) (pending_ok (task_at t i).pending) _ _
          (λ f. pick_all (Gives t i q (For (task_at t i).place)) t.on _ _ (λ h. on_step (task_at t i).place) (λ h. off_step (task_at t i).place h))
          (λ f. refuses t i q _ (refusal 11) ws))

      gate : (g : Gate) → Gives t i q (For (task_at t i).place) (step_through g t ws (task_step_of t ws i))
      gate (Ok u) = busy
      gate (Err x) = refuses t i q _ x ws
