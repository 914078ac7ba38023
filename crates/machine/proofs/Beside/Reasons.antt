-- The reasons for what a step answers: a payment ends early only if nothing is grey; 9 and a flip come only for want of room.
use Rattle.std.specs.Prelude.{ℕ, ◌+◌, ◌-◌, ◌*◌, ◌⊎◌, List, Bool, get_or, take, ltb, leb, eqb, Option, Some, None, Ok, Err}
use Rattle.std.proofs.Math.Path.{◌≡◌, refl}
use Rattle.std.proofs.Common.{sym, ◌∙◌, inl, inr}
use Rattle.std.proofs.Math.Bool.{true, false}
use borrow.Author.Tests.{leb-false}
use Rattle.table.specs.declared.Limits.{Limits}
use Rattle.table.specs.declared.Replica.{Replica}
use Rattle.table.specs.declared.Marks.{Marks}
use Rattle.table.specs.declared.Making.{Making}
use Rattle.table.specs.declared.Place.{Place}
use Rattle.table.specs.declared.Place.TheVariants.{New, Asked, Take}
use Rattle.table.specs.declared.Table.{Table}
use Rattle.table.specs.declared.Copying.{Copying}
use Rattle.table.specs.declared.Copying.TheVariants.{Count, Locked, Neither}
use Rattle.table.specs.declared.Refusal.{Refusal}
use Rattle.table.specs.declared.Refusal.TheVariants.{NoRoom}
use Rattle.table.specs.declared.Sought.{Sought}
use Rattle.table.specs.declared.Sought.TheVariants.{Worker}
use Rattle.table.specs.declared.Deed.{Deed}
use Rattle.table.specs.declared.Deed.TheVariants.{Goes, GoesWith, Ends, EndsWith, Waits, Fails}
use Rattle.table.specs.declared.Answer.{Answer}
use Rattle.table.specs.declared.Answer.TheVariants.{Done, Moved, No}
use Rattle.table.specs.declared.Outcome.{Outcome}
use Rattle.machine.specs.History.{History}
use Rattle.machine.specs.Basics.{pick, all_of, Gate}
use Rattle.machine.specs.Numbers.{refusal}
use Rattle.machine.specs.Words.{primary, look_of, copying_of, room_for, wanted}
use Rattle.machine.specs.Entries.{task_at, pending_ok, ends}
use Rattle.machine.specs.Entries.{Ends as Ended}
use Rattle.machine.specs.Gate.{call_gate}
use Rattle.machine.specs.Tasks.{seek_of, grey_of}
use Rattle.machine.specs.Complete.{idle_at}
use Rattle.machine.specs.Begin.{new_ok}
use Rattle.machine.specs.Deeds.{Acted}
use Rattle.machine.specs.Pay.{take_count, take_in, take_of}
use Rattle.machine.specs.Switch.{has_replica, entry_has_replicas, switch_of, switch_due, ended_table, finish_of}
use Rattle.machine.specs.New.{new_off_of, new_on_of}
use Rattle.machine.specs.Step.{wait_for, wait_of, settle_of, empty_take_of, take_step_of, off_step_of, on_step_of, place_step_or, task_step_of, step_through, step_of}
use Rattle.machine.specs.StillStore.{Store}
use Rattle.machine.proofs.Objects.Base.{clash, off_on}
use Rattle.machine.specs.Agree.Agree.{end}
use Rattle.machine.proofs.Agree.Gates.{call_gate_lem}
use Rattle.machine.proofs.Beside.Good.{Good}
use Rattle.machine.proofs.Beside.Changes.{pick_all}
use Rattle.machine.proofs.Beside.Fair.{forwarded_all}
use Rattle.machine.specs.Beside.Grey.{NothingGrey}
use Rattle.machine.proofs.Beside.Grey.{nothing_grey}
use Rattle.machine.specs.Beside.Reasons.{TooFull, NoneLeft}

-- a step that answers x shows G
abbrev Shows : Answer → Type 0 → Ended → Type 0
Shows x G f = f.out.answer ≡ x → G

-- what a task's step shows, by its place
module _ (t : Table) (ws : List ℕ) (i : ℕ) (x : Answer) (G : Type 0) (shut : (y : Refusal) → call_gate t ws i ≡ Err y → No y ≡ x → G)
    (turn : No (refusal 6) ≡ x → G) (damaged : No (refusal 11) ≡ x → G) where
  by_step : (pl : Place) → (task_at t i).place ≡ pl → (t.on ≡ true → Shows x G (on_step_of t ws i (task_at t i) pl)) → (t.on ≡ false → Shows x G (off_step_of t ws i (task_at t i) pl))
      → Shows x G (step_of t ws i)
  unfolding step_of task_step_of
  by_step pl e a b = gate (call_gate t ws i) refl
    where
      placed : Shows x G (place_step_or t ws i (task_at t i))
      placed = rw e (pick_all (Shows x G) t.on _ _ a b)

      gate : (g : Gate) → call_gate t ws i ≡ g → Shows x G (step_through g t ws (task_step_of t ws i))
      gate (Ok u) f =
          pick_all (Shows x G) (idle_at t i) _ _ (λ f. turn) (λ f. pick_all (Shows x G) (pending_ok (task_at t i).pending) _ _ (λ k. placed) (λ k. damaged))
      gate (Err y) f = shut y f

-- ---- an early end
refusal_done : {G : Type 0} (y : Refusal) → No y ≡ Done → G
refusal_done y e = clash cc

-- a take does not end the instruction
abbrev Endless : Deed → Type 0
Endless (Goes m place) = Unit {0}
Endless (GoesWith m pending place) = Unit {0}
Endless (Ends m) = ⊥
Endless (EndsWith m pending) = ⊥
Endless (Waits w) = Unit {0}
Endless (Fails x) = Unit {0}

take_endless : (m : Marks) (ws : List ℕ) (s n : ℕ) → Endless (take_of m ws s n).deed
unfolding take_of
take_endless m ws s n =
    forwarded_all (λ (x : Acted). Endless x.deed) (look_of ws s (primary (get_or ws m.top 0))) (take_in m ws n (primary (get_or ws m.top 0))) _
    (λ r len. counted r (copying_of len (get_or ws (r.0 - 1) 0))) tt
  where
    counted : (r : Replica) (c : Copying) → Endless (take_count m ws n (primary (get_or ws m.top 0)) r c).deed
    counted r (Count c) = pick_all (λ (x : Acted). Endless x.deed) (eqb c 0) _ _ (λ e. tt) (λ e. tt)
    counted r (Locked l) = tt
    counted r Neither = tt

module _ (t : Table) (i : ℕ) (G : Type 0) where
  waited : (w : Sought) (ws : List ℕ) → Shows Done G (ends (wait_of t w) ws)
  unfolding wait_of
  waited w ws = by (seek_of t.tasks t.limits.p w)
    where
      by : (f : Option ℕ) → Shows Done G (ends (wait_for t f) ws)
      by (Some q) e = clash cc
      by None e = refusal_done (refusal 11) e

  endless : (d : Deed) (ws : List ℕ) → Endless d → Shows Done G (settle_of t i d ws)
  unfolding settle_of
  endless (Goes m place) ws h e = clash cc
  endless (GoesWith m pending place) ws h e = clash cc
  endless (Ends m) ws h e = absurd h
  endless (EndsWith m pending) ws h e = absurd h
  endless (Waits w) ws h e = waited w ws e
  endless (Fails x) ws h e = refusal_done x e

module _ {l : Limits} {w : Store} {hy : History} {t : Table} {ws : List ℕ} (g : Good l w hy t ws) (i n : ℕ) (pe : (task_at t i).place ≡ Take n) where
  take_shows : Shows Done (NothingGrey t) (take_step_of t ws i n)
  unfolding take_step_of empty_take_of
  take_shows =
      pick_all (Shows Done (NothingGrey t)) (ltb t.marks.top (end t)) _ _ (λ e. endless t i (NothingGrey t) _ _ (take_endless t.marks ws t.limits.s n))
      (λ e.
      pick_all (Shows Done (NothingGrey t)) (grey_of t.marks (end t) t.tasks t.limits.p) _ _ (λ f. waited t i (NothingGrey t) (Worker i) ws)
      (λ f h. nothing_grey g f))

  -- a take that ends the payment found nothing grey
  pub ends_early : (step_of t ws i).out.answer ≡ Done → NothingGrey t
  unfolding on_step_of off_step_of
  ends_early =
      by_step t ws i Done (NothingGrey t) (λ y e. refusal_done y) (refusal_done (refusal 6)) (refusal_done (refusal 11)) (Take n) pe (λ e. take_shows) (λ e. refusal_done (refusal 11))

-- ---- 9, and the flip
-- an end answers what it was to answer, or 11
module _ (t : Table) (i : ℕ) (x : Answer) (G : Type 0) (damaged : No (refusal 11) ≡ x → G) where
  ended : (ws : List ℕ) (m : Marks) (d : Option Making) (y : Answer) → (y ≡ x → G) → Shows x G (finish_of t ws i m d y)
  unfolding finish_of switch_of
  ended ws m d y h =
      pick_all (λ (o : Outcome). Shows x G (ends o ws)) (switch_due (ended_table t i m d)) _ _
      (λ due.
      pick_all (λ (o : Outcome). Shows x G (ends o ws)) (all_of (has_replica ws t.limits.s) (take 8 t.roots)) _ _
      (λ a.
      pick_all (λ (o : Outcome). Shows x G (ends o ws)) (all_of (entry_has_replicas ws t.limits.s) (take t.limits.p (ended_table t i m d).tasks)) _ _
      (λ b. h) (λ b. damaged))
      (λ a. damaged))
      (λ due. h)

unmoved : {G : Type 0} {y : Refusal} → No y ≡ Moved → G
unmoved e = clash cc

module _ (t : Table) (ws : List ℕ) (i r len m : ℕ) where
  new_shows : Shows (No NoRoom) (TooFull t len) (new_on_of t ws i r len m)
  unfolding new_on_of room_for
  new_shows =
      pick_all (Shows (No NoRoom) (TooFull t len)) (new_ok t.limits.s r len m) _ _
      (λ e.
      pick_all (Shows (No NoRoom) (TooFull t len)) (leb (2 * (len + 2)) (t.marks.top - t.marks.a - t.marks.j)) _ _
      (λ f h. clash cc)
      (λ f h. leb-false _ _ f))
      (λ e h. clash cc)

  off_shows : Shows Moved (NoneLeft t len) (new_off_of t ws i r len m)
  unfolding new_off_of room_for
  off_shows =
      pick_all (Shows Moved (NoneLeft t len)) (new_ok t.limits.s r len m) _ _
      (λ e.
      pick_all (Shows Moved (NoneLeft t len)) (leb (len + 2) (end t - t.marks.a)) _ _
      (λ f. ended t i Moved (NoneLeft t len) (λ h. clash cc) _ _ _ Done (λ h. clash cc))
      (λ f h. leb-false _ _ f))
      (λ e h. clash cc)

  -- the same of the calls
  pub flips_for_room : t.on ≡ false → ((task_at t i).place ≡ New (wanted r len m)) ⊎ ((task_at t i).place ≡ Asked (wanted r len m)) → (step_of t ws i).out.answer ≡ Moved → NoneLeft t len
  unfolding off_step_of
  flips_for_room off (inl e) = by_step t ws i Moved (NoneLeft t len) (λ y f h. unmoved h) unmoved unmoved (New (wanted r len m)) e (λ f. off_on (sym off ∙ f)) (λ f. off_shows)
  flips_for_room off (inr e) = by_step t ws i Moved (NoneLeft t len) (λ y f h. unmoved h) unmoved unmoved (Asked (wanted r len m)) e (λ f. off_on (sym off ∙ f)) (λ f. off_shows)

  pub nine_for_room : {l : Limits} {w : Store} {hy : History} → Good l w hy t ws → t.on ≡ true → (task_at t i).place ≡ New (wanted r len m) → (step_of t ws i).out.answer ≡ No NoRoom → TooFull t len
  unfolding on_step_of
  nine_for_room g on e =
      by_step t ws i (No NoRoom) (TooFull t len) (λ y f h. shut (ltb i t.limits.p) y (sym (call_gate_lem g.agree g.long i) ∙ f) h)
      (λ h. clash cc)
      (λ h. clash cc) (New (wanted r len m)) e (λ f. new_shows) (λ f. off_on (sym f ∙ on))
    where
      shut : (b : Bool) (y : Refusal) → pick {A = Gate} b (Ok tt) (Err (refusal 2)) ≡ Err y → No y ≡ No NoRoom → TooFull t len
      shut true y f h = clash cc
      shut false y f h = clash cc
