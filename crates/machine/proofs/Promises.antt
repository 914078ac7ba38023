-- What is promised of every run from an accepted set-up: demands 2 and 3. Statements, with proofs of a line.
--
-- A run: limits l, words ws of any content with the right length (sizes_ok l (length ws) ≡ true, whatever table t stood
-- there), and a list cs of calls by any tasks with any arguments. It is living as long as none of its calls answered 10.
use Rattle.std.specs.Prelude.{ℕ, ◌+◌, ◌≤◌, ◌<◌, ◌≡◌, ◌≢◌, ◌⊎◌, List, [], true, false, length}
use Rattle.table.specs.declared.Limits.{Limits}
use Rattle.table.specs.declared.Table.{Table}
use Rattle.table.specs.declared.Refusal.TheVariants.{Held, NoRoom, Exhausted, Damaged}
use Rattle.table.specs.declared.Place.TheVariants.{New, Asked, Take}
use Rattle.table.specs.declared.Answer.TheVariants.{Accepted, Done, Moved, Wait, No}
use Rattle.machine.specs.Entries.{Ends, task_at}
use Rattle.machine.specs.Gate.{sizes_ok}
use Rattle.machine.specs.Setup.{setup_of}
use Rattle.machine.specs.Call.{Call}
use Rattle.machine.specs.Calls.{call, then, run}
use Rattle.machine.specs.Sum.{room_sum}
use Rattle.machine.specs.StillStore.{Store, empty_store, task_of, owner_at, held, load_answer, same_answer}
use Rattle.machine.specs.Kinds.{follows, beside}
use Rattle.machine.specs.History.{InCopies, NoCopyTwice, no_history, history_of, copies_of, NoFlip}
use Rattle.machine.specs.Live.Live.{live_of, size_of, filled_at}
use Rattle.machine.specs.Objects.Base.{In}
use Rattle.machine.specs.Beside.Run.{Living, Spends}
use Rattle.machine.proofs.Beside.Demand2.{load_right, same_right, undamaged, spent_for_room}
use Rattle.machine.specs.Beside.Waits.{waits}
use Rattle.machine.specs.Beside.Moment.{written_by, begun_by}
use Rattle.machine.proofs.Beside.Moment.{moment}
use Rattle.machine.specs.Beside.Others.{Untouched}
use Rattle.machine.proofs.Beside.Others.{others, others_still}
use Rattle.machine.specs.Beside.Stored.{StoreMoment}
use Rattle.machine.proofs.Beside.Stored.{store_moment, store_pointer_moment}
use Rattle.machine.specs.Beside.Named.{Names}
use Rattle.machine.proofs.Beside.Named.{registers_named}
use Rattle.machine.specs.Beside.WaitsFor.{WaitsFor}
use Rattle.machine.specs.Beside.Grey.{NothingGrey, IsHeld}
use Rattle.machine.specs.Beside.Reasons.{TooFull, NoneLeft}
use Rattle.machine.specs.Beside.HeldBegins.{Begins}
use Rattle.machine.proofs.Beside.Exact.{waits_right, ends_right, nine_right, flip_right, begun_right, seven_right}
use Rattle.machine.specs.Beside.Rooms.{Suits}
use Rattle.machine.specs.Beside.Demand3.{Lasts, AllSuit}
use Rattle.machine.proofs.Beside.Demand3.{copies_right, exactly_once, room_enough, flip_suits}
use Rattle.machine.specs.Words.{wanted}

-- how the set-up ends, and the heap after the run
abbrev pub set_up : Table → Limits → List ℕ → Ends
set_up t l ws = setup_of t l ws

abbrev pub after : List Call → Table → Limits → List ℕ → Ends
after cs t l ws = run cs (set_up t l ws)

-- the store in which nothing moves, told the run's calls
abbrev pub store_after : List Call → Table → Limits → List ℕ → Store
store_after cs t l ws = beside cs (set_up t l ws) empty_store

-- ---- Demand 2
module _ (t : Table) (l : Limits) (ws : List ℕ) (accepted : sizes_ok l (length ws) ≡ true) (cs : List Call) (living : Living cs (set_up t l ws)) where
  -- 1. Every Load and every Same answers what the store answers, refusals included.
  pub loads : (task to from slot : ℕ) → (then (Call.Load task to from slot) (after cs t l ws)).out.answer ≡ load_answer (store_after cs t l ws) l.p task to from slot
  loads = load_right t l ws accepted cs living

  pub sames : (task a b : ℕ) → (then (Call.Same task a b) (after cs t l ws)).out.answer ≡ same_answer (store_after cs t l ws) l.p task a b
  sames = same_right t l ws accepted cs living

  -- 3. No call answers 11.
  pub never11 : (c : Call) → (then c (after cs t l ws)).out.answer ≢ No Damaged
  never11 = undamaged t l ws accepted cs living

  -- 4. A call that answers 10 is a step at a place, or a flip, that found less room than it needs.
  pub only_for_room : (c : Call) → (then c (after cs t l ws)).out.answer ≡ No Exhausted → Spends c (after cs t l ws).out.table (after cs t l ws).words
  only_for_room = spent_for_room t l ws accepted cs living

  -- 2. A Store that was begun and has ended has one step that wrote it; its slot is as before up to that step, and holds the
  -- value after it, whatever other tasks did in between.
  module _ (i : ℕ) (ds : List Call) where
    pub store_takes_effect : (o slot v : ℕ) → (then (Call.Store i o slot v) (after cs t l ws)).out.answer ≡ Accepted → Living ds (then (Call.Store i o slot v) (after cs t l ws))
        → begun_by i ds (then (Call.Store i o slot v) (after cs t l ws)) ≡ 0
        → waits (task_at (run ds (then (Call.Store i o slot v) (after cs t l ws))).out.table i).place ≡ 0
        → StoreMoment (set_up t l ws) cs (Call.Store i o slot v) ds i (held (store_after cs t l ws) i o) slot v
    store_takes_effect o slot v begun lives = store_moment t l ws accepted cs living i o slot v begun ds lives

    pub pointer_takes_effect : (o slot r : ℕ) → (then (Call.StorePointer i o slot r) (after cs t l ws)).out.answer ≡ Accepted
        → Living ds (then (Call.StorePointer i o slot r) (after cs t l ws)) → begun_by i ds (then (Call.StorePointer i o slot r) (after cs t l ws)) ≡ 0
        → waits (task_at (run ds (then (Call.StorePointer i o slot r) (after cs t l ws))).out.table i).place ≡ 0
        → StoreMoment (set_up t l ws) cs (Call.StorePointer i o slot r) ds i (held (store_after cs t l ws) i o) slot (held (store_after cs t l ws) i r)
    pointer_takes_effect o slot r begun lives = store_pointer_moment t l ws accepted cs living i o slot r begun ds lives

  -- 5. At every moment the registers of all tasks are the addresses of the store's objects, different ones for different objects.
  pub named : Names (after cs t l ws).out.table (store_after cs t l ws)
  named = registers_named t l ws accepted cs living

  -- Whoever waits for q has a reason that q can end; a payment ends early only if nothing is grey; 9 and a flip are for want of
  -- room; a begin is refused with 7 if the heap is held, and only then.
  pub waits_for_reason : (i q : ℕ) → (then (Call.Step i) (after cs t l ws)).out.answer ≡ Wait q
      → (q < l.p) × WaitsFor (after cs t l ws).out.table (after cs t l ws).words i q (task_at (after cs t l ws).out.table i).place
  waits_for_reason = waits_right t l ws accepted cs living

  pub ends_early_only : (i n : ℕ) → (task_at (after cs t l ws).out.table i).place ≡ Take n → (then (Call.Step i) (after cs t l ws)).out.answer ≡ Done
      → NothingGrey (after cs t l ws).out.table
  ends_early_only = ends_right t l ws accepted cs living

  pub nine_only_for_room : (i r len m : ℕ) → (after cs t l ws).out.table.on ≡ true → (task_at (after cs t l ws).out.table i).place ≡ New (wanted r len m)
      → (then (Call.Step i) (after cs t l ws)).out.answer ≡ No NoRoom → TooFull (after cs t l ws).out.table len
  nine_only_for_room = nine_right t l ws accepted cs living

  pub flips_only_for_room : (i r len m : ℕ) → (after cs t l ws).out.table.on ≡ false
      → ((task_at (after cs t l ws).out.table i).place ≡ New (wanted r len m)) ⊎ ((task_at (after cs t l ws).out.table i).place ≡ Asked (wanted r len m))
      → (then (Call.Step i) (after cs t l ws)).out.answer ≡ Moved → NoneLeft (after cs t l ws).out.table len
  flips_only_for_room = flip_right t l ws accepted cs living

  pub not_begun_while_held : (c : Call) → Begins c → (then c (after cs t l ws)).out.answer ≡ Accepted → IsHeld (after cs t l ws).out.table (after cs t l ws).out.table.on → ⊥
  not_begun_while_held = begun_right t l ws accepted cs living

  pub seven_only_while_held : (c : Call) → Begins c → (then c (after cs t l ws)).out.answer ≡ No Held → IsHeld (after cs t l ws).out.table (after cs t l ws).out.table.on
  seven_only_while_held = seven_right t l ws accepted cs living

-- 2. Each Store that is begun is written once, before its instruction has ended; none is written that was not begun. (waits:
-- 1 while a Store has begun and is not written. Of any table and any words.)
pub written_once : (i : ℕ) (cs : List Call) (e : Ends) → i < length e.out.table.tasks
    → written_by i cs e + waits (task_at (run cs e).out.table i).place ≡ waits (task_at e.out.table i).place + begun_by i cs e
written_once = moment

-- 5. The entry of a task that a call does not name changes at a flip (asked becomes begun) and at a switch-over (pointers
-- renamed) only; in the store it never does. (Of any table and any words.)
pub others_untouched : (c : Call) (t : Table) (ws : List ℕ) (u : ℕ) → u ≢ task_of c → Untouched c t (call c t ws) u
others_untouched = others

pub others_hold : (w : Store) (c : Call) (e f : Ends) (u : ℕ) → u ≢ task_of c → owner_at (follows w c e f) u ≡ owner_at w u
others_hold = others_still

-- ---- Demand 3
module _ (t : Table) (l : Limits) (ws : List ℕ) (accepted : sizes_ok l (length ws) ≡ true) (cs : List Call) (living : Living cs (set_up t l ws)) where
  -- 2. At every moment the copies reported are the releases since the latest flip.
  pub copies_reported : (after cs t l ws).out.table.marks.copies ≡ length (history_of cs (set_up t l ws) no_history).copies
  copies_reported = copies_right t l ws accepted cs living

  -- The step of task i makes a flip; the calls ds come after it.
  module _ (i : ℕ) (off : (after cs t l ws).out.table.on ≡ false) (flip : (then (Call.Step i) (after cs t l ws)).out.table.on ≡ true) (ds : List Call) where
    -- 1. If the collection has ended, with no other flip since: the releases in between have no copy twice, and are exactly the
    -- slots filled at the flip of the objects that were then live.
    pub copied_once : (then (Call.Step i) (after cs t l ws)).out.answer ≢ No Exhausted → Living ds (then (Call.Step i) (after cs t l ws))
        → NoFlip ds (then (Call.Step i) (after cs t l ws)) → (run ds (then (Call.Step i) (after cs t l ws))).out.table.on ≡ false
        → NoCopyTwice (copies_of ds (then (Call.Step i) (after cs t l ws)) [])
        × ((p k : ℕ) → InCopies p k (copies_of ds (then (Call.Step i) (after cs t l ws)) [])
        → In p (live_of (after cs t l ws).out.table (after cs t l ws).words) × (k < filled_at (after cs t l ws).out.table (after cs t l ws).words p))
        × ((p k : ℕ) → In p (live_of (after cs t l ws).out.table (after cs t l ws).words)
        → k < filled_at (after cs t l ws).out.table (after cs t l ws).words p → InCopies p k (copies_of ds (then (Call.Step i) (after cs t l ws)) []))
    copied_once alive = exactly_once t l ws accepted cs living i off flip alive ds

    -- 3. If half the heap holds the sum for the objects then live: neither the flip's step nor any call that finds the collector
    -- on, until the switch-over or for ever, answers 9 or 10.
    pub enough_room : room_sum (size_of (after cs t l ws).out.table (after cs t l ws).words) (length (live_of (after cs t l ws).out.table (after cs t l ws).words)) l.k l.p l.s ≤ l.h
        → Lasts ds (then (Call.Step i) (after cs t l ws)) → Suits (Call.Step i) (after cs t l ws) × AllSuit ds (then (Call.Step i) (after cs t l ws))
    enough_room enough = room_enough t l ws accepted cs living i off flip enough ds

  -- 3, before the flip: with that sum a step that finds nobody in its way makes the flip, and is not exhausted.
  pub flip_has_room : (c : Call) → (after cs t l ws).out.table.on ≡ false
      → room_sum (size_of (after cs t l ws).out.table (after cs t l ws).words) (length (live_of (after cs t l ws).out.table (after cs t l ws).words)) l.k l.p l.s ≤ l.h
      → Suits c (after cs t l ws)
  flip_has_room = flip_suits t l ws accepted cs living
