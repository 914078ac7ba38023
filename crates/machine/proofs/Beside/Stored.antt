-- The moment of a Store in the runs from set-up: its slot as before until its one writing step, and after that step the value stored.
use Rattle.std.specs.Prelude.{ℕ, ◌+◌, ◌<◌, ◌≡◌, ◌≢◌, List, [], ◌∷◌, ◌++◌, Bool, true, false, length, ltb, Ok, Err}
use Rattle.std.proofs.Math.Path.{refl}
use Rattle.std.proofs.Common.{sym, ◌∙◌, inl, inr, arith, get_or-set_same, ltb-true, eq-eqb}
use Rattle.table.specs.declared.Limits.{Limits}
use Rattle.table.specs.declared.Table.{Table}
use Rattle.table.specs.declared.Refusal.{Refusal}
use Rattle.table.specs.declared.Refusal.TheVariants.{Exhausted}
use Rattle.table.specs.declared.Answer.TheVariants.{Accepted, No}
use Rattle.table.specs.declared.Outcome.{Outcome}
use Rattle.machine.specs.Basics.{pick}
use Rattle.machine.specs.Numbers.{refusal}
use Rattle.machine.specs.Entries.{task_at, Ends}
use Rattle.machine.specs.Gate.{sizes_ok, through, behind}
use Rattle.machine.specs.Setup.{setup_of}
use Rattle.machine.specs.Begin.{begin_store_of, begin_store_pointer_of}
use Rattle.machine.specs.Call.{Call}
use Rattle.machine.specs.Calls.{then, run}
use Rattle.machine.specs.StillStore.{Store, empty_store, resting, storing, owner, owner_at, held, doing, happen_all}
use Rattle.machine.specs.Kinds.{follows, beside}
use Rattle.machine.specs.History.{History, no_history, history_after, history_of}
use Rattle.machine.proofs.Objects.Base.{clash}
use Rattle.machine.proofs.Agree.Gates.{call_gate_lem, pair_gate_lem}
use Rattle.machine.proofs.Agree.Complete.{task_in}
use Rattle.machine.proofs.Beside.Good.{Good}
use Rattle.machine.specs.Beside.Moment.{written_in, begun_in, written_by, begun_by}
use Rattle.machine.proofs.Beside.Moment.{waits, moment_one}
use Rattle.machine.specs.Beside.OneStep.{WrittenAt}
use Rattle.machine.proofs.Beside.OneStep.{waits_once, once, written_at}
use Rattle.machine.specs.Beside.Run.{Living}
use Rattle.machine.proofs.Beside.Run.{Proceeds, proceeds, good_run}
use Rattle.machine.proofs.Beside.Demand2.{good_after}
use Rattle.machine.proofs.Beside.Before.{Unwritten, slot_until, slot_after}
use Rattle.machine.specs.Beside.Stored.{slot_of, StoreMoment}

-- ---- one list of calls after another
pub beside_append : (cs ds : List Call) (e : Ends) (s : Store) → beside (cs ++ ds) e s ≡ beside ds (run cs e) (beside cs e s)
unfolding run beside
beside_append [] ds e s = refl
beside_append (c ∷ cs) ds e s = beside_append cs ds (then c e) (follows s c e (then c e))

pub living_append : (cs ds : List Call) (e : Ends) → Living (cs ++ ds) e → Living cs e × Living ds (run cs e)
unfolding run
living_append [] ds e h = (tt, h)
living_append (c ∷ cs) ds e h = let q = living_append cs ds (then c e) h.1 in ((h.0, q.0), q.1)

pub written_append : (i : ℕ) (cs ds : List Call) (e : Ends) → written_by i (cs ++ ds) e ≡ written_by i cs e + written_by i ds (run cs e)
unfolding run written_by
written_append i [] ds e = omega arith
written_append i (c ∷ cs) ds e = omega (arith, written_append i cs ds (then c e))

-- ---- the begin of a Store
refused_not : {A : Type 0} {x : Refusal} → No x ≡ Accepted → A
refused_not e = clash cc

-- what the gate lets through is a call of one of the P tasks
gate_open : (b : Bool) (t : Table) (r : Outcome) → (through (pick b (Ok tt) (Err (refusal 2))) t r).answer ≡ Accepted → b ≡ true
gate_open true t r h = refl
gate_open false t r h = refused_not h

pair_open : (b c d : Bool) (t : Table) (r : Outcome)
    → (through (behind (pick b (Ok tt) (Err (refusal 2))) (pick c (Err (refusal 3)) (pick d (Err (refusal 3)) (Ok tt)))) t r).answer ≡ Accepted → b ≡ true
pair_open true c d t r h = refl
pair_open false c d t r h = refused_not h

-- c has begun, for task i, the Store of v into slot j of x
record Opens (w : Store) (c : Call) (e : Ends) (i x j v : ℕ) : Type 0 where
  inside : i < length e.out.table.tasks
  alive : (then c e).out.answer ≢ No Exhausted
  one : begun_in i c e ≡ 1
  waiting : waits (task_at (then c e).out.table i).place ≡ 1
  begun : (owner_at (follows w c e (then c e)) i).doing ≡ storing x j v
  things : (follows w c e (then c e)).things ≡ w.things

module _ {l : Limits} {w : Store} {hy : History} (e : Ends) (g : Good l w hy e.out.table e.words) where
  opens : (c : Call) (i x j v : ℕ) → i < 8 → (then c e).out.answer ≡ Accepted → begun_in i c e ≡ 1 → written_in i c e ≡ 0
      → follows w c e (then c e) ≡ doing w i (storing x j v) → Opens w c e i x j v
  opens c i x j v b h one none told = record {
    inside = omega (arith, b, g.agree.eight);
    alive = λ q. refused_not (sym q ∙ h);
    one = one;
    waiting = omega (arith, moment_one i c e (omega (arith, b, g.agree.eight)), waits_once (task_at (then c e).out.table i).place, one, none);
    begun = rw (told, get_or-set_same w.owners i _ (owner [] 0 0 resting) (omega (arith, b, g.still.owners)));
    things = rw told;
  }

  store_task : (i o slot v : ℕ) → (then (Call.Store i o slot v) e).out.answer ≡ Accepted → i < 8
  unfolding begin_store_of
  store_task i o slot v h =
      task_in g.agree i
      (ltb-true i e.out.table.limits.p (gate_open (ltb i e.out.table.limits.p) e.out.table _ (rw (call_gate_lem g.agree g.long i) at h)))

  store_opens : (i o slot v : ℕ) → (then (Call.Store i o slot v) e).out.answer ≡ Accepted → Opens w (Call.Store i o slot v) e i (held w i o) slot v
  unfolding happen_all
  store_opens i o slot v h =
      opens (Call.Store i o slot v) i (held w i o) slot v (store_task i o slot v h) h (rw (eq-eqb i i refl, h)) (rw (eq-eqb i i refl)) (rw h)

  store_pointer_task : (i o slot r : ℕ) → (then (Call.StorePointer i o slot r) e).out.answer ≡ Accepted → i < 8
  unfolding begin_store_pointer_of
  store_pointer_task i o slot r h =
      task_in g.agree i
      (ltb-true i e.out.table.limits.p
      (pair_open (ltb i e.out.table.limits.p) (ltb 7 o) (ltb 7 r) e.out.table _ (rw (pair_gate_lem g.agree g.long i o r) at h)))

  store_pointer_opens : (i o slot r : ℕ) → (then (Call.StorePointer i o slot r) e).out.answer ≡ Accepted
      → Opens w (Call.StorePointer i o slot r) e i (held w i o) slot (held w i r)
  unfolding happen_all
  store_pointer_opens i o slot r h =
      opens (Call.StorePointer i o slot r) i (held w i o) slot (held w i r) (store_pointer_task i o slot r h) h (rw (eq-eqb i i refl, h)) (rw (eq-eqb i i refl)) (rw h)

module _ (t : Table) (l : Limits) (ws : List ℕ) (accepted : sizes_ok l (length ws) ≡ true) (cs : List Call) (living : Living cs (setup_of t l ws)) where
  abbrev start : Ends
  start = setup_of t l ws

  abbrev now : Ends
  now = run cs start

  abbrev stored : Store
  stored = beside cs start empty_store

  module _ (c : Call) (i x j v : ℕ) (opened : Opens stored c now i x j v) where
    begun_good : Good l (follows stored c now (then c now)) (history_after c now (then c now) (history_of cs start no_history)) (then c now).out.table (then c now).words
    begun_good = on (proceeds l stored (history_of cs start no_history) c now (good_after t l ws accepted cs living))
      where
        on : Proceeds l stored (history_of cs start no_history) c now
            → Good l (follows stored c now (then c now)) (history_after c now (then c now) (history_of cs start no_history)) (then c now).out.table (then c now).words
        on (inl h) = absurd (opened.alive h.0)
        on (inr h) = h.0

    module _ (ds : List Call) (lives : Living ds (then c now)) (none : written_by i ds (then c now) ≡ 0) where
      until : Unwritten (follows stored c now (then c now)) (run ds (then c now)) (beside ds (then c now) (follows stored c now (then c now))) i x j v
      until = slot_until l ds (then c now) (follows stored c now (then c now)) _ begun_good lives i x j v opened.waiting opened.begun none

      slot_unwritten : slot_of (beside (cs ++ (c ∷ ds)) start empty_store) x j ≡ slot_of stored x j
      unfolding beside
      slot_unwritten = rw (beside_append cs (c ∷ ds) start empty_store) (rw opened.things at until.same)

      slot_stored : (d : Call) → written_in i d (run ds (then c now)) ≡ 1 → slot_of (beside (cs ++ (c ∷ (ds ++ (d ∷ [])))) start empty_store) x j ≡ v
      unfolding beside
      slot_stored d h =
          rw (beside_append cs (c ∷ (ds ++ (d ∷ []))) start empty_store, beside_append ds (d ∷ []) (then c now) (follows stored c now (then c now)))
          (slot_after (run ds (then c now)) (good_run l ds (then c now) _ _ begun_good lives) i x j v until.begun d h)

    -- a Store after which i begins no other, and which does not wait at the end
    stored_once : (ds : List Call) → Living ds (then c now) → begun_by i ds (then c now) ≡ 0 → waits (task_at (run ds (then c now)).out.table i).place ≡ 0
        → StoreMoment start cs c ds i x j v
    stored_once ds lives none ended = record {
      writing = m;
      before = λ bs rest q.
          slot_unwritten bs (living_append bs rest (then c now) (rw q at early)).0
          (omega (arith, written_append i bs rest (then c now), rw q at m.none_before));
      after = slot_stored m.before early m.none_before (Call.Step i) m.here;
    }
      where
        m : WrittenAt i ds (then c now)
        m = written_at i ds (then c now) (once i c ds now opened.inside opened.one none ended)

        early : Living m.before (then c now)
        early = (living_append m.before (Call.Step i ∷ m.after) (then c now) (rw m.split at lives)).0

  -- ---- a Store of a plain word v; o is the register of the object
  module _ (i o slot v : ℕ) (begun : (then (Call.Store i o slot v) now).out.answer ≡ Accepted) (ds : List Call) (lives : Living ds (then (Call.Store i o slot v) now)) where
    opened_word : Opens stored (Call.Store i o slot v) now i (held stored i o) slot v
    opened_word = store_opens now (good_after t l ws accepted cs living) i o slot v begun

    pub store_moment : begun_by i ds (then (Call.Store i o slot v) now) ≡ 0 → waits (task_at (run ds (then (Call.Store i o slot v) now)).out.table i).place ≡ 0
        → StoreMoment start cs (Call.Store i o slot v) ds i (held stored i o) slot v
    store_moment none ended = stored_once (Call.Store i o slot v) i (held stored i o) slot v opened_word ds lives none ended

  -- ---- a Store of the pointer in register r
  module _ (i o slot r : ℕ) (begun : (then (Call.StorePointer i o slot r) now).out.answer ≡ Accepted) (ds : List Call)
      (lives : Living ds (then (Call.StorePointer i o slot r) now)) where
    opened_pointer : Opens stored (Call.StorePointer i o slot r) now i (held stored i o) slot (held stored i r)
    opened_pointer = store_pointer_opens now (good_after t l ws accepted cs living) i o slot r begun

    pub store_pointer_moment : begun_by i ds (then (Call.StorePointer i o slot r) now) ≡ 0
        → waits (task_at (run ds (then (Call.StorePointer i o slot r) now)).out.table i).place ≡ 0
        → StoreMoment start cs (Call.StorePointer i o slot r) ds i (held stored i o) slot (held stored i r)
    store_pointer_moment none ended = stored_once (Call.StorePointer i o slot r) i (held stored i o) slot (held stored i r) opened_pointer ds lives none ended
