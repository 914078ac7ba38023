-- The slot of a Store: as before between its begin and its write, whatever other tasks do; and after its write the value stored.
use Rattle.std.specs.Prelude.{ℕ, ◌<◌, ◌≡◌, refl, ◌⊎◌, List, [], ◌∷◌, Bool, true, false, length, get_or}
use Rattle.std.proofs.Common.{ap, sym, subst, ◌∙◌, inl, inr, arith, eq-eqb}
use Rattle.std.proofs.Math.Decide.{ℕ_discrete}
use Rattle.table.specs.declared.Limits.{Limits}
use Rattle.table.specs.declared.Place.{Place}
use Rattle.table.specs.declared.Place.TheVariants.{New, StoreWrite}
use Rattle.table.specs.declared.Answer.{Answer}
use Rattle.table.specs.declared.Answer.TheVariants.{Done, Moved, No}
use Rattle.machine.specs.Numbers.{effect_of}
use Rattle.machine.specs.Basics.{pick}
use Rattle.machine.specs.Entries.{task_at, Ends}
use Rattle.machine.specs.Call.{Call}
use Rattle.machine.specs.Calls.{then, run}
use Rattle.machine.specs.StillStore.{Store, resting, storing, Kind, Made, Written, Ended, owner_at, thing_at, task_of, happen_all, told}
use Rattle.machine.specs.Kinds.{pays, done_kinds, moved_kinds, step_kinds, follows, beside}
use Rattle.machine.specs.History.{History, history_after}
use Rattle.machine.proofs.Beside.Good.{Good}
use Rattle.machine.proofs.Beside.Waits.{refused_writes}
use Rattle.machine.specs.Beside.Moment.{kinds_of, written_in, begun_in, written_by}
use Rattle.machine.proofs.Beside.Moment.{waits, writes, moment_one}
use Rattle.machine.proofs.Beside.OneStep.{waits_once, step_of}
use Rattle.machine.proofs.Beside.Others.{others_still}
use Rattle.machine.proofs.Beside.SlotsStay.{Spares, Stays, told_step, follow_stays, slot_written}
use Rattle.machine.proofs.Beside.Calls.{NotStep}
use Rattle.machine.specs.Beside.Run.{Living}
use Rattle.machine.proofs.Beside.Run.{Proceeds, proceeds}
use Rattle.machine.proofs.Beside.Busy.{busy_leaves, same_or_rests}
use Rattle.machine.proofs.Beside.Waiting.{storer_in, slot_own, slot_there, waits_busy, waits_awake}

-- what a call writes is written by its task
by_task : (c : Call) (e : Ends) → written_in (task_of c) c e ≡ writes (kinds_of c e)
by_task c e = rw (eq-eqb (task_of c) (task_of c) refl)

-- nothing is written for a task whose Store does not wait
writes_waits : (i : ℕ) (c : Call) (e : Ends) → i < length e.out.table.tasks → waits (task_at e.out.table i).place ≡ 0 → written_in i c e ≡ 0
writes_waits i c e b z = on (step_of i c e)
  where
    on : ((c ≡ Call.Step i) × (begun_in i c e ≡ 0)) ⊎ (written_in i c e ≡ 0) → written_in i c e ≡ 0
    on (inl q) = omega (arith, moment_one i c e b, z, q.1)
    on (inr q) = q

-- a step, or another call that is told with no action
told_or : (s : Store) (c : Call) (e : Ends) → ((c ≡ Call.Step (task_of c)) × (follows s c e (then c e) ≡ happen_all s (task_of c) (kinds_of c e)))
    ⊎ (NotStep c × (follows s c e (then c e) ≡ told s c (then c e).out.answer []))
told_or s (Call.Step task) e = inl (refl, told_step s task (then (Call.Step task) e).out.answer _)
told_or s _ e = inr (tt, refl)

-- ---- one call
module _ {l : Limits} {w : Store} {hy : History} (e : Ends) (g : Good l w hy e.out.table e.words) (i x j v : ℕ)
    (waiting : waits (task_at e.out.table i).place ≡ 1) (begun : (owner_at w i).doing ≡ storing x j v) where
  -- no other task writes the slot
  spared : (c : Call) → written_in i c e ≡ 0 → Spares w (task_of c) (kinds_of c e) x j
  spared c none y u q r = on (ℕ_discrete (task_of c) i) (ℕ_discrete (waits (task_at e.out.table (task_of c)).place) 0)
    where
      b : task_of c < length e.out.table.tasks
      b = omega (arith, storer_in g (task_of c) y j u q, g.agree.eight)

      on : Dec (task_of c ≡ i) → Dec (waits (task_at e.out.table (task_of c)).place ≡ 0) → writes (kinds_of c e) ≡ 0
      on (yes h) z = sym (by_task c e) ∙ ap (λ (n : ℕ). written_in n c e) h ∙ none
      on (no h) (yes z) = sym (by_task c e) ∙ writes_waits (task_of c) c e b z
      on (no h) (no z) =
          let k : waits (task_at e.out.table (task_of c)).place ≡ 1 = omega (arith, z, waits_once (task_at e.out.table (task_of c)).place) in
          let n : y ≡ x = omega (arith, r, (slot_there g (task_of c) y j u k q).0, (slot_there g i x j v waiting begun).0) in
          absurd (h (slot_own g (task_of c) i x j u v k waiting (q ∙ ap (λ (m : ℕ). storing m j u) n) begun))

  stays : (c : Call) → written_in i c e ≡ 0 → Stays w (follows w c e (then c e)) x j
  stays c none = follow_stays w c e (then c e) x j (slot_there g i x j v waiting begun).1 (spared c none)

  -- a call that is not the writing step of i leaves the slot
  pub slot_before : (c : Call) → written_in i c e ≡ 0 → get_or (thing_at (follows w c e (then c e)) x).slots j 0 ≡ get_or (thing_at w x).slots j 0
  slot_before c none = (stays c none).same

  -- its Store waits still, and is what the store has begun for i
  waits_still : (c : Call) → written_in i c e ≡ 0 → waits (task_at (then c e).out.table i).place ≡ 1
  waits_still c none =
      omega (arith, moment_one i c e (omega (arith, storer_in g i x j v begun, g.agree.eight)), waits_once (task_at (then c e).out.table i).place, waiting, none)

  begun_still : (c : Call) → written_in i c e ≡ 0 → {hy' : History} → Good l (follows w c e (then c e)) hy' (then c e).out.table (then c e).words
      → (owner_at (follows w c e (then c e)) i).doing ≡ storing x j v
  begun_still c none g' = on (ℕ_discrete i (task_of c)) (told_or w c e)
    where
      by : follows w c e (then c e) ≡ happen_all w i (kinds_of c e)
          → ((owner_at (happen_all w i (kinds_of c e)) i).doing ≡ (owner_at w i).doing) ⊎ ((owner_at (happen_all w i (kinds_of c e)) i).doing ≡ resting)
          → (owner_at (follows w c e (then c e)) i).doing ≡ storing x j v
      by h (inl q) = ap (λ (s : Store). (owner_at s i).doing) h ∙ q ∙ begun
      by h (inr q) =
          absurd (waits_awake g' i (storer_in g i x j v begun) (waits_still c none) (ap (λ (s : Store). (owner_at s i).doing) h ∙ q))

      on : Dec (i ≡ task_of c)
          → ((c ≡ Call.Step (task_of c)) × (follows w c e (then c e) ≡ happen_all w (task_of c) (kinds_of c e)))
          ⊎ (NotStep c × (follows w c e (then c e) ≡ told w c (then c e).out.answer []))
          → (owner_at (follows w c e (then c e)) i).doing ≡ storing x j v
      on (no d) h = rw (others_still w c e (then c e) i d) begun
      on (yes d) (inl h) = by (h.1 ∙ ap (λ (n : ℕ). happen_all w n (kinds_of c e)) (sym d)) (same_or_rests (kinds_of c e) w i)
      on (yes d) (inr h) =
          ap (λ (s : Store). (owner_at s i).doing) (h.1 ∙ busy_leaves w c e.out.table e.words h.0 (waits_busy g (task_of c) (rw d at waiting))) ∙ begun

-- ---- a list of calls
-- between store w and store s, which stands beside f, task i's Store of v into slot j of x was not written
pub record Unwritten (w : Store) (f : Ends) (s : Store) (i x j v : ℕ) : Type 0 where
  pub waiting : waits (task_at f.out.table i).place ≡ 1
  pub begun : (owner_at s i).doing ≡ storing x j v
  pub same : get_or (thing_at s x).slots j 0 ≡ get_or (thing_at w x).slots j 0

-- from a state in which the Store of i waits, as long as none of the calls writes it
pub slot_until : (l : Limits) (cs : List Call) (e : Ends) (w : Store) (hy : History) → Good l w hy e.out.table e.words → Living cs e
    → (i x j v : ℕ) → waits (task_at e.out.table i).place ≡ 1 → (owner_at w i).doing ≡ storing x j v → written_by i cs e ≡ 0
    → Unwritten w (run cs e) (beside cs e w) i x j v
unfolding written_by run beside
slot_until l [] e w hy g h i x j v z q none = record { waiting = z; begun = q; same = refl }
slot_until l (c ∷ cs) e w hy g h i x j v z q none =
    on (λ k. slot_until l cs (then c e) (follows w c e (then c e)) _ k h.1 i x j v (waits_still e g i x j v z q c here) (begun_still e g i x j v z q c here k) (omega (arith, none)))
    (proceeds l w hy c e g)
  where
    here : written_in i c e ≡ 0
    here = omega (arith, none)

    on : (Good l (follows w c e (then c e)) (history_after c e (then c e) hy) (then c e).out.table (then c e).words
        → Unwritten (follows w c e (then c e)) (run cs (then c e)) (beside cs (then c e) (follows w c e (then c e))) i x j v)
        → Proceeds l w hy c e → Unwritten w (run cs (then c e)) (beside cs (then c e) (follows w c e (then c e))) i x j v
    on f (inl p) = absurd (h.0 p.0)
    on f (inr p) =
        let u = f p.0 in
        record { waiting = u.waiting; begun = u.begun; same = u.same ∙ slot_before e g i x j v z q c here }

-- ---- the writing step
-- it writes first, and then its instruction has ended or not
abbrev WritesFirst : List Kind → Type 0
WritesFirst ks = (ks ≡ Written ∷ []) ⊎ (ks ≡ Written ∷ Ended ∷ [])

done_first : (before : Place) → writes (done_kinds before) ≡ 1 → WritesFirst (done_kinds before)
done_first (StoreWrite v) h = inr refl
done_first _ h = absurd (omega (arith, h))

moved_first : (before after : Place) → writes (moved_kinds before after) ≡ 1 → WritesFirst (moved_kinds before after)
moved_first (New want) after h = on (pays after) h
  where
    on : (b : Bool) → writes (pick b (Made ∷ []) []) ≡ 1 → WritesFirst (pick b (Made ∷ []) [])
    on true q = absurd (omega (arith, q))
    on false q = absurd (omega (arith, q))
moved_first (StoreWrite v) after h = inl refl
moved_first _ after h = absurd (omega (arith, h))

step_first : (x : Answer) (before after : Place) → writes (step_kinds x before after) ≡ 1 → WritesFirst (step_kinds x before after)
step_first Done before after h = done_first before h
step_first Moved before after h = moved_first before after h
step_first (No x) before after h = absurd (omega (arith, refused_writes (effect_of x), h))
step_first _ before after h = absurd (omega (arith, h))

happens_first : (ks : List Kind) (s : Store) (i x j v : ℕ) → WritesFirst ks → j < length (thing_at s x).slots → (owner_at s i).doing ≡ storing x j v
    → get_or (thing_at (happen_all s i ks) x).slots j 0 ≡ v
unfolding happen_all
happens_first ks s i x j v (inl k) l q = rw k (slot_written s i x j v l q)
happens_first ks s i x j v (inr k) l q = rw k (slot_written s i x j v l q)

-- after it the slot holds what was stored
pub slot_after : {l : Limits} {w : Store} {hy : History} (e : Ends) → Good l w hy e.out.table e.words → (i x j v : ℕ) → (owner_at w i).doing ≡ storing x j v
    → (c : Call) → written_in i c e ≡ 1 → get_or (thing_at (follows w c e (then c e)) x).slots j 0 ≡ v
slot_after {w = w} e g i x j v q c h = on (step_of i c e) (ℕ_discrete (waits (task_at e.out.table i).place) 0)
  where
    b : i < length e.out.table.tasks
    b = omega (arith, storer_in g i x j v q, g.agree.eight)

    at_step : waits (task_at e.out.table i).place ≡ 1 → written_in i (Call.Step i) e ≡ 1
        → get_or (thing_at (follows w (Call.Step i) e (then (Call.Step i) e)) x).slots j 0 ≡ v
    at_step z o =
        rw (told_step w i (then (Call.Step i) e).out.answer (kinds_of (Call.Step i) e))
        (happens_first (kinds_of (Call.Step i) e) w i x j v
        (step_first (then (Call.Step i) e).out.answer (task_at e.out.table i).place (task_at (then (Call.Step i) e).out.table i).place (sym (by_task (Call.Step i) e) ∙ o))
        (slot_there g i x j v z q).1 q)

    on : ((c ≡ Call.Step i) × (begun_in i c e ≡ 0)) ⊎ (written_in i c e ≡ 0) → Dec (waits (task_at e.out.table i).place ≡ 0)
        → get_or (thing_at (follows w c e (then c e)) x).slots j 0 ≡ v
    on p (yes z) = absurd (omega (arith, h, writes_waits i c e b z))
    on (inr p) (no z) = absurd (omega (arith, h, p))
    on (inl p) (no z) =
        subst (λ (d : Call). get_or (thing_at (follows w d e (then d e)) x).slots j 0 ≡ v) (sym p.0)
        (at_step (omega (arith, z, waits_once (task_at e.out.table i).place)) (subst (λ (d : Call). written_in i d e ≡ 1) p.0 h))

-- ---- the registers of the other tasks
