-- From the counts of a Store to its one step: a Store that was begun and no longer waits was written in one step of its task.
use Rattle.std.specs.Prelude.{ℕ, ◌≤◌, ◌<◌, ◌≡◌, refl, ◌⊎◌, List, [], ◌∷◌, ◌++◌, Bool, true, false, length, eqb}
use Rattle.std.proofs.Common.{ap, subst, ◌∙◌, inl, inr, arith, eqb-true}
use Rattle.std.proofs.Math.Decide.{ℕ_discrete}
use Rattle.table.specs.declared.Then.TheVariants.{ToWrite, ToStoreCopy, ToFillCopy, ToPut}
use Rattle.table.specs.declared.Place.{Place}
use Rattle.table.specs.declared.Place.TheVariants.{Idle, New, Asked, FillWrite, FillCopy, StoreWrite, Meet, StoreCopy, Take, Read, Put, Release, Looking, Placing}
use Rattle.machine.specs.Basics.{pick}
use Rattle.machine.specs.Entries.{task_at, Ends}
use Rattle.machine.specs.Call.{Call}
use Rattle.machine.specs.Calls.{then, run}
use Rattle.machine.specs.StillStore.{task_of}
use Rattle.machine.specs.Opened.{started, opened}
use Rattle.machine.proofs.Beside.Others.{entries_long}
use Rattle.machine.specs.Beside.Moment.{begins, kinds_of, written_in, begun_in, written_by, begun_by}
use Rattle.machine.proofs.Beside.Moment.{waits, writes, moment_one, moment}
use Rattle.machine.specs.Beside.OneStep.{WrittenAt}

pub waits_once : (p : Place) → waits p ≤ 1
waits_once Idle = omega arith
waits_once (New want) = omega arith
waits_once (Asked want) = omega arith
waits_once (FillWrite v) = omega arith
waits_once (FillCopy c) = omega arith
waits_once (StoreWrite v) = omega arith
waits_once (Meet v) = omega arith
waits_once (StoreCopy c) = omega arith
waits_once (Take n) = omega arith
waits_once (Read n job) = omega arith
waits_once (Put n job c) = omega arith
waits_once (Release n job) = omega arith
waits_once (Looking p (ToWrite v)) = omega arith
waits_once (Looking p ToStoreCopy) = omega arith
waits_once (Looking p ToFillCopy) = omega arith
waits_once (Looking p (ToPut n job)) = omega arith
waits_once (Placing p (ToWrite v)) = omega arith
waits_once (Placing p ToStoreCopy) = omega arith
waits_once (Placing p ToFillCopy) = omega arith
waits_once (Placing p (ToPut n job)) = omega arith

-- a call is a step, which begins nothing, or it writes nothing
step_or : (c : Call) (e : Ends) → ((c ≡ Call.Step (task_of c)) × (begins c (then c e).out.answer ≡ 0)) ⊎ (writes (kinds_of c e) ≡ 0)
step_or (Call.Step task) e = inl (refl, refl)
step_or _ e = inr refl

-- and so for what it counts of task i
pub step_of : (i : ℕ) (c : Call) (e : Ends) → ((c ≡ Call.Step i) × (begun_in i c e ≡ 0)) ⊎ (written_in i c e ≡ 0)
step_of i c e = on (eqb (task_of c) i) refl (step_or c e)
  where
    on : (b : Bool) → eqb (task_of c) i ≡ b → ((c ≡ Call.Step (task_of c)) × (begins c (then c e).out.answer ≡ 0)) ⊎ (writes (kinds_of c e) ≡ 0)
        → ((c ≡ Call.Step i) × (pick b (begins c (then c e).out.answer) 0 ≡ 0)) ⊎ (pick b (writes (kinds_of c e)) 0 ≡ 0)
    on true h (inl q) = inl (q.0 ∙ ap Call.Step (eqb-true (task_of c) i h), q.1)
    on true h (inr q) = inr q
    on false h q = inr refl

-- A Store begun by c; calls cs in which its task begins no other and after which it does not wait: it was written once.
pub once : (i : ℕ) (c : Call) (cs : List Call) (e : Ends) → i < length e.out.table.tasks → begun_in i c e ≡ 1
    → begun_by i cs (then c e) ≡ 0 → waits (task_at (run cs (then c e)).out.table i).place ≡ 0 → written_by i cs (then c e) ≡ 1
once i c cs e l b n z = on (step_of i c e)
  where
    on : ((c ≡ Call.Step i) × (begun_in i c e ≡ 0)) ⊎ (written_in i c e ≡ 0) → written_by i cs (then c e) ≡ 1
    on (inl q) = absurd (omega (arith, q.1, b))
    on (inr q) =
        omega (arith, moment_one i c e l, moment i cs (then c e) (omega (arith, entries_long c e.out.table e.words)), waits_once (task_at (then c e).out.table i).place, b, n, z, q)

pub written_at : (i : ℕ) (cs : List Call) (e : Ends) → written_by i cs e ≡ 1 → WrittenAt i cs e
unfolding written_by run
written_at i [] e h = absurd (omega (arith, h))
written_at i (c ∷ cs) e h = on (step_of i c e) (ℕ_discrete (written_in i c e) 0) (λ q. written_at i cs (then c e) q)
  where
    later : written_in i c e ≡ 0 → WrittenAt i cs (then c e) → WrittenAt i (c ∷ cs) e
    later z q = record {
      before = c ∷ q.before;
      after = q.after;
      split = ap (λ (r : List Call). c ∷ r) q.split;
      none_before = omega (arith, z, q.none_before);
      here = q.here;
      none_after = q.none_after;
    }

    on : ((c ≡ Call.Step i) × (begun_in i c e ≡ 0)) ⊎ (written_in i c e ≡ 0) → Dec (written_in i c e ≡ 0)
        → (written_by i cs (then c e) ≡ 1 → WrittenAt i cs (then c e)) → WrittenAt i (c ∷ cs) e
    on q (yes z) ih = later z (ih (omega (arith, h, z)))
    on (inl q) (no z) ih = record {
      before = [];
      after = cs;
      split = ap (λ (d : Call). d ∷ cs) q.0;
      none_before = refl;
      here = subst (λ (d : Call). written_in i d e ≡ 1) q.0 (omega (arith, h, z));
      none_after = subst (λ (d : Call). written_by i cs (then d e) ≡ 0) q.0 (omega (arith, h, z));
    }
    on (inr q) (no z) ih = absurd (z q)

-- ---- a computed instance: a Store begun waits, and its step writes it
stored : List Call
stored = Call.New 0 0 1 0 ∷ Call.Step 0 ∷ Call.Fill 0 7 ∷ Call.Step 0 ∷ Call.Store 0 0 0 8 ∷ []

counted :
    (begun_by 0 stored (started 2 4 64 2) ≡ 1)
    × (written_by 0 stored (started 2 4 64 2) ≡ 0)
    × (waits (task_at (run stored (started 2 4 64 2)).out.table 0).place ≡ 1)
    × (written_by 0 (stored ++ (Call.Step 1 ∷ Call.Step 0 ∷ Call.Step 0 ∷ [])) (started 2 4 64 2) ≡ 1)
    × (waits (task_at (run (stored ++ (Call.Step 1 ∷ Call.Step 0 ∷ [])) (started 2 4 64 2)).out.table 0).place ≡ 0)
unfolding opened stored written_by begun_by
counted = (refl, refl, refl, refl, refl)
