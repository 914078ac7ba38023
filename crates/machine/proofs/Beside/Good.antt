-- A table and its words that stand for objects, and the store beside them; and what a step must make of them.
use Rattle.std.specs.Prelude.{ℕ, ◌+◌, ◌*◌, ◌≤◌, ◌<◌, ◌≡◌, refl, ◌⊎◌, List, true, false, length, Option}
use Rattle.std.proofs.Common.{sym, ◌∙◌, arith, get_or-set_same}
use Rattle.std.proofs.Math.Logic.{inr}
use Rattle.table.specs.declared.Limits.{Limits}
use Rattle.table.specs.declared.Marks.{Marks}
use Rattle.table.specs.declared.Making.{Making}
use Rattle.table.specs.declared.Place.{Place}
use Rattle.table.specs.declared.Place.TheVariants.{Idle, New, Asked, FillWrite, FillCopy, StoreWrite, Meet, StoreCopy, Take, Read, Put, Release, Looking, Placing}
use Rattle.table.specs.declared.Task.{Task}
use Rattle.table.specs.declared.Table.{Table}
use Rattle.table.specs.declared.Refusal.TheVariants.{Exhausted}
use Rattle.table.specs.declared.Answer.{Answer}
use Rattle.table.specs.declared.Answer.TheVariants.{Accepted, Done, Value, Moved, Wait, Report, No}
use Rattle.machine.specs.Numbers.{Effect, harmless, ends_new, spends, breaks, effect_of}
use Rattle.machine.specs.Entries.{no_task, task_at, moved_table, out, Ends, ends, entered}
use Rattle.machine.specs.StillStore.{Store, happen_all}
use Rattle.machine.specs.Kinds.{moved_kinds, step_kinds}
use Rattle.machine.proofs.Objects.Base.{off_on}
use Rattle.machine.proofs.Objects.State.{State}
use Rattle.machine.proofs.Objects.Inv.{Inv}
use Rattle.machine.proofs.Agree.Encode.{at_task}
use Rattle.machine.specs.Agree.Agree.{end}
use Rattle.machine.proofs.Agree.Agree.{Agree, bottom}
use Rattle.machine.proofs.Agree.Home.{Home}
use Rattle.machine.specs.Words.{room_of}
use Rattle.machine.specs.Switch.{switch_due}
use Rattle.machine.specs.History.{Copy, History, with_copy, with_copies, step_history}
use Rattle.machine.proofs.Beside.Still.{Still}
use Rattle.machine.proofs.Beside.Stands.{Stands, busy_there}
use Rattle.machine.proofs.Beside.Collecting.{Collecting, Exact}
use Rattle.machine.proofs.Beside.Histories.{on_stays, as_it_was, no_copy, history_is, busy_awake}

-- table t with words ws, set up with limits l, stands for some objects, and so does the store w; hy is what was done since
-- the latest flip
pub record Good (l : Limits) (w : Store) (hy : History) (t : Table) (ws : List ℕ) : Type 1 where
  pub kept : ℕ → Type 0
  pub pa : ℕ → ℕ
  pub ra : ℕ → ℕ
  pub objects : State
  pub limits : t.limits ≡ l
  pub long : 1 ≤ t.limits.s
  pub inv : Inv kept t.limits.p t.limits.s objects
  pub agree : Agree kept pa ra objects t ws
  pub home : objects.on ≡ false → Home kept pa objects.shape (bottom t) t.marks.a
  pub still : Still objects.shape objects.prim objects.tasks objects.roots w
  pub collecting : objects.on ≡ true → Collecting kept pa objects t hy
  pub awake : objects.on ≡ true → switch_due t ≡ false
  pub collected : objects.on ≡ false → Exact hy × (t.marks.copies ≡ length hy.copies)

abbrev pub Harmless : Effect → Type 0
Harmless harmless = Unit {0}
Harmless ends_new = ⊥
Harmless spends = ⊥
Harmless breaks = ⊥

-- neither refusal 9 nor 10 nor 11
abbrev pub Undamaged : Answer → Type 0
Undamaged Accepted = Unit {0}
Undamaged Done = Unit {0}
Undamaged (Value v) = Unit {0}
Undamaged Moved = Unit {0}
Undamaged (Wait q) = Unit {0}
Undamaged (Report on live copies) = Unit {0}
Undamaged (No x) = Harmless (effect_of x)

-- A refusal 9 is a New's that, while collecting, found less room than it needs for its two objects.
abbrev pub Crowded : Table → Place → Type 0
Crowded t Idle = ⊥
Crowded t (New want) = (t.on ≡ true) × (room_of true t.marks (end t) < 2 * (want.len + 2))
Crowded t (Asked want) = ⊥
Crowded t (FillWrite v) = ⊥
Crowded t (FillCopy c) = ⊥
Crowded t (StoreWrite v) = ⊥
Crowded t (Meet v) = ⊥
Crowded t (StoreCopy c) = ⊥
Crowded t (Take n) = ⊥
Crowded t (Read n job) = ⊥
Crowded t (Put n job c) = ⊥
Crowded t (Release n job) = ⊥
Crowded t (Looking p th) = ⊥
Crowded t (Placing p th) = ⊥

abbrev pub FineRefusal : Table → Place → Effect → Type 0
FineRefusal t before harmless = Unit {0}
FineRefusal t before ends_new = Crowded t before
FineRefusal t before spends = ⊥
FineRefusal t before breaks = ⊥

abbrev pub Fine : Table → Place → Answer → Type 0
Fine t before Accepted = Unit {0}
Fine t before Done = Unit {0}
Fine t before (Value v) = Unit {0}
Fine t before Moved = Unit {0}
Fine t before (Wait q) = Unit {0}
Fine t before (Report on live copies) = Unit {0}
Fine t before (No x) = FineRefusal t before (effect_of x)

-- A step of task i, whose place was `before`, ends as e: the heap is exhausted, for the reason X; or the store that is
-- told the kinds of action stands beside the table again, and the answer is neither 10 nor 11, and 9 only for want of room.
abbrev pub Comes : Limits → Store → History → Table → List ℕ → ℕ → Place → Type 0 → Ends → Type 1
Comes l w hy t ws i before X e =
    ((e.out.answer ≡ No Exhausted) × X)
    ⊎ (Good l (happen_all w i (step_kinds e.out.answer before (task_at e.out.table i).place)) (step_history t ws before e hy) e.out.table e.words
    × Fine t before e.out.answer)

-- the place of an entry just changed
pub place_entered : (t : Table) (m : Marks) (i : ℕ) (e : Task) → length t.tasks ≡ 8 → i < 8 → task_at (entered t m i e) i ≡ e
place_entered t m i e n l = get_or-set_same t.tasks i e no_task (omega arith)

module _ {l : Limits} {w : Store} {hy : History} {t : Table} {ws : List ℕ} (g : Good l w hy t ws) (i : ℕ) (below : i < 8) where
  -- the task moved on; cs are the copies since the flip
  pub comes_moved : (before : Place) (X : Type 0) (K : ℕ → Type 0) (pa ra : ℕ → ℕ) (o : State) → o.on ≡ true → (m : Marks) (pending : Option Making) (place : Place) (e : Task) (ws' : List ℕ)
      → moved_table t i m pending place ≡ entered t m i (at_task pa ra e) → Inv K t.limits.p t.limits.s o → Agree K pa ra o (entered t m i (at_task pa ra e)) ws'
      → Still o.shape o.prim o.tasks o.roots (happen_all w i (moved_kinds before (at_task pa ra e).place))
      → i < t.limits.p → Stands e.place → (cs : List Copy) → with_copy before Moved hy.copies ≡ cs
      → Collecting K pa o (entered t m i (at_task pa ra e)) (with_copies hy cs)
      → Comes l w hy t ws i before X (ends (out (moved_table t i m pending place) Moved) ws')
  comes_moved before X K pa ra o live m pending place e ws' q inv agree still ip stands cs quiet col =
      inr (
        rw (
          history_is t ws before (ends (out (moved_table t i m pending place) Moved) ws') hy cs (on_stays t.on _ (agree.on ∙ live)) quiet,
          q,
          place_entered t m i (at_task pa ra e) g.agree.eight below,
        )
            (record {
              kept = K;
              pa = pa;
              ra = ra;
              objects = o;
              limits = g.limits;
              long = g.long;
              inv = inv;
              agree = agree;
              home = λ f. off_on (sym f ∙ live);
              still = still;
              collecting = λ f. col;
              awake = λ f. awake_now;
              collected = λ f. off_on (sym f ∙ live);
            }),
        tt,
      )
    where
      awake_now : switch_due (entered t m i (at_task pa ra e)) ≡ false
      awake_now =
          busy_awake (entered t m i (at_task pa ra e)) i ip (omega (arith, agree.eight, g.agree.sized.limited.p_high))
          (rw (place_entered t m i (at_task pa ra e) g.agree.eight below) (busy_there pa ra e.place stands))

  -- the task waits: nothing changed
  pub comes_wait : (before : Place) (X : Type 0) (q : ℕ) → Comes l w hy t ws i before X (ends (out t (Wait q)) ws)
  unfolding happen_all
  comes_wait before X q =
      inr (rw (history_is t ws before (ends (out t (Wait q)) ws) hy hy.copies (as_it_was t.on) (no_copy before (Wait q) hy.copies refl)) g, tt)
