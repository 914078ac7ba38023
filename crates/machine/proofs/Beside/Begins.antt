-- Begin of New and of Fill: refused with nothing changed, or the task begins in table and store alike.
use Rattle.std.specs.Prelude.{ℕ, ◌≤◌, ◌<◌, ◌≡◌, Bool, true, false, ltb, Option, Some, None, Ok, Err}
use Rattle.std.proofs.Math.Path.{refl, ap}
use Rattle.std.proofs.Common.{sym, ◌∙◌, arith}
use mathlib.Core.List.{List, []}
use borrow.Author.Tests.{ltb-true, ltb-false, lt-leb, not-true}
use Rattle.table.specs.declared.Limits.{Limits}
use Rattle.table.specs.declared.Primary.{Primary}
use Rattle.table.specs.declared.Making.{Making}
use Rattle.table.specs.declared.Slot.{Slot}
use Rattle.table.specs.declared.Operand.{Operand}
use Rattle.table.specs.declared.Operand.TheVariants.{Plain, Pointer}
use Rattle.table.specs.declared.Place.{Place}
use Rattle.table.specs.declared.Place.TheVariants.{Idle, New, FillWrite}
use Rattle.table.specs.declared.Task.{Task}
use Rattle.table.specs.declared.Table.{Table}
use Rattle.table.specs.declared.Answer.{Answer}
use Rattle.table.specs.declared.Answer.TheVariants.{Accepted, No}
use Rattle.table.specs.declared.Outcome.{Outcome}
use Rattle.machine.specs.History.{History}
use Rattle.machine.specs.Basics.{pick}
use Rattle.machine.specs.Numbers.{refusal}
use Rattle.machine.specs.Words.{primary, operand_word, object_of, wanted}
use Rattle.machine.specs.Entries.{entry, task_at, with_task, with_place, no, entered, pending_with}
use Rattle.machine.specs.Gate.{through, behind, call_gate, pair_gate}
use Rattle.machine.specs.Tasks.{holding_of}
use Rattle.machine.specs.Complete.{idle_at}
use Rattle.machine.specs.Begin.{held_at, begun, new_ok, if_nothing, begin_new_of, is_pointer, same_test, fill_slot, fill_pending, fill_from, begin_fill_of, begin_fill_pointer_of}
use Rattle.machine.specs.Call.{Call}
use Rattle.machine.specs.StillStore.{Store, Doing, making, filling, owner_at, doing, happen_all, told}
use Rattle.machine.proofs.Objects.Base.{off_on}
use Rattle.machine.proofs.Objects.State.{root, jobs_in, ClaimIn}
use Rattle.machine.proofs.Objects.Inv.{Inv, SoundOperand, PendingOk, Unfull}
use Rattle.machine.proofs.Objects.Ops.{goes, moves}
use Rattle.machine.proofs.Objects.BeginSteps.{begin_new, begin_fill}
use Rattle.machine.proofs.Agree.Encode.{at_operand, at_pending, at_storing, at_place, at_task}
use Rattle.machine.proofs.Agree.Enter.{moves_agree}
use Rattle.machine.proofs.Agree.Gates.{call_gate_lem, pair_gate_lem}
use Rattle.machine.proofs.Agree.Read.{object_of_lem}
use Rattle.machine.proofs.Agree.Complete.{is_idle, idle_of_lem, register_of_lem}
use Rattle.machine.proofs.Beside.Still.{DoingAt, StillTask}
use Rattle.machine.proofs.Beside.StillLaws.{still_owner}
use Rattle.std.proofs.Math.ListN.{length-set}
use Rattle.machine.proofs.Objects.Counts.{left_to_pay}
use Rattle.machine.proofs.Objects.CountLaws.{counts_same}
use Rattle.machine.proofs.Beside.Stands.{Stands, busy_there}
use Rattle.machine.proofs.Beside.Histories.{busy_awake}
use Rattle.machine.proofs.Beside.Awake.{closed_due, grey_none}
use Rattle.machine.proofs.Beside.Collects.{collects}
use Rattle.machine.proofs.Beside.Good.{place_entered, Good, Undamaged}
use Rattle.machine.proofs.Beside.Glue.{below, entry_of}
use Rattle.machine.proofs.Beside.Registers.{idle_at_lem, sound_register, held_is}

-- an outcome after which the store, as told by f, stands beside the table, and which is not refusal 11
abbrev pub Keeps : Limits → History → List ℕ → (Answer → Store) → Outcome → Type 1
Keeps l hy ws f r = Good l (f r.answer) hy r.table ws × Undamaged r.answer

-- a test, either way
pub either : {l : Limits} {hy : History} {ws : List ℕ} (f : Answer → Store) (c : Bool) (r s : Outcome) → (c ≡ true → Keeps l hy ws f r) → (c ≡ false → Keeps l hy ws f s)
    → Keeps l hy ws f (pick c r s)
either f true r s a b = a refl
either f false r s a b = b refl

-- what the tests of a value show
pub same_test_lem : (a b : Bool) → same_test a b ≡ true → a ≡ b
same_test_lem true b e = sym e
same_test_lem false b e = sym (not-true b e)

pub at_pointer : (pa : ℕ → ℕ) (v : Operand Primary) → is_pointer (at_operand pa v) ≡ is_pointer v
at_pointer pa (Plain w) = refl
at_pointer pa (Pointer p) = refl

new_ok_lem : (s r len m : ℕ) → new_ok s r len m ≡ true → (r < 8) × (len ≤ s) × (m ≤ len)
unfolding new_ok
new_ok_lem s r len m = on (ltb 7 r) (ltb s len) (ltb len m) refl refl refl
  where
    on : (a b c : Bool) → ltb 7 r ≡ a → ltb s len ≡ b → ltb len m ≡ c → pick a false (pick b false (pick c false true)) ≡ true → (r < 8) × (len ≤ s) × (m ≤ len)
    on true b c p q u e = off_on e
    on false true c p q u e = off_on e
    on false false true p q u e = off_on e
    on false false false p q u e = (omega (arith, ltb-false 7 r p), omega (arith, ltb-false s len q), omega (arith, ltb-false len m u))

module _ {l : Limits} {w : Store} {hy : History} {t : Table} {ws : List ℕ} (g : Good l w hy t ws) where
  -- ---- an idle task begins
  pub begun_good : (task : ℕ) → task < t.limits.p → (g.objects.tasks task).place ≡ Idle → (s : Option Slot) (pl : Place) (d : Doing)
      → Inv g.kept t.limits.p t.limits.s (moves g.objects task (entry (g.objects.tasks task).regs (g.objects.tasks task).pending s pl))
      → jobs_in (holding_of pl) ≡ 0 → DoingAt (entry (g.objects.tasks task).regs (g.objects.tasks task).pending s pl) d pl → held_at t ≡ false → Stands pl → left_to_pay pl ≡ 0
      → ((x : ℕ) → ClaimIn (holding_of pl) x → ⊥)
      → Good l (doing w task d) hy (with_task t task (entry (task_at t task).regs (task_at t task).pending (at_storing g.pa s) (at_place g.pa g.ra pl))) ws
  unfolding with_task holding_of
  begun_good task ip pe s pl d v j h held stands left free =
      rw (entry_of g task ip)
      (record {
        kept = g.kept;
        pa = g.pa;
        ra = g.ra;
        objects = moves g.objects task e;
        limits = g.limits;
        long = g.long;
        inv = v;
        collecting = λ f.
            collects (g.collecting f) _ _ refl refl (g.collecting f).forgiven
            (counts_same g.inv f (g.collecting f).counts task ip e (rw pe left) refl (λ x c. absurd (free x c)) (λ c. absurd (unforgiven f c)));
        awake = λ f.
            busy_awake (entered t t.marks task (at_task g.pa g.ra e)) task ip
            (omega (arith, length-set t.tasks task (at_task g.pa g.ra e), g.agree.eight, g.agree.sized.limited.p_high))
            (rw (place_entered t t.marks task (at_task g.pa g.ra e) g.agree.eight (below g task ip)) (busy_there g.pa g.ra pl stands));
        collected = g.collected;
        home = g.home;
        agree = moves_agree g.inv g.agree task ip e t.marks.j (rw (pe, j) refl) (omega arith);
        still = still_owner g.still task (below g task ip) e _ (record { regs = q.regs; pending = q.pending; goes_to = q.goes_to; doing = h });
      })
    where
      q : StillTask (g.objects.tasks task) (owner_at w task)
      q = g.still.tasks task (below g task ip)

      e : Task
      e = entry (g.objects.tasks task).regs (g.objects.tasks task).pending s pl

      -- while something is forgiven the heap is closing, and nothing begins
      unforgiven : (f : g.objects.on ≡ true) → 0 < (g.collecting f).forgiven task → ⊥
      unforgiven f c =
          let z = (g.collecting f).counts.forgave task c in
          off_on (sym (g.awake f) ∙ closed_due g.agree (g.agree.on ∙ f) held (grey_none g.agree z.0 z.1 z.2))

  pub begins_good : (task : ℕ) → task < t.limits.p → (g.objects.tasks task).place ≡ Idle → (pl : Place) (d : Doing)
      → Inv g.kept t.limits.p t.limits.s (moves g.objects task (goes (g.objects.tasks task) pl)) → jobs_in (holding_of pl) ≡ 0
      → DoingAt (goes (g.objects.tasks task) pl) d pl → held_at t ≡ false → Stands pl → left_to_pay pl ≡ 0 → ((x : ℕ) → ClaimIn (holding_of pl) x → ⊥)
      → Good l (doing w task d) hy (with_place t task (at_place g.pa g.ra pl)) ws
  unfolding with_place
  begins_good task ip pe pl d v j h held stands left free =
      let a : (task_at t task).storing ≡ at_storing g.pa (g.objects.tasks task).storing = ap (λ (e : Task). e.storing) (entry_of g task ip) in
      rw a (begun_good task ip pe (g.objects.tasks task).storing pl d v j h held stands left free)

  -- ---- what is tested first
  module _ (f : Answer → Store) (kept : (x : ℕ) → f (No (refusal x)) ≡ w) where
    pub refused_keeps : (x : ℕ) → Undamaged (No (refusal x)) → (r : Outcome) → r.answer ≡ No (refusal x) → r.table ≡ t → Keeps l hy ws f r
    refused_keeps x u r a b = (rw (a, b, kept x) g, rw a u)

    pub no_keeps : (x : ℕ) → Undamaged (No (refusal x)) → (no t x).table ≡ t → Keeps l hy ws f (no t x)
    no_keeps x u b = refused_keeps x u (no t x) refl b

    pub gate_keeps : (task : ℕ) (rest : Outcome) → (task < t.limits.p → Keeps l hy ws f rest) → Keeps l hy ws f (through (call_gate t ws task) t rest)
    gate_keeps task rest h = rw (call_gate_lem g.agree g.long task) (on (ltb task t.limits.p) refl)
      where
        on : (b : Bool) → ltb task t.limits.p ≡ b → Keeps l hy ws f (through (pick b (Ok tt) (Err (refusal 2))) t rest)
        on true e = h (ltb-true task t.limits.p e)
        on false e = no_keeps 2 tt refl

    pub pair_keeps : (task a b : ℕ) (rest : Outcome) → (task < t.limits.p → Keeps l hy ws f rest) → Keeps l hy ws f (through (pair_gate t ws task a b) t rest)
    pair_keeps task a b rest h = rw (pair_gate_lem g.agree g.long task a b) (on (ltb task t.limits.p) (ltb 7 a) (ltb 7 b) refl)
      where
        on : (c d e : Bool) → ltb task t.limits.p ≡ c
            → Keeps l hy ws f (through (behind (pick c (Ok tt) (Err (refusal 2))) (pick d (Err (refusal 3)) (pick e (Err (refusal 3)) (Ok tt)))) t rest)
        on true true e q = no_keeps 3 tt refl
        on true false true q = no_keeps 3 tt refl
        on true false false q = h (ltb-true task t.limits.p q)
        on false d e q = no_keeps 2 tt refl

    -- not idle: 6
    pub idle_keeps : (task : ℕ) → task < t.limits.p → (rest : Outcome) → ((g.objects.tasks task).place ≡ Idle → Keeps l hy ws f rest)
        → Keeps l hy ws f (pick (idle_at t task) rest (no t 6))
    idle_keeps task ip rest h =
        rw (idle_of_lem g.agree task (below g task ip))
        (either f (is_idle g.objects task) rest (no t 6) (λ e. h (idle_at_lem g task e)) (λ e. no_keeps 6 tt refl))

    -- a New
    pub new_keeps : (task r len m : ℕ) → f Accepted ≡ doing w task (making r len m) → Keeps l hy ws f (begin_new_of t ws task r len m)
    unfolding begin_new_of holding_of
    new_keeps task r len m a =
        gate_keeps task _
        (λ ip.
        either f (new_ok t.limits.s r len m) _ _
        (λ c.
        idle_keeps task ip _
        (λ pe.
        rw (ap (λ (e : Task). e.pending) (entry_of g task ip))
        (begin ip (new_ok_lem t.limits.s r len m c) pe (g.objects.tasks task).pending refl)))
        (λ c. no_keeps 3 tt refl))
      where
        begin : task < t.limits.p → (r < 8) × (len ≤ t.limits.s) × (m ≤ len) → (g.objects.tasks task).place ≡ Idle → (d : Option Making) → (g.objects.tasks task).pending ≡ d
            → Keeps l hy ws f (if_nothing (at_pending g.pa d) (pick (held_at t) (no t 7) (begun t task (New (wanted r len m)))) (no t 6))
        begin ip k pe None de =
            either f (held_at t) _ _ (λ c. no_keeps 7 tt refl)
            (λ c. (rw a (begins_good task ip pe (New (wanted r len m)) (making r len m) (begin_new g.inv task ip pe r len m de k.0 k.1 k.2) refl refl c tt refl (λ x h. h)), tt))
        begin ip k pe (Some d) de = no_keeps 6 tt refl

    -- a Fill of a sound value: the pending object is one, and has a slot to fill
    module _ (task : ℕ) (ip : task < t.limits.p) (v : Operand Primary) (sv : SoundOperand g.kept g.objects.shape v)
        (a : f Accepted ≡ doing w task (filling (operand_word v))) where
      fill_slot_lem : held_at t ≡ false → (g.objects.tasks task).place ≡ Idle → (x : Primary) (r len i : ℕ) → (g.objects.tasks task).pending ≡ pending_with x r len i
          → Keeps l hy ws f (fill_slot t task i (at_operand g.pa v) (object_of ws t.limits.s (primary (g.pa x.0))))
      unfolding holding_of
      fill_slot_lem held pe x r len i de =
          rw (object_of_lem g.inv g.agree x.0 (made.0, made.2, made.1), lt-leb (g.objects.shape.len x.0) i room)
          (either f (same_test (is_pointer (at_operand g.pa v)) (ltb i (g.objects.shape.ptr x.0))) _ _
          (λ b. (
            rw a
                (begins_good task ip pe (FillWrite v) (filling (operand_word v))
                (begin_fill g.inv task ip pe x r len i de v (sym (at_pointer g.pa v) ∙ same_test_lem _ _ b) sv) refl refl held tt refl (λ x h. h)),
            tt,
          ))
          (λ b. no_keeps 5 tt refl))
        where
          made : PendingOk g.kept g.objects.shape g.objects.hd g.objects.on (pending_with x r len i)
          made = rw de at (g.inv.entries task).pending

          unfull : Unfull (g.objects.tasks task).pending
          unfull = (rw pe at (g.inv.places task)).0

          room : i < g.objects.shape.len x.0
          room = let u : i < len = rw de at unfull in omega (arith, made.3)

      fill_pending_lem : (g.objects.tasks task).place ≡ Idle → (d : Option Making) → (g.objects.tasks task).pending ≡ d
          → Keeps l hy ws f (fill_pending t ws task (at_operand g.pa v) (at_pending g.pa d))
      fill_pending_lem pe None de = no_keeps 6 tt refl
      fill_pending_lem pe (Some d) de = either f (held_at t) _ _ (λ c. no_keeps 7 tt refl) (λ c. fill_slot_lem c pe d.at d.register d.len d.filled de)

      pub fill_keeps : Keeps l hy ws f (fill_from t ws task (at_operand g.pa v))
      unfolding fill_from
      fill_keeps =
          idle_keeps task ip _
          (λ pe. rw (ap (λ (e : Task). e.pending) (entry_of g task ip)) (fill_pending_lem pe (g.objects.tasks task).pending refl))

  -- ---- the calls
  pub begin_new_keeps : (task r len m : ℕ) → Keeps l hy ws (λ x. told w (Call.New task r len m) x []) (begin_new_of t ws task r len m)
  unfolding happen_all
  begin_new_keeps task r len m = new_keeps (λ x. told w (Call.New task r len m) x []) (λ x. refl) task r len m refl

  pub begin_fill_keeps : (task v : ℕ) → Keeps l hy ws (λ x. told w (Call.Fill task v) x []) (begin_fill_of t ws task v)
  unfolding begin_fill_of happen_all
  begin_fill_keeps task v =
      gate_keeps (λ x. told w (Call.Fill task v) x []) (λ x. refl) task _
      (λ ip. fill_keeps (λ x. told w (Call.Fill task v) x []) (λ x. refl) task ip (Plain v) tt refl)

  pub begin_fill_pointer_keeps : (task r : ℕ) → Keeps l hy ws (λ x. told w (Call.FillPointer task r) x []) (begin_fill_pointer_of t ws task r)
  unfolding begin_fill_pointer_of happen_all
  begin_fill_pointer_keeps task r =
      gate_keeps f kept task _
      (λ ip.
      either f (ltb 7 r) _ _ (λ c. no_keeps f kept 3 tt refl)
      (λ c.
      rw (register_of_lem g.agree task r (below g task ip))
      (fill_keeps f kept task ip (Pointer (primary (root (g.objects.tasks task).regs r))) (sound_register g task r)
      (rw (held_is g task r ip) refl))))
    where
      f : Answer → Store
      f x = told w (Call.FillPointer task r) x []

      kept : (x : ℕ) → f (No (refusal x)) ≡ w
      kept x = refl
