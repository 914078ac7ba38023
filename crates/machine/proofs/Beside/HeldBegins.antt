-- Refusal 7: a New, Fill or Store that is begun is not held, and one that is refused with 7 is: a flip is asked, or the heap is closing.
use Rattle.std.specs.Prelude.{ℕ, List, Bool, true, false, ltb, leb, eqb, Option, Some, None, Ok, Err}
use Rattle.std.proofs.Math.Path.{◌≡◌}
use Rattle.table.specs.declared.Limits.{Limits}
use Rattle.table.specs.declared.Primary.{Primary}
use Rattle.table.specs.declared.Descriptor.{Descriptor}
use Rattle.table.specs.declared.Making.{Making}
use Rattle.table.specs.declared.Operand.{Operand}
use Rattle.table.specs.declared.Operand.TheVariants.{Plain, Pointer}
use Rattle.table.specs.declared.Place.TheVariants.{New}
use Rattle.table.specs.declared.Table.{Table}
use Rattle.table.specs.declared.Refusal.TheVariants.{Held}
use Rattle.table.specs.declared.Answer.TheVariants.{Accepted, No}
use Rattle.table.specs.declared.Outcome.{Outcome}
use Rattle.machine.specs.History.{History}
use Rattle.machine.specs.Basics.{pick}
use Rattle.machine.specs.Numbers.{refusal}
use Rattle.machine.specs.Words.{object_of, wanted}
use Rattle.machine.specs.Entries.{task_at, register, no}
use Rattle.machine.specs.Gate.{behind, through, call_gate, pair_gate}
use Rattle.machine.specs.Tasks.{slot_taken}
use Rattle.machine.specs.Complete.{idle_at}
use Rattle.machine.specs.Begin.{held_at, begun, new_ok, if_nothing, begin_new_of, is_pointer, same_test, fill_slot, fill_pending, fill_from, begin_fill_of, begin_fill_pointer_of, store_slot, store_from, begin_store_of, begin_store_pointer_of}
use Rattle.machine.specs.Call.{Call}
use Rattle.machine.specs.Calls.{call}
use Rattle.machine.specs.StillStore.{Store}
use Rattle.machine.proofs.Objects.Base.{clash}
use Rattle.machine.proofs.Agree.Gates.{call_gate_lem, pair_gate_lem}
use Rattle.machine.proofs.Beside.Good.{Good}
use Rattle.machine.proofs.Beside.Changes.{pick_all}
use Rattle.machine.specs.Beside.Grey.{IsHeld}
use Rattle.machine.proofs.Beside.Grey.{held_is, held_not}
use Rattle.machine.specs.Beside.HeldBegins.{Begins}

-- the answer's 7 is right: accepted only if not held, 7 only if held
abbrev Right : Table → Outcome → Type 0
Right t o = (o.answer ≡ Accepted → held_at t ≡ false) × (o.answer ≡ No Held → held_at t ≡ true)

-- another refusal
abbrev Other : ℕ → Type 0
Other n = No (refusal n) ≡ No Held → ⊥

module _ (t : Table) where
  refuses : (n : ℕ) → Other n → Right t (no t n)
  refuses n d = (λ e. clash cc, λ e. absurd (d e))

  r3 : Right t (no t 3)
  r3 = refuses 3 (λ e. clash cc)

  r6 : Right t (no t 6)
  r6 = refuses 6 (λ e. clash cc)

  -- behind the test
  unheld : (o : Outcome) → (o.answer ≡ No Held → ⊥) → Right t (pick (held_at t) (no t 7) o)
  unheld o d =
      pick_all (Right t) (held_at t) _ _ (λ e. (λ h. clash cc, λ h. e)) (λ e. (λ h. e, λ h. absurd (d h)))

  fill_slot_lem : (task f : ℕ) (v : Operand Primary) (x : Option Descriptor) → (fill_slot t task f v x).answer ≡ No Held → ⊥
  fill_slot_lem task f v (Some dc) =
      pick_all (λ (o : Outcome). o.answer ≡ No Held → ⊥) (leb dc.len f) _ _ (λ a e. clash cc)
      (λ a.
      pick_all (λ (o : Outcome). o.answer ≡ No Held → ⊥) (same_test (is_pointer v) (ltb f dc.m)) _ _
      (λ b e. clash cc)
      (λ b e. clash cc))
  fill_slot_lem task f v None = λ e. clash cc

  store_slot_lem : (ws : List ℕ) (task : ℕ) (x : Primary) (slot : ℕ) (v : Operand Primary) (y : Option Descriptor) → (store_slot t ws task x slot v y).answer ≡ No Held → ⊥
  store_slot_lem ws task x slot v (Some dc) =
      pick_all (λ (o : Outcome). o.answer ≡ No Held → ⊥) (leb dc.len slot) _ _ (λ a e. clash cc)
      (λ a.
      pick_all (λ (o : Outcome). o.answer ≡ No Held → ⊥) (same_test (is_pointer v) (ltb slot dc.m)) _ _
      (λ b.
      pick_all (λ (o : Outcome). o.answer ≡ No Held → ⊥) (slot_taken t.tasks t.limits.p task x slot) _ _
      (λ c e. clash cc)
      (λ c e. clash cc))
      (λ b e. clash cc))
  store_slot_lem ws task x slot v None = λ e. clash cc

  fill_from_lem : (ws : List ℕ) (task : ℕ) (v : Operand Primary) → Right t (fill_from t ws task v)
  unfolding fill_from
  fill_from_lem ws task v = pick_all (Right t) (idle_at t task) _ _ (λ e. by (task_at t task).pending) (λ e. r6)
    where
      by : (d : Option Making) → Right t (fill_pending t ws task v d)
      by None = r6
      by (Some d) = unheld (fill_slot t task d.filled v (object_of ws t.limits.s d.at)) (fill_slot_lem task d.filled v (object_of ws t.limits.s d.at))

  store_from_lem : (ws : List ℕ) (task : ℕ) (x : Primary) (slot : ℕ) (v : Operand Primary) → Right t (store_from t ws task x slot v)
  unfolding store_from
  store_from_lem ws task x slot v = pick_all (Right t) (idle_at t task) _ _ (λ e. unheld _ later) (λ e. r6)
    where
      later : (pick (eqb x.0 0) (no t 4) (store_slot t ws task x slot v (object_of ws t.limits.s x))).answer ≡ No Held → ⊥
      later =
          pick_all (λ (o : Outcome). o.answer ≡ No Held → ⊥) (eqb x.0 0) _ _ (λ a e. clash cc)
          (λ a. store_slot_lem ws task x slot v (object_of ws t.limits.s x))

-- behind the gate, whose refusals are 2 and 3
module _ {l : Limits} {w : Store} {hy : History} {t : Table} {ws : List ℕ} (g : Good l w hy t ws) (task : ℕ) where
  gated : (o : Outcome) → Right t o → Right t (through (call_gate t ws task) t o)
  gated o r = rw (call_gate_lem g.agree g.long task) (on (ltb task t.limits.p))
    where
      on : (b : Bool) → Right t (through (pick b (Ok tt) (Err (refusal 2))) t o)
      on true = r
      on false = refuses t 2 (λ e. clash cc)

  paired : (a b : ℕ) (o : Outcome) → Right t o → Right t (through (pair_gate t ws task a b) t o)
  paired a b o r = rw (pair_gate_lem g.agree g.long task a b) (on (ltb task t.limits.p) (ltb 7 a) (ltb 7 b))
    where
      on : (c d e : Bool) → Right t (through (behind (pick c (Ok tt) (Err (refusal 2))) (pick d (Err (refusal 3)) (pick e (Err (refusal 3)) (Ok tt)))) t o)
      on true true e = r3 t
      on true false true = r3 t
      on true false false = r
      on false d e = refuses t 2 (λ e. clash cc)

module _ {l : Limits} {w : Store} {hy : History} {t : Table} {ws : List ℕ} (g : Good l w hy t ws) where
  new_right : (task r len m : ℕ) → Right t (begin_new_of t ws task r len m)
  unfolding begin_new_of
  new_right task r len m =
      gated g task _
      (pick_all (Right t) (new_ok t.limits.s r len m) _ _
      (λ a. pick_all (Right t) (idle_at t task) _ _ (λ b. by (task_at t task).pending) (λ b. r6 t)) (λ a. r3 t))
    where
      by : (d : Option Making) → Right t (if_nothing d (pick (held_at t) (no t 7) (begun t task (New (wanted r len m)))) (no t 6))
      by None = unheld t (begun t task (New (wanted r len m))) (λ e. clash cc)
      by (Some d) = r6 t

  right : (c : Call) → Begins c → Right t (call c t ws).out
  unfolding begin_fill_of begin_fill_pointer_of begin_store_of begin_store_pointer_of
  right (Call.New task r len m) b = new_right task r len m
  right (Call.Fill task w) b = gated g task _ (fill_from_lem t ws task (Plain w))
  right (Call.FillPointer task r) b =
      gated g task _ (pick_all (Right t) (ltb 7 r) _ _ (λ e. r3 t) (λ e. fill_from_lem t ws task (Pointer (register (task_at t task) r))))
  right (Call.Store task o slot w) b =
      gated g task _ (pick_all (Right t) (ltb 7 o) _ _ (λ e. r3 t) (λ e. store_from_lem t ws task (register (task_at t task) o) slot (Plain w)))
  right (Call.StorePointer task o slot r) b =
      paired g task o r _ (store_from_lem t ws task (register (task_at t task) o) slot (Pointer (register (task_at t task) r)))
  right _ b = absurd b

  pub begun_free : (c : Call) → Begins c → (call c t ws).out.answer ≡ Accepted → IsHeld t t.on → ⊥
  begun_free c b e h = held_not g ((right c b).0 e) h

  pub seven_held : (c : Call) → Begins c → (call c t ws).out.answer ≡ No Held → IsHeld t t.on
  seven_held c b e = held_is g ((right c b).1 e)
