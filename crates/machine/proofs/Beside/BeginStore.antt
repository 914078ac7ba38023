-- Begin of a Store: refused with nothing changed, or the task begins in table and store alike.
use Rattle.std.specs.Prelude.{ℕ, ◌+◌, ◌<◌, ◌≡◌, refl, ◌≢◌, Bool, true, false, get_or, ltb, leb, eqb, Option}
use Rattle.std.proofs.Common.{sym, ◌∙◌, arith, ltb-true, leb-false}
use mathlib.Core.List.{List, []}
use Rattle.std.proofs.lemmas.Bool.{eqb-false}
use Rattle.table.specs.declared.Limits.{Limits}
use Rattle.table.specs.declared.Making.{Making}
use Rattle.table.specs.declared.Operand.{Operand}
use Rattle.table.specs.declared.Operand.TheVariants.{Plain, Pointer}
use Rattle.table.specs.declared.Then.TheVariants.{ToWrite}
use Rattle.table.specs.declared.Place.TheVariants.{Idle, StoreWrite, Looking}
use Rattle.table.specs.declared.Primary.{Primary}
use Rattle.table.specs.declared.Table.{Table}
use Rattle.table.specs.declared.Answer.{Answer}
use Rattle.table.specs.declared.Answer.TheVariants.{Accepted, No}
use Rattle.machine.specs.History.{History}
use Rattle.machine.specs.Basics.{pick}
use Rattle.machine.specs.Numbers.{refusal}
use Rattle.machine.specs.Words.{primary, operand_word, object_of}
use Rattle.machine.specs.Entries.{entry, task_at, with_task, out, storing_on}
use Rattle.machine.specs.Tasks.{holding_of, slot_taken}
use Rattle.machine.specs.Begin.{held_at, is_pointer, same_test, store_place, store_slot, store_from, begin_store_of, begin_store_pointer_of}
use Rattle.machine.specs.Call.{Call}
use Rattle.machine.specs.StillStore.{Store, storing, doing, happen_all, told}
use Rattle.machine.proofs.Objects.State.{root, jobs_in, ClaimIn}
use Rattle.machine.proofs.Objects.Inv.{Sound, SoundOperand}
use Rattle.machine.proofs.Objects.BeginSteps.{begin_store, slot_sound}
use Rattle.machine.proofs.Agree.Encode.{at_operand, at_place}
use Rattle.machine.proofs.Agree.Agree.{Held}
use Rattle.machine.proofs.Agree.Names.{held_of, pa_zero}
use Rattle.machine.proofs.Agree.Read.{object_of_lem, pointer_word}
use Rattle.machine.proofs.Agree.Search.{slot_free}
use Rattle.machine.proofs.Agree.Complete.{register_of_lem}
use Rattle.machine.proofs.Beside.Still.{DoingAt}
use Rattle.machine.proofs.Objects.Counts.{left_to_pay}
use Rattle.machine.proofs.Beside.Stands.{Stands}
use Rattle.machine.proofs.Beside.Good.{Good}
use Rattle.machine.proofs.Beside.Glue.{below}
use Rattle.machine.proofs.Beside.Registers.{sound_register, held_is}
use Rattle.machine.proofs.Beside.Begins.{Keeps, either, same_test_lem, at_pointer, begun_good, no_keeps, gate_keeps, pair_keeps, idle_keeps}

-- ---- the place of a Store just begun
-- a Store that begins is busy, pays nothing yet and claims nothing
begun_stands : (on : Bool) (old : ℕ) (v : Operand Primary) → Stands (store_place on old v) × (left_to_pay (store_place on old v) ≡ 0) × ((x : ℕ) → ClaimIn (holding_of (store_place on old v)) x → ⊥)
unfolding holding_of
begun_stands on old (Plain n) = (tt, refl, λ x h. h)
begun_stands on old (Pointer q) = choose_place on (eqb old 0)
  where
    choose_place : (a c : Bool)
        → Stands (pick a (pick c (StoreWrite (Pointer q)) (Looking (primary old) (ToWrite (Pointer q)))) (StoreWrite (Pointer q)))
        × (left_to_pay (pick a (pick c (StoreWrite (Pointer q)) (Looking (primary old) (ToWrite (Pointer q)))) (StoreWrite (Pointer q))) ≡ 0)
        × ((x : ℕ) → ClaimIn (holding_of (pick a (pick c (StoreWrite (Pointer q)) (Looking (primary old) (ToWrite (Pointer q)))) (StoreWrite (Pointer q)))) x → ⊥)
    choose_place true true = (tt, refl, λ x h. h)
    choose_place true false = (tt, refl, λ x h. h)
    choose_place false c = (tt, refl, λ x h. h)

begun_jobs : (on : Bool) (old : ℕ) (v : Operand Primary) → jobs_in (holding_of (store_place on old v)) ≡ 0
unfolding holding_of
begun_jobs on old (Plain u) = refl
begun_jobs false old (Pointer q) = refl
begun_jobs true old (Pointer q) = by (eqb old 0)
  where
    by : (c : Bool) → jobs_in (holding_of (pick c (StoreWrite (Pointer q)) (Looking (primary old) (ToWrite (Pointer q))))) ≡ 0
    by true = refl
    by false = refl

begun_doing : (regs : List Primary) (d : Option Making) (on : Bool) (old x i : ℕ) (v : Operand Primary)
    → DoingAt (entry regs d (storing_on (primary x) i) (store_place on old v)) (storing x i (operand_word v)) (store_place on old v)
begun_doing regs d on old x i (Plain u) = refl
begun_doing regs d false old x i (Pointer q) = refl
begun_doing regs d true old x i (Pointer q) = by (eqb old 0)
  where
    by : (c : Bool)
        → DoingAt (entry regs d (storing_on (primary x) i) (pick c (StoreWrite (Pointer q)) (Looking (primary old) (ToWrite (Pointer q))))) (storing x i q.0)
        (pick c (StoreWrite (Pointer q)) (Looking (primary old) (ToWrite (Pointer q))))
    by true = refl
    by false = refl

module _ {l : Limits} {w : Store} {hy : History} {t : Table} {ws : List ℕ} (g : Good l w hy t ws) where
  -- by the machine's words as by the objects' numbers
  begun_at : (x i : ℕ) → Sound g.kept g.objects.shape x → 0 < x → i < g.objects.shape.len x → (v : Operand Primary)
      → is_pointer v ≡ ltb i (g.objects.shape.ptr x)
      → store_place t.on (get_or ws (g.pa x + i) 0) (at_operand g.pa v) ≡ at_place g.pa g.ra (store_place g.objects.on (g.objects.prim x i) v)
  begun_at x i z n d (Plain u) b = refl
  begun_at x i z n d (Pointer q) b =
      rw (g.agree.on, pointer_word g.agree x i (n, z.1, z.0) wrote m, pa_zero g.agree.lay old sound.0 sound.1)
      (on g.objects.on (eqb old 0))
    where
      old : ℕ
      old = g.objects.prim x i

      m : i < g.objects.shape.ptr x
      m = ltb-true i (g.objects.shape.ptr x) (sym b)

      wrote : i < g.objects.shape.wrote x
      wrote = omega (arith, z.2, g.inv.shapes.filled x)

      sound : Sound g.kept g.objects.shape old
      sound = slot_sound g.inv x i z d m

      on : (a c : Bool)
          → pick a (pick c (StoreWrite (Pointer (primary (g.pa q.0)))) (Looking (primary (g.pa old)) (ToWrite (Pointer (primary (g.pa q.0)))))) (StoreWrite (Pointer (primary (g.pa q.0))))
          ≡ at_place g.pa g.ra (pick a (pick c (StoreWrite (Pointer q)) (Looking (primary old) (ToWrite (Pointer q)))) (StoreWrite (Pointer q)))
      on true true = refl
      on true false = refl
      on false c = refl

  module _ (f : Answer → Store) (kept : (x : ℕ) → f (No (refusal x)) ≡ w) (task : ℕ) (ip : task < t.limits.p) (x i : ℕ)
      (z : Sound g.kept g.objects.shape x) (v : Operand Primary) (sv : SoundOperand g.kept g.objects.shape v)
      (a : f Accepted ≡ doing w task (storing x i (operand_word v))) where
    -- nothing refuses it
    begins : held_at t ≡ false → (g.objects.tasks task).place ≡ Idle → 0 < x → i < g.objects.shape.len x → is_pointer v ≡ ltb i (g.objects.shape.ptr x)
        → slot_taken t.tasks t.limits.p task (primary (g.pa x)) i ≡ false
        → Keeps l hy ws f
        (out (with_task t task (entry (task_at t task).regs (task_at t task).pending (storing_on (primary (g.pa x)) i) (store_place t.on (get_or ws (g.pa x + i) 0) (at_operand g.pa v)))) Accepted)
    begins held pe n d b free =
        rw (begun_at x i z n d v b) (
          rw a
              (begun_good g task ip pe (storing_on (primary x) i) (store_place g.objects.on (g.objects.prim x i) v) (storing x i (operand_word v))
              (begin_store g.inv task ip pe x i v z n d b sv (slot_free g.agree g.inv task x i free (n, z.1, z.0)))
              (begun_jobs g.objects.on (g.objects.prim x i) v)
              (begun_doing (g.objects.tasks task).regs (g.objects.tasks task).pending g.objects.on (g.objects.prim x i) x i v) held
              (begun_stands g.objects.on (g.objects.prim x i) v).0 (begun_stands g.objects.on (g.objects.prim x i) v).1
              (begun_stands g.objects.on (g.objects.prim x i) v).2),
          tt,
        )

    store_slot_lem : held_at t ≡ false → (g.objects.tasks task).place ≡ Idle → x ≢ 0
        → Keeps l hy ws f (store_slot t ws task (primary (g.pa x)) i (at_operand g.pa v) (object_of ws t.limits.s (primary (g.pa x))))
    store_slot_lem held pe nz =
        rw (object_of_lem g.inv g.agree x h)
        (either f (leb (g.objects.shape.len x) i) _ _ (λ c. no_keeps g f kept 5 tt refl)
        (λ c.
        either f (same_test (is_pointer (at_operand g.pa v)) (ltb i (g.objects.shape.ptr x))) _ _
        (λ b.
        either f (slot_taken t.tasks t.limits.p task (primary (g.pa x)) i) _ _ (λ e. no_keeps g f kept 8 tt refl)
        (λ e. begins held pe h.0 (leb-false (g.objects.shape.len x) i c) (sym (at_pointer g.pa v) ∙ same_test_lem _ _ b) e))
        (λ b. no_keeps g f kept 5 tt refl)))
      where
        h : Held g.kept g.objects.shape x
        h = held_of g.kept g.objects.shape x nz z.0 z.1

    pub store_keeps : Keeps l hy ws f (store_from t ws task (primary (g.pa x)) i (at_operand g.pa v))
    unfolding store_from
    store_keeps =
        idle_keeps g f kept task ip _
        (λ pe.
        either f (held_at t) _ _ (λ c. no_keeps g f kept 7 tt refl)
        (λ c.
        rw (pa_zero g.agree.lay x z.0 z.1)
        (either f (eqb x 0) _ _ (λ d. no_keeps g f kept 4 tt refl) (λ d. store_slot_lem c pe (eqb-false x 0 d)))))

  -- ---- the calls
  pub begin_store_keeps : (task r i v : ℕ) → Keeps l hy ws (λ x. told w (Call.Store task r i v) x []) (begin_store_of t ws task r i v)
  unfolding begin_store_of happen_all
  begin_store_keeps task r i v =
      gate_keeps g f kept task _
      (λ ip.
      either f (ltb 7 r) _ _ (λ c. no_keeps g f kept 3 tt refl)
      (λ c.
      rw (register_of_lem g.agree task r (below g task ip))
      (store_keeps f kept task ip (root (g.objects.tasks task).regs r) i (sound_register g task r) (Plain v) tt (rw (held_is g task r ip) refl))))
    where
      f : Answer → Store
      f x = told w (Call.Store task r i v) x []

      kept : (x : ℕ) → f (No (refusal x)) ≡ w
      kept x = refl

  pub begin_store_pointer_keeps : (task r i q : ℕ)
      → Keeps l hy ws (λ x. told w (Call.StorePointer task r i q) x []) (begin_store_pointer_of t ws task r i q)
  unfolding begin_store_pointer_of happen_all
  begin_store_pointer_keeps task r i q =
      pair_keeps g f kept task r q _
      (λ ip.
      rw (register_of_lem g.agree task r (below g task ip), register_of_lem g.agree task q (below g task ip))
      (store_keeps f kept task ip (root (g.objects.tasks task).regs r) i (sound_register g task r)
      (Pointer (primary (root (g.objects.tasks task).regs q))) (sound_register g task q) (rw (held_is g task r ip, held_is g task q ip) refl)))
    where
      f : Answer → Store
      f x = told w (Call.StorePointer task r i q) x []

      kept : (x : ℕ) → f (No (refusal x)) ≡ w
      kept x = refl
