-- A task that is not idle begins nothing: its calls that are no step are refused, and leave the store; its steps leave what it has begun, or end it.
use Rattle.std.specs.Prelude.{ℕ, ◌≡◌, refl, ◌⊎◌, List, [], ◌∷◌, false, ltb}
use Rattle.std.proofs.Common.{◌∙◌, inl, inr}
use Rattle.table.specs.declared.Operand.{Operand}
use Rattle.table.specs.declared.Operand.TheVariants.{Plain, Pointer}
use Rattle.table.specs.declared.Primary.{Primary}
use Rattle.table.specs.declared.Table.{Table}
use Rattle.table.specs.declared.Refusal.{Refusal}
use Rattle.table.specs.declared.Answer.{Answer}
use Rattle.table.specs.declared.Answer.TheVariants.{Accepted, No}
use Rattle.table.specs.declared.Outcome.{Outcome}
use Rattle.machine.specs.Numbers.{refusal}
use Rattle.machine.specs.Entries.{task_at, register}
use Rattle.machine.specs.Gate.{call_gate, pair_gate}
use Rattle.machine.specs.Complete.{idle_at, with_two, move_of, clear_of, put_root_of, get_root_of, same_of, load_of}
use Rattle.machine.specs.Begin.{new_ok, begin_new_of, fill_from, begin_fill_of, begin_fill_pointer_of, store_from, begin_store_of, begin_store_pointer_of}
use Rattle.machine.specs.Call.{Call}
use Rattle.machine.specs.Calls.{call}
use Rattle.machine.specs.StillStore.{Store, Doing, resting, Kind, Made, Filled, Written, Ended, owner_at, happens, happen_all, task_of, told}
use Rattle.machine.proofs.Beside.Changes.{pick_all, through_all}
use Rattle.machine.proofs.Beside.Calls.{NotStep}
use Rattle.machine.proofs.Beside.SlotsStay.{rests_after, made_doing, filled_doing, written_doing}

-- an outcome of which the store, as told by f, is w
abbrev Leaves : Store → (Answer → Store) → Outcome → Type 0
Leaves w f o = f o.answer ≡ w

module _ (w : Store) (f : Answer → Store) (kept : (x : Refusal) → f (No x) ≡ w) (t : Table) (ws : List ℕ) (i : ℕ) (busy : idle_at t i ≡ false) where
  two : (a b : ℕ) (o : Outcome) → Leaves w f (with_two t ws i a b o)
  two a b o = through_all (Leaves w f) (pair_gate t ws i a b) t _ kept (rw busy (kept (refusal 6)))

  new_leaves : (r len m : ℕ) → Leaves w f (begin_new_of t ws i r len m)
  unfolding begin_new_of
  new_leaves r len m =
      through_all (Leaves w f) (call_gate t ws i) t _ kept
      (pick_all (Leaves w f) (new_ok t.limits.s r len m) _ _ (λ e. rw busy (kept (refusal 6))) (λ e. kept (refusal 3)))

  fill_from_lem : (v : Operand Primary) → Leaves w f (fill_from t ws i v)
  unfolding fill_from
  fill_from_lem v = rw busy (kept (refusal 6))

  fill_leaves : (v : ℕ) → Leaves w f (begin_fill_of t ws i v)
  unfolding begin_fill_of
  fill_leaves v = through_all (Leaves w f) (call_gate t ws i) t _ kept (fill_from_lem (Plain v))

  fill_pointer_leaves : (r : ℕ) → Leaves w f (begin_fill_pointer_of t ws i r)
  unfolding begin_fill_pointer_of
  fill_pointer_leaves r =
      through_all (Leaves w f) (call_gate t ws i) t _ kept
      (pick_all (Leaves w f) (ltb 7 r) _ _ (λ e. kept (refusal 3)) (λ e. fill_from_lem (Pointer (register (task_at t i) r))))

  store_from_lem : (x : Primary) (slot : ℕ) (v : Operand Primary) → Leaves w f (store_from t ws i x slot v)
  unfolding store_from
  store_from_lem x slot v = rw busy (kept (refusal 6))

  store_leaves : (o slot v : ℕ) → Leaves w f (begin_store_of t ws i o slot v)
  unfolding begin_store_of
  store_leaves o slot v =
      through_all (Leaves w f) (call_gate t ws i) t _ kept
      (pick_all (Leaves w f) (ltb 7 o) _ _ (λ e. kept (refusal 3)) (λ e. store_from_lem (register (task_at t i) o) slot (Plain v)))

  store_pointer_leaves : (o slot r : ℕ) → Leaves w f (begin_store_pointer_of t ws i o slot r)
  unfolding begin_store_pointer_of
  store_pointer_leaves o slot r =
      through_all (Leaves w f) (pair_gate t ws i o r) t _ kept
      (store_from_lem (register (task_at t i) o) slot (Pointer (register (task_at t i) r)))

report_leaves : (w : Store) (x : Answer) → told w Call.Report x [] ≡ w
unfolding happen_all
report_leaves w Accepted = refl
report_leaves w _ = refl

-- a call, no step, of a task that is not idle leaves the store
pub busy_leaves : (w : Store) (c : Call) (t : Table) (ws : List ℕ) → NotStep c → idle_at t (task_of c) ≡ false → told w c (call c t ws).out.answer [] ≡ w
unfolding happen_all move_of clear_of put_root_of get_root_of same_of load_of
busy_leaves w (Call.New task r len m) t ws n b = new_leaves w (λ x. told w (Call.New task r len m) x []) (λ x. refl) t ws task b r len m
busy_leaves w (Call.Fill task v) t ws n b = fill_leaves w (λ x. told w (Call.Fill task v) x []) (λ x. refl) t ws task b v
busy_leaves w (Call.FillPointer task r) t ws n b = fill_pointer_leaves w (λ x. told w (Call.FillPointer task r) x []) (λ x. refl) t ws task b r
busy_leaves w (Call.Load task to from slot) t ws n b = two w (λ x. told w (Call.Load task to from slot) x []) (λ x. refl) t ws task b to from _
busy_leaves w (Call.Store task o slot v) t ws n b = store_leaves w (λ x. told w (Call.Store task o slot v) x []) (λ x. refl) t ws task b o slot v
busy_leaves w (Call.StorePointer task o slot r) t ws n b =
    store_pointer_leaves w (λ x. told w (Call.StorePointer task o slot r) x []) (λ x. refl) t ws task b o slot r
busy_leaves w (Call.Move task to from) t ws n b = two w (λ x. told w (Call.Move task to from) x []) (λ x. refl) t ws task b to from _
busy_leaves w (Call.Clear task r) t ws n b = two w (λ x. told w (Call.Clear task r) x []) (λ x. refl) t ws task b r r _
busy_leaves w (Call.Same task a c) t ws n b = two w (λ x. told w (Call.Same task a c) x []) (λ x. refl) t ws task b a c _
busy_leaves w (Call.Put task root r) t ws n b = two w (λ x. told w (Call.Put task root r) x []) (λ x. refl) t ws task b root r _
busy_leaves w (Call.Get task r root) t ws n b = two w (λ x. told w (Call.Get task r root) x []) (λ x. refl) t ws task b r root _
busy_leaves w (Call.Step task) t ws n b = absurd n
busy_leaves w Call.Report t ws n b = report_leaves w (call Call.Report t ws).out.answer

-- after some kinds of action a task has begun the same, or nothing
onward : {a b c : Doing} → (a ≡ b) ⊎ (a ≡ resting) → b ≡ c → (a ≡ c) ⊎ (a ≡ resting)
onward (inl q) e = inl (q ∙ e)
onward (inr q) e = inr q

rests : {a b : Doing} → (a ≡ b) ⊎ (a ≡ resting) → b ≡ resting → a ≡ resting
rests (inl q) e = q ∙ e
rests (inr q) e = q

pub same_or_rests : (ks : List Kind) (s : Store) (i : ℕ) → ((owner_at (happen_all s i ks) i).doing ≡ (owner_at s i).doing) ⊎ ((owner_at (happen_all s i ks) i).doing ≡ resting)
unfolding happen_all
same_or_rests [] s i = inl refl
same_or_rests (Made ∷ ks) s i = onward (same_or_rests ks (happens s i Made) i) (made_doing s i (owner_at s i).doing)
same_or_rests (Filled ∷ ks) s i = onward (same_or_rests ks (happens s i Filled) i) (filled_doing s i (owner_at s i).doing)
same_or_rests (Written ∷ ks) s i = onward (same_or_rests ks (happens s i Written) i) (written_doing s i (owner_at s i).doing)
same_or_rests (Ended ∷ ks) s i = inr (rests (same_or_rests ks (happens s i Ended) i) (rests_after s i))
