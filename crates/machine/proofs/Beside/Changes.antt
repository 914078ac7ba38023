-- What a call that is no step makes of the task entries, and of its own task's Store.
use Rattle.std.specs.Prelude.{ℕ, ◌+◌, ◌≡◌, List, Bool, false, get_or, set, ltb, leb, eqb, Option, Some, None, Ok, Err}
use Rattle.std.proofs.Math.Path.{refl}
use Rattle.std.proofs.Math.Bool.{true}
use Rattle.std.proofs.Common.{arith}
use Rattle.table.specs.declared.Primary.{Primary}
use Rattle.table.specs.declared.Descriptor.{Descriptor}
use Rattle.table.specs.declared.Making.{Making}
use Rattle.table.specs.declared.Operand.{Operand}
use Rattle.table.specs.declared.Operand.TheVariants.{Plain, Pointer}
use Rattle.table.specs.declared.Then.TheVariants.{ToWrite, ToStoreCopy, ToFillCopy, ToPut}
use Rattle.table.specs.declared.Place.{Place}
use Rattle.table.specs.declared.Place.TheVariants.{Idle, New, Asked, FillWrite, FillCopy, StoreWrite, Meet, StoreCopy, Take, Read, Put, Release, Looking, Placing}
use Rattle.table.specs.declared.Task.{Task}
use Rattle.table.specs.declared.Table.{Table}
use Rattle.table.specs.declared.Refusal.{Refusal}
use Rattle.table.specs.declared.Answer.{Answer}
use Rattle.table.specs.declared.Answer.TheVariants.{Done}
use Rattle.table.specs.declared.Outcome.{Outcome}
use Rattle.machine.specs.Basics.{pick, Gate}
use Rattle.machine.specs.Words.{object_of, wanted}
use Rattle.machine.specs.Numbers.{refusal, Effect, harmless, ends_new, spends, breaks, effect_of}
use Rattle.machine.specs.Entries.{task_at, nil, register, with_task, with_place, with_register, with_root, marked, out, refused, no}
use Rattle.machine.specs.Gate.{through, call_gate, pair_gate, table_gate}
use Rattle.machine.specs.Tasks.{holding_of, idle_of, slot_taken}
use Rattle.machine.specs.Setup.{report_of}
use Rattle.machine.specs.Complete.{idle_at, with_two, move_of, clear_of, put_root_of, get_root_of, same_of, load_slot, load_from, load_of}
use Rattle.machine.specs.Begin.{held_at, begun, new_ok, if_nothing, begin_new_of, is_pointer, same_test, fill_slot, fill_pending, fill_from, begin_fill_of, begin_fill_pointer_of, store_place, storing, store_slot, store_from, begin_store_of, begin_store_pointer_of}
use Rattle.machine.proofs.Objects.Base.{off_on}
use Rattle.machine.specs.Beside.Waits.{waits}
use Rattle.machine.specs.Beside.Changes.{if_accepted}

-- ---- what each of two ways gives, and what lies behind a gate
pub pick_all : {A : Type 0} (P : A → Type 0) (b : Bool) (x y : A) → (b ≡ true → P x) → (b ≡ false → P y) → P (pick b x y)
pick_all P true x y p q = p refl
pick_all P false x y p q = q refl

pub through_all : (P : Outcome → Type 0) (g : Gate) (t : Table) (o : Outcome) → ((x : Refusal) → P (refused t x)) → P o → P (through g t o)
through_all P (Ok u) t o r p = p
through_all P (Err x) t o r p = r x

-- a refusal leaves the entries
pub marked_tasks : (t : Table) (x : Effect) → (marked t x).tasks ≡ t.tasks
marked_tasks t harmless = refl
marked_tasks t ends_new = refl
marked_tasks t spends = refl
marked_tasks t breaks = refl

-- and the collector as it was
pub marked_on : (t : Table) (x : Effect) → (marked t x).on ≡ t.on
marked_on t harmless = refl
marked_on t ends_new = refl
marked_on t spends = refl
marked_on t breaks = refl

-- an idle task's Store does not wait
pub idle_waits : (p : Place) → idle_of (holding_of p) ≡ true → waits p ≡ 0
unfolding holding_of
idle_waits Idle h = refl
idle_waits (New want) h = refl
idle_waits (Asked want) h = refl
idle_waits (FillWrite v) h = refl
idle_waits (FillCopy c) h = refl
idle_waits (StoreWrite v) h = off_on h
idle_waits (Meet v) h = refl
idle_waits (StoreCopy c) h = refl
idle_waits (Take n) h = refl
idle_waits (Read n job) h = refl
idle_waits (Put n job c) h = refl
idle_waits (Release n job) h = refl
idle_waits (Looking p (ToWrite v)) h = off_on h
idle_waits (Looking p ToStoreCopy) h = refl
idle_waits (Looking p ToFillCopy) h = refl
idle_waits (Looking p (ToPut n job)) h = refl
idle_waits (Placing p (ToWrite v)) h = off_on h
idle_waits (Placing p ToStoreCopy) h = refl
idle_waits (Placing p ToFillCopy) h = refl
idle_waits (Placing p (ToPut n job)) h = refl

-- A call of task i whose answer x says that b x Stores were begun: the entries stay, or only its own is a new one. The
-- collector is on or off as before.
pub data Answered (b : Answer → ℕ) (t : Table) (i : ℕ) (o : Outcome) : Type 0 where
  stayed : o.table.tasks ≡ t.tasks → o.table.on ≡ t.on → b o.answer ≡ 0 → Answered b t i o
  entered : (e : Task) → o.table.tasks ≡ set t.tasks i e → o.table.on ≡ t.on → waits e.place ≡ waits (task_at t i).place + b o.answer → Answered b t i o

abbrev pub no_store : Answer → ℕ
no_store x = 0

module _ (t : Table) (ws : List ℕ) (i : ℕ) where
  refuses : (x : Refusal) → Answered no_store t i (refused t x)
  refuses x = stayed (marked_tasks t (effect_of x)) (marked_on t (effect_of x)) refl

  refuses_store : (x : Refusal) → Answered if_accepted t i (refused t x)
  refuses_store x = stayed (marked_tasks t (effect_of x)) (marked_on t (effect_of x)) refl

  -- ---- the calls that complete at once
  two : (a b : ℕ) (o : Outcome) → Answered no_store t i o → Answered no_store t i (with_two t ws i a b o)
  two a b o p =
      through_all (Answered no_store t i) (pair_gate t ws i a b) t _ refuses
      (pick_all (Answered no_store t i) (idle_at t i) _ _ (λ e. p) (λ e. refuses (refusal 6)))

  registered : (r : ℕ) (p : Primary) → Answered no_store t i (out (with_register t i r p) Done)
  unfolding with_register with_task
  registered r p = entered _ refl refl (omega arith)

  pub move_entries : (to from : ℕ) → Answered no_store t i (move_of t ws i to from)
  unfolding move_of
  move_entries to from = two to from _ (registered to (register (task_at t i) from))

  pub clear_entries : (r : ℕ) → Answered no_store t i (clear_of t ws i r)
  unfolding clear_of
  clear_entries r = two r r _ (registered r nil)

  pub put_entries : (root r : ℕ) → Answered no_store t i (put_root_of t ws i root r)
  unfolding put_root_of with_root
  put_entries root r = two root r _ (stayed refl refl refl)

  pub get_entries : (r root : ℕ) → Answered no_store t i (get_root_of t ws i r root)
  unfolding get_root_of
  get_entries r root = two r root _ (registered r (get_or t.roots root nil))

  pub same_entries : (a b : ℕ) → Answered no_store t i (same_of t ws i a b)
  unfolding same_of
  same_entries a b =
      two a b _ (pick_all (Answered no_store t i) (eqb (register (task_at t i) a).0 (register (task_at t i) b).0) _ _ (λ e. stayed refl refl refl) (λ e. stayed refl refl refl))

  load_slot_lem : (to : ℕ) (p : Primary) (slot : ℕ) (x : Option Descriptor) → Answered no_store t i (load_slot t ws i to p slot x)
  load_slot_lem to p slot (Some o) =
      pick_all (Answered no_store t i) (leb o.len slot) _ _ (λ e. refuses (refusal 5))
      (λ e. pick_all (Answered no_store t i) (ltb slot o.m) _ _ (λ f. registered to _) (λ f. stayed refl refl refl))
  load_slot_lem to p slot None = refuses (refusal 11)

  pub load_entries : (to from slot : ℕ) → Answered no_store t i (load_of t ws i to from slot)
  unfolding load_of load_from
  load_entries to from slot =
      two to from _
      (pick_all (Answered no_store t i) (eqb (register (task_at t i) from).0 0) _ _ (λ e. refuses (refusal 4)) (λ e. load_slot_lem to (register (task_at t i) from) slot (object_of ws t.limits.s (register (task_at t i) from))))

  pub report_entries : Answered no_store t i (report_of t ws)
  unfolding report_of
  report_entries = through_all (Answered no_store t i) (table_gate t ws) t _ refuses (stayed refl refl refl)

  -- ---- New and Fill begun
  begins : (p : Place) → idle_at t i ≡ true → waits p ≡ 0 → Answered no_store t i (begun t i p)
  unfolding with_place with_task
  begins p e z = entered _ refl refl (omega (arith, idle_waits (task_at t i).place e))

  pub new_entries : (r len m : ℕ) → Answered no_store t i (begin_new_of t ws i r len m)
  unfolding begin_new_of
  new_entries r len m =
      through_all (Answered no_store t i) (call_gate t ws i) t _ refuses
      (pick_all (Answered no_store t i) (new_ok t.limits.s r len m) _ _
      (λ e. pick_all (Answered no_store t i) (idle_at t i) _ _ (λ f. fresh f (task_at t i).pending) (λ f. refuses (refusal 6)))
      (λ e. refuses (refusal 3)))
    where
      fresh : idle_at t i ≡ true → (d : Option Making) → Answered no_store t i (if_nothing d (pick (held_at t) (no t 7) (begun t i (New (wanted r len m)))) (no t 6))
      fresh f None = pick_all (Answered no_store t i) (held_at t) _ _ (λ e. refuses (refusal 7)) (λ e. begins (New (wanted r len m)) f refl)
      fresh f (Some d) = refuses (refusal 6)

  fill_slot_lem : (f : ℕ) (v : Operand Primary) (x : Option Descriptor) → idle_at t i ≡ true → Answered no_store t i (fill_slot t i f v x)
  fill_slot_lem f v (Some o) h =
      pick_all (Answered no_store t i) (leb o.len f) _ _ (λ e. refuses (refusal 11))
      (λ e.
      pick_all (Answered no_store t i) (same_test (is_pointer v) (ltb f o.m)) _ _ (λ g. begins (FillWrite v) h refl) (λ g. refuses (refusal 5)))
  fill_slot_lem f v None h = refuses (refusal 11)

  fill_pending_lem : (v : Operand Primary) (d : Option Making) → idle_at t i ≡ true → Answered no_store t i (fill_pending t ws i v d)
  fill_pending_lem v None h = refuses (refusal 6)
  fill_pending_lem v (Some d) h =
      pick_all (Answered no_store t i) (held_at t) _ _ (λ e. refuses (refusal 7)) (λ e. fill_slot_lem d.filled v (object_of ws t.limits.s d.at) h)

  fill_from_lem : (v : Operand Primary) → Answered no_store t i (fill_from t ws i v)
  unfolding fill_from
  fill_from_lem v =
      pick_all (Answered no_store t i) (idle_at t i) _ _ (λ e. fill_pending_lem v (task_at t i).pending e) (λ e. refuses (refusal 6))

  pub fill_entries : (w : ℕ) → Answered no_store t i (begin_fill_of t ws i w)
  unfolding begin_fill_of
  fill_entries w = through_all (Answered no_store t i) (call_gate t ws i) t _ refuses (fill_from_lem (Plain w))

  pub fill_pointer_entries : (r : ℕ) → Answered no_store t i (begin_fill_pointer_of t ws i r)
  unfolding begin_fill_pointer_of
  fill_pointer_entries r =
      through_all (Answered no_store t i) (call_gate t ws i) t _ refuses
      (pick_all (Answered no_store t i) (ltb 7 r) _ _ (λ e. refuses (refusal 3)) (λ e. fill_from_lem (Pointer (register (task_at t i) r))))

  -- ---- Store begun: it waits to be written, and no_store did before
  store_waits : (on : Bool) (old : ℕ) (v : Operand Primary) → waits (store_place on old v) ≡ 1
  store_waits on old (Plain w) = refl
  store_waits on old (Pointer p) =
      pick_all (λ q. waits q ≡ 1) on _ _ (λ e. pick_all (λ q. waits q ≡ 1) (eqb old 0) _ _ (λ f. refl) (λ f. refl)) (λ e. refl)

  stores : (x : Primary) (slot : ℕ) (p : Place) → idle_at t i ≡ true → waits p ≡ 1 → Answered if_accepted t i (storing t i x slot p)
  unfolding with_task
  stores x slot p e z = entered _ refl refl (omega (arith, idle_waits (task_at t i).place e))

  store_slot_lem : (x : Primary) (slot : ℕ) (v : Operand Primary) (y : Option Descriptor) → idle_at t i ≡ true → Answered if_accepted t i (store_slot t ws i x slot v y)
  store_slot_lem x slot v (Some o) h =
      pick_all (Answered if_accepted t i) (leb o.len slot) _ _ (λ e. refuses_store (refusal 5))
      (λ e.
      pick_all (Answered if_accepted t i) (same_test (is_pointer v) (ltb slot o.m)) _ _
      (λ f.
      pick_all (Answered if_accepted t i) (slot_taken t.tasks t.limits.p i x slot) _ _ (λ g. refuses_store (refusal 8))
      (λ g. stores x slot _ h (store_waits t.on (get_or ws (x.0 + slot) 0) v)))
      (λ f. refuses_store (refusal 5)))
  store_slot_lem x slot v None h = refuses_store (refusal 11)

  store_from_lem : (x : Primary) (slot : ℕ) (v : Operand Primary) → Answered if_accepted t i (store_from t ws i x slot v)
  unfolding store_from
  store_from_lem x slot v =
      pick_all (Answered if_accepted t i) (idle_at t i) _ _
      (λ h.
      pick_all (Answered if_accepted t i) (held_at t) _ _ (λ e. refuses_store (refusal 7))
      (λ e.
      pick_all (Answered if_accepted t i) (eqb x.0 0) _ _ (λ f. refuses_store (refusal 4))
      (λ f. store_slot_lem x slot v (object_of ws t.limits.s x) h)))
      (λ h. refuses_store (refusal 6))

  pub store_entries : (o slot w : ℕ) → Answered if_accepted t i (begin_store_of t ws i o slot w)
  unfolding begin_store_of
  store_entries o slot w =
      through_all (Answered if_accepted t i) (call_gate t ws i) t _ refuses_store
      (pick_all (Answered if_accepted t i) (ltb 7 o) _ _ (λ e. refuses_store (refusal 3)) (λ e. store_from_lem (register (task_at t i) o) slot (Plain w)))

  pub store_pointer_entries : (o slot r : ℕ) → Answered if_accepted t i (begin_store_pointer_of t ws i o slot r)
  unfolding begin_store_pointer_of
  store_pointer_entries o slot r =
      through_all (Answered if_accepted t i) (pair_gate t ws i o r) t _ refuses_store
      (store_from_lem (register (task_at t i) o) slot (Pointer (register (task_at t i) r)))
