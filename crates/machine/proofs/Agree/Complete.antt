-- The calls that complete at once, computed: what registers and roots hold, and what each call answers, by the objects.
use Rattle.std.specs.Prelude.{ℕ, ◌+◌, ◌-◌, ◌≤◌, ◌<◌, ◌≡◌, List, map, Bool, get_or, leb, eqb, Ok, Err}
use Rattle.std.proofs.Math.Path.{refl}
use Rattle.std.proofs.Common.{ap, sym, ◌∙◌, arith, ltb-true, ltb-false, leb-false}
use Rattle.std.proofs.Math.Bool.{true, false}
use Rattle.std.proofs.Math.ListN.{get_or-map}
use Rattle.std.proofs.Math.Dec.{ltb}
use Rattle.std.proofs.lemmas.Bool.{eqb-false}
use Rattle.table.specs.declared.Primary.{Primary}
use Rattle.table.specs.declared.Holding.{Holding}
use Rattle.table.specs.declared.Holding.TheVariants.{Rests, Asks, Free, Job, Claim, Both}
use Rattle.table.specs.declared.Place.{Place}
use Rattle.table.specs.declared.Table.{Table}
use Rattle.table.specs.declared.Answer.TheVariants.{Done, Value, Report}
use Rattle.table.specs.declared.Outcome.{Outcome}
use Rattle.machine.specs.Basics.{pick}
use Rattle.machine.specs.Numbers.{refusal}
use Rattle.machine.specs.Words.{primary, object_of, bottom_of}
use Rattle.machine.specs.Entries.{task_at, nil, register, with_register, with_root, out, no}
use Rattle.machine.specs.Gate.{through, behind}
use Rattle.machine.specs.Tasks.{holding_of, idle_of}
use Rattle.machine.specs.Setup.{report_of}
use Rattle.machine.specs.Complete.{idle_at, with_two, move_of, clear_of, put_root_of, get_root_of, same_of, load_slot, load_from, load_of}
use Rattle.machine.proofs.Objects.State.{State, root}
use Rattle.machine.proofs.Objects.Inv.{Sound, Inv}
use Rattle.machine.proofs.Agree.Encode.{at_primary, at_place}
use Rattle.machine.proofs.Agree.Agree.{Held, Agree}
use Rattle.machine.proofs.Agree.Names.{held_of, pa_eqb, pa_zero}
use Rattle.machine.proofs.Agree.Holdings.{at_holding, holding_at}
use Rattle.machine.proofs.Agree.Read.{object_of_lem, plain_word, pointer_word}
use Rattle.machine.proofs.Agree.Gates.{table_gate_lem, pair_gate_lem}

-- ---- what the table holds
-- a list of objects' numbers as their addresses; beyond its end there is nil
roots_at : (pa : ℕ → ℕ) (ps : List Primary) (r : ℕ) → pa 0 ≡ 0 → get_or (map (at_primary pa) ps) r nil ≡ primary (pa (root ps r))
roots_at pa ps r e = ap (λ d. get_or (map (at_primary pa) ps) r (primary d)) (sym e) ∙ get_or-map (at_primary pa) ps r nil

-- addresses in place of numbers leave a task idle, or not
place_idle : (pa ra : ℕ → ℕ) (pl : Place) → idle_of (holding_of (at_place pa ra pl)) ≡ idle_of (holding_of pl)
place_idle pa ra pl = ap idle_of (holding_at pa ra pl) ∙ rests (holding_of pl)
  where
    rests : (h : Holding) → idle_of (at_holding pa h) ≡ idle_of h
    rests Rests = refl
    rests Asks = refl
    rests Free = refl
    rests (Job job) = refl
    rests (Claim p) = refl
    rests (Both p job) = refl

-- what a call that names two registers or roots answers: no such task (2), no such register (3), not idle (6), or the rest
abbrev pub if_two : Table → ℕ → ℕ → ℕ → Bool → Outcome → Outcome
if_two t task a b idle rest =
    pick (ltb task t.limits.p)
    (pick (ltb 7 a) (no t 3)
    (pick (ltb 7 b) (no t 3)
    (pick idle rest (no t 6))))
    (no t 2)

-- the task has no instruction under way
abbrev pub is_idle : State → ℕ → Bool
is_idle o i = idle_of (holding_of (o.tasks i).place)

-- what Load answers, by the object x and its slot
abbrev pub load_is : Table → (ℕ → ℕ) → State → ℕ → ℕ → ℕ → ℕ → Outcome
load_is t pa o task to x slot =
    pick (eqb x 0) (no t 4)
    (pick (leb (o.shape.len x) slot) (no t 5)
    (pick (ltb slot (o.shape.ptr x)) (out (with_register t task to (primary (pa (o.prim x slot)))) Done)
    (out t (Value (o.prim x slot)))))

module _ {K : ℕ → Type 0} {pa ra : ℕ → ℕ} {o : State} {t : Table} {ws : List ℕ} (k : Agree K pa ra o t ws) where
  pub register_of_lem : (i r : ℕ) → i < 8 → register (task_at t i) r ≡ primary (pa (root (o.tasks i).regs r))
  register_of_lem i r l = rw (k.tasks i l) (roots_at pa (o.tasks i).regs r k.lay.nilp)

  pub idle_of_lem : (i : ℕ) → i < 8 → idle_at t i ≡ idle_of (holding_of (o.tasks i).place)
  idle_of_lem i l = rw (k.tasks i l) (place_idle pa ra (o.tasks i).place)

  pub root_of : (r : ℕ) → get_or t.roots r nil ≡ primary (pa (root o.roots r))
  root_of r = rw k.roots (roots_at pa o.roots r k.lay.nilp)

  -- a task of the heap is one of the eight entries
  pub task_in : (i : ℕ) → i < t.limits.p → i < 8
  task_in i l = omega (arith, k.sized.limited.p_high)

  pub with_two_lem : 1 ≤ t.limits.s → (task a b : ℕ) (q r : Outcome) → (task < t.limits.p → q ≡ r)
      → with_two t ws task a b q ≡ if_two t task a b (is_idle o task) r
  with_two_lem s task a b q r f = rw (pair_gate_lem k s task a b) (on (ltb task t.limits.p) refl)
    where
      registers : (c d : Bool) → task < t.limits.p
          → through (pick c (Err (refusal 3)) (pick d (Err (refusal 3)) (Ok tt))) t (pick (idle_at t task) q (no t 6))
          ≡ pick c (no t 3) (pick d (no t 3) (pick (is_idle o task) r (no t 6)))
      registers true d l = refl
      registers false true l = refl
      registers false false l = rw (idle_of_lem task (task_in task l), f l) refl

      on : (b' : Bool) → ltb task t.limits.p ≡ b'
          → through (behind (pick b' (Ok tt) (Err (refusal 2))) (pick (ltb 7 a) (Err (refusal 3)) (pick (ltb 7 b) (Err (refusal 3)) (Ok tt)))) t
          (pick (idle_at t task) q (no t 6))
          ≡ pick b' (pick (ltb 7 a) (no t 3) (pick (ltb 7 b) (no t 3) (pick (is_idle o task) r (no t 6)))) (no t 2)
      on true e = registers (ltb 7 a) (ltb 7 b) (ltb-true task t.limits.p e)
      on false e = refl

  -- ---- Move, Clear, to and from a shared root
  pub move_of_lem : 1 ≤ t.limits.s → (task to from : ℕ) → move_of t ws task to from
      ≡ if_two t task to from (is_idle o task) (out (with_register t task to (primary (pa (root (o.tasks task).regs from)))) Done)
  unfolding move_of
  move_of_lem s task to from = with_two_lem s task to from _ _ (λ l. rw (register_of_lem task from (task_in task l)) refl)

  pub clear_of_lem : 1 ≤ t.limits.s → (task r : ℕ) → clear_of t ws task r ≡ if_two t task r r (is_idle o task) (out (with_register t task r nil) Done)
  unfolding clear_of
  clear_of_lem s task r = with_two_lem s task r r _ _ (λ l. refl)

  pub put_root_of_lem : 1 ≤ t.limits.s → (task to r : ℕ) → put_root_of t ws task to r
      ≡ if_two t task to r (is_idle o task) (out (with_root t to (primary (pa (root (o.tasks task).regs r)))) Done)
  unfolding put_root_of
  put_root_of_lem s task to r = with_two_lem s task to r _ _ (λ l. rw (register_of_lem task r (task_in task l)) refl)

  pub get_root_of_lem : 1 ≤ t.limits.s → (task r from : ℕ) → get_root_of t ws task r from
      ≡ if_two t task r from (is_idle o task) (out (with_register t task r (primary (pa (root o.roots from)))) Done)
  unfolding get_root_of
  get_root_of_lem s task r from = with_two_lem s task r from _ _ (λ l. rw (root_of from) refl)

  pub report_of_lem : 1 ≤ t.limits.s → report_of t ws ≡ out t (Report t.on (t.marks.a - bottom_of t.upper t.limits.h) t.marks.copies)
  unfolding report_of
  report_of_lem s = rw (table_gate_lem k s) refl

-- ---- Same and Load
module _ {K : ℕ → Type 0} {p : ℕ} {pa ra : ℕ → ℕ} {o : State} {t : Table} {ws : List ℕ} (v : Inv K p t.limits.s o) (k : Agree K pa ra o t ws) where
  pub same_of_lem : 1 ≤ t.limits.s → (task a b : ℕ) → same_of t ws task a b
      ≡ if_two t task a b (is_idle o task) (pick (eqb (root (o.tasks task).regs a) (root (o.tasks task).regs b)) (out t (Value 1)) (out t (Value 0)))
  unfolding same_of
  same_of_lem s task a b = with_two_lem k s task a b _ _ alike
    where
      alike : task < t.limits.p
          → pick (eqb (register (task_at t task) a).0 (register (task_at t task) b).0) (out t (Value 1)) (out t (Value 0))
          ≡ pick (eqb (root (o.tasks task).regs a) (root (o.tasks task).regs b)) (out t (Value 1)) (out t (Value 0))
      alike l =
          let x = (v.entries task).regs a in
          let y = (v.entries task).regs b in
          rw (
            register_of_lem k task a (task_in k task l),
            register_of_lem k task b (task_in k task l),
            pa_eqb k.lay (root (o.tasks task).regs a) (root (o.tasks task).regs b) x.0 x.1 y.0 y.1,
          ) refl

  -- a Load of an object all of whose slots are filled
  pub load_from_lem : (task to x slot : ℕ) → Sound K o.shape x → load_from t ws task to (primary (pa x)) slot ≡ load_is t pa o task to x slot
  unfolding load_from
  load_from_lem task to x slot h = rw (pa_zero k.lay x h.0 h.1) (on (eqb x 0) refl)
    where
      pointers : (b : Bool) → ltb slot (o.shape.ptr x) ≡ b → Held K o.shape x → slot < o.shape.wrote x
          → pick b (out (with_register t task to (primary (get_or ws (pa x + slot) 0))) Done) (out t (Value (get_or ws (pa x + slot) 0)))
          ≡ pick b (out (with_register t task to (primary (pa (o.prim x slot)))) Done) (out t (Value (o.prim x slot)))
      pointers true e w l = rw (pointer_word k x slot w l (ltb-true slot (o.shape.ptr x) e)) refl
      pointers false e w l = rw (plain_word k x slot w l (ltb-false slot (o.shape.ptr x) e)) refl

      slots : (b : Bool) → leb (o.shape.len x) slot ≡ b → Held K o.shape x
          → pick b (no t 5)
          (pick (ltb slot (o.shape.ptr x)) (out (with_register t task to (primary (get_or ws (pa x + slot) 0))) Done) (out t (Value (get_or ws (pa x + slot) 0))))
          ≡ pick b (no t 5)
          (pick (ltb slot (o.shape.ptr x)) (out (with_register t task to (primary (pa (o.prim x slot)))) Done) (out t (Value (o.prim x slot))))
      slots true e w = refl
      slots false e w =
          pointers (ltb slot (o.shape.ptr x)) refl w (omega (arith, leb-false (o.shape.len x) slot e, h.2, v.shapes.filled x))

      on : (b : Bool) → eqb x 0 ≡ b
          → pick b (no t 4) (load_slot t ws task to (primary (pa x)) slot (object_of ws t.limits.s (primary (pa x))))
          ≡ pick b (no t 4)
          (pick (leb (o.shape.len x) slot) (no t 5)
          (pick (ltb slot (o.shape.ptr x)) (out (with_register t task to (primary (pa (o.prim x slot)))) Done) (out t (Value (o.prim x slot)))))
      on true e = refl
      on false e =
          let w : Held K o.shape x = held_of K o.shape x (eqb-false x 0 e) h.0 h.1 in
          rw (object_of_lem v k x w) (slots (leb (o.shape.len x) slot) refl w)

  pub load_of_lem : 1 ≤ t.limits.s → (task to from slot : ℕ) → load_of t ws task to from slot
      ≡ if_two t task to from (is_idle o task) (load_is t pa o task to (root (o.tasks task).regs from) slot)
  unfolding load_of
  load_of_lem s task to from slot =
      with_two_lem k s task to from _ _
      (λ l. rw (register_of_lem k task from (task_in k task l)) (load_from_lem task to (root (o.tasks task).regs from) slot ((v.entries task).regs from)))
