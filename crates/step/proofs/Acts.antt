-- A task's step as the machine defines it is what its act makes of the table.
use Rattle.std.specs.Prelude.{Some}
use mathlib.Core.Path.{◌≡◌, refl, sym, ◌∙◌, ap}
use Prim.Native.Nat.{ℕ}
use mathlib.Core.List.{List}
use mathlib.Core.Bool.{Bool, true, false}
use Rattle.table.specs.declared.Table.{Table}
use Rattle.machine.specs.Basics.{pick}
use Rattle.machine.specs.Words.{end_of}
use Rattle.machine.specs.Entries.{pending_ok, task_at, no, ends}
use Rattle.machine.specs.Tasks.{idle_of, holding_of}
use Rattle.machine.specs.Step.{settle_of, task_step_of}
use Rattle.new.specs.declared.Act.{Act}
use Rattle.new.specs.Acts.{Came, came, failing, settle_act, settled}
use Rattle.after.specs.declared.After.{After}
use Rattle.after.proofs.Plain.{leaves, act_after, plain_act}
use Rattle.act_off.proofs.Settles.{off_settles}
use Rattle.act_on.proofs.Settles.{on_settles}
use Rattle.acts.specs.TaskActs.{task_act}

-- a refusal
pub refused_settles : (t : Table) (ws : List ℕ) (i n : ℕ) → ends (no t n) ws ≡ settled t i (failing n ws)
unfolding settled settle_act settle_of
refused_settles t ws i n = refl

-- equal in each of its four cases
pub four : {A : Type 0} (a b c : Bool) (p p₂ q q₂ r r₂ s s₂ : A) → p ≡ p₂ → q ≡ q₂ → r ≡ r₂ → s ≡ s₂ → pick a p (pick b (pick c q r) s) ≡ pick a p₂ (pick b (pick c q₂ r₂) s₂)
four true b c p p₂ q q₂ r r₂ s s₂ e f g h = e
four false true true p p₂ q q₂ r r₂ s s₂ e f g h = f
four false true false p p₂ q q₂ r r₂ s s₂ e f g h = g
four false false c p p₂ q q₂ r r₂ s s₂ e f g h = h

pub settled_four : (t : Table) (i : ℕ) (a b c : Bool) (p q r s : Came) → settled t i (pick a p (pick b (pick c q r) s)) ≡ pick a (settled t i p) (pick b (pick c (settled t i q) (settled t i r)) (settled t i s))
settled_four t i true b c p q r s = refl
settled_four t i false true true p q r s = refl
settled_four t i false true false p q r s = refl
settled_four t i false false c p q r s = refl

abbrev pub act_of : Table → List ℕ → ℕ → Came
act_of t ws i = task_act t ws (task_at t i)

pub task_settles : (t : Table) (ws : List ℕ) (i : ℕ) → task_step_of t ws i ≡ settled t i (act_of t ws i)
unfolding task_step_of task_act
task_settles t ws i =
    four (idle_of (holding_of (task_at t i).place)) (pending_ok (task_at t i).pending) t.on _ _ _ _ _ _ _ _
    (refused_settles t ws i 6)
    (on_settles t ws i (task_at t i) (task_at t i).place)
    (off_settles t ws i (task_at t i) (task_at t i).place)
    (refused_settles t ws i 11)
    ∙ sym (settled_four t i (idle_of (holding_of (task_at t i).place)) (pending_ok (task_at t i).pending) t.on _ _ _ _)

-- a step whose act is known, settled with the table whole
pub step_whole : (t : Table) (ws new : List ℕ) (i : ℕ) (a : Act) → came a new ≡ act_of t ws i → settle_act t i a new ≡ task_step_of t ws i
unfolding settled
step_whole t ws new i a e = ap (λ x. settled t i x) e ∙ sym (task_settles t ws i)

-- and one whose act leaves something, by that
pub step_plain : (t : Table) (ws new : List ℕ) (i : ℕ) (a : Act) (n : After) → came a new ≡ act_of t ws i → Some n ≡ act_after t i a → leaves t new i n ≡ task_step_of t ws i
step_plain t ws new i a n e f = sym (plain_act t new i n a (sym f)) ∙ step_whole t ws new i a e
