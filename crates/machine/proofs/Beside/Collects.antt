-- A collection goes on: a step's counts, and what lived at the flip as before.
use Rattle.std.specs.Prelude.{ℕ, ◌≡◌, refl, ◌≢◌}
use Rattle.table.specs.declared.Operand.{Operand}
use Rattle.table.specs.declared.Replica.{Replica}
use Rattle.table.specs.declared.Primary.{Primary}
use Rattle.table.specs.declared.Then.{Then}
use Rattle.table.specs.declared.Then.TheVariants.{ToWrite, ToStoreCopy, ToFillCopy, ToPut}
use Rattle.table.specs.declared.Place.{Place}
use Rattle.table.specs.declared.Place.TheVariants.{Idle, Looking}
use Rattle.table.specs.declared.Table.{Table}
use Rattle.machine.specs.Words.{replica}
use Rattle.machine.specs.Look.{go_on, look_ahead}
use Rattle.machine.specs.Tasks.{holding_of}
use Rattle.machine.specs.History.{History, with_copies}
use Rattle.machine.proofs.Objects.State.{State, ClaimIn}
use Rattle.machine.proofs.Objects.Counts.{Counts, then_left, left_to_pay}
use Rattle.machine.proofs.Agree.Agree.{bottom}
use Rattle.machine.proofs.Beside.Stands.{Stands, by_ahead}
use Rattle.machine.proofs.Beside.Collecting.{Collecting}
use Rattle.machine.proofs.Beside.Lives.{lived_same}

-- the same objects copied, the same shapes
pub collects : {K : ℕ → Type 0} {pa : ℕ → ℕ} {o : State} {t : Table} {h : History} → (c : Collecting K pa o t h) → (o' : State) (t' : Table) → o'.shape ≡ o.shape → o'.snap ≡ o.snap
    → (forgiven : ℕ → ℕ)
    → Counts t'.limits.k t'.limits.p t'.limits.s o'.shape o'.snap o'.hd o'.stack o'.tasks (bottom t') t'.marks.a t'.marks.j t'.marks.copies
    c.made forgiven
    → Collecting K pa o' t' (with_copies h h.copies)
collects {h = h} c o' t' es eg forgiven counts = record {
  made = c.made;
  forgiven = forgiven;
  counts = counts;
  same = c.same;
  lived = rw (es, eg) (lived_same c.lived h.copies);
}

-- a busy place is not the idle one
pub not_idle : (pl : Place) → Stands pl → pl ≢ Idle
not_idle pl s e = rw e at s

-- what follows a look claims nothing
pub on_free : (q : ℕ) (th : Then) (x : ℕ) → ClaimIn (holding_of (go_on th (replica q))) x → ⊥
unfolding holding_of
on_free q (ToWrite v) x h = h
on_free q _ x h = h

-- and so does what follows a value that is known
pub ahead_left : (v : Operand Primary) (th : Then) (copy : Operand Replica → Place) → ((c : Operand Replica) → left_to_pay (copy c) ≡ then_left th) → left_to_pay (look_ahead v th copy) ≡ then_left th
ahead_left v th copy f = by_ahead (λ pl. left_to_pay pl ≡ then_left th) v th copy f (λ p. refl)

pub ahead_free : (v : Operand Primary) (th : Then) (copy : Operand Replica → Place) → ((c : Operand Replica) (x : ℕ) → ClaimIn (holding_of (copy c)) x → ⊥) → (x : ℕ)
    → ClaimIn (holding_of (look_ahead v th copy)) x → ⊥
unfolding holding_of
ahead_free v th copy f x = by_ahead (λ pl. ClaimIn (holding_of pl) x → ⊥) v th copy (λ c. f c x) (λ p. free p th)
  where
    free : (p : Primary) (th : Then) → ClaimIn (holding_of (Looking p th)) x → ⊥
    free p (ToWrite v) = λ h. h
    free p ToStoreCopy = λ h. h
    free p ToFillCopy = λ h. h
    free p (ToPut n job) = λ h. h
