-- Places at which a task is busy.
use Rattle.std.specs.Prelude.{ℕ, ◌≡◌, refl, Bool, true, false, eqb}
use Rattle.table.specs.declared.Operand.{Operand}
use Rattle.table.specs.declared.Replica.{Replica}
use Rattle.table.specs.declared.Operand.TheVariants.{Plain, Pointer}
use Rattle.table.specs.declared.Primary.{Primary}
use Rattle.table.specs.declared.Then.{Then}
use Rattle.table.specs.declared.Then.TheVariants.{ToWrite}
use Rattle.table.specs.declared.Place.{Place}
use Rattle.table.specs.declared.Place.TheVariants.{Idle, New, Asked, FillWrite, FillCopy, StoreWrite, Meet, StoreCopy, Take, Read, Put, Release, Looking, Placing}
use Rattle.machine.specs.Basics.{pick}
use Rattle.machine.specs.Words.{replica}
use Rattle.machine.specs.Look.{go_on, look_ahead}
use Rattle.machine.specs.Tasks.{holding_of, idle_of}
use Rattle.machine.proofs.Agree.Encode.{at_place}

-- a task that stands at such a place is doing something
abbrev pub Stands : Place → Type 0
Stands Idle = ⊥
Stands (New want) = Unit {0}
Stands (Asked want) = Unit {0}
Stands (FillWrite v) = Unit {0}
Stands (FillCopy c) = Unit {0}
Stands (StoreWrite v) = Unit {0}
Stands (Meet v) = Unit {0}
Stands (StoreCopy c) = Unit {0}
Stands (Take n) = Unit {0}
Stands (Read n job) = Unit {0}
Stands (Put n job c) = Unit {0}
Stands (Release n job) = Unit {0}
Stands (Looking q th) = Unit {0}
Stands (Placing q th) = Unit {0}

-- a place that is not idle is none in the table either
look_busy : (pa ra : ℕ → ℕ) (q : Primary) (th : Then) → idle_of (holding_of (at_place pa ra (Looking q th))) ≡ false
unfolding holding_of
look_busy pa ra q (ToWrite v) = refl
look_busy pa ra q _ = refl

place_busy : (pa ra : ℕ → ℕ) (q : Primary) (th : Then) → idle_of (holding_of (at_place pa ra (Placing q th))) ≡ false
unfolding holding_of
place_busy pa ra q (ToWrite v) = refl
place_busy pa ra q _ = refl

pub busy_there : (pa ra : ℕ → ℕ) (pl : Place) → Stands pl → idle_of (holding_of (at_place pa ra pl)) ≡ false
unfolding holding_of
busy_there pa ra Idle s = absurd s
busy_there pa ra (Looking q th) s = look_busy pa ra q th
busy_there pa ra (Placing q th) s = place_busy pa ra q th
busy_there pa ra _ s = refl

-- what follows a look, and a value that is known
pub stands_on : (th : Then) (x : ℕ) → Stands (go_on th (replica x))
stands_on (ToWrite v) x = tt
stands_on _ x = tt

-- a value is looked at or known: what holds of both places holds of the one that comes
pub by_ahead : (X : Place → Type 0) (v : Operand Primary) (th : Then) (copy : Operand Replica → Place) → ((c : Operand Replica) → X (copy c)) → ((p : Primary) → X (Looking p th)) → X (look_ahead v th copy)
by_ahead X (Plain w) th copy f g = f (Plain w)
by_ahead X (Pointer p) th copy f g = on (eqb p.0 0)
  where
    on : (b : Bool) → X (pick b (copy (Pointer (replica 0))) (Looking p th))
    on true = f (Pointer (replica 0))
    on false = g p

pub stands_ahead : (v : Operand Primary) (th : Then) (copy : Operand Replica → Place) → ((c : Operand Replica) → Stands (copy c)) → Stands (look_ahead v th copy)
stands_ahead v th copy f = by_ahead Stands v th copy f (λ p. tt)
