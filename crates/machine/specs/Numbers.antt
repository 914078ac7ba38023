-- 01's numbers and values for each case of the answers.
use Rattle.std.specs.Prelude.{ℕ, List, [], ◌∷◌, eqb}
use Rattle.table.specs.declared.Refusal.{Refusal}
use Rattle.table.specs.declared.Refusal.TheVariants.{WrongLimit, NoTask, NoRegister, NilObject, NoSlot, OutOfTurn, Held, SlotInStore, NoRoom, Exhausted, Damaged}
use Rattle.table.specs.declared.Answer.{Answer}
use Rattle.table.specs.declared.Answer.TheVariants.{Accepted, Done, Value, Moved, Wait, Report, No}
use Rattle.machine.specs.Basics.{pick}

-- "Numbers that say no"
abbrev pub number_of : Refusal → ℕ
number_of WrongLimit = 1
number_of NoTask = 2
number_of NoRegister = 3
number_of NilObject = 4
number_of NoSlot = 5
number_of OutOfTurn = 6
number_of Held = 7
number_of SlotInStore = 8
number_of NoRoom = 9
number_of Exhausted = 10
number_of Damaged = 11

-- the refusal with a number from 1 to 11
abbrev pub refusal : ℕ → Refusal
refusal n =
    pick (eqb n 1) WrongLimit
    (pick (eqb n 2) NoTask
    (pick (eqb n 3) NoRegister
    (pick (eqb n 4) NilObject
    (pick (eqb n 5) NoSlot
    (pick (eqb n 6) OutOfTurn
    (pick (eqb n 7) Held
    (pick (eqb n 8) SlotInStore
    (pick (eqb n 9) NoRoom
    (pick (eqb n 10) Exhausted Damaged)))))))))

-- what a refusal does beside saying no: 9 ends the New, 10 and 11 mark the table dead
pub data Effect : Type 0 where
  harmless ends_new spends breaks : Effect

abbrev pub effect_of : Refusal → Effect
effect_of WrongLimit = harmless
effect_of NoTask = harmless
effect_of NoRegister = harmless
effect_of NilObject = harmless
effect_of NoSlot = harmless
effect_of OutOfTurn = harmless
effect_of Held = harmless
effect_of SlotInStore = harmless
effect_of NoRoom = ends_new
effect_of Exhausted = spends
effect_of Damaged = breaks

-- the script program's word for an answer
pub data Word : Type 0 where
  ok done value moved wait report none : Word

abbrev pub word_of : Answer → Word
word_of Accepted = ok
word_of Done = done
word_of (Value v) = value
word_of Moved = moved
word_of (Wait q) = wait
word_of (Report on live copies) = report
word_of (No x) = none

-- the numbers behind that word; a report's mode is 1 for on and 0 for off
abbrev pub values_of : Answer → List ℕ
values_of Accepted = []
values_of Done = []
values_of (Value v) = v ∷ []
values_of Moved = []
values_of (Wait q) = q ∷ []
values_of (Report on live copies) = pick on 1 0 ∷ live ∷ copies ∷ []
values_of (No x) = number_of x ∷ []
