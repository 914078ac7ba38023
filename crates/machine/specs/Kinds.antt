-- Which kind of action a call made, by its answer and its task's place before and after it.
use Rattle.std.specs.Prelude.{List, [], ◌∷◌, Bool, true, false}
use Rattle.table.specs.declared.Place.{Place}
use Rattle.table.specs.declared.Place.TheVariants.{Idle, New, Asked, FillWrite, FillCopy, StoreWrite, Meet, StoreCopy, Take, Read, Put, Release, Looking, Placing}
use Rattle.table.specs.declared.Answer.{Answer}
use Rattle.table.specs.declared.Answer.TheVariants.{Accepted, Done, Value, Moved, Wait, Report, No}
use Rattle.machine.specs.Numbers.{Effect, harmless, ends_new, spends, breaks, effect_of}
use Rattle.machine.specs.Basics.{pick}
use Rattle.machine.specs.Entries.{Ends, task_at}
use Rattle.machine.specs.Call.{Call}
use Rattle.machine.specs.Calls.{then}
use Rattle.machine.specs.StillStore.{Store, Kind, Made, Filled, Written, Ended, task_of, told}

-- a step that is done
abbrev pub done_kinds : Place → List Kind
done_kinds Idle = []
done_kinds (New want) = Made ∷ Ended ∷ []
done_kinds (Asked want) = Made ∷ Ended ∷ []
done_kinds (FillWrite v) = Filled ∷ Ended ∷ []
done_kinds (FillCopy c) = Ended ∷ []
done_kinds (StoreWrite v) = Written ∷ Ended ∷ []
done_kinds (Meet v) = Ended ∷ []
done_kinds (StoreCopy c) = Ended ∷ []
done_kinds (Take n) = Ended ∷ []
done_kinds (Read n job) = Ended ∷ []
done_kinds (Put n job c) = Ended ∷ []
done_kinds (Release n job) = Ended ∷ []
done_kinds (Looking p next) = Ended ∷ []
done_kinds (Placing p next) = Ended ∷ []

-- a New's step moved: the flip leaves it at New, the claim brings it to pay
abbrev pub pays : Place → Bool
pays Idle = false
pays (New want) = false
pays (Asked want) = false
pays (FillWrite v) = false
pays (FillCopy c) = false
pays (StoreWrite v) = false
pays (Meet v) = false
pays (StoreCopy c) = false
pays (Take n) = true
pays (Read n job) = false
pays (Put n job c) = false
pays (Release n job) = false
pays (Looking p next) = false
pays (Placing p next) = false

-- a step that moved
abbrev pub moved_kinds : Place → Place → List Kind
moved_kinds Idle after = []
moved_kinds (New want) after = pick (pays after) (Made ∷ []) []
moved_kinds (Asked want) after = []
moved_kinds (FillWrite v) after = []
moved_kinds (FillCopy c) after = Filled ∷ []
moved_kinds (StoreWrite v) after = Written ∷ []
moved_kinds (Meet v) after = []
moved_kinds (StoreCopy c) after = []
moved_kinds (Take n) after = []
moved_kinds (Read n job) after = []
moved_kinds (Put n job c) after = []
moved_kinds (Release n job) after = []
moved_kinds (Looking p next) after = []
moved_kinds (Placing p next) after = []

-- refusal 9 ends the New
abbrev pub refused_kinds : Effect → List Kind
refused_kinds harmless = []
refused_kinds ends_new = Ended ∷ []
refused_kinds spends = []
refused_kinds breaks = []

abbrev pub step_kinds : Answer → Place → Place → List Kind
step_kinds Accepted before after = []
step_kinds Done before after = done_kinds before
step_kinds (Value v) before after = []
step_kinds Moved before after = moved_kinds before after
step_kinds (Wait q) before after = []
step_kinds (Report on live copies) before after = []
step_kinds (No x) before after = refused_kinds (effect_of x)

abbrev pub made : Call → Answer → Place → Place → List Kind
made (Call.New task r len m) x before after = []
made (Call.Fill task w) x before after = []
made (Call.FillPointer task r) x before after = []
made (Call.Load task to from slot) x before after = []
made (Call.Store task o slot w) x before after = []
made (Call.StorePointer task o slot r) x before after = []
made (Call.Move task to from) x before after = []
made (Call.Clear task r) x before after = []
made (Call.Same task a b) x before after = []
made (Call.Put task root r) x before after = []
made (Call.Get task r root) x before after = []
made (Call.Step task) x before after = step_kinds x before after
made Call.Report x before after = []

-- the store after one call of the machine more
abbrev pub follows : Store → Call → Ends → Ends → Store
follows s c e f =
    told s c f.out.answer
    (made c f.out.answer (task_at e.out.table (task_of c)).place (task_at f.out.table (task_of c)).place)

-- the store beside a run
unfoldable pub beside : List Call → Ends → Store → Store
beside [] e s = s
beside (c ∷ cs) e s = beside cs (then c e) (follows s c e (then c e))
