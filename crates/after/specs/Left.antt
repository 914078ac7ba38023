-- What an act leaves of its task's entry and of the marks, where that is all.
use Rattle.std.specs.Prelude.{ℕ, Bool, true, false, ltb, Option, Some, None}
use Rattle.table.specs.declared.Marks.{Marks}
use Rattle.table.specs.declared.Task.{Task}
use Rattle.table.specs.declared.Answer.{Answer}
use Rattle.table.specs.declared.Answer.TheVariants.{Done, Moved}
use Rattle.table.specs.declared.Deed.{Deed}
use Rattle.table.specs.declared.Deed.TheVariants.{Goes, GoesWith, Ends, EndsWith, Waits, Fails}
use Rattle.machine.specs.Basics.{pick}
use Rattle.machine.specs.Entries.{entry}
use Rattle.machine.specs.Switch.{ended_entry}
use Rattle.new.specs.declared.Act.{Act}
use Rattle.new.specs.declared.Act.TheVariants.{Does, Asks, Denied, Drained}
use Rattle.after.specs.declared.After.{After}

abbrev pub after : Marks → Task → Answer → After
after m e x = record { marks = m; entry = e; answer = x }

-- collecting, nothing on the stack and no job in hand
unfoldable pub quiet_of : Bool → Marks → ℕ → Bool
quiet_of on m end = pick on (pick (ltb m.top end) false (pick (ltb 0 m.j) false true)) false

-- an instruction that ends: where all is quiet, the table is needed whole
abbrev pub ending_of : Bool → Marks → ℕ → Task → Option After
ending_of on m end e = pick (quiet_of on m end) None (Some (after m e Done))

unfoldable pub after_deed : Bool → ℕ → Task → Deed → Option After
after_deed on end e (Goes n place) = Some (after n (entry e.regs e.pending e.storing place) Moved)
after_deed on end e (GoesWith n pending place) = Some (after n (entry e.regs pending e.storing place) Moved)
after_deed on end e (Ends n) = ending_of on n end (ended_entry e.regs e.pending)
after_deed on end e (EndsWith n pending) = ending_of on n end (ended_entry e.regs pending)
after_deed on end e (Waits w) = None
after_deed on end e (Fails x) = None

unfoldable pub after_of : Bool → ℕ → Task → Act → Option After
after_of on end e (Does d) = after_deed on end e d
after_of on end e (Asks want) = None
after_of on end e Denied = None
after_of on end e Drained = None
