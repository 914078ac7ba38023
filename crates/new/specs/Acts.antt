-- What a step comes to before the table is touched, what that makes of the table, and New's own steps as such.
use Rattle.std.specs.Prelude.{ℕ, ◌+◌, ◌*◌, List, false}
use Rattle.table.specs.declared.Place.TheVariants.{Asked, Take}
use Rattle.table.specs.declared.Table.{Table}
use Rattle.table.specs.declared.Wanted.{Wanted}
use Rattle.table.specs.declared.Sought.TheVariants.{Blocker}
use Rattle.table.specs.declared.Deed.TheVariants.{GoesWith, EndsWith, Fails}
use Rattle.table.specs.declared.Answer.TheVariants.{No}
use Rattle.machine.specs.Basics.{pick}
use Rattle.machine.specs.Numbers.{refusal}
use Rattle.machine.specs.Words.{descriptor, end_of, room_for, laid, wanted}
use Rattle.machine.specs.Entries.{task_at, Ends}
use Rattle.machine.specs.Tasks.{seek_of}
use Rattle.machine.specs.Begin.{new_ok}
use Rattle.machine.specs.Deeds.{Acted}
use Rattle.machine.specs.Switch.{finish_of}
use Rattle.machine.specs.New.{claimed, made, ask_or, claimed_twice, room_for_two}
use Rattle.machine.specs.Step.{settle_of, empty_take_of}
use Rattle.new.specs.declared.Act.{Act}
use Rattle.new.specs.declared.Act.TheVariants.{Does, Asks, Denied, Drained}

-- an act, and every word
pub record Came : Type 0 where
  pub act : Act
  pub words : List ℕ

abbrev pub came : Act → List ℕ → Came
came a ws = record { act = a; words = ws }

abbrev pub does : Acted → Came
does x = came (Does x.deed) x.words

abbrev pub failing : ℕ → List ℕ → Came
failing n ws = came (Does (Fails (refusal n))) ws

-- what an act of task i makes of the table
abbrev pub settle_case : Table → List ℕ → ℕ → Act → Ends
settle_case t ws i (Does d) = settle_of t i d ws
settle_case t ws i (Asks want) = ask_or t ws i (Asked want) (seek_of t.tasks t.limits.p (Blocker i))
settle_case t ws i Denied = finish_of t ws i t.marks (task_at t i).pending (No (refusal 9))
settle_case t ws i Drained = empty_take_of t ws i

unfoldable pub settle_act : Table → ℕ → Act → List ℕ → Ends
settle_act t i a ws = settle_case t ws i a

unfoldable pub settled : Table → ℕ → Came → Ends
settled t i x = settle_act t i x.act x.words

-- New, collector off: it claims, or it asks for a flip
unfoldable pub new_off_act : Table → List ℕ → Wanted → Came
new_off_act t ws want =
    pick (new_ok t.limits.s want.register want.len want.m)
    (pick (room_for false t.marks (end_of t.upper t.limits.h) (want.len + 2))
    (came
    (Does (EndsWith (claimed t.marks (want.len + 2)) (made t.marks want.register want.len)))
    (laid ws t.marks.a (descriptor want.len want.m) 0))
    (came (Asks want) ws))
    (failing 11 ws)

-- New, collecting: it claims twice, or it is denied
unfoldable pub new_on_act : Table → List ℕ → Wanted → Came
new_on_act t ws want =
    pick (new_ok t.limits.s want.register want.len want.m)
    (pick (room_for_two t.marks (end_of t.upper t.limits.h) want.len)
    (came
    (Does
    (GoesWith
    (claimed t.marks (2 * (want.len + 2)))
    (made t.marks want.register want.len)
    (Take (2 * t.limits.k))))
    (claimed_twice ws t.marks.a want.len (descriptor want.len want.m)))
    (came Denied ws))
    (failing 11 ws)
