-- An act that leaves something makes of the table just that: the marks, its task's entry, the answer.
use Rattle.std.specs.Prelude.{ℕ, ◌≡◌, List, Bool, true, false, ltb, Option, Some, None}
use Rattle.std.proofs.Common.{refl, ap}
use Rattle.std.proofs.lemmas.Bool.{true≢false}
use Rattle.std.proofs.lemmas.Option.{none-some, same_Some}
use Rattle.table.specs.declared.Marks.{Marks}
use Rattle.table.specs.declared.Making.{Making}
use Rattle.table.specs.declared.Table.{Table}
use Rattle.table.specs.declared.Deed.{Deed}
use Rattle.table.specs.declared.Deed.TheVariants.{Goes, GoesWith, Ends, EndsWith, Waits, Fails}
use Rattle.table.specs.declared.Answer.{Answer}
use Rattle.table.specs.declared.Answer.TheVariants.{Done}
use Rattle.machine.specs.Basics.{pick}
use Rattle.machine.specs.Words.{end_of}
use Rattle.machine.specs.Entries.{task_at, moved_table, out, ends, entered}
use Rattle.machine.specs.Entries.{Ends as Ended}
use Rattle.machine.specs.Tasks.{grey_of}
use Rattle.machine.specs.Switch.{switch_due, ended_entry, finish_of}
use Rattle.machine.specs.Step.{settle_of}
use Rattle.new.specs.declared.Act.{Act}
use Rattle.new.specs.declared.Act.TheVariants.{Does}
use Rattle.new.specs.Acts.{settle_act}
use Rattle.after.specs.declared.After.{After}
use Rattle.after.specs.Left.{quiet_of, ending_of, after, after_deed, after_of}

-- what is not quiet brings no switch-over, whatever the tasks hold
unquiet : (on a b c d : Bool) → pick on (pick a false (pick b false true)) false ≡ false → pick on (pick (pick a true (pick b true c)) false d) false ≡ false
unquiet false a b c d h = refl
unquiet true true b c d h = refl
unquiet true false true c d h = refl
unquiet true false false c d h = absurd (true≢false h)

-- so an instruction that then ends only ends
ends_plainly : (t : Table) (ws : List ℕ) (i : ℕ) (m : Marks) (pending : Option Making) (x : Answer) → quiet_of t.on m (end_of t.upper t.limits.h) ≡ false → finish_of t ws i m pending x ≡ ends (out (entered t m i (ended_entry (task_at t i).regs pending)) x) ws
unfolding quiet_of finish_of switch_due grey_of
ends_plainly t ws i m pending x h =
    rw (unquiet t.on (ltb m.top (end_of t.upper t.limits.h)) (ltb 0 m.j) _ _ h)

-- the table after an act that leaves something
abbrev pub leaves : Table → List ℕ → ℕ → After → Ended
leaves t ws i n = ends (out (entered t n.marks i n.entry) n.answer) ws

abbrev pub act_after : Table → ℕ → Act → Option After
act_after t i a = after_of t.on (end_of t.upper t.limits.h) (task_at t i) a

module _ (t : Table) (ws : List ℕ) (i : ℕ) (n : After) where
  ending : (m : Marks) (pending : Option Making) → ending_of t.on m (end_of t.upper t.limits.h) (ended_entry (task_at t i).regs pending) ≡ Some n
      → finish_of t ws i m pending Done ≡ leaves t ws i n
  ending m pending h = by (quiet_of t.on m (end_of t.upper t.limits.h)) refl h
    where
      by : (b : Bool) → quiet_of t.on m (end_of t.upper t.limits.h) ≡ b → pick {A = Option After} b None (Some (after m (ended_entry (task_at t i).regs pending) Done)) ≡ Some n → finish_of t ws i m pending Done ≡ leaves t ws i n
      by true q h = absurd (none-some n h)
      by false q h = rw (← same_Some (after m (ended_entry (task_at t i).regs pending) Done) n h) (ends_plainly t ws i m pending Done q)

  plain_deed : (d : Deed) → after_deed t.on (end_of t.upper t.limits.h) (task_at t i) d ≡ Some n → settle_of t i d ws ≡ leaves t ws i n
  unfolding after_deed settle_of moved_table
  plain_deed (Goes m place) h = ap (leaves t ws i) (same_Some _ n h)
  plain_deed (GoesWith m pending place) h = ap (leaves t ws i) (same_Some _ n h)
  plain_deed (Ends m) h = ending m _ h
  plain_deed (EndsWith m pending) h = ending m pending h
  plain_deed (Waits w) h = absurd (none-some n h)
  plain_deed (Fails x) h = absurd (none-some n h)

  pub plain_act : (a : Act) → act_after t i a ≡ Some n → settle_act t i a ws ≡ leaves t ws i n
  unfolding after_of settle_act
  plain_act (Does d) h = plain_deed d h
  plain_act _ h = absurd (none-some n h)
