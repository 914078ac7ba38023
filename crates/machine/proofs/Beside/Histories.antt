-- The history behind a step that is no flip.
use Rattle.std.specs.Prelude.{ℕ, ◌<◌, ◌≤◌, ◌≡◌, refl, List, Bool, true, false, length}
use Rattle.std.proofs.Common.{ap, ◌∙◌}
use Rattle.table.specs.declared.Place.{Place}
use Rattle.table.specs.declared.Place.TheVariants.{Release}
use Rattle.table.specs.declared.Sought.TheVariants.{Busy}
use Rattle.table.specs.declared.Answer.{Answer}
use Rattle.table.specs.declared.Table.{Table}
use Rattle.machine.specs.Basics.{pick}
use Rattle.machine.specs.Words.{end_of}
use Rattle.machine.specs.Entries.{task_at, Ends}
use Rattle.machine.specs.Tasks.{holding_of, idle_of, sought_of, grey_of}
use Rattle.machine.specs.Switch.{switch_due}
use Rattle.machine.specs.History.{Copy, History, went, with_copy, with_copies, is_flip, flip_history, step_history}
use Rattle.machine.proofs.Objects.Base.{off_on}
use Rattle.machine.proofs.Agree.Search.{found_some}

pub on_stays : (a b : Bool) → a ≡ true → is_flip a b ≡ false
on_stays true b e = refl
on_stays false b e = off_on e

pub as_it_was : (a : Bool) → is_flip a a ≡ false
as_it_was true = refl
as_it_was false = refl

pub off_stays : (a b : Bool) → b ≡ false → is_flip a b ≡ false
off_stays true b e = refl
off_stays false b e = e

-- only a release that went adds a copy
pub no_copy : (before : Place) (x : Answer) (cs : List Copy) → went x ≡ false → with_copy before x cs ≡ cs
no_copy (Release n job) x cs e = rw e refl
no_copy _ x cs e = refl

pub history_is : (t : Table) (ws : List ℕ) (before : Place) (e : Ends) (h : History) (cs : List Copy) → is_flip t.on e.out.table.on ≡ false
    → with_copy before e.out.answer h.copies ≡ cs → step_history t ws before e h ≡ with_copies h cs
history_is t ws before e h cs a b =
    ap (λ (z : Bool). pick z (flip_history t ws) (with_copies h (with_copy before e.out.answer h.copies))) a ∙ ap (λ (z : List Copy). with_copies h z) b

pub flip_history_lem : (t : Table) (ws : List ℕ) (before : Place) (e : Ends) (h : History) → t.on ≡ false → e.out.table.on ≡ true → step_history t ws before e h ≡ flip_history t ws
flip_history_lem t ws before e h a b =
    ap (λ (z : Bool). pick z (flip_history t ws) (with_copies h (with_copy before e.out.answer h.copies))) (ap (λ (z : Bool). is_flip z e.out.table.on) a ∙ b)

-- a task is busy, so the switch-over is not due
pub busy_awake : (t : Table) (i : ℕ) → i < t.limits.p → t.limits.p ≤ length t.tasks → idle_of (holding_of (task_at t i).place) ≡ false → switch_due t ≡ false
unfolding switch_due sought_of
busy_awake t i l m e =
    let f = found_some t.tasks t.limits.p Busy i l m (rw e refl) in
    rw f.1 (on t.on (grey_of t.marks (end_of t.upper t.limits.h) t.tasks t.limits.p))
  where
    on : (a b : Bool) → pick a (pick b false false) false ≡ false
    on true true = refl
    on true false = refl
    on false b = refl
