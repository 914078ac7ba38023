-- Demand 2, from the runs in which table and store stand side by side.
use Rattle.std.specs.Prelude.{ℕ, ◌≡◌, ◌≢◌, List, true, length}
use Rattle.std.proofs.Common.{sym, ◌∙◌, inl, inr}
use Rattle.table.specs.declared.Limits.{Limits}
use Rattle.table.specs.declared.Table.{Table}
use Rattle.table.specs.declared.Refusal.TheVariants.{Exhausted, Damaged}
use Rattle.table.specs.declared.Answer.{Answer}
use Rattle.table.specs.declared.Answer.TheVariants.{No}
use Rattle.machine.specs.Gate.{sizes_ok}
use Rattle.machine.specs.Setup.{setup_of}
use Rattle.machine.specs.Call.{Call}
use Rattle.machine.specs.Calls.{then, run}
use Rattle.machine.specs.StillStore.{empty_store, load_answer, same_answer}
use Rattle.machine.specs.Kinds.{beside}
use Rattle.machine.specs.History.{no_history, history_of}
use Rattle.machine.proofs.Beside.Good.{Good}
use Rattle.machine.proofs.Beside.Start.{fresh_good}
use Rattle.machine.proofs.Beside.Calls.{load_answers, same_answers}
use Rattle.machine.specs.Beside.Run.{Living, Spends}
use Rattle.machine.proofs.Beside.Run.{Well, Proceeds, proceeds, good_run}
use Rattle.machine.proofs.Objects.Base.{clash}

-- 10 and 11 are not well
not_damaged : (c : Call) (t : Table) (x : Answer) → Well c t x → x ≢ No Damaged
not_damaged (Call.New task r len m) t x u e = rw e at u
not_damaged _ t x u e = rw e at u

pub not_spent : (c : Call) (t : Table) (x : Answer) → Well c t x → x ≢ No Exhausted
not_spent (Call.New task r len m) t x u e = rw e at u
not_spent _ t x u e = rw e at u

module _ (t : Table) (l : Limits) (ws : List ℕ) (accepted : sizes_ok l (length ws) ≡ true) where
  pub set_up_good : Good l empty_store no_history (setup_of t l ws).out.table (setup_of t l ws).words
  unfolding setup_of
  set_up_good = rw accepted (fresh_good l (length ws) accepted)

  module _ (cs : List Call) (living : Living cs (setup_of t l ws)) where
    pub good_after : Good l (beside cs (setup_of t l ws) empty_store) (history_of cs (setup_of t l ws) no_history) (run cs (setup_of t l ws)).out.table (run cs (setup_of t l ws)).words
    good_after = good_run l cs (setup_of t l ws) empty_store no_history set_up_good living

    pub load_right : (task to from slot : ℕ)
        → (then (Call.Load task to from slot) (run cs (setup_of t l ws))).out.answer ≡ load_answer (beside cs (setup_of t l ws) empty_store) l.p task to from slot
    load_right task to from slot = load_answers good_after task to from slot

    pub same_right : (task a b : ℕ)
        → (then (Call.Same task a b) (run cs (setup_of t l ws))).out.answer ≡ same_answer (beside cs (setup_of t l ws) empty_store) l.p task a b
    same_right task a b = same_answers good_after task a b

    pub undamaged : (c : Call) → (then c (run cs (setup_of t l ws))).out.answer ≢ No Damaged
    undamaged c = on (proceeds l (beside cs (setup_of t l ws) empty_store) (history_of cs (setup_of t l ws) no_history) c (run cs (setup_of t l ws)) good_after)
      where
        on : Proceeds l (beside cs (setup_of t l ws) empty_store) (history_of cs (setup_of t l ws) no_history) c (run cs (setup_of t l ws)) → (then c (run cs (setup_of t l ws))).out.answer ≢ No Damaged
        on (inl h) = λ e. let q : No Exhausted ≡ No Damaged = sym h.0 ∙ e in clash cc
        on (inr h) = not_damaged c (run cs (setup_of t l ws)).out.table (then c (run cs (setup_of t l ws))).out.answer h.1

    pub spent_for_room : (c : Call) → (then c (run cs (setup_of t l ws))).out.answer ≡ No Exhausted
        → Spends c (run cs (setup_of t l ws)).out.table (run cs (setup_of t l ws)).words
    spent_for_room c e = on (proceeds l (beside cs (setup_of t l ws) empty_store) (history_of cs (setup_of t l ws) no_history) c (run cs (setup_of t l ws)) good_after)
      where
        on : Proceeds l (beside cs (setup_of t l ws) empty_store) (history_of cs (setup_of t l ws) no_history) c (run cs (setup_of t l ws)) → Spends c (run cs (setup_of t l ws)).out.table (run cs (setup_of t l ws)).words
        on (inl h) = h.1
        on (inr h) = absurd (not_spent c (run cs (setup_of t l ws)).out.table (then c (run cs (setup_of t l ws))).out.answer h.1 e)
