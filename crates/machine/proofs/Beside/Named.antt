-- Each register of the table names the object that the store's register holds; a call of one task leaves what the registers of the others name.
use Rattle.std.specs.Prelude.{ℕ, ◌<◌, ◌≡◌, ◌≢◌, List, true, length}
use Rattle.std.proofs.Common.{ap, sym, ◌∙◌, inl, inr}
use Rattle.table.specs.declared.Limits.{Limits}
use Rattle.table.specs.declared.Primary.{Primary}
use Rattle.table.specs.declared.Table.{Table}
use Rattle.table.specs.declared.Refusal.TheVariants.{Exhausted}
use Rattle.table.specs.declared.Answer.TheVariants.{No}
use Rattle.machine.specs.Entries.{task_at, register, Ends}
use Rattle.machine.specs.Gate.{sizes_ok}
use Rattle.machine.specs.Setup.{setup_of}
use Rattle.machine.specs.Call.{Call}
use Rattle.machine.specs.Calls.{then, run}
use Rattle.machine.specs.StillStore.{Store, empty_store, held}
use Rattle.machine.specs.Kinds.{follows, beside}
use Rattle.machine.specs.History.{History, no_history, history_of}
use Rattle.machine.proofs.Objects.State.{root}
use Rattle.machine.proofs.Agree.Names.{pa_inj}
use Rattle.machine.proofs.Agree.Complete.{register_of_lem}
use Rattle.machine.proofs.Beside.StillLaws.{still_register}
use Rattle.machine.proofs.Beside.Good.{Good}
use Rattle.machine.specs.Beside.Run.{Living}
use Rattle.machine.proofs.Beside.Run.{Proceeds, proceeds}
use Rattle.machine.proofs.Beside.Demand2.{good_after}
use Rattle.machine.specs.Beside.Named.{Names}

pub names : {l : Limits} {w : Store} {hy : History} {t : Table} {ws : List ℕ} → Good l w hy t ws → Names t w
names {w = w} {t = t} g = record { address = g.pa; nil = g.agree.lay.nilp; registers = named; apart = different }
  where
    named : (u r : ℕ) → u < 8 → (register (task_at t u) r).0 ≡ g.pa (held w u r)
    named u r b = ap (λ (p : Primary). p.0) (register_of_lem g.agree u r b) ∙ ap g.pa (sym (still_register g.still u b r))

    different : (u r k q : ℕ) → u < 8 → k < 8 → (register (task_at t u) r).0 ≡ (register (task_at t k) q).0 → held w u r ≡ held w k q
    different u r k q b c e =
        let x = (g.inv.entries u).regs r in
        let y = (g.inv.entries k).regs q in
        still_register g.still u b r
        ∙ pa_inj g.agree.lay (root (g.objects.tasks u).regs r) (root (g.objects.tasks k).regs q) x.0 x.1 y.0 y.1
        (ap g.pa (sym (still_register g.still u b r)) ∙ sym (named u r b) ∙ e ∙ named k q c ∙ ap g.pa (still_register g.still k c q))
        ∙ sym (still_register g.still k c q)

-- ---- the runs
module _ (t : Table) (l : Limits) (ws : List ℕ) (accepted : sizes_ok l (length ws) ≡ true) (cs : List Call) (living : Living cs (setup_of t l ws)) where
  abbrev now : Ends
  now = run cs (setup_of t l ws)

  abbrev stored : Store
  stored = beside cs (setup_of t l ws) empty_store

  pub registers_named : Names now.out.table stored
  registers_named = names (good_after t l ws accepted cs living)

  module _ (c : Call) (alive : (then c now).out.answer ≢ No Exhausted) where
    -- after one call more
    pub registers_named_after : Names (then c now).out.table (follows stored c now (then c now))
    registers_named_after = on (proceeds l stored (history_of cs (setup_of t l ws) no_history) c now (good_after t l ws accepted cs living))
      where
        on : Proceeds l stored (history_of cs (setup_of t l ws) no_history) c now → Names (then c now).out.table (follows stored c now (then c now))
        on (inl h) = absurd (alive h.0)
        on (inr h) = names h.0
