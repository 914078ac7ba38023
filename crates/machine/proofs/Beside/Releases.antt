-- The release of a copied slot: the payment goes on, or the instruction ends.
use Rattle.std.specs.Prelude.{ℕ, ◌+◌, ◌-◌, ◌≤◌, ◌<◌, ◌≡◌, ◌≢◌, Bool, set}
use Rattle.std.proofs.Math.Path.{refl, ap}
use Rattle.std.proofs.Common.{sym, ◌∙◌, arith, eqb-true, ne_eqb}
use mathlib.Core.List.{List, ◌∷◌}
use Rattle.std.proofs.Math.Bool.{true, false}
use Rattle.std.proofs.Math.Dec.{eqb}
use Rattle.std.proofs.lemmas.Bool.{eqb-false, lt-leb}
use Rattle.table.specs.declared.Limits.{Limits}
use Rattle.table.specs.declared.Primary.{Primary}
use Rattle.table.specs.declared.Marks.{Marks}
use Rattle.table.specs.declared.Place.{Place}
use Rattle.table.specs.declared.Place.TheVariants.{Take, Release}
use Rattle.table.specs.declared.Deed.TheVariants.{Goes, Ends}
use Rattle.table.specs.declared.Answer.TheVariants.{Done}
use Rattle.table.specs.declared.Table.{Table}
use Rattle.machine.specs.History.{Copy, History, copy}
use Rattle.machine.specs.Basics.{pick}
use Rattle.machine.specs.Words.{replica, slot_at}
use Rattle.machine.specs.Entries.{task_at, marks_at}
use Rattle.machine.specs.Deeds.{acted}
use Rattle.machine.specs.Switch.{ended_entry}
use Rattle.machine.specs.Pay.{paid, release_in, release_of}
use Rattle.machine.specs.Step.{settle, settle_of}
use Rattle.machine.specs.Tasks.{holding_of}
use Rattle.machine.specs.StillStore.{Store, owner_at, thing_at, with_owner, ends_owner, happen_all}
use Rattle.machine.proofs.Objects.Base.{off_on}
use Rattle.machine.proofs.Objects.State.{count, locked, jobs_in}
use Rattle.machine.proofs.Objects.Ops.{goes, heads, push}
use Rattle.machine.proofs.Objects.MoveLaws.{at_place_lem}
use Rattle.machine.proofs.Objects.PaySteps.{releases}
use Rattle.machine.proofs.Objects.Ends.{release_ends}
use Rattle.machine.proofs.Agree.Encode.{at_primary, at_place}
use Rattle.machine.proofs.Agree.Enter.{job_counted}
use Rattle.machine.proofs.Agree.Heads.{release_agree}
use Rattle.machine.proofs.Beside.Doing.{still_goes}
use Rattle.machine.proofs.Objects.CountHeads.{counts_releases, counts_releases_last}
use Rattle.machine.proofs.Beside.Lives.{lived_same}
use Rattle.machine.proofs.Beside.Good.{Good, Comes, comes_moved}
use Rattle.machine.proofs.Beside.Glue.{look_placed, below, moved_goes, busy_at}
use Rattle.machine.proofs.Beside.Finish.{finishes}
use Rattle.machine.proofs.Beside.Ending.{ended_jobs, ended_table_lem, still_ends}
use Rattle.machine.proofs.Beside.Copies.{held, placed, short}

-- the marks and words of a release, whether or not the object is pushed back
abbrev freed : Marks → ℕ → Marks
freed m k = marks_at m.a (pick (eqb k 0) m.top (m.top - 1)) (m.j - 1) (m.copies + 1)

abbrev unlocked : Marks → List ℕ → ℕ → ℕ → ℕ → List ℕ
unlocked m ws r p k = pick (eqb k 0) (set ws (r - 1) 0) (set (set ws (r - 1) k) (m.top - 1) p)

released : (m : Marks) (ws : List ℕ) (n : ℕ) (x : Primary) (k r len : ℕ) → k < len → 0 < m.j → 0 < n
    → release_in m ws n x k (replica r) len ≡ acted (paid (freed m k) n) (unlocked m ws r x.0 k)
released m ws n x k r len a b c =
    rw (lt-leb len k a, ne_eqb m.j 0 (λ e. omega arith), ne_eqb n 0 (λ e. omega arith)) (on (eqb k 0))
  where
    on : (b : Bool) → pick b (acted (paid (marks_at m.a m.top (m.j - 1) (m.copies + 1)) n) (set ws (r - 1) 0))
        (acted (paid (marks_at m.a (m.top - 1) (m.j - 1) (m.copies + 1)) n) (set (set ws (r - 1) k) (m.top - 1) x.0))
        ≡ acted (paid (marks_at m.a (pick b m.top (m.top - 1)) (m.j - 1) (m.copies + 1)) n) (pick b (set ws (r - 1) 0) (set (set ws (r - 1) k) (m.top - 1) x.0))
    on true = refl
    on false = refl

one_job : (pl : Place) (n : ℕ) (x : Primary) (k : ℕ) → pl ≡ Release n (slot_at x k) → jobs_in (holding_of pl) ≡ 1
unfolding holding_of
one_job pl n x k e = rw e refl

module _ {l : Limits} {w : Store} {hy : History} {t : Table} {ws : List ℕ} (g : Good l w hy t ws) (i : ℕ) (ip : i < t.limits.p) (X : Type 0) (n : ℕ) (x : Primary) (k : ℕ)
    (pe : (g.objects.tasks i).place ≡ Release n (slot_at x k)) where
  live : g.objects.on ≡ true
  live = (at_place_lem g.inv i (Release n (slot_at x k)) pe).0

  lock : g.objects.hd x.0 ≡ locked k i
  lock = (at_place_lem g.inv i (Release n (slot_at x k)) pe).2

  job : 1 ≤ t.marks.j
  job = let a = one_job (g.objects.tasks i).place n x k pe in omega (arith, job_counted g.agree i ip)

  -- more to pay
  goes_on : n ≢ 1
      → Comes l w hy t ws i (at_place g.pa g.ra (Release n (slot_at x k))) X
      (settle t i (acted (Goes (freed t.marks k) (Take (n - 1))) (unlocked t.marks ws (g.ra x.0) (g.pa x.0) k)))
  unfolding settle_of happen_all holding_of
  goes_on d =
      comes_moved g i (below g i ip) (at_place g.pa g.ra (Release n (slot_at x k))) X g.kept g.pa g.ra
      (heads g.objects x.0 (count k) (push k x.0 g.objects.stack) i (goes (g.objects.tasks i) (Take (n - 1)))) live _ _ _
      (goes (g.objects.tasks i) (Take (n - 1))) _ (moved_goes g i ip (freed t.marks k) (Take (n - 1)))
      (releases g.objects i n x k (n - 1) g.inv ip pe (omega (arith, (at_place_lem g.inv i (Release n (slot_at x k)) pe).1)))
      (release_agree g.inv g.agree i ip (goes (g.objects.tasks i) (Take (n - 1))) x.0 k lock live (rw pe (omega (arith, job))))
      (still_goes g.still i (below g i ip) (Take (n - 1)) (busy_at g i ip (Release n (slot_at x k)) pe tt)) ip tt (copy (g.pa x.0) k ∷ hy.copies) refl
      (let c = g.collecting live in
      record {
        made = copy x.0 k ∷ c.made;
        forgiven = c.forgiven;
        counts = counts_releases g.inv live c.counts i ip n x k pe job;
        same = ap (λ (cs : List Copy). copy (g.pa x.0) k ∷ cs) c.same;
        lived = lived_same c.lived (copy (g.pa x.0) k ∷ hy.copies);
      })

  -- the last copy
  ends_it : n ≡ 1 → Comes l w hy t ws i (at_place g.pa g.ra (Release n (slot_at x k))) X
      (settle t i (acted (Ends (freed t.marks k)) (unlocked t.marks ws (g.ra x.0) (g.pa x.0) k)))
  unfolding settle_of happen_all
  ends_it last =
      finishes g i (at_place g.pa g.ra (Release n (slot_at x k))) X g.kept g.pa g.ra
      (heads g.objects x.0 (count k) (push k x.0 g.objects.stack) i (ended_entry (g.objects.tasks i).regs (g.objects.tasks i).pending))
      (unlocked t.marks ws (g.ra x.0) (g.pa x.0) k) (freed t.marks k) (task_at t i).pending Done
      (with_owner w i (ends_owner (owner_at w i) (thing_at w (owner_at w i).pending))) tt (λ after. refl) (release_ends g.objects i n x k g.inv ip pe)
      (rw (ended_table_lem g i ip (freed t.marks k))
      (release_agree g.inv g.agree i ip (ended_entry (g.objects.tasks i).regs (g.objects.tasks i).pending) x.0 k lock live
      (rw (one_job (g.objects.tasks i).place n x k pe, ended_jobs (g.objects.tasks i).regs (g.objects.tasks i).pending) (omega (arith, job)))))
      (λ f. off_on (sym f ∙ live)) (still_ends g i ip) (copy (g.pa x.0) k ∷ hy.copies) refl (λ f. let c = g.collecting live in
      record {
        made = copy x.0 k ∷ c.made;
        forgiven = c.forgiven;
        counts = counts_releases_last g.inv live c.counts i ip n x k pe last job;
        same = ap (λ (cs : List Copy). copy (g.pa x.0) k ∷ cs) c.same;
        lived = lived_same c.lived (copy (g.pa x.0) k ∷ hy.copies);
      }) (λ f. off_on (sym f ∙ live))

  pub release_comes : Comes l w hy t ws i (at_place g.pa g.ra (Release n (slot_at x k))) X (settle t i (release_of t.marks ws t.limits.s n (at_primary g.pa x) k))
  unfolding release_of
  release_comes =
      rw (
        look_placed g.inv g.agree x.0 (held g i ip X n x k live lock) (placed g i ip X n x k live lock),
        released t.marks ws n (at_primary g.pa x) k (g.ra x.0) (g.objects.shape.len x.0) (short g i ip X n x k live lock) job
            (at_place_lem g.inv i (Release n (slot_at x k)) pe).1,
      )
      (on (eqb n 1) refl)
    where
      on : (b : Bool) → eqb n 1 ≡ b → Comes l w hy t ws i (at_place g.pa g.ra (Release n (slot_at x k))) X
          (settle t i (acted (pick b (Ends (freed t.marks k)) (Goes (freed t.marks k) (Take (n - 1)))) (unlocked t.marks ws (g.ra x.0) (g.pa x.0) k)))
      on true e = ends_it (eqb-true n 1 e)
      on false e = goes_on (eqb-false n 1 e)
