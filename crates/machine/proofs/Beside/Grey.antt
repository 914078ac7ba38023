-- What grey and held mean, of a table that stands for objects.
use Rattle.std.specs.Prelude.{ℕ, ◌<◌, ◌≡◌, List, Bool, length, ltb}
use Rattle.std.proofs.Math.Path.{refl}
use Rattle.std.proofs.Common.{sym, ◌∙◌, arith}
use Rattle.std.proofs.Math.Bool.{true, false}
use borrow.Author.Tests.{ltb-true, not-true, not-false}
use Rattle.table.specs.declared.Limits.{Limits}
use Rattle.table.specs.declared.Table.{Table}
use Rattle.table.specs.declared.Holding.{Holding}
use Rattle.table.specs.declared.Holding.TheVariants.{Job, Claim, Both}
use Rattle.table.specs.declared.Sought.TheVariants.{Claiming, Asking, Busy}
use Rattle.machine.specs.History.{History}
use Rattle.machine.specs.Basics.{pick}
use Rattle.machine.specs.Tasks.{holding_of, idle_of, works_of, sought_of, seek_of, some, grey_of, closing_of, held_of}
use Rattle.machine.specs.Begin.{held_at}
use Rattle.machine.specs.StillStore.{Store}
use Rattle.machine.proofs.Objects.Base.{off_on}
use Rattle.machine.proofs.Objects.State.{ClaimIn, jobs_in}
use Rattle.machine.specs.Agree.Agree.{end}
use Rattle.machine.proofs.Agree.Holdings.{at_holding, holding_at, claim_works, job_works}
use Rattle.machine.proofs.Agree.Lowest.{found_at}
use Rattle.machine.proofs.Agree.Search.{found_is, none, sum_pos, sought_at, not_grey}
use Rattle.machine.proofs.Beside.Good.{Good}
use Rattle.machine.specs.Beside.WaitsFor.{holds}
use Rattle.machine.specs.Beside.Grey.{NothingGrey, Closing, IsHeld}

-- ---- what is held, by job and claim
works_none : (pa : ℕ → ℕ) (h : Holding) → jobs_in h ≡ 0 → ((x : ℕ) → ClaimIn h x → ⊥) → works_of (at_holding pa h) ≡ false
works_none pa (Job job) j c = absurd (omega arith)
works_none pa (Claim p) j c = absurd (c p.0 refl)
works_none pa (Both p job) j c = absurd (omega arith)
works_none pa _ j c = refl

module _ {l : Limits} {w : Store} {hy : History} {t : Table} {ws : List ℕ} (g : Good l w hy t ws) where
  holds_at : (q : ℕ) → q < t.limits.p → holds t q ≡ at_holding g.pa (holding_of (g.objects.tasks q).place)
  holds_at q qp =
      rw (g.agree.tasks q (omega (arith, qp, g.agree.sized.limited.p_high))) (holding_at g.pa g.ra (g.objects.tasks q).place)

  pub nothing_grey : grey_of t.marks (end t) t.tasks t.limits.p ≡ false → NothingGrey t
  nothing_grey e =
      let h = not_grey g.agree g.inv e in
      let empty : length g.objects.stack ≡ 0 = rw h.0 refl in (
        omega (arith, g.agree.marked.stack),
        λ q qp. rw (holds_at q qp) (works_none g.pa (holding_of (g.objects.tasks q).place) (h.1 q qp) (λ x c. h.2 q x qp c)),
      )

  pub something_grey : grey_of t.marks (end t) t.tasks t.limits.p ≡ true → NothingGrey t → ⊥
  unfolding grey_of sought_of
  something_grey e n = go (ltb t.marks.top (end t)) (ltb 0 t.marks.j) refl refl e
    where
      idle : (q : ℕ) → q < t.limits.p → works_of (at_holding g.pa (holding_of (g.objects.tasks q).place)) ≡ true → ⊥
      idle q qp f = off_on (sym (n.1 q qp) ∙ rw (holds_at q qp) f)

      go : (a b : Bool) → ltb t.marks.top (end t) ≡ a → ltb 0 t.marks.j ≡ b → pick a true (pick b true (some t.tasks t.limits.p Claiming)) ≡ true → ⊥
      go true b f h c = omega (arith, n.0, ltb-true t.marks.top (end t) f)
      go false true f h c =
          let m = sum_pos t.limits.p (λ i. jobs_in (holding_of (g.objects.tasks i).place)) (omega (arith, g.agree.marked.jobs, ltb-true 0 t.marks.j h)) in
          idle m.0 m.1 (job_works g.pa (holding_of (g.objects.tasks m.0).place) m.2)
      go false false f h c =
          let m = found_at (seek_of t.tasks t.limits.p Claiming) c in
          let k = found_is t.tasks t.limits.p Claiming m.0 m.1 in
          idle m.0 k.0
          (claim_works g.pa (holding_of (g.objects.tasks m.0).place) (sym (sought_at g.agree g.inv Claiming m.0 k.0) ∙ k.1))

  -- ---- held
  busy : some t.tasks t.limits.p Busy ≡ true → (q : ℕ) × (q < t.limits.p) × (idle_of (holds t q) ≡ false)
  unfolding sought_of
  busy e =
      let m = found_at (seek_of t.tasks t.limits.p Busy) e in
      let k = found_is t.tasks t.limits.p Busy m.0 m.1 in
      (m.0, k.0, not-true (idle_of (holds t m.0)) k.1)

  pub held_is : held_at t ≡ true → IsHeld t t.on
  unfolding held_of closing_of sought_of
  held_is = by t.on
    where
      by : (b : Bool) → pick b (pick (grey_of t.marks (end t) t.tasks t.limits.p) false (some t.tasks t.limits.p Busy)) (some t.tasks t.limits.p Asking) ≡ true
          → IsHeld t b
      by true e = on (grey_of t.marks (end t) t.tasks t.limits.p) refl e
        where
          on : (b : Bool) → grey_of t.marks (end t) t.tasks t.limits.p ≡ b → pick b false (some t.tasks t.limits.p Busy) ≡ true → Closing t
          on true f e = off_on e
          on false f e = let m = busy e in (nothing_grey f, m.0, m.1, m.2)
      by false e =
          let m = found_at (seek_of t.tasks t.limits.p Asking) e in
          let k = found_is t.tasks t.limits.p Asking m.0 m.1 in
          (m.0, k.0, k.1)

  pub held_not : held_at t ≡ false → IsHeld t t.on → ⊥
  unfolding held_of closing_of sought_of
  held_not = by t.on
    where
      by : (b : Bool) → pick b (pick (grey_of t.marks (end t) t.tasks t.limits.p) false (some t.tasks t.limits.p Busy)) (some t.tasks t.limits.p Asking) ≡ false
          → IsHeld t b → ⊥
      by true e h = on (grey_of t.marks (end t) t.tasks t.limits.p) refl e
        where
          on : (b : Bool) → grey_of t.marks (end t) t.tasks t.limits.p ≡ b → pick b false (some t.tasks t.limits.p Busy) ≡ false → ⊥
          on true f e = something_grey f h.0
          on false f e = off_on (sym h.3 ∙ not-false (idle_of (holds t h.1)) (none t.tasks t.limits.p Busy e h.1 h.2))
      by false e h = off_on (sym (none t.tasks t.limits.p Asking e h.0 h.1) ∙ h.2)
