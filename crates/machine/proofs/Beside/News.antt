-- The step of a New that claims, collecting and off.
use Rattle.std.specs.Prelude.{ℕ, suc, ◌+◌, ◌-◌, ◌*◌, ◌≤◌, ◌<◌, ◌≡◌, ◌⊎◌, Bool, Option}
use Rattle.std.proofs.Math.Path.{refl, ap}
use Rattle.std.proofs.Common.{sym, ◌∙◌, inl, inr, arith}
use mathlib.Core.List.{List, [], ◌∷◌}
use Rattle.std.proofs.Math.Bool.{true, false}
use Rattle.std.proofs.Math.Dec.{leb}
use borrow.Author.Tests.{le-ltb, leb-true, leb-false}
use Rattle.table.specs.declared.Limits.{Limits}
use Rattle.table.specs.declared.Making.{Making}
use Rattle.table.specs.declared.Place.{Place}
use Rattle.table.specs.declared.Place.TheVariants.{New, Asked, Take}
use Rattle.table.specs.declared.Answer.TheVariants.{Done, Moved, No}
use Rattle.table.specs.declared.Task.{Task}
use Rattle.table.specs.declared.Table.{Table}
use Rattle.machine.specs.History.{History, with_copy}
use Rattle.machine.specs.Basics.{pick}
use Rattle.machine.specs.Numbers.{refusal}
use Rattle.machine.specs.Words.{primary, descriptor, room_for, laid, wanted}
use Rattle.machine.specs.Entries.{task_at, moved_table, out, ends, entered, pending_with}
use Rattle.machine.specs.Begin.{new_ok}
use Rattle.machine.specs.Switch.{ended_entry, ended_table, finish_of}
use Rattle.machine.specs.New.{claimed, made, claimed_twice, new_on_of}
use Rattle.machine.specs.Tasks.{holding_of}
use Rattle.machine.specs.StillStore.{Store, Kind, Made, Ended, Doing, happens, making, owner_at, happen_all}
use Rattle.machine.specs.Kinds.{done_kinds}
use Rattle.machine.specs.StillStore.{makes as makes_thing}
use Rattle.machine.proofs.Objects.Base.{off_on, upd, upd_same, upd_other}
use Rattle.machine.proofs.Objects.State.{State, jobs_in}
use Rattle.machine.proofs.Objects.Inv.{Inv}
use Rattle.machine.proofs.Objects.Ops.{goes_with, makes, one_more}
use Rattle.machine.proofs.Objects.MoveLaws.{at_place_lem, upd_twice}
use Rattle.machine.proofs.Objects.NewSteps.{new_on, new_off}
use Rattle.machine.proofs.Objects.Ends.{new_ends}
use Rattle.machine.proofs.Agree.Encode.{at_place, at_task}
use Rattle.machine.specs.Agree.Agree.{end}
use Rattle.machine.proofs.Agree.Agree.{bottom}
use Rattle.machine.proofs.Agree.Enter.{entered_moved, entered_ended}
use Rattle.machine.proofs.Agree.Block.{make_on_tasks, make_off_tasks}
use Rattle.machine.proofs.Agree.Make.{made_at, make_on_agree, make_off_agree}
use Rattle.machine.proofs.Agree.Home.{home_new}
use Rattle.machine.proofs.Beside.Still.{DoingAt, Still}
use Rattle.machine.proofs.Beside.StillSteps.{still_made, still_ended}
use Rattle.machine.proofs.Objects.CountLaws.{counts_ends_new}
use Rattle.machine.proofs.Objects.CountFills.{counts_makes}
use Rattle.machine.proofs.Beside.Collecting.{Collecting}
use Rattle.machine.proofs.Beside.Collects.{collects}
use Rattle.machine.proofs.Beside.Lives.{lived_makes, same_copies}
use Rattle.machine.proofs.Beside.Good.{Good, Comes, comes_moved}
use Rattle.machine.proofs.Beside.Glue.{below}
use Rattle.machine.proofs.Beside.Finish.{known_of, finishes}
use Rattle.machine.proofs.Beside.Ending.{ended_jobs, ends_comes}

-- what a New asks for is in order
pub new_ok_lem : (s r len m : ℕ) → r < 8 → len ≤ s → m ≤ len → new_ok s r len m ≡ true
unfolding new_ok
new_ok_lem s r len m a b c = rw (le-ltb 7 r (omega arith), le-ltb s len b, le-ltb len m c) refl

pub new_jobs : (pl : Place) (r len m : ℕ) → (pl ≡ New (wanted r len m)) ⊎ (pl ≡ Asked (wanted r len m)) → jobs_in (holding_of pl) ≡ 0
unfolding holding_of
new_jobs pl r len m (inl e) = rw e refl
new_jobs pl r len m (inr e) = rw e refl

new_doing : (e : Task) (d : Doing) (pl : Place) (r len m : ℕ) → (pl ≡ New (wanted r len m)) ⊎ (pl ≡ Asked (wanted r len m)) → DoingAt e d pl → d ≡ making r len m
new_doing e d pl r len m (inl q) h = rw q at h
new_doing e d pl r len m (inr q) h = rw q at h

unfilled_new : {K : ℕ → Type 0} {p s : ℕ} {o : State} → Inv K p s o → o.on ≡ true → o.snap.fill (suc o.shape.n) ≡ 0
unfilled_new {o = o} v live =
    let c = rw live at v.mode in
    let z = v.shapes.future (suc o.shape.n) (omega arith) in
    omega (arith, c.older (suc o.shape.n), v.shapes.filled (suc o.shape.n), v.shapes.written (suc o.shape.n), z.1)

module _ {l : Limits} {w : Store} {hy : History} {t : Table} {ws : List ℕ} (g : Good l w hy t ws) (i : ℕ) (ip : i < t.limits.p) (r len m : ℕ) where
  abbrev new : ℕ
  new = suc g.objects.shape.n

  -- collecting: claimed twice, then the payment
  claims_twice : (X : Type 0) (pe : (g.objects.tasks i).place ≡ New (wanted r len m)) → g.objects.on ≡ true → 2 * (len + 2) ≤ t.marks.top - t.marks.a - t.marks.j
      → Comes l w hy t ws i (at_place g.pa g.ra (New (wanted r len m))) X
      (ends (out (moved_table t i (claimed t.marks (2 * (len + 2))) (made t.marks r len) (Take (2 * t.limits.k))) Moved)
      (claimed_twice ws t.marks.a len (descriptor len m)))
  unfolding happen_all holding_of
  claims_twice X pe live room =
      comes_moved g i (below g i ip) (at_place g.pa g.ra (New (wanted r len m))) X g.kept (upd g.pa new (t.marks.a + 2)) (upd g.ra new (t.marks.a + len + 4))
      (makes g.objects len m i (goes_with (g.objects.tasks i) (pending_with (primary new) r len 0) (Take (2 * t.limits.k)))) live _ _ _
      (goes_with (g.objects.tasks i) (pending_with (primary new) r len 0) (Take (2 * t.limits.k))) _
      (rw (made_at g.pa g.objects t r len)
      (entered_moved (upd g.pa new (t.marks.a + 2)) (upd g.ra new (t.marks.a + len + 4)) g.objects t i (claimed t.marks (2 * (len + 2)))
      (pending_with (primary new) r len 0) (Take (2 * t.limits.k)) (make_on_tasks g.inv g.agree (t.marks.a + 2) (t.marks.a + len + 4) i (below g i ip))))
      (new_on g.inv i ip r len m live pe (2 * t.limits.k) (omega (arith, g.agree.sized.limited.k_low)))
      (make_on_agree g.inv g.agree i ip (goes_with (g.objects.tasks i) (pending_with (primary new) r len 0) (Take (2 * t.limits.k))) len m live
      (omega (arith, g.agree.marked.free, room)) (rw pe refl))
      (rw doing (still_made g.still i (below g i ip) r len m (Take (2 * t.limits.k)) doing refl)) ip tt hy.copies refl
      (record {
        made = c.made;
        forgiven = c.forgiven;
        counts = counts_makes g.inv live c.counts i ip r len m pe;
        same = c.same ∙ same_copies g.pa (upd g.pa new (t.marks.a + 2)) c.made (λ x k q. upd_other g.pa new (t.marks.a + 2) x (λ e. omega (arith, (c.counts.which x k q).1, known)));
        lived = lived_makes c.lived hy.copies len m (t.marks.a + 2) known none;
      })
    where
      c : Collecting g.kept g.pa g.objects t hy
      c = g.collecting live

      known : g.objects.snap.n ≤ g.objects.shape.n
      known = known_of g.inv live

      -- nothing of an object still to be made was filled at the flip
      none : g.objects.snap.fill (suc g.objects.shape.n) ≡ 0
      none = unfilled_new g.inv live

      doing : (owner_at w i).doing ≡ making r len m
      doing = new_doing (g.objects.tasks i) (owner_at w i).doing (g.objects.tasks i).place r len m (inl pe) (g.still.tasks i (below g i ip)).doing

  pub new_on_comes : (X : Type 0) → (g.objects.tasks i).place ≡ New (wanted r len m) → g.objects.on ≡ true
      → Comes l w hy t ws i (at_place g.pa g.ra (New (wanted r len m))) X (new_on_of t ws i r len m)
  unfolding new_on_of room_for
  new_on_comes X pe live =
      let h = at_place_lem g.inv i (New (wanted r len m)) pe in
      rw (new_ok_lem t.limits.s r len m h.2 h.3 h.4) (on (leb (2 * (len + 2)) (t.marks.top - t.marks.a - t.marks.j)) refl)
    where
      on : (b : Bool) → leb (2 * (len + 2)) (t.marks.top - t.marks.a - t.marks.j) ≡ b
          → Comes l w hy t ws i (at_place g.pa g.ra (New (wanted r len m))) X
          (pick b
          (ends (out (moved_table t i (claimed t.marks (2 * (len + 2))) (made t.marks r len) (Take (2 * t.limits.k))) Moved)
          (claimed_twice ws t.marks.a len (descriptor len m)))
          (finish_of t ws i t.marks (task_at t i).pending (No (refusal 9))))
      on true e = claims_twice X pe live (leb-true (2 * (len + 2)) (t.marks.top - t.marks.a - t.marks.j) e)
      on false e =
          ends_comes g i ip (at_place g.pa g.ra (New (wanted r len m))) X (No (refusal 9)) (g.agree.on ∙ live, leb-false (2 * (len + 2)) (t.marks.top - t.marks.a - t.marks.j) e) (λ after. refl)
          (new_jobs (g.objects.tasks i).place r len m (inl pe)) refl live
          (collects (g.collecting live) _ _ refl refl (g.collecting live).forgiven (counts_ends_new g.inv live (g.collecting live).counts i ip r len m pe))
          (new_ends g.objects i r len m g.inv ip pe)

  -- off: claimed, and the New ends
  pub claims_off : (X : Type 0) (before : Place) → ((after : Place) → done_kinds before ≡ Made ∷ Ended ∷ []) → with_copy before Done hy.copies ≡ hy.copies
      → ((g.objects.tasks i).place ≡ New (wanted r len m)) ⊎ ((g.objects.tasks i).place ≡ Asked (wanted r len m)) → g.objects.on ≡ false → len + 2 ≤ end t - t.marks.a
      → Comes l w hy t ws i before X
      (finish_of t (laid ws t.marks.a (descriptor len m) 0) i (claimed t.marks (len + 2)) (made t.marks r len) Done)
  unfolding happen_all holding_of
  claims_off X before kinds quiet pe off room =
      finishes g i before X g.kept (upd g.pa new (t.marks.a + 2)) g.ra
      (makes g.objects len m i (ended_entry (g.objects.tasks i).regs (pending_with (primary new) r len 0))) _ (claimed t.marks (len + 2)) (made t.marks r len) Done
      (happens (makes_thing w i (making r len m)) i Ended) tt
      (λ after. ap (λ (ks : List Kind). happen_all w i ks) (kinds after) ∙ ap (λ (d : Doing). happens (makes_thing w i d) i Ended) doing)
      (new_off g.inv i ip r len m off pe)
      (rw table_is
      (make_off_agree g.inv g.agree i ip (ended_entry (g.objects.tasks i).regs (pending_with (primary new) r len 0)) len m off (omega (arith, room))
      (rw (new_jobs (g.objects.tasks i).place r len m pe, ended_jobs (g.objects.tasks i).regs (pending_with (primary new) r len 0)) refl)))
      (λ f. home_new g.kept g.pa g.objects.shape (bottom t) t.marks.a len m g.agree.marked.based (g.home off))
      still hy.copies quiet (λ f. off_on (sym off ∙ f)) g.collected
    where
      doing : (owner_at w i).doing ≡ making r len m
      doing = new_doing (g.objects.tasks i) (owner_at w i).doing (g.objects.tasks i).place r len m pe (g.still.tasks i (below g i ip)).doing

      table_is : ended_table t i (claimed t.marks (len + 2)) (made t.marks r len)
          ≡ entered t (claimed t.marks (len + 2)) i
          (at_task (upd g.pa new (t.marks.a + 2)) g.ra (ended_entry (g.objects.tasks i).regs (pending_with (primary new) r len 0)))
      table_is =
          ap (λ (d : Option Making). ended_table t i (claimed t.marks (len + 2)) d) (made_at g.pa g.objects t r len)
          ∙ entered_ended (upd g.pa new (t.marks.a + 2)) g.ra g.objects t i (claimed t.marks (len + 2)) (pending_with (primary new) r len 0)
          (make_off_tasks g.inv g.agree (t.marks.a + 2) i (below g i ip))

      e₁ : Task
      e₁ = goes_with (g.objects.tasks i) (pending_with (primary (suc g.objects.shape.n)) r len 0) (New (wanted r len m))

      k : Still (one_more g.objects.shape len m) g.objects.prim
          (upd g.objects.tasks i (goes_with (g.objects.tasks i) (pending_with (primary (suc g.objects.shape.n)) r len 0) (New (wanted r len m)))) g.objects.roots
          (makes_thing w i (making r len m))
      k = still_made g.still i (below g i ip) r len m (New (wanted r len m)) doing refl

      still : Still (one_more g.objects.shape len m) g.objects.prim
          (upd g.objects.tasks i (ended_entry (g.objects.tasks i).regs (pending_with (primary (suc g.objects.shape.n)) r len 0))) g.objects.roots
          (happens (makes_thing w i (making r len m)) i Ended)
      still =
          let q = rw (upd_same g.objects.tasks i e₁) at (k.tasks i (below g i ip)) in
          rw (upd_twice g.objects.tasks i e₁ (ended_entry (g.objects.tasks i).regs (pending_with (primary (suc g.objects.shape.n)) r len 0)))
          at (still_ended k i (below g i ip) (g.objects.tasks i).regs (pending_with (primary (suc g.objects.shape.n)) r len 0) q.regs q.pending q.goes_to
          (omega arith, omega arith, sym (upd_same g.objects.shape.len (suc g.objects.shape.n) len), sym (upd_same g.objects.shape.fill (suc g.objects.shape.n) 0)))
