-- The calls that change a register or a root, and report: the store, told of them, stands beside the table again.
use Rattle.std.specs.Prelude.{ℕ, ◌-◌, ◌<◌, ◌≡◌, List, [], true, set, eqb}
use Rattle.std.proofs.Math.Path.{refl}
use Rattle.std.proofs.Common.{sym, ◌∙◌, arith}
use Rattle.table.specs.declared.Limits.{Limits}
use Rattle.table.specs.declared.Place.{Place}
use Rattle.table.specs.declared.Place.TheVariants.{Idle}
use Rattle.table.specs.declared.Task.{Task}
use Rattle.table.specs.declared.Holding.{Holding}
use Rattle.table.specs.declared.Holding.TheVariants.{Rests}
use Rattle.table.specs.declared.Table.{Table}
use Rattle.table.specs.declared.Answer.TheVariants.{Done, Report}
use Rattle.machine.specs.History.{History}
use Rattle.machine.specs.Words.{primary, bottom_of}
use Rattle.machine.specs.Entries.{entry, with_task, with_register, with_root}
use Rattle.machine.specs.Tasks.{holding_of, idle_of}
use Rattle.machine.specs.Setup.{report_of}
use Rattle.machine.specs.Complete.{move_of, clear_of, put_root_of, get_root_of, same_of}
use Rattle.machine.specs.Call.{Call}
use Rattle.machine.specs.StillStore.{Store, Doing, resting, store, owner_at, held, holding, happen_all, told, ready, same_answer}
use Rattle.machine.proofs.Objects.State.{root}
use Rattle.machine.proofs.Objects.Inv.{Sound}
use Rattle.machine.proofs.Objects.Ops.{moves, reroots}
use Rattle.machine.proofs.Objects.BeginSteps.{register_inv, root_inv}
use Rattle.machine.proofs.Agree.Holdings.{at_holding, idle_only}
use Rattle.machine.proofs.Agree.Complete.{is_idle, task_in, move_of_lem, clear_of_lem, put_root_of_lem, get_root_of_lem, report_of_lem, same_of_lem}
use Rattle.machine.proofs.Agree.Regs.{register_agree, root_agree}
use Rattle.machine.proofs.Beside.Still.{number, DoingAt, StillTask}
use Rattle.machine.proofs.Beside.StillLaws.{still_owner, still_register, still_root, still_reroot}
use Rattle.machine.proofs.Objects.CountLaws.{counts_same}
use Rattle.machine.proofs.Beside.Awake.{due_same, due_roots}
use Rattle.machine.proofs.Beside.Collects.{collects}
use Rattle.machine.proofs.Beside.Good.{Good}
use Rattle.machine.proofs.Beside.Completes.{Meant, choose, two}
use Rattle.std.proofs.lemmas.List.{map-set}

idle_held : (pa : ℕ → ℕ) (h : Holding) → idle_of (at_holding pa h) ≡ idle_of h
idle_held pa Rests = refl
idle_held pa _ = refl

resting_at : (e : Task) (d : Doing) (pl : Place) → pl ≡ Idle → DoingAt e d pl → d ≡ resting
resting_at e d pl pe h = rw pe at h

module _ {l : Limits} {w : Store} {hy : History} {t : Table} {ws : List ℕ} (g : Good l w hy t ws) where
  pub idle_at_lem : (task : ℕ) → is_idle g.objects task ≡ true → (g.objects.tasks task).place ≡ Idle
  idle_at_lem task e = idle_only g.pa (g.objects.tasks task).place (idle_held g.pa (holding_of (g.objects.tasks task).place) ∙ e)

  -- an idle task rests in the store
  pub rests_at : (task : ℕ) → task < t.limits.p → (g.objects.tasks task).place ≡ Idle → (owner_at w task).doing ≡ resting
  rests_at task ip pe =
      resting_at (g.objects.tasks task) (owner_at w task).doing (g.objects.tasks task).place pe (g.still.tasks task (task_in g.agree task ip)).doing

  -- a register set to a sound object, in table and store
  pub register_good : (task : ℕ) → task < t.limits.p → (g.objects.tasks task).place ≡ Idle → (r x : ℕ) → Sound g.kept g.objects.shape x
      → Good l (holding w task r x) hy (with_register t task r (primary (g.pa x))) ws
  unfolding with_register with_task
  register_good task ip pe r x h = record {
    kept = g.kept;
    pa = g.pa;
    ra = g.ra;
    objects = moves g.objects task e;
    limits = g.limits;
    long = g.long;
    inv = register_inv g.inv task ip pe r x h;
    collecting = λ f.
        collects (g.collecting f) _ _ refl refl (g.collecting f).forgiven
        (counts_same g.inv f (g.collecting f).counts task ip e refl refl (λ y c. c) (λ c. pe));
    awake = λ f. due_same t task _ refl ∙ g.awake f;
    collected = g.collected;
    home = g.home;
    agree = register_agree g.inv g.agree task ip r x;
    still = still_owner g.still task (task_in g.agree task ip) e _ (record {
      regs = rw q.regs (sym (map-set number (g.objects.tasks task).regs r (primary x)));
      pending = q.pending;
      goes_to = q.goes_to;
      doing = rw pe (rests_at task ip pe);
    });
  }
    where
      q : StillTask (g.objects.tasks task) (owner_at w task)
      q = g.still.tasks task (task_in g.agree task ip)

      e : Task
      e = entry (set (g.objects.tasks task).regs r (primary x)) (g.objects.tasks task).pending (g.objects.tasks task).storing (g.objects.tasks task).place

  -- a root set to a sound object
  pub root_good : (r x : ℕ) → Sound g.kept g.objects.shape x
      → Good l (store w.owners (set w.roots r x) w.things) hy (with_root t r (primary (g.pa x))) ws
  unfolding with_root
  root_good r x h = record {
    kept = g.kept;
    pa = g.pa;
    ra = g.ra;
    objects = reroots g.objects (set g.objects.roots r (primary x));
    limits = g.limits;
    long = g.long;
    inv = root_inv g.inv r x h;
    collecting = λ f. collects (g.collecting f) _ _ refl refl (g.collecting f).forgiven (g.collecting f).counts;
    awake = λ f. due_roots t _ ∙ g.awake f;
    collected = g.collected;
    home = g.home;
    agree = root_agree g.inv g.agree r x;
    still = still_reroot g.still r x;
  }

  -- the object in a register is sound, and so is nil
  pub sound_register : (task r : ℕ) → Sound g.kept g.objects.shape (root (g.objects.tasks task).regs r)
  sound_register task r = (g.inv.entries task).regs r

  pub sound_nil : Sound g.kept g.objects.shape 0
  sound_nil =
      let s = g.inv.shapes in
      (s.kept, omega arith, omega (arith, s.none, s.filled 0, s.written 0))

  -- the store's register holds the same object
  pub held_is : (task r : ℕ) → task < t.limits.p → held w task r ≡ root (g.objects.tasks task).regs r
  held_is task r ip = still_register g.still task (task_in g.agree task ip) r

  pub move_meant : (task to from : ℕ)
      → Meant l hy ws (λ x. told w (Call.Move task to from) x []) (ready w t.limits.p task to from Done) (move_of t ws task to from)
  unfolding happen_all
  move_meant task to from =
      rw (move_of_lem g.agree g.long task to from)
      (two g (λ x. told w (Call.Move task to from) x []) (λ x. refl) task to from Done _
      (λ ip e a b.
      record {
        good = rw (held_is task from ip) (register_good task ip (idle_at_lem task e) to (root (g.objects.tasks task).regs from) (sound_register task from));
        fine = tt;
        answer = refl;
      }))

  pub clear_meant : (task r : ℕ) → Meant l hy ws (λ x. told w (Call.Clear task r) x []) (ready w t.limits.p task r r Done) (clear_of t ws task r)
  unfolding happen_all
  clear_meant task r =
      rw (clear_of_lem g.agree g.long task r)
      (two g (λ x. told w (Call.Clear task r) x []) (λ x. refl) task r r Done _
      (λ ip e a b.
      record { good = rw g.agree.lay.nilp at (register_good task ip (idle_at_lem task e) r 0 sound_nil); fine = tt; answer = refl }))

  pub put_meant : (task to r : ℕ)
      → Meant l hy ws (λ x. told w (Call.Put task to r) x []) (ready w t.limits.p task to r Done) (put_root_of t ws task to r)
  unfolding happen_all
  put_meant task to r =
      rw (put_root_of_lem g.agree g.long task to r)
      (two g (λ x. told w (Call.Put task to r) x []) (λ x. refl) task to r Done _
      (λ ip e a b.
      record { good = rw (held_is task r ip) (root_good to (root (g.objects.tasks task).regs r) (sound_register task r)); fine = tt; answer = refl }))

  pub get_meant : (task r from : ℕ)
      → Meant l hy ws (λ x. told w (Call.Get task r from) x []) (ready w t.limits.p task r from Done) (get_root_of t ws task r from)
  unfolding happen_all
  get_meant task r from =
      rw (get_root_of_lem g.agree g.long task r from)
      (two g (λ x. told w (Call.Get task r from) x []) (λ x. refl) task r from Done _
      (λ ip e a b.
      record {
        good = rw (still_root g.still from) (register_good task ip (idle_at_lem task e) r (root g.objects.roots from) (g.inv.roots from));
        fine = tt;
        answer = refl;
      }))

  pub report_meant : Meant l hy ws (λ x. told w Call.Report x []) (Report t.on (t.marks.a - bottom_of t.upper t.limits.h) t.marks.copies) (report_of t ws)
  unfolding happen_all
  report_meant = rw (report_of_lem g.agree g.long) (record { good = g; fine = tt; answer = refl })

  pub same_meant : (task a b : ℕ) → Meant l hy ws (λ x. told w (Call.Same task a b) x []) (same_answer w t.limits.p task a b) (same_of t ws task a b)
  unfolding happen_all same_answer
  same_meant task a b =
      rw (same_of_lem g.inv g.agree g.long task a b)
      (two g (λ x. told w (Call.Same task a b) x []) (λ x. refl) task a b _ _
      (λ ip e c d.
      rw (held_is task a ip, held_is task b ip)
      (choose (eqb (root (g.objects.tasks task).regs a) (root (g.objects.tasks task).regs b)) _ _ _ _
      (λ h. record { good = g; fine = tt; answer = refl }) (λ h. record { good = g; fine = tt; answer = refl }))))
