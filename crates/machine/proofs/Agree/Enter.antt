-- A table with one entry and the marks changed: the machine's tables have this form, and what shows that it agrees.
use Rattle.std.specs.Prelude.{ℕ, suc, ◌+◌, ◌*◌, ◌≤◌, ◌<◌, ◌≡◌, refl, List, [], map, Bool, true, false, length, get_or, set, eqb, Option, Some, None}
use Rattle.std.proofs.Common.{ap, sym, ◌∙◌, arith, length-set, get_or-set_same, get_or-set_other}
use Rattle.std.proofs.Math.Decide.{ℕ_discrete}
use Rattle.table.specs.declared.Primary.{Primary}
use Rattle.table.specs.declared.Marks.{Marks}
use Rattle.table.specs.declared.Making.{Making}
use Rattle.table.specs.declared.Place.{Place}
use Rattle.table.specs.declared.Place.TheVariants.{Idle}
use Rattle.table.specs.declared.Task.{Task}
use Rattle.table.specs.declared.Table.{Table}
use Rattle.machine.specs.Basics.{pick}
use Rattle.machine.specs.Words.{bottom_of, end_of}
use Rattle.machine.specs.Entries.{entry, marks_at, no_task, task_at, with_task, with_place, moved_table, with_register, entered, pending_with}
use Rattle.machine.specs.Tasks.{holding_of}
use Rattle.machine.specs.Switch.{ended_entry, ended_table}
use Rattle.machine.proofs.Objects.Base.{upd, upd_same, upd_other, sum_to, sum_to_at, sum_to_part}
use Rattle.machine.proofs.Objects.State.{Hd, Shape, State, owes, jobs_in}
use Rattle.machine.proofs.Objects.Inv.{Inv}
use Rattle.machine.proofs.Objects.Ops.{state, goes, goes_with, moves}
use Rattle.machine.proofs.Agree.Encode.{at_primary, at_pending, at_place, at_task}
use Rattle.machine.proofs.Agree.Mem.{Holds}
use Rattle.machine.specs.Agree.Agree.{end}
use Rattle.machine.proofs.Agree.Agree.{addr, Ok, content, Lay, bottom, Agree}
use Rattle.machine.proofs.Agree.MidwayRead.{space_low, space_high}
use Rattle.std.proofs.lemmas.List.{map-set}

-- ---- the machine's tables have this form
pub entered_moved : (pa ra : ℕ → ℕ) (o : State) (t : Table) (i : ℕ) (m : Marks) (pd : Option Making) (pl : Place) → task_at t i ≡ at_task pa ra (o.tasks i)
    → moved_table t i m (at_pending pa pd) (at_place pa ra pl) ≡ entered t m i (at_task pa ra (goes_with (o.tasks i) pd pl))
unfolding moved_table
entered_moved pa ra o t i m pd pl e = rw e

pub entered_place : (pa ra : ℕ → ℕ) (o : State) (t : Table) (i : ℕ) (pl : Place) → task_at t i ≡ at_task pa ra (o.tasks i)
    → with_place t i (at_place pa ra pl) ≡ entered t t.marks i (at_task pa ra (goes (o.tasks i) pl))
unfolding with_place with_task
entered_place pa ra o t i pl e = rw e

pub entered_register : (pa ra : ℕ → ℕ) (o : State) (t : Table) (i r : ℕ) (x : Primary) → task_at t i ≡ at_task pa ra (o.tasks i)
    → with_register t i r (at_primary pa x)
    ≡ entered t t.marks i (at_task pa ra (entry (set (o.tasks i).regs r x) (o.tasks i).pending (o.tasks i).storing (o.tasks i).place))
unfolding with_register with_task
entered_register pa ra o t i r x e = rw (e, map-set (at_primary pa) (o.tasks i).regs r x)

pub entered_ended : (pa ra : ℕ → ℕ) (o : State) (t : Table) (i : ℕ) (m : Marks) (pd : Option Making) → task_at t i ≡ at_task pa ra (o.tasks i)
    → ended_table t i m (at_pending pa pd) ≡ entered t m i (at_task pa ra (ended_entry (o.tasks i).regs pd))
entered_ended pa ra o t i m None e = rw e
entered_ended pa ra o t i m (Some d) e = rw e (on (eqb d.filled d.len))
  where
    on : (b : Bool) →
        entered t m i (pick b (entry (set (map (at_primary pa) (o.tasks i).regs) d.register (at_primary pa d.at)) None None Idle) (entry (map (at_primary pa) (o.tasks i).regs) (pending_with (at_primary pa d.at) d.register d.len d.filled) None Idle))
        ≡ entered t m i (at_task pa ra (pick b (entry (set (o.tasks i).regs d.register d.at) None None Idle) (entry (o.tasks i).regs (Some d) None Idle)))
    on true = rw (map-set (at_primary pa) (o.tasks i).regs d.register d.at)
    on false = refl

-- ---- limits of the spaces
pub bounds : (upper : Bool) (h : ℕ) → (2 ≤ bottom_of upper h) × (end_of upper h ≡ bottom_of upper h + h) × (end_of upper h ≤ 2 + 2 * h)
unfolding end_of
bounds upper h = (space_low upper h, refl, space_high upper h)

-- ---- jobs
abbrev pub jobs : (ℕ → Task) → ℕ → ℕ
jobs ts i = jobs_in (holding_of (ts i).place)

jobs_entered : (ts : ℕ → Task) (p i : ℕ) (e : Task) (j j' : ℕ) → i < p → j ≡ sum_to p (jobs ts) → j' + jobs ts i ≡ j + jobs_in (holding_of e.place)
    → j' ≡ sum_to p (jobs (upd ts i e))
jobs_entered ts p i e j j' l h k =
    let f : Task → ℕ = λ c. jobs_in (holding_of c.place) in
    let a : jobs (upd ts i e) i ≡ jobs_in (holding_of e.place) = ap f (upd_same ts i e) in
    omega (arith, sum_to_at p i (jobs (upd ts i e)) (jobs ts) l (λ u d. ap f (upd_other ts i e u d)))

-- a job in hand is counted
pub job_counted : {K : ℕ → Type 0} {pa ra : ℕ → ℕ} {o : State} {t : Table} {ws : List ℕ} → Agree K pa ra o t ws → (i : ℕ) → i < t.limits.p
    → jobs_in (holding_of (o.tasks i).place) ≤ t.marks.j
job_counted {o = o} {t = t} k i l = omega (arith, sum_to_part t.limits.p i (jobs o.tasks) l, k.marked.jobs)

-- ---- what shows that table and words agree after the change
tasks_entered : (f : Task → Task) (ts : ℕ → Task) (es : List Task) (i : ℕ) (e : Task) → length es ≡ 8 → i < 8 → ((u : ℕ) → u < 8 → get_or es u no_task ≡ f (ts u))
    → (u : ℕ) → u < 8 → get_or (set es i (f e)) u no_task ≡ f (upd ts i e u)
tasks_entered f ts es i e n l h u m = on (ℕ_discrete u i)
  where
    on : Dec (u ≡ i) → get_or (set es i (f e)) u no_task ≡ f (upd ts i e u)
    on (yes q) = rw q (get_or-set_same es i (f e) no_task (omega arith) ∙ ap f (sym (upd_same ts i e)))
    on (no q) = get_or-set_other es i u (f e) no_task q ∙ h u m ∙ ap f (sym (upd_other ts i e u q))

-- objects o become these, with the entry e for task i, at the addresses pa and ra; the marks m, the words ws
pub record Entering (K : ℕ → Type 0) (o : State) (t : Table) (words i : ℕ) (e : Task) (pa ra : ℕ → ℕ) (sh : Shape) (prim rep : ℕ → ℕ → ℕ) (has : ℕ → ℕ → Bool)
    (hd : ℕ → Hd) (stack : List ℕ) (m : Marks) (ws : List ℕ) : Type 0 where
  pub size : length ws ≡ words
  pub based : bottom t ≤ m.a
  pub free : m.a + m.j ≤ m.top
  pub stacked : m.top + length stack ≡ end t
  pub jobs : m.j + jobs_in (holding_of (o.tasks i).place) ≡ t.marks.j + jobs_in (holding_of e.place)
  pub copies : m.copies ≤ t.limits.h
  pub owed : t.on ≡ true → bottom t + m.copies + sum_to (suc sh.n) (λ x. owes (hd x)) ≤ m.a
  pub lay : Lay K sh hd pa ra (bottom t) m.a (end t) words
  pub mem : Holds (addr pa ra) (Ok K sh hd has m.top (end t)) (content sh pa ra hd prim rep stack m.top) [] ws
  pub roots : t.roots ≡ map (at_primary pa) o.roots
  pub tasks : (u : ℕ) → u < 8 → task_at t u ≡ at_task pa ra (o.tasks u)

pub enter : {K : ℕ → Type 0} {pa₀ ra₀ : ℕ → ℕ} {o : State} {t : Table} {ws₀ : List ℕ} {i : ℕ} {e : Task} {pa ra : ℕ → ℕ} {sh : Shape} {prim rep : ℕ → ℕ → ℕ}
    {has : ℕ → ℕ → Bool} {hd : ℕ → Hd} {stack : List ℕ} {m : Marks} {ws : List ℕ} → Agree K pa₀ ra₀ o t ws₀ → i < t.limits.p
    → Entering K o t (length ws₀) i e pa ra sh prim rep has hd stack m ws
    → Agree K pa ra (state sh prim rep has hd stack (upd o.tasks i e) o.roots o.on o.snap) (entered t m i (at_task pa ra e)) ws
enter {K} {pa₀} {ra₀} {o} {t} {ws₀} {i} {e} {pa} {ra} {sh} {prim} {rep} {has} {hd} {stack} {m} {ws} k l n = record {
  sized = rw n.size k.sized;
  living = k.living;
  on = k.on;
  marked = record {
    based = n.based;
    free = n.free;
    stack = n.stacked;
    jobs = jobs_entered o.tasks t.limits.p i e t.marks.j m.j l k.marked.jobs n.jobs;
    copies = n.copies;
    owed = n.owed;
  };
  lay = rw n.size n.lay;
  mem = n.mem;
  roots = n.roots;
  eight = length-set t.tasks i (at_task pa ra e) ∙ k.eight;
  tasks = tasks_entered (at_task pa ra) o.tasks t.tasks i e k.eight (omega (arith, k.sized.limited.p_high)) n.tasks;
}

-- ---- nothing but the entry changes
pub moves_agree : {K : ℕ → Type 0} {pa ra : ℕ → ℕ} {o : State} {t : Table} {ws : List ℕ} → Inv K t.limits.p t.limits.s o → Agree K pa ra o t ws
    → (i : ℕ) → i < t.limits.p → (e : Task) (j : ℕ)
    → j + jobs_in (holding_of (o.tasks i).place) ≡ t.marks.j + jobs_in (holding_of e.place) → j ≤ t.marks.j
    → Agree K pa ra (moves o i e) (entered t (marks_at t.marks.a t.marks.top j t.marks.copies) i (at_task pa ra e)) ws
moves_agree v k i l e j q d = enter k l record {
  size = refl;
  based = k.marked.based;
  free = omega (arith, k.marked.free);
  stacked = k.marked.stack;
  jobs = q;
  copies = k.marked.copies;
  owed = k.marked.owed;
  lay = k.lay;
  mem = k.mem;
  roots = k.roots;
  tasks = k.tasks;
}
