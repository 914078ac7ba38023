-- The end of an instruction, with the switch-over where it is due.
use Rattle.std.specs.Prelude.{ℕ, ◌≤◌, ◌≡◌, List, Bool, length, Option}
use Rattle.std.proofs.Math.Path.{refl, sym}
use Rattle.std.proofs.Common.{◌∙◌}
use Rattle.std.proofs.Math.Logic.{inr}
use Rattle.std.proofs.Math.Bool.{true, false}
use Rattle.table.specs.declared.Limits.{Limits}
use Rattle.table.specs.declared.Marks.{Marks}
use Rattle.table.specs.declared.Making.{Making}
use Rattle.table.specs.declared.Place.{Place}
use Rattle.table.specs.declared.Table.{Table}
use Rattle.table.specs.declared.Answer.{Answer}
use Rattle.machine.specs.Basics.{pick}
use Rattle.machine.specs.Words.{end_of}
use Rattle.machine.specs.Entries.{task_at, out, ends}
use Rattle.machine.specs.Tasks.{grey_of, all_idle}
use Rattle.machine.specs.Switch.{switched, switch_of, switch_due, ended_table, finish_of}
use Rattle.machine.specs.StillStore.{Store, happen_all}
use Rattle.machine.specs.Kinds.{step_kinds}
use Rattle.machine.proofs.Objects.Base.{off_on}
use Rattle.machine.proofs.Objects.State.{State}
use Rattle.machine.proofs.Objects.Inv.{Inv}
use Rattle.machine.proofs.Objects.Ops.{switches}
use Rattle.machine.proofs.Objects.Final.{final}
use Rattle.machine.proofs.Objects.SwitchInv.{switch_inv}
use Rattle.machine.proofs.Agree.Agree.{Agree, bottom}
use Rattle.machine.proofs.Agree.Home.{Home}
use Rattle.machine.proofs.Agree.Search.{not_grey, all_idle_lem}
use Rattle.machine.proofs.Agree.SwitchWords.{switch_is, switch_agree, switch_home}
use Rattle.machine.proofs.Beside.Still.{Still}
use Rattle.machine.proofs.Beside.StillLaws.{still_shape}
use Rattle.machine.specs.History.{Copy, History, with_copy, with_copies}
use Rattle.machine.proofs.Beside.Collecting.{Collecting, Exact}
use Rattle.machine.proofs.Beside.Histories.{as_it_was, off_stays, history_is}
use Rattle.machine.proofs.Beside.Exactly.{counted, exact_of}
use Rattle.machine.proofs.Beside.Good.{Good, Fine, Comes}

-- what a due switch-over has seen
pub due : (u : Table) → switch_due u ≡ true
    → (u.on ≡ true) × (grey_of u.marks (end_of u.upper u.limits.h) u.tasks u.limits.p ≡ false) × (all_idle u.tasks u.limits.p ≡ true)
unfolding switch_due
due u e = on u.on refl (grey_of u.marks (end_of u.upper u.limits.h) u.tasks u.limits.p) refl e
  where
    on : (a : Bool) → u.on ≡ a → (b : Bool) → grey_of u.marks (end_of u.upper u.limits.h) u.tasks u.limits.p ≡ b
        → pick a (pick b false (all_idle u.tasks u.limits.p)) false ≡ true
        → (u.on ≡ true) × (grey_of u.marks (end_of u.upper u.limits.h) u.tasks u.limits.p ≡ false) × (all_idle u.tasks u.limits.p ≡ true)
    on true a true b e = off_on e
    on true a false b e = (a, b, e)
    on false a true b e = off_on e
    on false a false b e = off_on e

pub known_of : {K : ℕ → Type 0} {p s : ℕ} {o : State} → Inv K p s o → o.on ≡ true → o.snap.n ≤ o.shape.n
known_of inv live = let c = rw live at inv.mode in c.known

pub still_switches : (o : State) {w : Store} → Still o.shape o.prim o.tasks o.roots w
    → Still (switches o).shape (switches o).prim (switches o).tasks (switches o).roots w
still_switches o k = still_shape (switches o).shape o.prim k refl (λ x z m q. record { len = q.len; ptr = q.ptr; fill = q.fill; slots = q.slots })

module _ {l : Limits} {w : Store} {hy : History} {t : Table} {ws : List ℕ} (g : Good l w hy t ws) (i : ℕ) (before : Place) (X : Type 0) where
  -- the action left the objects o, the words ws' and the marks m; the store is w', and cs are the copies since the flip
  pub finishes : (K : ℕ → Type 0) (pa ra : ℕ → ℕ) (o : State) (ws' : List ℕ) (m : Marks) (pending : Option Making) (x : Answer) (w' : Store) → Fine t before x
      → ((after : Place) → happen_all w i (step_kinds x before after) ≡ w') → Inv K t.limits.p t.limits.s o → Agree K pa ra o (ended_table t i m pending) ws'
      → (o.on ≡ false → Home K pa o.shape (bottom t) m.a) → Still o.shape o.prim o.tasks o.roots w'
      → (cs : List Copy) → with_copy before x hy.copies ≡ cs → (o.on ≡ true → Collecting K pa o (ended_table t i m pending) (with_copies hy cs))
      → (o.on ≡ false → Exact (with_copies hy cs) × (m.copies ≡ length cs)) → Comes l w hy t ws i before X (finish_of t ws' i m pending x)
  unfolding finish_of
  finishes K pa ra o ws' m pending x w' und kinds inv agree home still cs quiet col off = on (switch_due (ended_table t i m pending)) refl
    where
      on : (b : Bool) → switch_due (ended_table t i m pending) ≡ b
          → Comes l w hy t ws i before X (ends (pick b (switch_of t (ended_table t i m pending) ws' x) (out (ended_table t i m pending) x)) ws')
      on false e =
          inr (
            rw (history_is t ws before (ends (out (ended_table t i m pending) x) ws') hy cs (as_it_was t.on) quiet, kinds (task_at (ended_table t i m pending) i).place)
                (record {
                  kept = K;
                  pa = pa;
                  ra = ra;
                  objects = o;
                  limits = g.limits;
                  long = g.long;
                  inv = inv;
                  agree = agree;
                  home = home;
                  still = still;
                  collecting = col;
                  awake = λ f. e;
                  collected = off;
                }),
            und,
          )
      on true e =
          let d = due (ended_table t i m pending) e in
          let h = not_grey agree inv d.1 in
          let idle = all_idle_lem agree inv d.2 in
          let live = sym agree.on ∙ d.0 in
          let done = final inv live h.0 h.1 h.2 in
          rw (switch_is inv agree live idle done h.0 t x)
          (inr (
            rw (
              history_is t ws before (ends (out (switched (ended_table t i m pending) ws') x) ws') hy cs (off_stays t.on false refl) quiet,
              kinds (task_at (switched (ended_table t i m pending) ws') i).place,
            )
                (record {
                  kept = K;
                  pa = ra;
                  ra = ra;
                  objects = switches o;
                  limits = g.limits;
                  long = g.long;
                  inv = switch_inv inv idle;
                  agree = switch_agree inv agree live idle done h.0;
                  home = λ f. switch_home inv agree live idle done h.0;
                  still = still_switches o still;
                  collecting = λ f. off_on f;
                  awake = λ f. off_on f;
                  collected = λ f. (exact_of agree (col live) (known_of inv live) done, counted agree (col live) (known_of inv live));
                }),
            und,
          ))
