-- Nobody in between: what a call makes of the entries of tasks that it does not name, and of those tasks in the store.
use Rattle.std.specs.Prelude.{ℕ, zero, suc, ◌≡◌, refl, ◌≢◌, ◌⊎◌, List, [], ◌∷◌, length, get_or, set}
use Rattle.std.proofs.Common.{ap, ◌∙◌, inl, inr, length-set, get_or-set_other}
use Rattle.table.specs.declared.Place.{Place}
use Rattle.table.specs.declared.Task.{Task}
use Rattle.table.specs.declared.Table.{Table}
use Rattle.table.specs.declared.Answer.{Answer}
use Rattle.table.specs.declared.Answer.TheVariants.{Accepted, Done}
use Rattle.table.specs.declared.Outcome.{Outcome}
use Rattle.machine.specs.Basics.{first_of}
use Rattle.machine.specs.Entries.{no_task, task_at, Ends}
use Rattle.machine.specs.Switch.{new_entry}
use Rattle.machine.specs.Flip.{unasked_entry}
use Rattle.machine.specs.Call.{Call}
use Rattle.machine.specs.Calls.{call}
use Rattle.machine.specs.StillStore.{Store, Doing, resting, making, filling, storing, Kind, Made, Filled, Written, Ended, owner, owner_at, makes, fills, writes, happens, happen_all, accepted, task_of, told}
use Rattle.machine.specs.Kinds.{follows}
use Rattle.machine.proofs.Beside.Changes.{Answered, stayed, entered, move_entries, clear_entries, put_entries, get_entries, same_entries, load_entries, report_entries, new_entries, fill_entries, fill_pointer_entries, store_entries, store_pointer_entries}
use Rattle.machine.proofs.Beside.StepChanges.{Stepped, stands, goes, flips, switches}
use Rattle.machine.proofs.Beside.Fair.{step_entries}
use Rattle.machine.specs.Beside.Others.{Untouched}
use Rattle.machine.proofs.Agree.Rows.{length_first}

-- ---- the first n made new
pub first_at : {A : Type 0} (n : ℕ) (new : A → A) (l : List A) (u : ℕ) (d : A)
    → (get_or (first_of n new l) u d ≡ get_or l u d) ⊎ (get_or (first_of n new l) u d ≡ new (get_or l u d))
unfolding first_of
first_at zero new l u d = inl refl
first_at (suc n) new [] u d = inl refl
first_at (suc n) new (x ∷ l) zero d = inr refl
first_at (suc n) new (x ∷ l) (suc u) d = first_at n new l u d

-- ---- the number of entries stays
answered_long : (b : Answer → ℕ) (t : Table) (i : ℕ) (o : Outcome) → Answered b t i o → length o.table.tasks ≡ length t.tasks
answered_long b t i o (stayed e a z) = ap length e
answered_long b t i o (entered x e a z) = ap length e ∙ length-set t.tasks i x

stepped_long : (t : Table) (i : ℕ) (before : Place) (f : Ends) → Stepped t i before f → length f.out.table.tasks ≡ length t.tasks
stepped_long t i before f (stands e a z) = ap length e
stepped_long t i before f (goes x e a z) = ap length e ∙ length-set t.tasks i x
stepped_long t i before f (flips a b e z) = ap length e ∙ length_first t.limits.p unasked_entry t.tasks
stepped_long t i before f (switches x a b e z) =
    ap length e ∙ length_first t.limits.p (new_entry f.words t.limits.s) (set t.tasks i x) ∙ length-set t.tasks i x

-- every call is answered at once, or is a step
pub data Changed (c : Call) (t : Table) (f : Ends) : Type 0 where
  answered : (b : Answer → ℕ) → Answered b t (task_of c) f.out → Changed c t f
  stepped : c ≡ Call.Step (task_of c) → Stepped t (task_of c) (task_at t (task_of c)).place f → Changed c t f

pub changed : (c : Call) (t : Table) (ws : List ℕ) → Changed c t (call c t ws)
changed (Call.New task r len m) t ws = answered _ (new_entries t ws task r len m)
changed (Call.Fill task w) t ws = answered _ (fill_entries t ws task w)
changed (Call.FillPointer task r) t ws = answered _ (fill_pointer_entries t ws task r)
changed (Call.Load task to from slot) t ws = answered _ (load_entries t ws task to from slot)
changed (Call.Store task o slot w) t ws = answered _ (store_entries t ws task o slot w)
changed (Call.StorePointer task o slot r) t ws = answered _ (store_pointer_entries t ws task o slot r)
changed (Call.Move task to from) t ws = answered _ (move_entries t ws task to from)
changed (Call.Clear task r) t ws = answered _ (clear_entries t ws task r)
changed (Call.Same task a b) t ws = answered _ (same_entries t ws task a b)
changed (Call.Put task root r) t ws = answered _ (put_entries t ws task root r)
changed (Call.Get task r root) t ws = answered _ (get_entries t ws task r root)
changed (Call.Step task) t ws = stepped refl (step_entries t ws task)
changed Call.Report t ws = answered _ (report_entries t ws 0)

pub entries_long : (c : Call) (t : Table) (ws : List ℕ) → length (call c t ws).out.table.tasks ≡ length t.tasks
entries_long c t ws = on (changed c t ws)
  where
    on : Changed c t (call c t ws) → length (call c t ws).out.table.tasks ≡ length t.tasks
    on (answered b q) = answered_long b t (task_of c) _ q
    on (stepped s q) = stepped_long t (task_of c) _ _ q

answered_other : (b : Answer → ℕ) (t : Table) (i : ℕ) (o : Outcome) (u : ℕ) → u ≢ i → Answered b t i o → task_at o.table u ≡ task_at t u
answered_other b t i o u d (stayed e a z) = ap (λ l. get_or l u no_task) e
answered_other b t i o u d (entered x e a z) = ap (λ l. get_or l u no_task) e ∙ get_or-set_other t.tasks i u x no_task d

module _ (c : Call) (t : Table) (f : Ends) (u : ℕ) (d : u ≢ task_of c) where
  -- the entries as a flip, or as a switch-over, leaves them
  flipped_at : f.out.table.tasks ≡ first_of t.limits.p unasked_entry t.tasks
      → (task_at f.out.table u ≡ task_at t u) ⊎ (task_at f.out.table u ≡ unasked_entry (task_at t u))
  flipped_at e = rw e (first_at t.limits.p unasked_entry t.tasks u no_task)

  switched_at : (x : Task) → f.out.table.tasks ≡ first_of t.limits.p (new_entry f.words t.limits.s) (set t.tasks (task_of c) x)
      → (task_at f.out.table u ≡ task_at t u) ⊎ (task_at f.out.table u ≡ new_entry f.words t.limits.s (task_at t u))
  switched_at x e =
      rw (e, ← (get_or-set_other t.tasks (task_of c) u x no_task d))
      (first_at t.limits.p (new_entry f.words t.limits.s) (set t.tasks (task_of c) x) u no_task)

  stepped_other : (before : Place) → c ≡ Call.Step (task_of c) → Stepped t (task_of c) before f → Untouched c t f u
  stepped_other before s (stands e a z) = inl (ap (λ l. get_or l u no_task) e)
  stepped_other before s (goes x e a z) = inl (ap (λ l. get_or l u no_task) e ∙ get_or-set_other t.tasks (task_of c) u x no_task d)
  stepped_other before s (flips a b e z) = on (flipped_at e)
    where
      on : (task_at f.out.table u ≡ task_at t u) ⊎ (task_at f.out.table u ≡ unasked_entry (task_at t u)) → Untouched c t f u
      on (inl q) = inl q
      on (inr q) = inr (inl (s, a, b, q))
  stepped_other before s (switches x a b e z) = on (switched_at x e)
    where
      on : (task_at f.out.table u ≡ task_at t u) ⊎ (task_at f.out.table u ≡ new_entry f.words t.limits.s (task_at t u)) → Untouched c t f u
      on (inl q) = inl q
      on (inr q) = inr (inr (s, a, b, q))

  changed_other : Changed c t f → Untouched c t f u
  changed_other (answered b q) = inl (answered_other b t (task_of c) f.out u d q)
  changed_other (stepped s q) = stepped_other (task_at t (task_of c)).place s q

pub others : (c : Call) (t : Table) (ws : List ℕ) (u : ℕ) → u ≢ task_of c → Untouched c t (call c t ws) u
others c t ws u d = changed_other c t (call c t ws) u d (changed c t ws)

pub renamed_keeps : (ws : List ℕ) (s : ℕ) (e : Task) → ((new_entry ws s e).storing ≡ e.storing) × ((new_entry ws s e).place ≡ e.place)
unfolding new_entry
renamed_keeps ws s e = (refl, refl)

-- ---- the store's task u
made_other : (w : Store) (i : ℕ) (d : Doing) (u : ℕ) → u ≢ i → owner_at (makes w i d) u ≡ owner_at w u
made_other w i resting u h = refl
made_other w i (making r len m) u h = get_or-set_other w.owners i u _ (owner [] 0 0 resting) h
made_other w i (filling v) u h = refl
made_other w i (storing x slot v) u h = refl

filled_other : (w : Store) (i : ℕ) (d : Doing) (u : ℕ) → owner_at (fills w i d) u ≡ owner_at w u
filled_other w i resting u = refl
filled_other w i (making r len m) u = refl
filled_other w i (filling v) u = refl
filled_other w i (storing x slot v) u = refl

written_other : (w : Store) (i : ℕ) (d : Doing) (u : ℕ) → owner_at (writes w i d) u ≡ owner_at w u
written_other w i resting u = refl
written_other w i (making r len m) u = refl
written_other w i (filling v) u = refl
written_other w i (storing x slot v) u = refl

happens_other : (w : Store) (i : ℕ) (k : Kind) (u : ℕ) → u ≢ i → owner_at (happens w i k) u ≡ owner_at w u
happens_other w i Made u h = made_other w i (owner_at w i).doing u h
happens_other w i Filled u h = filled_other w i (owner_at w i).doing u
happens_other w i Written u h = written_other w i (owner_at w i).doing u
happens_other w i Ended u h = get_or-set_other w.owners i u _ (owner [] 0 0 resting) h

pub happen_others : (w : Store) (i : ℕ) (ks : List Kind) (u : ℕ) → u ≢ i → owner_at (happen_all w i ks) u ≡ owner_at w u
unfolding happen_all
happen_others w i [] u h = refl
happen_others w i (k ∷ ks) u h = happen_others (happens w i k) i ks u h ∙ happens_other w i k u h

accepted_other : (w : Store) (c : Call) (u : ℕ) → u ≢ task_of c → owner_at (accepted w c) u ≡ owner_at w u
accepted_other w (Call.New task r len m) u h = get_or-set_other w.owners task u _ (owner [] 0 0 resting) h
accepted_other w (Call.Fill task v) u h = get_or-set_other w.owners task u _ (owner [] 0 0 resting) h
accepted_other w (Call.FillPointer task r) u h = get_or-set_other w.owners task u _ (owner [] 0 0 resting) h
accepted_other w (Call.Load task to from slot) u h = get_or-set_other w.owners task u _ (owner [] 0 0 resting) h
accepted_other w (Call.Store task o slot v) u h = get_or-set_other w.owners task u _ (owner [] 0 0 resting) h
accepted_other w (Call.StorePointer task o slot r) u h = get_or-set_other w.owners task u _ (owner [] 0 0 resting) h
accepted_other w (Call.Move task to from) u h = get_or-set_other w.owners task u _ (owner [] 0 0 resting) h
accepted_other w (Call.Clear task r) u h = get_or-set_other w.owners task u _ (owner [] 0 0 resting) h
accepted_other w (Call.Get task r root) u h = get_or-set_other w.owners task u _ (owner [] 0 0 resting) h
accepted_other w _ u h = refl

told_other : (w : Store) (c : Call) (x : Answer) (ks : List Kind) (u : ℕ) → u ≢ task_of c → owner_at (told w c x ks) u ≡ owner_at w u
told_other w c Accepted ks u h = happen_others (accepted w c) (task_of c) ks u h ∙ accepted_other w c u h
told_other w c Done ks u h = happen_others (accepted w c) (task_of c) ks u h ∙ accepted_other w c u h
told_other w c _ ks u h = happen_others w (task_of c) ks u h

pub others_still : (w : Store) (c : Call) (e f : Ends) (u : ℕ) → u ≢ task_of c → owner_at (follows w c e f) u ≡ owner_at w u
others_still w c e f u h = told_other w c f.out.answer _ u h
