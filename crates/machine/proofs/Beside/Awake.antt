-- The switch-over is not due while something is grey or a task is busy: what registers and begins make of that.
use Rattle.std.specs.Prelude.{ℕ, zero, suc, ◌≡◌, refl, List, [], ◌∷◌, Bool, true, false, get_or, set, take, ltb, Option, Some, None}
use Rattle.std.proofs.Common.{ap, sym, ◌∙◌, arith, le-ltb, ltb-false}
use Rattle.table.specs.declared.Sought.{Sought}
use Rattle.table.specs.declared.Sought.TheVariants.{Claiming, Busy}
use Rattle.table.specs.declared.Marks.{Marks}
use Rattle.table.specs.declared.Primary.{Primary}
use Rattle.table.specs.declared.Place.{Place}
use Rattle.table.specs.declared.Task.{Task}
use Rattle.table.specs.declared.Table.{Table}
use Rattle.machine.specs.Basics.{pick}
use Rattle.machine.specs.Entries.{no_task, task_at, entered, with_roots}
use Rattle.machine.specs.Begin.{held_at}
use Rattle.machine.specs.Tasks.{holding_of, claims_of, sought_of, sought_task, lowest_of, seek_of, is_found, some, grey_of, closing_of, held_of}
use Rattle.machine.specs.Switch.{switch_due}
use Rattle.machine.proofs.Objects.Base.{off_on}
use Rattle.table.specs.declared.Holding.{Holding}
use Rattle.table.specs.declared.Holding.TheVariants.{Claim, Both}
use Rattle.machine.proofs.Objects.State.{State, ClaimIn, HasClaim}
use Rattle.machine.proofs.Agree.Holdings.{at_holding, holding_at}
use Rattle.machine.proofs.Agree.Search.{found_is}
use Rattle.machine.specs.Agree.Agree.{end}
use Rattle.machine.proofs.Agree.Agree.{Agree}
use Rattle.machine.proofs.Agree.Read.{stack_empty}

-- a search looks at places alone
lowest_same : (test : ℕ → Task → Bool) (p : ℕ) (ts : List Task) (i n : ℕ) (e : Task) → ((m : ℕ) → test m e ≡ test m (get_or ts i no_task))
    → lowest_of test (take p (set ts i e)) n ≡ lowest_of test (take p ts) n
unfolding lowest_of
lowest_same test zero ts i n e f = refl
lowest_same test (suc p) [] i n e f = refl
lowest_same test (suc p) (x ∷ ts) zero n e f = ap (λ (b : Bool). pick b (Some n) (lowest_of test (take p ts) (suc n))) (f n)
lowest_same test (suc p) (x ∷ ts) (suc i) n e f = ap (λ (z : Option ℕ). pick (test n x) (Some n) z) (lowest_same test p ts i (suc n) e f)

pub seek_same : (ts : List Task) (p i : ℕ) (e : Task) (w : Sought) → e.place ≡ (get_or ts i no_task).place → seek_of (set ts i e) p w ≡ seek_of ts p w
unfolding seek_of
seek_same ts p i e w q = lowest_same (sought_task w) p ts i 0 e (λ m. ap (λ (pl : Place). sought_of w m (holding_of pl)) q)

-- an entry at the same place, and the same marks
pub due_same : (t : Table) (i : ℕ) (e : Task) → e.place ≡ (task_at t i).place → switch_due (entered t t.marks i e) ≡ switch_due t
unfolding switch_due grey_of
due_same t i e q = rw (seek_same t.tasks t.limits.p i e Claiming q, seek_same t.tasks t.limits.p i e Busy q) refl

-- other roots
pub due_roots : (t : Table) (roots : List Primary) → switch_due (with_roots t roots) ≡ switch_due t
unfolding switch_due
due_roots t roots = refl

-- nothing grey, and the heap not closing: the switch-over is due
pub closed_due : {K : ℕ → Type 0} {pa ra : ℕ → ℕ} {o : State} {t : Table} {ws : List ℕ} → Agree K pa ra o t ws → t.on ≡ true → held_at t ≡ false
    → grey_of t.marks (end t) t.tasks t.limits.p ≡ false → switch_due t ≡ true
unfolding switch_due held_of closing_of
closed_due {t = t} k on held grey =
    let b : some t.tasks t.limits.p Busy ≡ false = rw (on, grey) at held in
    rw (on, grey, b) refl

-- nothing grey: no job in hand
pub grey_jobs : (m : Marks) (fin : ℕ) (ts : List Task) (p : ℕ) → grey_of m fin ts p ≡ false → m.j ≡ 0
unfolding grey_of
grey_jobs m fin ts p e = on (ltb m.top fin) (ltb 0 m.j) refl e
  where
    on : (a b : Bool) → ltb 0 m.j ≡ b → pick a true (pick b true (some ts p Claiming)) ≡ false → m.j ≡ 0
    on true b q e = off_on (sym e)
    on false true q e = off_on (sym e)
    on false false q e = omega (arith, ltb-false 0 m.j q)

-- a claim in the table is one of an object
claim_back : (pa : ℕ → ℕ) (h : Holding) → claims_of (at_holding pa h) ≡ true → (x : ℕ) × ClaimIn h x
claim_back pa (Claim p) e = (p.0, refl)
claim_back pa (Both p job) e = (p.0, refl)
claim_back pa _ e = off_on e

-- an empty stack, no job and no claim: nothing is grey
pub grey_none : {K : ℕ → Type 0} {pa ra : ℕ → ℕ} {o : State} {t : Table} {ws : List ℕ} → Agree K pa ra o t ws → o.stack ≡ [] → t.marks.j ≡ 0
    → ((u x : ℕ) → HasClaim (o.tasks u) x → ⊥) → grey_of t.marks (end t) t.tasks t.limits.p ≡ false
unfolding grey_of sought_of
grey_none {pa = pa} {ra = ra} {o = o} {t = t} k es ej free =
    rw (le-ltb t.marks.top (end t) (omega (arith, stack_empty k es)), le-ltb 0 t.marks.j (omega arith)) (on (seek_of t.tasks t.limits.p Claiming) refl)
  where
    on : (f : Option ℕ) → seek_of t.tasks t.limits.p Claiming ≡ f → is_found f ≡ false
    on None e = refl
    on (Some q) e =
        let f = found_is t.tasks t.limits.p Claiming q e in
        let p = k.tasks q (omega (arith, f.0, k.sized.limited.p_high)) in
        let c : claims_of (holding_of (task_at t q).place) ≡ true = f.1 in
        let d : claims_of (at_holding pa (holding_of (o.tasks q).place)) ≡ true =
        sym (ap claims_of (ap (λ (z : Task). holding_of z.place) p ∙ holding_at pa ra (o.tasks q).place)) ∙ c in
        let r = claim_back pa (holding_of (o.tasks q).place) d in
        absurd (free q r.0 r.1)
