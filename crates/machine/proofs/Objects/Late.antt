-- One entry changes: which Stores are late, and which are at Meet.
use Rattle.std.specs.Prelude.{ℕ, ◌≡◌}
use Rattle.std.proofs.Math.Decide.{ℕ_discrete}
use Rattle.table.specs.declared.Task.{Task}
use Rattle.machine.proofs.Objects.Base.{upd, upd_same, upd_other}
use Rattle.machine.proofs.Objects.State.{On, MeetsAt, LateAt, Meeting, Late}

-- of some task, before and after
pub some_after : (Q : Task → Type 0) (ts : ℕ → Task) (t : ℕ) (e : Task) → (Q (ts t) → Q e) → (u : ℕ) × Q (ts u) → (u : ℕ) × Q (upd ts t e u)
some_after Q ts t e f (u, q) = on (ℕ_discrete u t)
  where
    on : Dec (u ≡ t) → (w : ℕ) × Q (upd ts t e w)
    on (yes z) = (t, rw (upd_same ts t e) (f (rw z at q)))
    on (no z) = (u, rw (upd_other ts t e u z) q)

pub some_before : (Q : Task → Type 0) (ts : ℕ → Task) (t : ℕ) (e : Task) → (Q e → Q (ts t)) → (u : ℕ) × Q (upd ts t e u) → (u : ℕ) × Q (ts u)
some_before Q ts t e f (u, q) = on (ℕ_discrete u t)
  where
    on : Dec (u ≡ t) → (w : ℕ) × Q (ts w)
    on (yes z) = (t, f (rw (z, upd_same ts t e) at q))
    on (no z) = (u, rw (upd_other ts t e u z) at q)

abbrev pub LateOf : ℕ → ℕ → Task → Type 0
LateOf x j e = On e.storing x j × LateAt e.place

abbrev pub MeetingOf : ℕ → ℕ → Task → Type 0
MeetingOf x j e = On e.storing x j × MeetsAt e.place

pub late_after : (ts : ℕ → Task) (t : ℕ) (e : Task) (x j : ℕ) → (LateOf x j (ts t) → LateOf x j e) → Late ts x j → Late (upd ts t e) x j
late_after ts t e x j f (u, a, b) = let r = some_after (LateOf x j) ts t e f (u, (a, b)) in (r.0, r.1.0, r.1.1)

pub late_before : (ts : ℕ → Task) (t : ℕ) (e : Task) (x j : ℕ) → (LateOf x j e → LateOf x j (ts t)) → Late (upd ts t e) x j → Late ts x j
late_before ts t e x j f (u, a, b) = let r = some_before (LateOf x j) ts t e f (u, (a, b)) in (r.0, r.1.0, r.1.1)

pub meeting_after : (ts : ℕ → Task) (t : ℕ) (e : Task) (x j : ℕ) → (MeetingOf x j (ts t) → MeetingOf x j e) → Meeting ts x j → Meeting (upd ts t e) x j
meeting_after ts t e x j f (u, a, b) = let r = some_after (MeetingOf x j) ts t e f (u, (a, b)) in (r.0, r.1.0, r.1.1)
