-- Nothing grey: every kept object is placed, with nothing left to copy.
use Rattle.std.specs.Prelude.{ℕ, zero, suc, ◌≤◌, ◌<◌, ◌≡◌, refl, ◌⊎◌, [], true}
use Rattle.std.proofs.Common.{inl, inr, arith}
use Rattle.std.proofs.Math.Decide.{dec_lt}
use Rattle.table.specs.declared.Holding.{Holding}
use Rattle.table.specs.declared.Holding.TheVariants.{Job, Both}
use Rattle.machine.specs.Tasks.{holding_of}
use Rattle.machine.proofs.Objects.State.{Hd, white, claimed, count, locked, State, IsSeen, left, JobIn, HasClaim, jobs_in, Late}
use Rattle.machine.proofs.Objects.Inv.{Reach, from, edge, Colours, Inv}

-- a job counts
pub job_counts : (h : Holding) (x i : ℕ) → JobIn h x i → jobs_in h ≡ 1
job_counts (Job job) x i j = refl
job_counts (Both p job) x i j = refl
job_counts _ x i j = absurd j

-- what the snapshot leads to was seen: by induction on the way there, since no slot on it is still to be copied
pub final : {K : ℕ → Type 0} {p s : ℕ} {o : State} → Inv K p s o → o.on ≡ true → o.stack ≡ [] → ((t : ℕ) → t < p → jobs_in (holding_of (o.tasks t).place) ≡ 0)
    → ((t x : ℕ) → t < p → HasClaim (o.tasks t) x → ⊥) → (x : ℕ) → K x → x ≤ o.shape.n → o.hd x ≡ count 0
final {K} {p} {s} {o} v on empty jobs claims x kx l = all (dec_lt o.snap.n x)
  where
    c : Colours K o.shape o.snap o.hd o.prim o.rep o.has o.stack (Late o.tasks)
    c = rw on at v.mode

    done : (x : ℕ) (h : Hd) → o.hd x ≡ h → IsSeen h → h ≡ count 0
    done x white e q = absurd q
    done x (claimed t) e q = let m = v.owners.claimer x t e in absurd (claims t x m.0 m.4)
    done x (count zero) e q = refl
    done x (count (suc a)) e q = absurd (rw empty at (c.grey x a e))
    done x (locked i t) e q =
        let m = v.owners.locker x i t e in absurd (omega (arith, jobs t m.0, job_counts (holding_of (o.tasks t).place) x i m.4))

    step : (x j : ℕ) → o.hd x ≡ count 0
        → IsSeen (o.hd (o.snap.slots x j)) ⊎ ((j < left (o.shape.len x) (o.hd x)) × (o.prim x j ≡ o.snap.slots x j) × (Late o.tasks x j → ⊥))
        → o.hd (o.snap.slots x j) ≡ count 0
    step x j e (inl q) = done (o.snap.slots x j) (o.hd (o.snap.slots x j)) refl q
    step x j e (inr m) = absurd (omega (arith, rw e at m.0))

    reached : {x : ℕ} → Reach o.shape o.snap x → o.hd x ≡ count 0
    reached {x} (from i) = done x (o.hd x) refl (c.roots x i)
    reached (edge {x} j r a b) = step x j (reached r) (c.saw x j a b)

    all : Dec (o.snap.n < x) → o.hd x ≡ count 0
    all (yes m) = c.newer x m
    all (no m) = reached (c.reached x kx (omega (arith, m)))
