-- A New makes an object: nothing referred to its number before, so the invariant is kept.
use Rattle.std.specs.Prelude.{ℕ, suc, ◌≤◌, ◌<◌, ◌≡◌, refl, ◌⊎◌, List, Bool, true, false, Option, Some, None}
use Rattle.std.proofs.Common.{sym, ◌∙◌, inl, inr, arith}
use Rattle.machine.specs.Entries.{pending_with}
use Rattle.table.specs.declared.Making.{Making}
use Rattle.table.specs.declared.Place.TheVariants.{New, Asked, Take}
use Rattle.table.specs.declared.Task.{Task}
use Rattle.machine.specs.Words.{primary, wanted}
use Rattle.machine.specs.Tasks.{holding_of}
use Rattle.machine.specs.Switch.{ended_entry}
use Rattle.machine.proofs.Objects.Base.{off_on, upd, upd_same, upd_other, at_one}
use Rattle.machine.proofs.Objects.State.{Hd, count, Shape, Snapshot, State, IsSeen, IsPlaced, IsUnplaced, left, root, pending_is, LateAt, MeetsAt, Meeting, Late}
use Rattle.machine.proofs.Objects.Inv.{Sound, Shapes, Colours, PendingOk, EntryOk, NewOk, PlaceOk, Mode, Inv}
use Rattle.machine.proofs.Objects.Ops.{goes_with, one_more, makes}
use Rattle.machine.proofs.Objects.Late.{late_after, late_before, meeting_after}
use Rattle.machine.proofs.Objects.SlotLaws.{Holdless, owners_inv, late_mode, join}
use Rattle.machine.proofs.Objects.FillLaws.{reach_keep}
use Rattle.machine.proofs.Objects.Ended.{EndedOk, ended_ok}
use Rattle.machine.proofs.Objects.MoveLaws.{or_right}

-- a task's pending object has been made
pending_made : (K : ℕ → Type 0) (sh : Shape) (hd : ℕ → Hd) (on : Bool) (d : Option Making) → PendingOk K sh hd on d → (a : ℕ) → pending_is d ≡ a → 0 < a → a ≤ sh.n
pending_made K sh hd on None o a z l = absurd (omega arith)
pending_made K sh hd on (Some d) o a z l = omega (arith, o.2)

-- ---- one object more
module _ (sh : Shape) (len m : ℕ) where
  -- of those made before nothing changes
  more_len : (a : ℕ) → a ≤ sh.n → (one_more sh len m).len a ≡ sh.len a
  more_len a l = upd_other sh.len (suc sh.n) len a (λ e. absurd (omega arith))

  more_ptr : (a : ℕ) → a ≤ sh.n → (one_more sh len m).ptr a ≡ sh.ptr a
  more_ptr a l = upd_other sh.ptr (suc sh.n) m a (λ e. absurd (omega arith))

  more_fill : (a : ℕ) → a ≤ sh.n → (one_more sh len m).fill a ≡ sh.fill a
  more_fill a l = upd_other sh.fill (suc sh.n) 0 a (λ e. absurd (omega arith))

  more_wrote : (a : ℕ) → a ≤ sh.n → (one_more sh len m).wrote a ≡ sh.wrote a
  more_wrote a l = upd_other sh.wrote (suc sh.n) 0 a (λ e. absurd (omega arith))

  more_sound : (K : ℕ → Type 0) (a : ℕ) → Sound K sh a → Sound K (one_more sh len m) a
  more_sound K a z = (z.0, omega (arith, z.1), more_fill a z.1 ∙ z.2 ∙ sym (more_len a z.1))

  more_shapes : {K : ℕ → Type 0} {s : ℕ} {prim : ℕ → ℕ → ℕ} {hd : ℕ → Hd} → Shapes K s sh prim hd → len ≤ s → m ≤ len → Shapes K s (one_more sh len m) prim hd
  more_shapes {K} {s} {prim} h a b = record {
    kept = h.kept;
    none = more_len 0 (omega arith) ∙ h.none;
    nil = h.nil;
    future = λ x l. let z = h.future x (omega arith) in (z.0, upd_other sh.len (suc sh.n) len x (λ e. absurd (omega arith)) ∙ z.1);
    low = at_one (suc sh.n) (λ x. x ≤ suc sh.n → (one_more sh len m).ptr x ≤ (one_more sh len m).len x)
        (λ l. omega (arith, upd_same sh.ptr (suc sh.n) m, upd_same sh.len (suc sh.n) len))
        (λ x q l. omega (arith, more_ptr x (omega arith), more_len x (omega arith), h.low x (omega arith)));
    high = at_one (suc sh.n) (λ x. x ≤ suc sh.n → (one_more sh len m).len x ≤ s) (λ l. omega (arith, upd_same sh.len (suc sh.n) len))
        (λ x q l. omega (arith, more_len x (omega arith), h.high x (omega arith)));
    filled = at_one (suc sh.n) (λ x. (one_more sh len m).fill x ≤ (one_more sh len m).wrote x)
        (omega (arith, upd_same sh.fill (suc sh.n) 0, upd_same sh.wrote (suc sh.n) 0))
        (λ x q. rw (upd_other sh.fill (suc sh.n) 0 x q, upd_other sh.wrote (suc sh.n) 0 x q) (h.filled x));
    written = at_one (suc sh.n) (λ x. (one_more sh len m).wrote x ≤ (one_more sh len m).len x)
        (omega (arith, upd_same sh.wrote (suc sh.n) 0, upd_same sh.len (suc sh.n) len))
        (λ x q. rw (upd_other sh.wrote (suc sh.n) 0 x q, upd_other sh.len (suc sh.n) len x q) (h.written x));
    closed = λ x j. at_one (suc sh.n)
        (λ x. K x → x ≤ suc sh.n → j < (one_more sh len m).fill x → j < (one_more sh len m).ptr x → Sound K (one_more sh len m) (prim x j))
        (λ k l f d. absurd (omega (arith, upd_same sh.fill (suc sh.n) 0)))
        (λ x q k l f d. more_sound K (prim x j)
        (h.closed x j k (omega arith) (omega (arith, more_fill x (omega arith))) (omega (arith, more_ptr x (omega arith))))) x;
    named = λ x j. at_one (suc sh.n) (λ x. K x → x ≤ suc sh.n → j < (one_more sh len m).wrote x → j < (one_more sh len m).ptr x → prim x j ≤ suc sh.n)
        (λ k l f d. absurd (omega (arith, upd_same sh.wrote (suc sh.n) 0)))
        (λ x q k l f d. let z = h.named x j k (omega arith) (omega (arith, more_wrote x (omega arith))) (omega (arith, more_ptr x (omega arith))) in omega arith) x;
  }

  more_colours : {K : ℕ → Type 0} {g : Snapshot} {hd : ℕ → Hd} {prim rep : ℕ → ℕ → ℕ} {has : ℕ → ℕ → Bool} {stack : List ℕ} {Lt : ℕ → ℕ → Type 0}
      → Colours K sh g hd prim rep has stack Lt → sh.fill (suc sh.n) ≡ 0
      → Colours K (one_more sh len m) g hd prim rep (upd has (suc sh.n) (λ j. false)) stack Lt
  more_colours {K} {g} {hd} {prim} {rep} {has} {stack} {Lt} c z = record {
    stacked = λ a i. let q = c.stacked a i in (q.0, omega (arith, q.1), q.2, q.3, q.4);
    once = c.once;
    grey = c.grey;
    bound = at_one new (λ a. IsPlaced (hd a) → left ((one_more sh len m).len a) (hd a) ≤ g.fill a) (λ p. rw fresh (omega arith))
        (λ a q. rw (upd_other sh.len new len a q) (c.bound a));
    unplaced = at_one new (λ a. K a → a ≤ suc sh.n → IsUnplaced (hd a) → g.fill a ≡ (one_more sh len m).len a) (λ k l p. absurd (rw fresh at p))
        (λ a q k l p. rw (upd_other sh.len new len a q) (c.unplaced a k (omega arith) p));
    older = at_one new (λ a. g.fill a ≤ (one_more sh len m).fill a) (omega (arith, c.older new)) (λ a q. rw (upd_other sh.fill new 0 a q) (c.older a));
    newer = c.newer;
    written = λ a j. at_one new (λ a. IsPlaced (hd a) → left ((one_more sh len m).len a) (hd a) ≤ j → j < (one_more sh len m).fill a → upd has new (λ j. false) a j ≡ true)
        (λ p l f. absurd (omega (arith, upd_same sh.fill new 0)))
        (λ a q. rw (upd_other sh.len new len a q, upd_other sh.fill new 0 a q, upd_other has new (λ j. false) a q) (c.written a j)) a;
    copied = λ a j. at_one new (λ a. IsPlaced (hd a) → left ((one_more sh len m).len a) (hd a) ≤ j → j < (one_more sh len m).fill a → (rep a j ≡ prim a j) ⊎ Lt a j)
        (λ p l f. absurd (omega (arith, upd_same sh.fill new 0)))
        (λ a q. rw (upd_other sh.len new len a q, upd_other sh.fill new 0 a q) (c.copied a j)) a;
    target = λ a j. at_one new (λ a. IsPlaced (hd a) → upd has new (λ j. false) a j ≡ true → j < (one_more sh len m).ptr a → IsPlaced (hd (rep a j)) × (rep a j ≤ suc sh.n))
        (λ p h d. off_on (rw (upd_same has new (λ j. false)) at h))
        (λ a q p h d. let z = c.target a j p (rw (upd_other has new (λ j. false) a q) at h) (rw (upd_other sh.ptr new m a q) at d) in (z.0, omega (arith, z.1))) a;
    saw = λ a j. at_one new
        (λ a. j < g.fill a → j < (one_more sh len m).ptr a
        → IsSeen (hd (g.slots a j)) ⊎ ((j < left ((one_more sh len m).len a) (hd a)) × (prim a j ≡ g.slots a j) × (Lt a j → ⊥)))
        (λ f d. absurd (omega (arith, c.older new)))
        (λ a q. rw (upd_other sh.len new len a q, upd_other sh.ptr new m a q) (c.saw a j)) a;
    roots = c.roots;
    reached = λ a k l. reach_keep (λ b j f d. at_one new (λ b. j < g.fill b → j < sh.ptr b → j < (one_more sh len m).ptr b)
        (λ f d. absurd (omega (arith, c.older new))) (λ b q f d. rw (upd_other sh.ptr new m b q) d) b f d) (c.reached a k l);
    known = omega (arith, c.known);
  }
    where
      new : ℕ
      new = suc sh.n

      fresh : hd new ≡ count 0
      fresh = c.newer new (omega (arith, c.known))

-- ---- the steps
module _ {K : ℕ → Type 0} {p s : ℕ} {o : State} (v : Inv K p s o) (t : ℕ) (l : t < p) (r len m : ℕ) where
  empty : o.shape.fill (suc o.shape.n) ≡ 0
  empty = let n : ℕ = suc o.shape.n in omega (arith, v.shapes.filled n, v.shapes.written n, (v.shapes.future n (omega arith)).1)

  fresh : o.on ≡ true → o.hd (suc o.shape.n) ≡ count 0
  fresh on =
      let c : Colours K o.shape o.snap o.hd o.prim o.rep o.has o.stack (Late o.tasks) = rw on at v.mode in
      c.newer (suc o.shape.n) (omega (arith, c.known))

  -- the object just made, as the task's pending object
  made : r < 8 → PendingOk K (one_more o.shape len m) o.hd o.on (pending_with (primary (suc o.shape.n)) r len 0)
  made h = (
    omega arith,
    (v.shapes.future (suc o.shape.n) (omega arith)).0,
    omega arith,
    sym (upd_same o.shape.len (suc o.shape.n) len),
    sym (upd_same o.shape.fill (suc o.shape.n) 0),
    h,
    λ on. rw (fresh on) tt,
  )

  regs : (a : ℕ) → Sound K (one_more o.shape len m) (root (o.tasks t).regs a)
  regs a = more_sound o.shape len m K _ ((v.entries t).regs a)

  -- the task held nothing and had no Store; its entry becomes one with no Store and no pending object but the new one
  makes_inv : (e : Task) → NewOk s (o.tasks t) r len m → Holdless (o.tasks t).place → (LateAt (o.tasks t).place → ⊥) → (MeetsAt (o.tasks t).place → ⊥)
      → EntryOk K (one_more o.shape len m) o.hd o.on e
      → PlaceOk K s (one_more o.shape len m) o.hd o.prim o.rep (upd o.has (suc o.shape.n) (λ j. false)) (Meeting (upd o.tasks t e)) o.on t e e.place
      → (LateAt e.place → ⊥) → (0 < pending_is e.pending → pending_is e.pending ≡ suc o.shape.n) → e.storing ≡ None
      → Inv K p s (makes o len m t e)
  makes_inv e nw free late meets eo po quiet only nowhere =
      join t e v (more_shapes o.shape len m v.shapes nw.3 nw.4) (more o.on later) (more_sound o.shape len m K) eo po
      (owners_inv t e v.owners l (omega arith) free (λ u q z d. absurd (omega (arith, only z, pending u _ (sym d) z))) (λ u a j q z d. rw nowhere at z))
      (λ u q. record {
        size = omega arith;
        sound = more_sound o.shape len m K;
        len = more_len o.shape len m;
        ptr = more_ptr o.shape len m;
        placed = λ a z. z;
        seen = λ a z. z;
        claim = λ a z. z;
        lock = λ a j z. z;
        slots = λ a j z. more_ptr o.shape len m a (v.owners.locker a j u z).2;
        read = λ a j c z. or_right (met a j);
        put = λ a j z. or_right (met a j);
        written = λ a j z d. rw (upd_other o.has (suc o.shape.n) (λ j. false) a (λ e. absurd (omega (arith, (v.owners.locker a j u z).2)))) d;
        store = λ a j z. refl;
        fill = λ a z d. more_fill o.shape len m a (pending u a z d);
        wrote = λ a z d. more_wrote o.shape len m a (pending u a z d);
        next = λ a z d. refl;
      })
    where
      pending : (u a : ℕ) → pending_is (o.tasks u).pending ≡ a → 0 < a → a ≤ o.shape.n
      pending u = pending_made K o.shape o.hd o.on (o.tasks u).pending (v.entries u).pending

      met : (a j : ℕ) → Meeting o.tasks a j → Meeting (upd o.tasks t e) a j
      met a j = meeting_after o.tasks t e a j (λ z. absurd (meets z.1))

      later : Mode o.on K o.shape o.snap o.hd o.prim o.rep o.has o.stack (Late (upd o.tasks t e))
      later = late_mode v (upd o.tasks t e) (λ a j. late_after o.tasks t e a j (λ z. absurd (late z.1))) (λ a j. late_before o.tasks t e a j (λ z. absurd (quiet z.1)))

      more : (on : Bool) → Mode on K o.shape o.snap o.hd o.prim o.rep o.has o.stack (Late (upd o.tasks t e))
          → Mode on K (one_more o.shape len m) o.snap o.hd o.prim o.rep (upd o.has (suc o.shape.n) (λ j. false)) o.stack (Late (upd o.tasks t e))
      more true c = more_colours o.shape len m c empty
      more false c = c

  pub new_on : o.on ≡ true → (o.tasks t).place ≡ New (wanted r len m) → (k : ℕ) → 0 < k
      → Inv K p s (makes o len m t (goes_with (o.tasks t) (pending_with (primary (suc o.shape.n)) r len 0) (Take k)))
  unfolding holding_of
  new_on on pe k kp =
      makes_inv (goes_with (o.tasks t) (pending_with (primary (suc o.shape.n)) r len 0) (Take k)) nw (rw pe (λ a j z. z, λ a z. z)) (rw pe (λ z. z)) (rw pe (λ z. z))
      (record { eight = (v.entries t).eight; regs = regs; pending = made nw.2; storing = rw nw.1 tt }) (on, kp) (λ z. z) (λ z. refl) nw.1
    where
      nw : NewOk s (o.tasks t) r len m
      nw = rw pe at (v.places t)

  pub new_off : o.on ≡ false → ((o.tasks t).place ≡ New (wanted r len m)) ⊎ ((o.tasks t).place ≡ Asked (wanted r len m))
      → Inv K p s (makes o len m t (ended_entry (o.tasks t).regs (pending_with (primary (suc o.shape.n)) r len 0)))
  unfolding holding_of
  new_off off = by
    where
      go : NewOk s (o.tasks t) r len m → Holdless (o.tasks t).place → (LateAt (o.tasks t).place → ⊥) → (MeetsAt (o.tasks t).place → ⊥)
          → Inv K p s (makes o len m t (ended_entry (o.tasks t).regs (pending_with (primary (suc o.shape.n)) r len 0)))
      go nw free late meets =
          let e : Task = ended_entry (o.tasks t).regs (pending_with (primary (suc o.shape.n)) r len 0) in
          let d : EndedOk K (one_more o.shape len m) o.hd o.on (suc o.shape.n) e =
          ended_ok K (one_more o.shape len m) o.hd o.on (o.tasks t).regs (primary (suc o.shape.n)) r len 0 (v.entries t).eight regs (made nw.2) (omega arith) in
          makes_inv e nw free late meets d.mine (rw d.idle (d.unfull, d.nowhere)) (rw d.idle (λ z. z)) d.only d.nowhere

      by : ((o.tasks t).place ≡ New (wanted r len m)) ⊎ ((o.tasks t).place ≡ Asked (wanted r len m))
          → Inv K p s (makes o len m t (ended_entry (o.tasks t).regs (pending_with (primary (suc o.shape.n)) r len 0)))
      by (inl pe) = go (rw pe at (v.places t)) (rw pe (λ a j z. z, λ a z. z)) (rw pe (λ z. z)) (rw pe (λ z. z))
      by (inr pe) = go (rw pe at (v.places t)).1 (rw pe (λ a j z. z, λ a z. z)) (rw pe (λ z. z)) (rw pe (λ z. z))
