-- What is reachable or pending in table and words is what a flip reaches, object by object.
use Rattle.std.specs.Prelude.{ℕ, zero, suc, ◌≤◌, ◌<◌, ◌≡◌, refl, ◌≢◌, ◌⊎◌, List, length, Option, Some, None}
use Rattle.std.proofs.Common.{ap, sym, ◌∙◌, inl, inr, arith}
use Rattle.std.proofs.Math.Decide.{dec_lt}
use Rattle.std.proofs.Math.ListN.{get_or-eq_default}
use Rattle.std.proofs.lemmas.List.{get_or-replicate}
use Rattle.table.specs.declared.Primary.{Primary}
use Rattle.table.specs.declared.Making.{Making}
use Rattle.table.specs.declared.Task.{Task}
use Rattle.table.specs.declared.Table.{Table}
use Rattle.machine.proofs.Parts.{described_is, pending_parts}
use Rattle.machine.specs.Words.{primary}
use Rattle.machine.specs.Entries.{task_at, nil, pending_with}
use Rattle.machine.specs.Live.Reachable.{Points, Reachable, in_register, in_root, in_pending, in_slot, Pending}
use Rattle.machine.specs.Objects.Base.{In}
use Rattle.machine.proofs.Objects.Base.{clash}
use Rattle.machine.proofs.Objects.State.{State, root, pending_is}
use Rattle.machine.proofs.Objects.Inv.{Sound, Reach, from, edge, PendingOk, Unfull, Inv}
use Rattle.machine.proofs.Objects.Ops.{found_in}
use Rattle.machine.proofs.Objects.Flipped.{Comes}
use Rattle.machine.proofs.Agree.Encode.{at_primary, at_pending}
use Rattle.machine.proofs.Agree.Agree.{Held, Agree}
use Rattle.machine.proofs.Agree.Names.{sound_held, pa_nil, pa_inj}
use Rattle.machine.proofs.Agree.Read.{object_of_lem, pointer_word}
use Rattle.machine.proofs.Agree.Complete.{register_of_lem, root_of, task_in}

-- behind the eight there is nil
few : (ps : List Primary) (r : ℕ) → length ps ≡ 8 → 0 < root ps r → r < 8
few ps r e l = go (dec_lt r 8)
  where
    go : Dec (r < 8) → r < 8
    go (yes m) = m
    go (no m) =
        let z : root ps r ≡ 0 = ap (λ (q : Primary). q.0) (get_or-eq_default ps nil {n = r} (omega (arith, m))) in
        absurd (omega arith)

module _ {K : ℕ → Type 0} {pa ra : ℕ → ℕ} {o : State} {t : Table} {ws : List ℕ} (v : Inv K t.limits.p t.limits.s o) (k : Agree K pa ra o t ws) where
  -- ---- pointers of objects
  -- an object whose pointer is not nil is not nil
  some : (x p : ℕ) → pa x ≡ p → p ≢ 0 → 0 < x
  some zero p e h = absurd (h (sym e ∙ k.lay.nilp))
  some (suc x) p e h = omega arith

  pointer_some : (x : ℕ) → 0 < x → K x → x ≤ o.shape.n → pa x ≢ 0
  pointer_some x l q m e = omega (arith, pa_nil k.lay x q m e)

  -- nil has no slot
  slot_some : (x j : ℕ) → j < o.shape.fill x → 0 < x
  slot_some zero j l = absurd (omega (arith, v.shapes.none, v.shapes.filled 0, v.shapes.written 0))
  slot_some (suc x) j l = omega arith

  -- ---- slots
  slot_points : (x j : ℕ) → Held K o.shape x → j < o.shape.fill x → j < o.shape.ptr x → 0 < o.prim x j → Points t ws (pa x) j (pa (o.prim x j))
  slot_points x j h a b l =
      let s = v.shapes.closed x j h.2 h.1 a b in (
        o.shape.len x,
        o.shape.ptr x,
        object_of_lem v k x h,
        b,
        pointer_word k x j h (omega (arith, v.shapes.filled x)) b,
        pointer_some (o.prim x j) l s.0 s.1,
      )

  points_ptr : (x j p : ℕ) → Held K o.shape x → Points t ws (pa x) j p → j < o.shape.ptr x
  points_ptr x j p h (len, m, e, l, w, n) =
      let q = sym (object_of_lem v k x h) ∙ e in
      let z = (described_is (o.shape.len x) (o.shape.ptr x) len m q).1 in
      omega arith

  points_slot : (x j p : ℕ) → Held K o.shape x → Points t ws (pa x) j p → j < o.shape.fill x
      → (j < o.shape.ptr x) × (0 < o.prim x j) × (pa (o.prim x j) ≡ p)
  points_slot x j p h w f =
      let b = points_ptr x j p h w in
      let e = sym (pointer_word k x j h (omega (arith, v.shapes.filled x)) b) ∙ w.4 in
      (b, some (o.prim x j) p e w.5, e)

  -- ---- pending objects
  pending_of : (i : ℕ) → i < 8 → (task_at t i).pending ≡ at_pending pa (o.tasks i).pending
  pending_of i l = ap (λ (e : Task). e.pending) (k.tasks i l)

  -- the pending object of a task, read off the table
  pub pending_is_lem : (i q r len f : ℕ) → i < t.limits.p → (task_at t i).pending ≡ pending_with (primary q) r len f
      → (x : ℕ) × Held K o.shape x × (pa x ≡ q) × (f ≡ o.shape.fill x) × (len ≡ o.shape.len x) × (pending_is (o.tasks i).pending ≡ x)
      × (Unfull (o.tasks i).pending → f < len)
  pending_is_lem i q r len f l e = go (o.tasks i).pending (v.entries i).pending (sym (pending_of i (task_in k i l)) ∙ e)
    where
      go : (d : Option Making) → PendingOk K o.shape o.hd o.on d → at_pending pa d ≡ pending_with (primary q) r len f
          → (x : ℕ) × Held K o.shape x × (pa x ≡ q) × (f ≡ o.shape.fill x) × (len ≡ o.shape.len x) × (pending_is d ≡ x) × (Unfull d → f < len)
      go None w z = clash cc
      go (Some d) w z =
          let y = pending_parts (record { at = at_primary pa d.at; register = d.register; len = d.len; filled = d.filled }) (primary q) r len f z in
          let b = y.2 in
          let c = y.3 in
          (d.at.0, (w.0, w.2, w.1), ap (λ (p : Primary). p.0) y.0, sym c ∙ w.4, sym b ∙ w.3, refl, λ u. omega (arith, b, c))

  -- the pending object at the pointer of x is x
  pub pending_same : (x i r len f : ℕ) → Held K o.shape x → i < t.limits.p → (task_at t i).pending ≡ pending_with (primary (pa x)) r len f
      → (f ≡ o.shape.fill x) × (len ≡ o.shape.len x) × (Unfull (o.tasks i).pending → f < len)
  pending_same x i r len f h l e =
      let w = pending_is_lem i (pa x) r len f l e in
      let y = w.1 in
      let z : w.0 ≡ x = pa_inj k.lay w.0 x y.2 y.1 h.2 h.1 w.2 in
      (w.3 ∙ ap o.shape.fill z, w.4 ∙ ap o.shape.len z, w.6)

  -- and one that is pending is so in the table
  is_pending : (i x : ℕ) → 0 < x → pending_is (o.tasks i).pending ≡ x → Held K o.shape x × Pending t (pa x)
  is_pending i x l e = on (dec_lt i t.limits.p)
    where
      go : i < t.limits.p → (d : Option Making) → (o.tasks i).pending ≡ d → PendingOk K o.shape o.hd o.on d → pending_is d ≡ x → Held K o.shape x × Pending t (pa x)
      go m None q w z = absurd (omega arith)
      go m (Some d) q w z =
          rw (sym z) ((w.0, w.2, w.1), (i, m, d.register, d.len, d.filled, pending_of i (task_in k i m) ∙ ap (at_pending pa) q))

      on : Dec (i < t.limits.p) → Held K o.shape x × Pending t (pa x)
      on (yes m) = go m (o.tasks i).pending refl (v.entries i).pending e
      on (no m) =
          let z : pending_is (o.tasks i).pending ≡ 0 = rw (v.owners.beyond i (omega (arith, m))) refl in
          absurd (omega arith)

  module _ (vs : List ℕ) where
    -- ---- from table and words to objects
    -- what is reachable is reached by the flip, and full
    pub reachable_reach : ((x : ℕ) → Comes o x → In x vs) → {p : ℕ} → Reachable t ws p
        → (x : ℕ) × (0 < x) × Sound K o.shape x × Reach o.shape (found_in o vs) x × (pa x ≡ p)
    reachable_reach all {p} (in_register i r l m e h) =
        let x = root (o.tasks i).regs r in
        let q = sym (ap (λ (a : Primary). a.0) (register_of_lem k i r (task_in k i l))) ∙ e in
        (x, some x p q h, (v.entries i).regs r, from (all x (inr (inr (inr (i, r, refl))))), q)
    reachable_reach all {p} (in_root r l e h) =
        let x = root o.roots r in
        let q = sym (ap (λ (a : Primary). a.0) (root_of k r)) ∙ e in
        (x, some x p q h, v.roots r, from (all x (inr (inr (inl (r, refl))))), q)
    reachable_reach all {p} (in_pending q i r len f j l e m h) =
        let w = pending_is_lem i q r len f l e in
        let a : j < o.shape.fill w.0 = omega (arith, w.3) in
        let b = points_slot w.0 j p w.1 (rw w.2 h) a in
        let y = w.1 in
        (o.prim w.0 j, b.1, v.shapes.closed w.0 j y.2 y.1 a b.0, edge j (from (all w.0 (inr (inl (i, w.5))))) a b.0, b.2)
    reachable_reach all {p} (in_slot q j r h) =
        let w = reachable_reach all r in
        let s = w.2 in
        let y = sound_held K o.shape w.0 w.1 s in
        let h' : Points t ws (pa w.0) j p = rw w.4 h in
        let a : j < o.shape.fill w.0 = omega (arith, points_ptr w.0 j p y h', v.shapes.low w.0 s.1, s.2) in
        let b = points_slot w.0 j p y h' a in
        (o.prim w.0 j, b.1, v.shapes.closed w.0 j s.0 s.1 a b.0, edge j w.3 a b.0, b.2)

    -- what is pending is reached by the flip
    pub pending_reach : ((x : ℕ) → Comes o x → In x vs) → {p : ℕ} → Pending t p → (x : ℕ) × Held K o.shape x × Reach o.shape (found_in o vs) x × (pa x ≡ p)
    pending_reach all {p} (i, l, r, len, f, e) =
        let w = pending_is_lem i p r len f l e in
        (w.0, w.1, from (all w.0 (inr (inl (i, w.5)))), w.2)

    -- ---- from objects to table and words
    from_live : (x : ℕ) → 0 < x → Comes o x → Held K o.shape x × (Reachable t ws (pa x) ⊎ Pending t (pa x))
    from_live x l (inl e) = absurd (omega arith)
    from_live x l (inr (inl (i, e))) = let w = is_pending i x l e in (w.0, inr w.1)
    from_live x l (inr (inr (inl (r, e)))) =
        let s : Sound K o.shape x = rw (sym e) (v.roots r) in (
          sound_held K o.shape x l s,
          inl (in_root r (few o.roots r v.eight (omega arith)) (ap (λ (a : Primary). a.0) (root_of k r) ∙ ap pa e) (pointer_some x l s.0 s.1)),
        )
    from_live x l (inr (inr (inr (i, r, e)))) = on (dec_lt i t.limits.p)
      where
        s : Sound K o.shape x
        s = rw (sym e) ((v.entries i).regs r)

        eighth : r < 8
        eighth = few (o.tasks i).regs r (v.entries i).eight (omega arith)

        on : Dec (i < t.limits.p) → Held K o.shape x × (Reachable t ws (pa x) ⊎ Pending t (pa x))
        on (yes m) = (
          sound_held K o.shape x l s,
          inl (in_register i r m eighth (ap (λ (a : Primary). a.0) (register_of_lem k i r (task_in k i m)) ∙ ap pa e) (pointer_some x l s.0 s.1)),
        )
        on (no m) =
            let z : root (o.tasks i).regs r ≡ 0 = rw (v.owners.beyond i (omega (arith, m))) (ap (λ (q : Primary). q.0) (get_or-replicate 8 r nil nil eighth)) in
            absurd (omega arith)

    -- what the flip reaches is kept, and is reachable or pending
    pub reach_live : ((x : ℕ) → In x vs → Comes o x) → {x : ℕ} → 0 < x → Reach o.shape (found_in o vs) x
        → Held K o.shape x × (Reachable t ws (pa x) ⊎ Pending t (pa x))
    reach_live only {x} l (from i) = from_live x l (only x i)
    reach_live only l (edge {x} j r a b) = on (reach_live only (slot_some x j a) r)
      where
        on : Held K o.shape x × (Reachable t ws (pa x) ⊎ Pending t (pa x))
            → Held K o.shape (o.prim x j) × (Reachable t ws (pa (o.prim x j)) ⊎ Pending t (pa (o.prim x j)))
        on (h, w) = (sound_held K o.shape (o.prim x j) l (v.shapes.closed x j h.2 h.1 a b), inl (go w))
          where
            go : Reachable t ws (pa x) ⊎ Pending t (pa x) → Reachable t ws (pa (o.prim x j))
            go (inl q) = in_slot (pa x) j q (slot_points x j h a b l)
            go (inr (i, m, r, len, f, e)) =
                in_pending (pa x) i r len f j m e (omega (arith, pending_same x i r len f h m e)) (slot_points x j h a b l)
