-- A collection that ends has copied each slot filled at its flip of each object then live, once, and nothing else.
use Rattle.std.specs.Prelude.{ℕ, ◌≤◌, ◌<◌, ◌≡◌, refl, List, [], ◌∷◌, map, length}
use Rattle.std.proofs.Common.{ap, sym, ◌∙◌, inl, inr, arith}
use Rattle.std.proofs.lemmas.List.{length-map}
use Rattle.table.specs.declared.Table.{Table}
use Rattle.machine.specs.History.{Copy, InCopies, NoCopyTwice, History}
use Rattle.machine.specs.Objects.Base.{In}
use Rattle.machine.proofs.Objects.State.{State, count}
use Rattle.machine.proofs.Objects.Inv.{Reach}
use Rattle.machine.proofs.Objects.HeadLaws.{placed_seen}
use Rattle.machine.proofs.Agree.Agree.{Agree}
use Rattle.machine.proofs.Agree.Names.{pa_inj}
use Rattle.machine.proofs.Beside.Collecting.{copy_at, Collecting, Exact}

-- a copy among those at the addresses is one of an object
pub copy_back : (pa : ℕ → ℕ) (cs : List Copy) (p i : ℕ) → InCopies p i (map (copy_at pa) cs) → (x : ℕ) × (pa x ≡ p) × InCopies x i cs
copy_back pa [] p i h = absurd h
copy_back pa (c ∷ cs) p i (inl h) = (c.object, h.0, inl (refl, h.1))
copy_back pa (c ∷ cs) p i (inr h) = let r = copy_back pa cs p i h in (r.0, r.1, inr r.2)

pub copy_there : (pa : ℕ → ℕ) (cs : List Copy) (x i : ℕ) → InCopies x i cs → InCopies (pa x) i (map (copy_at pa) cs)
copy_there pa [] x i h = absurd h
copy_there pa (c ∷ cs) x i (inl h) = inl (ap pa h.0, h.1)
copy_there pa (c ∷ cs) x i (inr h) = inr (copy_there pa cs x i h)

once_there : (pa : ℕ → ℕ) (cs : List Copy) → ((x y i j : ℕ) → InCopies x i cs → InCopies y j cs → pa x ≡ pa y → x ≡ y) → NoCopyTwice cs → NoCopyTwice (map (copy_at pa) cs)
once_there pa [] f n = tt
once_there pa (c ∷ cs) f n = (λ h. again (copy_back pa cs (pa c.object) c.slot h), once_there pa cs (λ x y i j a b. f x y i j (inr a) (inr b)) n.1)
  where
    again : (x : ℕ) × (pa x ≡ pa c.object) × InCopies x c.slot cs → ⊥
    again r = n.0 (rw (f r.0 c.object c.slot c.slot (inr r.2) (inl (refl, refl)) r.1) at r.2)

module _ {K : ℕ → Type 0} {pa ra : ℕ → ℕ} {o : State} {t : Table} {ws : List ℕ} {h : History} (k : Agree K pa ra o t ws) (c : Collecting K pa o t h) (known : o.snap.n ≤ o.shape.n) where
  -- what was copied was reached
  copied_live : (x i : ℕ) → InCopies x i c.made → (0 < x) × (x ≤ o.snap.n) × Reach o.shape o.snap x × (i < o.snap.fill x)
  copied_live x i m =
      let q = c.counts.which x i m in
      (q.0, q.1, c.counts.reach x q.0 q.1 (placed_seen (o.hd x) q.2), q.4)

  named : (x y i j : ℕ) → InCopies x i c.made → InCopies y j c.made → pa x ≡ pa y → x ≡ y
  named x y i j a b e =
      let q = copied_live x i a in
      let r = copied_live y j b in
      pa_inj k.lay x y (c.lived.live x q.0 q.1 q.2).0 (omega (arith, q.1, known)) (c.lived.live y r.0 r.1 r.2).0 (omega (arith, r.1, known)) e

  pub counted : t.marks.copies ≡ length h.copies
  counted = c.counts.copied ∙ sym (length-map c.made (copy_at pa)) ∙ ap length (sym c.same)

  pub exact_of : ((x : ℕ) → K x → x ≤ o.shape.n → o.hd x ≡ count 0) → Exact h
  exact_of done = record {
    once = rw c.same (once_there pa c.made named c.counts.once);
    only = λ p i m. from p i (copy_back pa c.made p i (rw c.same at m));
    all = λ p i m l. to p i l (c.lived.back p m);
  }
    where
      from : (p i : ℕ) → (x : ℕ) × (pa x ≡ p) × InCopies x i c.made → In p h.live × (i < h.filled p)
      from p i r =
          let q = copied_live r.0 i r.2 in
          let l = c.lived.live r.0 q.0 q.1 q.2 in
          rw (← r.1) (l.1, rw l.2 q.3)

      to : (p i : ℕ) → i < h.filled p → (x : ℕ) × (0 < x) × (x ≤ o.snap.n) × Reach o.shape o.snap x × (pa x ≡ p) → InCopies p i h.copies
      to p i l r =
          let x = r.0 in
          let q = c.lived.live x r.1 r.2 r.3 in
          let d : o.hd x ≡ count 0 = done x q.0 (omega (arith, r.2, known)) in
          let f : i < o.snap.fill x = rw (← r.4, q.2) at l in
          rw (c.same, ← r.4) (copy_there pa c.made x i (c.counts.each x i r.1 r.2 (rw d tt) (rw d (omega arith)) f))
