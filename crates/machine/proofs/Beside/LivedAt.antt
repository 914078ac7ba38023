-- At a flip: what it reaches is what is live just before it, with its words, and filled as then.
use Rattle.std.specs.Prelude.{ℕ, suc, ◌+◌, ◌≤◌, ◌<◌, ◌≡◌, ◌⊎◌, List, Bool, false, length}
use Rattle.std.proofs.Common.{sym, ◌∙◌, inl, inr, arith}
use Rattle.table.specs.declared.Place.{Place}
use Rattle.table.specs.declared.Place.TheVariants.{Idle, New, Asked}
use Rattle.table.specs.declared.Task.{Task}
use Rattle.table.specs.declared.Table.{Table}
use Rattle.machine.specs.Flip.{unasked_entry}
use Rattle.machine.specs.History.{flip_history}
use Rattle.machine.specs.Live.Reachable.{Reachable, Pending}
use Rattle.machine.specs.Live.Live.{total, live_of, length_at, size_of, filled_at}
use Rattle.machine.proofs.Live.Laws.{reachable_live, pending_live, live_is}
use Rattle.machine.proofs.Live.Filled.{filled_whole, filled_pending}
use Rattle.machine.specs.Objects.Base.{In}
use Rattle.machine.proofs.Objects.Base.{sum_to}
use Rattle.machine.proofs.Objects.State.{Hd, Shape, State, Meeting}
use Rattle.machine.proofs.Objects.Inv.{Reach, Unfull, PlaceOk, Inv}
use Rattle.machine.proofs.Objects.Ops.{found_in, flips}
use Rattle.machine.proofs.Objects.Flipped.{Restful, Comes, Left}
use Rattle.machine.proofs.Objects.FlipInv.{readied}
use Rattle.machine.proofs.Agree.Agree.{Held, Agree}
use Rattle.machine.proofs.Agree.Names.{pa_four, pa_inj}
use Rattle.machine.proofs.Agree.Read.{length_in_lem, descriptor_word}
use Rattle.machine.proofs.Agree.FlipWords.{FlipMade}
use Rattle.machine.proofs.Beside.Collecting.{Lived}
use Rattle.machine.proofs.Beside.Totals.{sum_total, total_ones}
use Rattle.machine.proofs.Beside.Reached.{pending_same, reachable_reach, pending_reach, reach_live}

-- at rest a pending object has a slot to fill
rest_unfull : (K : ℕ → Type 0) (s : ℕ) (sh : Shape) (hd : ℕ → Hd) (prim rep : ℕ → ℕ → ℕ) (has : ℕ → ℕ → Bool) (Mt : ℕ → ℕ → Type 0) (on : Bool) (t : ℕ) (e : Task)
    (pl : Place) → Restful pl → PlaceOk K s sh hd prim rep has Mt on t e pl → Unfull e.pending
rest_unfull K s sh hd prim rep has Mt on t e Idle r q = q.0
rest_unfull K s sh hd prim rep has Mt on t e (New want) r q = rw q.0 tt
rest_unfull K s sh hd prim rep has Mt on t e (Asked want) r q = rw q.1.0 tt
rest_unfull K s sh hd prim rep has Mt on t e _ r q = absurd r

module _ {K : ℕ → Type 0} {pa ra : ℕ → ℕ} {o : State} {t : Table} {ws : List ℕ} (v : Inv K t.limits.p t.limits.s o) (k : Agree K pa ra o t ws)
    (rest : (u : ℕ) → Restful (o.tasks u).place) (vs : List ℕ) (only : (x : ℕ) → In x vs → Comes o x) (all : (x : ℕ) → Comes o x → In x vs) where
  abbrev Reached : ℕ → Type 0
  Reached = Reach o.shape (found_in o vs)

  length_at_lem : (x : ℕ) → Held K o.shape x → length_at ws (pa x) ≡ o.shape.len x
  length_at_lem x h =
      rw (descriptor_word k x h)
      (length_in_lem (o.shape.len x) (o.shape.ptr x) (omega (arith, v.shapes.low x h.1, v.shapes.high x h.1, k.sized.limited.s_high)))

  -- ---- the slots filled
  unfull : (i : ℕ) → Unfull (o.tasks i).pending
  unfull i =
      rest_unfull K t.limits.s o.shape o.hd o.prim o.rep o.has (Meeting o.tasks) o.on i (o.tasks i) (o.tasks i).place (rest i) (v.places i)

  -- what is reachable is full, and so not pending
  reachable_full : (x : ℕ) → Held K o.shape x → Reachable t ws (pa x) → o.shape.fill x ≡ o.shape.len x
  reachable_full x h r =
      let w = reachable_reach v k vs all r in
      let s = w.2 in
      rw (sym (pa_inj k.lay w.0 x s.0 s.1 h.2 h.1 w.4)) s.2

  full_settled : (x : ℕ) → Held K o.shape x → o.shape.fill x ≡ o.shape.len x → Pending t (pa x) → ⊥
  full_settled x h e (i, l, r, len, f, q) =
      let w = pending_same v k x i r len f h l q in
      omega (arith, w.0, w.1, w.2 (unfull i))

  filled_as : (x : ℕ) → Held K o.shape x → Reachable t ws (pa x) ⊎ Pending t (pa x) → filled_at t ws (pa x) ≡ o.shape.fill x
  filled_as x h (inl r) =
      let e = reachable_full x h r in
      filled_whole t ws (pa x) (full_settled x h e) ∙ length_at_lem x h ∙ sym e
  filled_as x h (inr (i, l, r, len, f, e)) =
      let z = (pending_same v k x i r len f h l e).0 in
      filled_pending t ws (pa x) i r len f l e (λ j r' len' f' m q. (pending_same v k x j r' len' f' h m q).0 ∙ sym z) ∙ z

  -- ---- what is live
  in_live : (x : ℕ) → Held K o.shape x → Reachable t ws (pa x) ⊎ Pending t (pa x) → In (pa x) (live_of t ws)
  in_live x h (inl r) = reachable_live t ws r
  in_live x h (inr q) = pending_live t ws q (λ e. omega (arith, pa_four k x h))

  live_reached : (p : ℕ) → Reachable t ws p ⊎ Pending t p → (x : ℕ) × (0 < x) × (x ≤ o.shape.n) × Reached x × (pa x ≡ p)
  live_reached p (inl r) = let w = reachable_reach v k vs all r in let s = w.2 in (w.0, w.1, s.1, w.3, w.4)
  live_reached p (inr q) = let w = pending_reach v k vs all q in let h = w.1 in (w.0, h.0, h.1, w.2, w.3)

  reached_live : (x : ℕ) → 0 < x → Reached x → Left K o vs x × In (pa x) (live_of t ws) × (filled_at t ws (pa x) ≡ o.shape.fill x)
  reached_live x l r =
      let w = reach_live v k vs only l r in
      ((w.0.2, λ m. r), in_live x w.0 w.1, filled_as x w.0 w.1)

  -- ---- what is counted
  held : (x : ℕ) → 0 < x → Reached x → Held K o.shape x
  held x l r = (reach_live v k vs only l r).0

  counted : (w : ℕ → ℕ) (f : ℕ → ℕ) → ((x : ℕ) → 0 < f x → (0 < x) × Reached x) → ((x : ℕ) → 0 < f x → f x ≤ w (pa x)) → sum_to (suc o.shape.n) f ≤ total w (live_of t ws)
  counted w f c m =
      sum_total pa w (suc o.shape.n) (live_of t ws) f
      (λ x y a b e. let g = at x a in let h = at y b in pa_inj k.lay x y g.2 g.1 h.2 h.1 e)
      (λ x a. ((reached_live x (c x a).0 (c x a).1).1, m x a))
    where
      at : (x : ℕ) → 0 < f x → Held K o.shape x
      at x a = held x (c x a).0 (c x a).1

  words_most : (f : ℕ → ℕ) → ((x : ℕ) → 0 < f x → (0 < x) × (x ≤ o.shape.n) × Reached x × (f x ≤ o.shape.len x + 2)) → sum_to (suc o.shape.n) f ≤ size_of t ws
  unfolding size_of
  words_most f c =
      counted (λ p. length_at ws p + 2) f (λ x a. let b = c x a in (b.0, b.2))
      (λ x a. let b = c x a in omega (arith, b.3, length_at_lem x (held x b.0 b.2)))

  number_most : (f : ℕ → ℕ) → ((x : ℕ) → 0 < f x → (0 < x) × (x ≤ o.shape.n) × Reached x × (f x ≤ 1)) → sum_to (suc o.shape.n) f ≤ length (live_of t ws)
  number_most f c =
      rw (sym (total_ones (live_of t ws))) (counted (λ p. 1) f (λ x a. let b = c x a in (b.0, b.2)) (λ x a. (c x a).3))

  lived_now : Lived (Left K o vs) pa o.shape (found_in o vs) (flip_history t ws)
  lived_now = record {
    live = λ x l m r. reached_live x l r;
    back = λ p i. live_reached p (live_is t ws p i).1;
    words = words_most;
    number = number_most;
  }

pub flip_lived : {K : ℕ → Type 0} {pa ra : ℕ → ℕ} {o : State} {t : Table} {ws : List ℕ} {vs : List ℕ} → Inv K t.limits.p t.limits.s o
    → Agree K pa ra o t ws → o.on ≡ false → ((u : ℕ) → Restful (o.tasks u).place) → ((x : ℕ) → In x vs → Comes o x)
    → ((x : ℕ) → Comes o x → In x vs) → Lived (Left K o vs) pa o.shape (found_in o vs) (flip_history t ws)
flip_lived {vs = vs} v k off rest only all = lived_now v k rest vs only all

-- the same, of the objects as they are after a flip that was made
pub flip_made_lived : {K : ℕ → Type 0} {pa ra : ℕ → ℕ} {o : State} {t : Table} {ws : List ℕ} → Inv K t.limits.p t.limits.s o → Agree K pa ra o t ws
    → o.on ≡ false → ((u : ℕ) → Restful (o.tasks u).place) → (f : FlipMade K pa o t ws)
    → Lived (Left K o f.visited) pa (flips (readied f.objects) f.visited (λ u. unasked_entry (o.tasks u))).shape
    (flips (readied f.objects) f.visited (λ u. unasked_entry (o.tasks u))).snap (flip_history t ws)
flip_made_lived v k off rest f = rw (f.mid.shape, f.mid.prim) (flip_lived v k off rest f.only f.all)
