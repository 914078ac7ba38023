-- What is live is what is reachable or pending, each once: for any table and any words.
use Rattle.std.specs.Prelude.{ℕ, ◌+◌, ◌-◌, ◌*◌, ◌≤◌, ◌<◌, min, ◌≡◌, refl, ◌≢◌, ◌⊎◌, ◌↔◌, Bool, true, false, get_or, ltb, Option, Some, None}
use Rattle.std.proofs.Common.{sym, arith, ltb-false}
use Rattle.std.proofs.Math.Logic.{inl, inr}
use mathlib.Core.List.{List, [], ◌∷◌}
use Rattle.std.proofs.Math.ListN.{length}
use Rattle.table.specs.declared.Descriptor.{Descriptor}
use Rattle.table.specs.declared.Making.{Making}
use Rattle.table.specs.declared.Table.{Table}
use Rattle.machine.specs.Basics.{pick}
use Rattle.machine.proofs.Parts.{described_is}
use Rattle.machine.specs.Words.{primary, length_in, pointers_in, object_of, described}
use Rattle.machine.specs.Entries.{task_at, nil, register, pending_with}
use Rattle.machine.specs.Objects.Base.{In}
use Rattle.machine.proofs.Objects.Base.{clash, Nodup}
use Rattle.machine.specs.Live.Reachable.{Points, Reachable, in_register, in_root, in_pending, in_slot, Pending}
use Rattle.machine.specs.Live.Live.{gather, pointers_of, pointers_below, pointers_at, filled_pointers, pending_pointer, registers_of, roots_of, held_by, start_of, pendings_of, reached_of, live_of, length_at}
use Rattle.machine.proofs.Live.SearchLaws.{in_left, in_right, in_either, in_gather, gather_in, length_gather, search_once, search_keeps, search_only, unseen, unseen_nil, unseen_none, Found, search_finds}

-- ---- a whole object
no_torn : {A : Type 0} {len m : ℕ} → None ≡ described len m → A
no_torn {len = len} {m = m} e = clash cc

untorn : (b : Bool) (x : Option Descriptor) (len m : ℕ) → pick b None x ≡ described len m → (b ≡ false) × (x ≡ described len m)
untorn true x len m e = no_torn e
untorn false x len m e = (refl, e)

-- what its descriptor says, and that it lies in the buffer
pub whole_is : (ws : List ℕ) (s p len m : ℕ) → object_of ws s (primary p) ≡ described len m
    → (length_at ws p ≡ len) × (4 ≤ p) × (p + len ≤ length ws) × (m ≤ len) × (len ≤ s)
unfolding object_of
whole_is ws s p len m e =
    let a = untorn (ltb p 4) _ len m e in
    let b = untorn (ltb (length ws) p) _ len m a.1 in
    let c = untorn (ltb s l) _ len m b.1 in
    let d = untorn (ltb l n) _ len m c.1 in
    let f = untorn (ltb (length ws - p) l) _ len m d.1 in
    let c' = described_is l n len m f.1 in
    let g : l ≡ len = c'.0 in
    let h : n ≡ m = c'.1 in (
      g,
      ltb-false p 4 a.0,
      omega (arith, ltb-false (length ws) p b.0, ltb-false (length ws - p) l f.0),
      omega (arith, ltb-false l n d.0),
      omega (arith, ltb-false s l c.0),
    )
  where
    l : ℕ
    l = length_at ws p

    n : ℕ
    n = pointers_in (get_or ws (p - 2) 0)

-- ---- the slots read
singles_in : (n : ℕ) (g : ℕ → ℕ) (p : ℕ) → In p (gather n (λ j. g j ∷ [])) → (j : ℕ) × (j < n) × (g j ≡ p)
singles_in n g p i = let k = gather_in n (λ j. g j ∷ []) p i in (k.0, k.1, only k.0 k.2)
  where
    only : (j : ℕ) → In p (g j ∷ []) → g j ≡ p
    only j (inl e) = sym e
    only j (inr k) = absurd k

in_singles : (n : ℕ) (g : ℕ → ℕ) (p j : ℕ) → j < n → g j ≡ p → In p (gather n (λ j. g j ∷ []))
in_singles n g p j l e = in_gather n (λ j. g j ∷ []) p j l (inl (sym e))

points_in : (t : Table) (ws : List ℕ) (q j p : ℕ) → Points t ws q j p → In p (pointers_at t ws q)
points_in t ws q j p k = rw k.2 (in_singles k.1 (λ j. get_or ws (q + j) 0) p j k.3 k.4)

in_points : (t : Table) (ws : List ℕ) (q p : ℕ) → In p (pointers_at t ws q) → p ≢ 0 → (j : ℕ) × Points t ws q j p
in_points t ws q p i h = by (object_of ws t.limits.s (primary q)) refl i
  where
    by : (x : Option Descriptor) → object_of ws t.limits.s (primary q) ≡ x → In p (pointers_of ws q x) → (j : ℕ) × Points t ws q j p
    by (Some o) e k = let r = singles_in o.m (λ j. get_or ws (q + j) 0) p k in (r.0, (o.len, o.m, e, r.1, r.2, h))
    by None e k = absurd k

below_in : (t : Table) (ws : List ℕ) (q f j p : ℕ) → j < f → Points t ws q j p → In p (pointers_below ws q f (object_of ws t.limits.s (primary q)))
below_in t ws q f j p l k = rw k.2 (in_singles (min f k.1) (λ j. get_or ws (q + j) 0) p j (omega (arith, k.3)) k.4)

in_below : (t : Table) (ws : List ℕ) (q f p : ℕ) → In p (pointers_below ws q f (object_of ws t.limits.s (primary q))) → p ≢ 0
    → (j : ℕ) × (j < f) × Points t ws q j p
in_below t ws q f p i h = by (object_of ws t.limits.s (primary q)) refl i
  where
    by : (x : Option Descriptor) → object_of ws t.limits.s (primary q) ≡ x → In p (pointers_below ws q f x) → (j : ℕ) × (j < f) × Points t ws q j p
    by (Some o) e k =
        let r = singles_in (min f o.m) (λ j. get_or ws (q + j) 0) p k in
        (r.0, omega (arith, r.1), (o.len, o.m, e, omega (arith, r.1), r.2, h))
    by None e k = absurd k

-- an object has at most 255 pointers, by its descriptor, and behind the buffer's end there is none
few : (t : Table) (ws : List ℕ) (p : ℕ) → length (pointers_at t ws p) ≤ 255
unfolding object_of
few t ws p =
    if_torn (ltb p 4) _
    (if_torn (ltb (length ws) p) _
    (if_torn (ltb t.limits.s (length_in d)) _
    (if_torn (ltb (length_in d) (pointers_in d)) _
    (if_torn (ltb (length ws - p) (length_in d)) _ (omega (arith, length_gather (pointers_in d) (λ j. get_or ws (p + j) 0)))))))
  where
    d : ℕ
    d = get_or ws (p - 2) 0

    if_torn : (b : Bool) (x : Option Descriptor) → length (pointers_of ws p x) ≤ 255 → length (pointers_of ws p (pick b None x)) ≤ 255
    if_torn true x h = omega arith
    if_torn false x h = h

none : (t : Table) (ws : List ℕ) (p : ℕ) → length ws + 1 ≤ p → pointers_at t ws p ≡ []
none t ws p l = by (object_of ws t.limits.s (primary p)) refl
  where
    by : (x : Option Descriptor) → object_of ws t.limits.s (primary p) ≡ x → pointers_of ws p x ≡ []
    by (Some o) e = absurd (omega (arith, (whole_is ws t.limits.s p o.len o.m e).2))
    by None e = refl

-- ---- where the search begins
module _ (t : Table) (ws : List ℕ) where
  made_reachable : (i p : ℕ) → i < t.limits.p → (d : Option Making) → (task_at t i).pending ≡ d → In p (filled_pointers t ws d) → p ≢ 0 → Reachable t ws p
  made_reachable i p l None e k h = absurd k
  made_reachable i p l (Some d) e k h =
      let b = in_below t ws d.at.0 d.filled p k h in in_pending d.at.0 i d.register d.len d.filled b.0 l e b.1 b.2

  start_reachable : (p : ℕ) → In p (start_of t ws) → p ≢ 0 → Reachable t ws p
  start_reachable p i h = from (in_either p (roots_of t) (gather t.limits.p (held_by t ws)) i)
    where
      task : (k : ℕ) → k < t.limits.p → In p (registers_of (task_at t k)) ⊎ In p (filled_pointers t ws (task_at t k).pending) → Reachable t ws p
      task k l (inl j) = let r = singles_in 8 (λ r. (register (task_at t k) r).0) p j in in_register k r.0 l r.1 r.2 h
      task k l (inr j) = made_reachable k p l (task_at t k).pending refl j h

      from : In p (roots_of t) ⊎ In p (gather t.limits.p (held_by t ws)) → Reachable t ws p
      from (inl j) = let r = singles_in 8 (λ r. (get_or t.roots r nil).0) p j in in_root r.0 r.1 r.2 h
      from (inr j) =
          let k = gather_in t.limits.p (held_by t ws) p j in
          task k.0 k.1 (in_either p (registers_of (task_at t k.0)) (filled_pointers t ws (task_at t k.0).pending) k.2)

  root_starts : (p r : ℕ) → r < 8 → (get_or t.roots r nil).0 ≡ p → In p (start_of t ws)
  root_starts p r l e = in_left p (roots_of t) (gather t.limits.p (held_by t ws)) (in_singles 8 (λ r. (get_or t.roots r nil).0) p r l e)

  held_starts : (p i : ℕ) → i < t.limits.p → In p (held_by t ws i) → In p (start_of t ws)
  held_starts p i l k = in_right p (roots_of t) (gather t.limits.p (held_by t ws)) (in_gather t.limits.p (held_by t ws) p i l k)

  register_starts : (p i r : ℕ) → i < t.limits.p → r < 8 → (register (task_at t i) r).0 ≡ p → In p (start_of t ws)
  register_starts p i r l m e =
      held_starts p i l
      (in_left p (registers_of (task_at t i)) (filled_pointers t ws (task_at t i).pending) (in_singles 8 (λ r. (register (task_at t i) r).0) p r m e))

  made_starts : (p q i r len f j : ℕ) → i < t.limits.p → (task_at t i).pending ≡ pending_with (primary q) r len f → j < f → Points t ws q j p → In p (start_of t ws)
  made_starts p q i r len f j l e m k =
      held_starts p i l
      (in_right p (registers_of (task_at t i)) (filled_pointers t ws (task_at t i).pending) (rw e (below_in t ws q f j p m k)))

  -- ---- what is reached
  reached_found : Found (pointers_at t ws) (start_of t ws) (reached_of t ws)
  unfolding reached_of
  reached_found = search_finds (pointers_at t ws) (length ws + 1) (few t ws) (none t ws) _ (start_of t ws) [] enough (λ p q i. absurd i)
    where
      enough : length (start_of t ws) + 256 * unseen (length ws + 1) [] ≤ length (start_of t ws) + 256 * (length ws + 1)
      enough = omega (arith, unseen_nil (length ws + 1))

  pub reachable_reached : {p : ℕ} → Reachable t ws p → In p (reached_of t ws)
  reachable_reached {p} (in_register i r l m e h) = reached_found.0 p (register_starts p i r l m e) h
  reachable_reached {p} (in_root r l e h) = reached_found.0 p (root_starts p r l e) h
  reachable_reached {p} (in_pending q i r len f j l e m k) = reached_found.0 p (made_starts p q i r len f j l e m k) k.5
  reachable_reached {p} (in_slot q j r k) = reached_found.1 q p (reachable_reached r) (points_in t ws q j p k) k.5

  pub reached_reachable : (p : ℕ) → In p (reached_of t ws) → (p ≢ 0) × Reachable t ws p
  unfolding reached_of
  reached_reachable p i =
      search_only (λ p. (p ≢ 0) × Reachable t ws p) (pointers_at t ws)
      (λ p q r j h. let k = in_points t ws p q j h in (h, in_slot p k.0 r.1 k.1))
      _ (start_of t ws) [] (λ q j h. (h, start_reachable q j h)) (λ q j. absurd j) p i

  -- ---- what is pending
  is_pending : (p i : ℕ) → i < t.limits.p → (d : Option Making) → (task_at t i).pending ≡ d → In p (pending_pointer d) → Pending t p
  is_pending p i l None e k = absurd k
  is_pending p i l (Some d) e (inl z) = rw z (i, l, d.register, d.len, d.filled, e)
  is_pending p i l (Some d) e (inr k) = absurd k

  pendings_pending : (p : ℕ) → In p (pendings_of t) → Pending t p
  pendings_pending p i =
      let k = gather_in t.limits.p (λ i. pending_pointer (task_at t i).pending) p i in
      is_pending p k.0 k.1 (task_at t k.0).pending refl k.2

  pending_pendings : (p : ℕ) → Pending t p → In p (pendings_of t)
  pending_pendings p k =
      in_gather t.limits.p (λ i. pending_pointer (task_at t i).pending) p k.0 k.1 (rw k.5 (inl refl))

  -- ---- what is live
  -- no pointer twice
  pub live_once : Nodup (live_of t ws)
  unfolding live_of reached_of
  live_once = search_once (λ p. []) _ (pendings_of t) (reached_of t ws) (search_once (pointers_at t ws) _ (start_of t ws) [] tt)

  live_found : Found (λ p. []) (pendings_of t) (live_of t ws)
  unfolding live_of
  live_found =
      search_finds (λ p. []) 0 (λ p. omega arith) (λ p l. refl) _ (pendings_of t) (reached_of t ws) enough (λ p q i j. absurd j)
    where
      enough : length (pendings_of t) + 256 * unseen 0 (reached_of t ws) ≤ length (pendings_of t)
      enough = omega (arith, unseen_none (reached_of t ws))

  pub reachable_live : {p : ℕ} → Reachable t ws p → In p (live_of t ws)
  unfolding live_of
  reachable_live {p} r = search_keeps (λ p. []) _ (pendings_of t) (reached_of t ws) p (reachable_reached r)

  pub pending_live : {p : ℕ} → Pending t p → p ≢ 0 → In p (live_of t ws)
  pending_live {p} k h = live_found.0 p (pending_pendings p k) h

  pub live_is : (p : ℕ) → In p (live_of t ws) → (p ≢ 0) × (Reachable t ws p ⊎ Pending t p)
  unfolding live_of
  live_is p i =
      search_only (λ p. (p ≢ 0) × (Reachable t ws p ⊎ Pending t p)) (λ p. []) (λ p q r j. absurd j) _ (pendings_of t) (reached_of t ws)
      (λ q j h. (h, inr (pendings_pending q j))) (λ q j. let k = reached_reachable q j in (k.0, inl k.1)) p i

  -- exactly what is reachable or pending
  pub live_iff : (p : ℕ) → In p (live_of t ws) ↔ ((p ≢ 0) × (Reachable t ws p ⊎ Pending t p))
  live_iff p = (live_is p, λ k. on k.0 k.1)
    where
      on : p ≢ 0 → Reachable t ws p ⊎ Pending t p → In p (live_of t ws)
      on h (inl r) = reachable_live r
      on h (inr k) = pending_live k h
