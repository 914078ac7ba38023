-- A replica claimed for an unplaced object: the words of `place_of`, in the space that copies go to.
use Rattle.std.specs.Prelude.{ℕ, zero, suc, ◌+◌, ◌-◌, ◌≤◌, ◌<◌, ◌≡◌, refl, ◌≢◌, ◌⊎◌, List, [], ◌∷◌, Bool, true, false, length, get_or, set, eqb, Some}
use Rattle.std.proofs.Common.{ap, sym, ◌∙◌, inl, inr, arith, length-set}
use Rattle.std.proofs.Math.Decide.{ℕ_discrete}
use Rattle.table.specs.declared.Marks.{Marks}
use Rattle.machine.specs.Basics.{pick}
use Rattle.machine.specs.Words.{primary, replica, descriptor, room_for}
use Rattle.machine.specs.Look.{placed_in, forwarded_to, place_of}
use Rattle.machine.proofs.Objects.Base.{upd, upd_same, upd_other, sum_to, sum_to_at, off_on, at_one}
use Rattle.machine.proofs.Objects.State.{Hd, white, claimed, count, locked, Shape, IsPlaced, IsUnplaced, owes}
use Rattle.machine.proofs.Objects.Ops.{push}
use Rattle.machine.proofs.Agree.Encode.{copy_word}
use Rattle.machine.proofs.Agree.Mem.{Loc, P, R, S, InLocs, Holds, Apart, write}
use Rattle.machine.proofs.Agree.Agree.{Held, addr, Ok, content, Beside, Lay}
use Rattle.machine.proofs.Agree.Apart.{apart}
use Rattle.machine.proofs.Agree.Midway.{Midway, twin_need, twin_marks, twin_words, place_of_fits, room_is, twin_length}
use Rattle.machine.proofs.Agree.Older.{slot_word_same}

module _ (K : ℕ → Type 0) (pa ra : ℕ → ℕ) (sh : Shape) (hd : ℕ → Hd) (prim rep : ℕ → ℕ → ℕ) (has : ℕ → ℕ → Bool) (stack : List ℕ)
    (base end : ℕ) (m : Marks) (ws : List ℕ) (x c : ℕ) (k : Midway K pa ra sh hd prim rep has stack base end m ws)
    (held : Held K sh x) (un : IsUnplaced (hd x)) (cl : c ≤ sh.len x) (wr : (y : ℕ) → sh.wrote y ≤ sh.len y)
    (target : (y j : ℕ) → IsPlaced (hd y) → has y j ≡ true → j < sh.ptr y → IsPlaced (hd (rep y j))) where
  ra' : ℕ → ℕ
  ra' = upd ra x (m.a + 2)

  hd' : ℕ → Hd
  hd' = upd hd x (count c)

  has' : ℕ → ℕ → Bool
  has' = upd has x (λ j. false)

  rx : ra' x ≡ m.a + 2
  unfolding ra'
  rx = upd_same ra x (m.a + 2)

  ro : (y : ℕ) → y ≢ x → ra' y ≡ ra y
  unfolding ra'
  ro = upd_other ra x (m.a + 2)

  hx : hd' x ≡ count c
  unfolding hd'
  hx = upd_same hd x (count c)

  ho : (y : ℕ) → y ≢ x → hd' y ≡ hd y
  unfolding hd'
  ho = upd_other hd x (count c)

  sx : has' x ≡ (λ j. false)
  unfolding has'
  sx = upd_same has x (λ j. false)

  so : (y : ℕ) → y ≢ x → has' y ≡ has y
  unfolding has'
  so = upd_other has x (λ j. false)

  -- x was not placed
  not_both : (h : Hd) → IsUnplaced h → IsPlaced h → ⊥
  not_both white u p = p
  not_both (claimed t) u p = p
  not_both (count n) u p = u
  not_both (locked i t) u p = u

  not_x : (y : ℕ) → IsPlaced (hd y) → y ≢ x
  not_x y p e = not_both (hd x) un (rw e at p)

  abbrev a' : ℕ
  a' = m.a + (sh.len x + 2)

  module _ (fits : a' + m.j ≤ m.top) where
    lay' : Lay K sh hd' pa ra' base a' end (length ws)
    lay' = record {
      nilp = k.lay.nilp;
      nilr = ro 0 (λ e. omega (arith, held.0)) ∙ k.lay.nilr;
      inside = k.lay.inside;
      where_p = λ y h. wp y (k.lay.where_p y h);
      where_r = at_one x (λ y. Held K sh y → IsPlaced (hd' y) → (base + 2 ≤ ra' y) × (ra' y + sh.len y ≤ a')) (λ h p. omega (arith, rx, k.based))
          (λ y q h p. omega (arith, ro y q, k.lay.where_r y h (rw (ho y q) at p)));
      apart_p = k.lay.apart_p;
      apart_r = λ y z h g p q d. sep y z (ℕ_discrete y x) (ℕ_discrete z x) h g p q d;
      apart_pr = λ y z h g p. sep_pr y z (ℕ_discrete z x) h g p;
    }
      where
        wp : (y : ℕ) → ((base + 2 ≤ pa y) × (pa y + sh.len y ≤ m.a)) ⊎ ((pa y + sh.len y ≤ base) ⊎ (end + 2 ≤ pa y))
            → ((base + 2 ≤ pa y) × (pa y + sh.len y ≤ a')) ⊎ ((pa y + sh.len y ≤ base) ⊎ (end + 2 ≤ pa y))
        wp y (inl w) = inl (w.0, omega (arith, w.1))
        wp y (inr w) = inr w

        sep : (y z : ℕ) → Dec (y ≡ x) → Dec (z ≡ x) → Held K sh y → Held K sh z → IsPlaced (hd' y) → IsPlaced (hd' z) → y ≢ z
            → Beside (ra' y) (sh.len y) (ra' z) (sh.len z)
        sep y z (yes p) (yes q) h g u v d = absurd (d (p ∙ sym q))
        sep y z (yes p) (no q) h g u v d = inr (omega (arith, k.lay.where_r z g (rw (ho z q) at v), ro z q, ap ra' p, rx))
        sep y z (no p) (yes q) h g u v d = inl (omega (arith, k.lay.where_r y h (rw (ho y p) at u), ro y p, ap ra' q, rx))
        sep y z (no p) (no q) h g u v d = rw (ro y p, ro z q) (k.lay.apart_r y z h g (rw (ho y p) at u) (rw (ho z q) at v) d)

        below : (y : ℕ) → ((base + 2 ≤ pa y) × (pa y + sh.len y ≤ m.a)) ⊎ ((pa y + sh.len y ≤ base) ⊎ (end + 2 ≤ pa y))
            → Beside (pa y) (sh.len y) (m.a + 2) (sh.len x)
        below y (inl w) = inl (omega (arith, w.1))
        below y (inr (inl w)) = inl (omega (arith, w, k.based))
        below y (inr (inr w)) = inr (omega (arith, w, k.stacked, fits))

        sep_pr : (y z : ℕ) → Dec (z ≡ x) → Held K sh y → Held K sh z → IsPlaced (hd' z) → Beside (pa y) (sh.len y) (ra' z) (sh.len z)
        sep_pr y z (yes q) h g p = rw (q, rx) (below y (k.lay.where_p y h))
        sep_pr y z (no q) h g p = rw (ro z q) (k.lay.apart_pr y z h g (rw (ho z q) at p))

    owed' : base + m.copies + sum_to (suc sh.n) (λ y. owes (hd' y)) ≤ a'
    owed' =
        let s = sum_to_at (suc sh.n) x (λ y. owes (hd' y)) (λ y. owes (hd y)) (omega (arith, held.1)) (λ y q. ap owes (ho y q)) in
        let o : owes (hd' x) ≡ c = ap owes hx in
        omega (arith, s, o, cl, k.owed)

    -- top, the stack and the written stack word, by whether there is no slot to copy
    module _ (b : Bool) (room : m.a + m.j + pick b (sh.len x + 2) (sh.len x + 3) ≤ m.top) where
      abbrev top' : Bool → ℕ
      top' z = pick z m.top (m.top - 1)

      abbrev stack' : Bool → List ℕ
      stack' z = pick z stack (x ∷ stack)

      abbrev tops : Bool → List Loc
      tops z = pick z [] (S (m.top - 1) ∷ [])

      abbrev Okb : Loc → Type 0
      Okb = Ok K sh hd' has' (top' b) end

      abbrev inb : Loc → ℕ
      inb = content sh pa ra' hd' prim rep (stack' b) (top' b)

      keep_s : (z : Bool) → m.a + m.j + pick z (sh.len x + 2) (sh.len x + 3) ≤ m.top → (o : ℕ) → top' z ≤ o → o < end → (InLocs (S o) (tops z) → ⊥)
          → get_or ws o 0 ≡ pa (get_or (stack' z) (o - top' z) 0)
      keep_s true r o l u q = k.mem (S o) (l, u) (λ i. i)
      keep_s false r o l u q =
          let n : o ≢ m.top - 1 = λ d. q (inl (ap S d)) in
          let d : o - (m.top - 1) ≡ suc (o - m.top) = omega (arith, r) in
          k.mem (S o) (omega (arith, l, r), u) (λ i. i) ∙ rw d

      -- a written slot of a replica is of another object, and points to no replica of x
      old : (y j : ℕ) → IsPlaced (hd' y) → (j < sh.len y) × (has' y j ≡ true) → (y ≢ x) × (has y j ≡ true)
      old y j p w = on (ℕ_discrete y x)
        where
          on : Dec (y ≡ x) → (y ≢ x) × (has y j ≡ true)
          on (yes e) = let z : false ≡ true = rw (e, sx) at w.1 in off_on z
          on (no e) = (e, rw (so y e) at w.1)

      keep : Holds (addr pa ra') Okb inb (R x 0 ∷ R x 1 ∷ P x 1 ∷ tops b) ws
      keep (P y zero) u q = k.mem (P y 0) u (λ i. i)
      keep (P y (suc zero)) u q =
          let n : y ≢ x = λ d. q (inr (inr (inl (ap (λ (z : ℕ). P z 1) d)))) in
          k.mem (P y 1) u (λ i. i) ∙ rw (ro y n, ho y n)
      keep (P y (suc (suc j))) u q = k.mem (P y (suc (suc j))) u (λ i. i)
      keep (R y zero) u q =
          let n : y ≢ x = λ d. q (inl (ap (λ (z : ℕ). R z 0) d)) in
          rw (ro y n) (k.mem (R y 0) (u.0, rw (ho y n) at u.1, tt) (λ i. i))
      keep (R y (suc zero)) u q =
          let n : y ≢ x = λ d. q (inr (inl (ap (λ (z : ℕ). R z 1) d))) in
          rw (ro y n, ho y n) (k.mem (R y 1) (u.0, rw (ho y n) at u.1, tt) (λ i. i))
      keep (R y (suc (suc j))) u q =
          let w = old y j u.1 u.2 in
          let n : y ≢ x = w.0 in
          let p : IsPlaced (hd y) = rw (ho y n) at u.1 in
          rw (ro y n)
          (k.mem (R y (suc (suc j))) (u.0, p, (u.2.0, w.1)) (λ i. i)
          ∙ slot_word_same ra ra' (sh.ptr y) j (rep y j) (λ l. sym (ro (rep y j) (not_x (rep y j) (target y j p w.1 l)))))
      keep (S o) u q = keep_s b room o u.0 u.1 (λ i. q (inr (inr (inr i))))

      low : a' ≤ top' b
      low = go b room
        where
          go : (z : Bool) → m.a + m.j + pick z (sh.len x + 2) (sh.len x + 3) ≤ m.top → a' ≤ top' z
          go true r = omega (arith, r)
          go false r = omega (arith, r)

      -- the last write, if there is one
      pushed : (z : Bool) (vs : List ℕ) → m.a + m.j + pick z (sh.len x + 2) (sh.len x + 3) ≤ m.top → end ≤ length vs
          → Apart (addr pa ra') (Ok K sh hd' has' (top' z) end)
          → Holds (addr pa ra') (Ok K sh hd' has' (top' z) end) (content sh pa ra' hd' prim rep (stack' z) (top' z)) (tops z) vs
          → Holds (addr pa ra') (Ok K sh hd' has' (top' z) end) (content sh pa ra' hd' prim rep (stack' z) (top' z)) [] (pick z vs (set vs (m.top - 1) (pa x)))
      pushed true vs r f j h = h
      pushed false vs r f j h =
          write (addr pa ra') _ _ [] vs (S (m.top - 1)) (m.top - 1) (pa x) j h (omega arith, omega (arith, k.stacked, r)) refl
          (let z : m.top - 1 - (m.top - 1) ≡ 0 = omega arith in rw z) (omega (arith, k.stacked, r, f))

      mem' : Holds (addr pa ra') Okb inb []
          (pick b (forwarded_to ws m.a (primary (pa x)) c) (set (forwarded_to ws m.a (primary (pa x)) c) (m.top - 1) (pa x)))
      mem' =
          let j : Apart (addr pa ra') Okb = apart has' lay' wr (omega (arith, k.based)) low in
          let px : IsPlaced (hd' x) = rw hx tt in
          let pp = k.lay.inside x held in
          let d : ℕ = get_or ws (pa x - 2) 0 in
          let ed : d ≡ descriptor (sh.len x) (sh.ptr x) =
          (let z : pa x - 2 ≡ pa x - 2 + 0 = omega arith in rw z (k.mem (P x 0) (held, omega arith) (λ i. i))) in
          let w1 : List ℕ = set ws m.a d in
          let w2 : List ℕ = set w1 (m.a + 1) c in
          let n1 : length w1 ≡ length ws = length-set ws m.a d in
          let n2 : length w2 ≡ length ws = length-set w1 (m.a + 1) c ∙ n1 in
          let n3 : length (set w2 (pa x - 1) (m.a + 2)) ≡ length ws = length-set w2 (pa x - 1) (m.a + 2) ∙ n2 in
          let h1 = write (addr pa ra') Okb inb (R x 1 ∷ P x 1 ∷ tops b) ws (R x 0) m.a d j keep (held, px, tt) (omega (arith, rx)) (sym ed)
          (omega (arith, k.inside, k.stacked, fits)) in
          let h2 = write (addr pa ra') Okb inb (P x 1 ∷ tops b) w1 (R x 1) (m.a + 1) c j h1 (held, px, tt) (omega (arith, rx)) (ap copy_word hx)
          (omega (arith, n1, k.inside, k.stacked, fits)) in
          let h3 = write (addr pa ra') Okb inb (tops b) w2 (P x 1) (pa x - 1) (m.a + 2) j h2 (held, omega arith) (omega (arith, pp)) (rw hx rx)
          (omega (arith, n2, pp)) in
          pushed b (set w2 (pa x - 1) (m.a + 2)) room (omega (arith, n3, k.inside)) j h3

      stacked' : top' b + length (stack' b) ≡ end
      stacked' = go b room
        where
          go : (z : Bool) → m.a + m.j + pick z (sh.len x + 2) (sh.len x + 3) ≤ m.top → top' z + length (stack' z) ≡ end
          go true r = k.stacked
          go false r = omega (arith, k.stacked, r)

      free' : a' + m.j ≤ top' b
      free' = go b room
        where
          go : (z : Bool) → m.a + m.j + pick z (sh.len x + 2) (sh.len x + 3) ≤ m.top → a' + m.j ≤ top' z
          go true r = omega (arith, r)
          go false r = omega (arith, r)

need_pos : (b : Bool) (len : ℕ) → len + 2 ≤ pick b (len + 2) (len + 3)
need_pos true len = omega arith
need_pos false len = omega arith

pub twin_midway : {K : ℕ → Type 0} {pa ra : ℕ → ℕ} {sh : Shape} {hd : ℕ → Hd} {prim rep : ℕ → ℕ → ℕ} {has : ℕ → ℕ → Bool} {stack : List ℕ}
    {base end : ℕ} {m : Marks} {ws : List ℕ} (x c : ℕ) → Midway K pa ra sh hd prim rep has stack base end m ws → Held K sh x → IsUnplaced (hd x) → c ≤ sh.len x
    → ((y : ℕ) → sh.wrote y ≤ sh.len y) → ((y j : ℕ) → IsPlaced (hd y) → has y j ≡ true → j < sh.ptr y → IsPlaced (hd (rep y j)))
    → room_for true m end (twin_need (sh.len x) c) ≡ true
    → Midway K pa (upd ra x (m.a + 2)) sh (upd hd x (count c)) prim rep (upd has x (λ j. false)) (push c x stack) base end
    (twin_marks m (sh.len x) c) (twin_words m ws (pa x) c)
unfolding ra' hd' has'
twin_midway {K} {pa} {ra} {sh} {hd} {prim} {rep} {has} {stack} {base} {end} {m} {ws} x c k held un cl wr target r =
    let b : Bool = eqb c 0 in
    let room : m.a + m.j + pick b (sh.len x + 2) (sh.len x + 3) ≤ m.top =
    room_is m end (twin_need (sh.len x) c) (omega (arith, need_pos (eqb c 0) (sh.len x))) r in
    let fits : m.a + (sh.len x + 2) + m.j ≤ m.top = omega (arith, need_pos (eqb c 0) (sh.len x), room) in record {
      lay = rw (twin_length m ws (pa x) c) (lay' K pa ra sh hd prim rep has stack base end m ws x c k held un cl wr target fits);
      mem = mem' K pa ra sh hd prim rep has stack base end m ws x c k held un cl wr target fits b room;
      based = omega (arith, k.based);
      free = free' K pa ra sh hd prim rep has stack base end m ws x c k held un cl wr target fits b room;
      stacked = stacked' K pa ra sh hd prim rep has stack base end m ws x c k held un cl wr target fits b room;
      owed = owed' K pa ra sh hd prim rep has stack base end m ws x c k held un cl wr target fits;
      inside = rw (twin_length m ws (pa x) c) k.inside;
    }

-- the words of a place, as the code makes them
pub twin : {K : ℕ → Type 0} {pa ra : ℕ → ℕ} {sh : Shape} {hd : ℕ → Hd} {prim rep : ℕ → ℕ → ℕ} {has : ℕ → ℕ → Bool} {stack : List ℕ}
    {base end : ℕ} {m : Marks} {ws : List ℕ} (x c : ℕ) → Midway K pa ra sh hd prim rep has stack base end m ws → Held K sh x → IsUnplaced (hd x) → c ≤ sh.len x
    → ((y : ℕ) → sh.wrote y ≤ sh.len y) → ((y j : ℕ) → IsPlaced (hd y) → has y j ≡ true → j < sh.ptr y → IsPlaced (hd (rep y j)))
    → room_for true m end (twin_need (sh.len x) c) ≡ true
    → (place_of m end ws (primary (pa x)) (sh.len x) c ≡ placed_in (Some (twin_marks m (sh.len x) c, replica (m.a + 2))) (twin_words m ws (pa x) c))
    × Midway K pa (upd ra x (m.a + 2)) sh (upd hd x (count c)) prim rep (upd has x (λ j. false)) (push c x stack) base end
    (twin_marks m (sh.len x) c) (twin_words m ws (pa x) c)
twin {pa = pa} {sh = sh} {end = end} {m = m} {ws = ws} x c k held un cl wr target r =
    (place_of_fits m end ws (pa x) (sh.len x) c r, twin_midway x c k held un cl wr target r)
