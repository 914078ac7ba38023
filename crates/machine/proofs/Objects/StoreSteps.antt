-- The steps of a Store keep the invariant: the primary's slot is written; meet; the replica's slot is written.
use Rattle.std.specs.Prelude.{ℕ, ◌<◌, ◌≡◌, ◌≢◌, ◌⊎◌, Bool, false, eqb}
use Rattle.std.proofs.Math.Path.{refl}
use Rattle.std.proofs.Common.{ap, sym, ◌∙◌, arith, lt-ltb, ltb-true, eqb-true}
use Rattle.std.proofs.Math.Logic.{inl, inr}
use Rattle.std.proofs.Math.Bool.{true}
use Rattle.std.proofs.Math.Dec.{ltb}
use Rattle.std.proofs.lemmas.Bool.{eqb-false}
use Rattle.table.specs.declared.Primary.{Primary}
use Rattle.machine.specs.Entries.{storing_on}
use Rattle.table.specs.declared.Operand.{Operand}
use Rattle.table.specs.declared.Replica.{Replica}
use Rattle.table.specs.declared.Operand.TheVariants.{Plain, Pointer}
use Rattle.table.specs.declared.Then.TheVariants.{ToStoreCopy}
use Rattle.table.specs.declared.Place.TheVariants.{StoreWrite, Meet, StoreCopy, Take, Looking}
use Rattle.table.specs.declared.Task.{Task}
use Rattle.machine.specs.Basics.{pick}
use Rattle.machine.specs.Words.{replica, operand_word, copied_word}
use Rattle.machine.specs.Tasks.{holding_of}
use Rattle.machine.specs.Look.{look_ahead}
use Rattle.machine.specs.Begin.{is_pointer}
use Rattle.machine.proofs.Objects.Base.{clash, off_on, upd, upd_same, slot, slot_same, slot_other}
use Rattle.machine.proofs.Objects.State.{Hd, white, locked, Shape, State, IsSeen, IsPlaced, left, OfStore, On, is_renamed, LateAt, Meeting, Late}
use Rattle.machine.proofs.Objects.Inv.{Sound, SoundOperand, SoundCopied, Colours, StoringOk, PlaceOk, Off, Inv}
use Rattle.machine.proofs.Objects.Ops.{goes, moves, stores, copies}
use Rattle.machine.proofs.Objects.Late.{late_after, late_before, meeting_after}
use Rattle.machine.proofs.Objects.SlotLaws.{Elsewhere, slot_colours, slot_shapes, shape_same, slot_keep, owners_inv, goes_owners, goes_entry, late_mode, moves_inv, join}

pub pos : (q : ℕ) → q ≢ 0 → 0 < q
pos q z = omega (arith, z)

-- a value for a pointer slot is a pointer to a sound object
pub pointer_sound : (K : ℕ → Type 0) (sh : Shape) (w : Operand Primary) (i m : ℕ) → is_pointer w ≡ ltb i m → SoundOperand K sh w → i < m → Sound K sh (operand_word w)
pointer_sound K sh (Plain u) i m e o l = off_on (e ∙ lt-ltb i m l)
pointer_sound K sh (Pointer q) i m e o l = o

pub renamed_sound : (K : ℕ → Type 0) (sh : Shape) (hd : ℕ → Hd) (c : Operand Replica) (i m : ℕ) → is_renamed c ≡ ltb i m → SoundCopied K sh hd c → i < m
    → Sound K sh (copied_word c) × IsPlaced (hd (copied_word c))
renamed_sound K sh hd (Plain u) i m e o l = off_on (e ∙ lt-ltb i m l)
renamed_sound K sh hd (Pointer r) i m e o l = o

module _ {K : ℕ → Type 0} {p s : ℕ} {o : State} (v : Inv K p s o) (t : ℕ) (l : t < p) (x : Primary) (i : ℕ) (se : (o.tasks t).storing ≡ storing_on x i) where
  -- the task's Store is on slot i of x, and nowhere else; no other task's is there; no slot still to fill is there
  stored : StoringOk K o.shape (storing_on x i)
  stored = rw se at (v.entries t).storing

  on_it : On (o.tasks t).storing x.0 i
  on_it = rw se (refl, refl)

  on_only : (a j : ℕ) → Elsewhere x.0 i a j → On (o.tasks t).storing a j → ⊥
  on_only a j d z = let r : (x.0 ≡ a) × (i ≡ j) = rw se at z in d (sym r.0, sym r.1)

  no_other : (u : ℕ) → u ≢ t → On (o.tasks u).storing x.0 i → ⊥
  no_other u q z = q (v.owners.stores u t x.0 i z on_it)

  not_next : o.shape.fill x.0 ≡ i → ⊥
  not_next z = omega (arith, stored.1.2, stored.2)

  pub store_writes : o.on ≡ true → (w : Operand Primary) → (o.tasks t).place ≡ StoreWrite w → Inv K p s (stores o x.0 i (operand_word w) t (goes (o.tasks t) (Meet w)))
  unfolding holding_of
  store_writes on w pe =
      join t e v
      (slot_shapes x.0 i v.shapes (slot_other o.prim x.0 i (operand_word w))
      (λ m. rw (slot_same o.prim x.0 i (operand_word w)) (pointer_sound K o.shape w i _ place.0.0 place.1 m)))
      (rw on colours)
      (λ a z. z)
      (goes_entry (Meet w) (v.entries t))
      (on, rw se (place.0.0, slot_same o.prim x.0 i (operand_word w)), place.1)
      (goes_owners t (Meet w) v.owners l (omega arith) (rw pe (λ a j z. z, λ a z. z)))
      (λ u q. slot_keep {x = x.0} {i = i} v.owners shape_same record {
        other = λ a j d. (slot_other o.prim x.0 i (operand_word w) a j d, refl, refl);
        meets = λ a j d. meeting_after o.tasks t e a j (λ z. absurd (rw pe at z.1));
        read = λ c z r. inr met;
        put = λ z r. inr met;
        written = λ z r. r;
        store = λ z. absurd (no_other u q z);
        next = λ z m f. absurd (not_next f);
      })
    where
      e : Task
      e = goes (o.tasks t) (Meet w)

      place : OfStore (storing_on x i) (λ x i. (is_pointer w ≡ ltb i (o.shape.ptr x)) × (o.on ≡ true → i < o.shape.ptr x → IsSeen (o.hd (o.prim x i))))
          × SoundOperand K o.shape w
      place = rw (pe, se) at (v.places t)

      met : Meeting (upd o.tasks t e) x.0 i
      met = (t, rw (upd_same o.tasks t e) on_it, rw (upd_same o.tasks t e) tt)

      c : Colours K o.shape o.snap o.hd o.prim o.rep o.has o.stack (Late o.tasks)
      c = rw on at v.mode

      seen : (a : ℕ) → IsSeen (o.hd a) ⊎ ((i < left (o.shape.len x.0) (o.hd x.0)) × (o.prim x.0 i ≡ a) × (Late o.tasks x.0 i → ⊥))
          → i < o.shape.ptr x.0 → IsSeen (o.hd a)
      seen a (inl z) m = z
      seen a (inr z) m = rw (← z.1) (place.0.1 on m)

      colours : Colours K o.shape o.snap o.hd (slot o.prim x.0 i (operand_word w)) o.rep o.has o.stack (Late (upd o.tasks t e))
      colours = slot_colours {x = x.0} {i = i} c record {
        other = λ a j d. (slot_other o.prim x.0 i (operand_word w) a j d, refl, refl);
        late = λ a j d. late_after o.tasks t e a j (λ z. absurd (rw pe at z.1));
        early = λ a j d. late_before o.tasks t e a j (λ z. absurd (on_only a j d z.0));
        written = c.written x.0 i;
        copied = λ z a b. inr (t, rw (upd_same o.tasks t e) on_it, rw (upd_same o.tasks t e) tt);
        target = c.target x.0 i;
        saw = λ a b. inl (seen (o.snap.slots x.0 i) (c.saw x.0 i a b) b);
      }

  -- the collector off: no header is locked, and the entry stays
  pub store_writes_off : o.on ≡ false → (w : Operand Primary) → (o.tasks t).place ≡ StoreWrite w → Inv K p s (stores o x.0 i (operand_word w) t (o.tasks t))
  unfolding holding_of
  store_writes_off off w pe =
      join t (o.tasks t) v
      (slot_shapes x.0 i v.shapes (slot_other o.prim x.0 i (operand_word w))
      (λ m. rw (slot_same o.prim x.0 i (operand_word w)) (pointer_sound K o.shape w i _ place.0.0 place.1 m)))
      (rw off white_all)
      (λ a z. z)
      (v.entries t)
      (rw (pe, se) ((place.0.0, λ z m. off_on (sym off ∙ z)), place.1))
      (owners_inv t (o.tasks t) v.owners l (omega arith) (rw pe (λ a j z. z, λ a z. z))
      (λ u q z r. q (sym (v.owners.pendings t u z r))) (λ u a j q z r. q (v.owners.stores u t a j r z)))
      (λ u q. slot_keep {x = x.0} {i = i} v.owners shape_same record {
        other = λ a j d. (slot_other o.prim x.0 i (operand_word w) a j d, refl, refl);
        meets = λ a j d. meeting_after o.tasks t (o.tasks t) a j (λ z. z);
        read = λ c z r. absurd (unlocked u z);
        put = λ z r. absurd (unlocked u z);
        written = λ z r. r;
        store = λ z. absurd (no_other u q z);
        next = λ z m f. absurd (not_next f);
      })
    where
      place : OfStore (storing_on x i) (λ x i. (is_pointer w ≡ ltb i (o.shape.ptr x)) × (o.on ≡ true → i < o.shape.ptr x → IsSeen (o.hd (o.prim x i))))
          × SoundOperand K o.shape w
      place = rw (pe, se) at (v.places t)

      white_all : Off o.hd o.stack
      white_all = rw off at v.mode

      unlocked : (u : ℕ) → o.hd x.0 ≡ locked i u → ⊥
      unlocked u z = let r : o.hd x.0 ≡ white = white_all.all x.0 stored.0 in clash cc

  -- no replica yet: nothing to meet
  pub meets_white : (w : Operand Primary) → (o.tasks t).place ≡ Meet w → o.hd x.0 ≡ white → (k : ℕ) → 0 < k → Inv K p s (moves o t (goes (o.tasks t) (Take k)))
  unfolding holding_of
  meets_white w pe he k kp =
      moves_inv t e v (rw on colours)
      (λ u a j q z. meeting_after o.tasks t e a j (λ r. absurd (unmet u a j z r.0)))
      (goes_entry (Take k) (v.entries t))
      (on, kp)
      (goes_owners t (Take k) v.owners l (omega arith) (rw pe (λ a j z. z, λ a z. z)))
    where
      e : Task
      e = goes (o.tasks t) (Take k)

      on : o.on ≡ true
      on = (rw pe at (v.places t)).0

      unmet : (u a j : ℕ) → o.hd a ≡ locked j u → On (o.tasks t).storing a j → ⊥
      unmet u a j z r =
          let q : (x.0 ≡ a) × (i ≡ j) = rw se at r in
          let h : o.hd x.0 ≡ o.hd a = ap o.hd q.0 in
          let d : ◌≡◌ {A = ℕ} 0 1 = cc (he, h, z) in
          clash d

      c : Colours K o.shape o.snap o.hd o.prim o.rep o.has o.stack (Late o.tasks)
      c = rw on at v.mode

      early : (a j : ℕ) → Late (upd o.tasks t e) a j → Late o.tasks a j
      early a j = late_before o.tasks t e a j (λ z. absurd z.1)

      still : (a : ℕ) → IsSeen (o.hd a) ⊎ ((i < left (o.shape.len x.0) (o.hd x.0)) × (o.prim x.0 i ≡ a) × (Late o.tasks x.0 i → ⊥))
          → IsSeen (o.hd a) ⊎ ((i < left (o.shape.len x.0) (o.hd x.0)) × (o.prim x.0 i ≡ a) × (Late (upd o.tasks t e) x.0 i → ⊥))
      still a (inl z) = inl z
      still a (inr z) = inr (z.0, z.1, λ r. z.2 (early x.0 i r))

      colours : Colours K o.shape o.snap o.hd o.prim o.rep o.has o.stack (Late (upd o.tasks t e))
      colours = slot_colours {x = x.0} {i = i} c record {
        other = λ a j d. (refl, refl, refl);
        late = λ a j d. late_after o.tasks t e a j (λ z. absurd (on_only a j d z.0));
        early = λ a j d. early a j;
        written = c.written x.0 i;
        copied = λ z. absurd (rw he at z);
        target = c.target x.0 i;
        saw = λ a b. still (o.snap.slots x.0 i) (c.saw x.0 i a b);
      }

  -- a Store on its way to the replica's slot
  ahead : (w : Operand Primary) (e : Task) (Mt : ℕ → ℕ → Type 0) → e.storing ≡ storing_on x i → o.on ≡ true → is_pointer w ≡ ltb i (o.shape.ptr x.0)
      → o.prim x.0 i ≡ operand_word w → SoundOperand K o.shape w → IsPlaced (o.hd x.0)
      → PlaceOk K s o.shape o.hd o.prim o.rep o.has Mt o.on t e (look_ahead w ToStoreCopy StoreCopy)
  ahead (Plain u) e Mt z on b f so h = (on, rw z (b, f, h), tt)
  ahead (Pointer q) e Mt z on b f so h = by (eqb q.0 0) refl
    where
      by : (c : Bool) → eqb q.0 0 ≡ c
          → PlaceOk K s o.shape o.hd o.prim o.rep o.has Mt o.on t e (pick c (StoreCopy (Pointer (replica 0))) (Looking q ToStoreCopy))
      by true d =
          let n : q.0 ≡ 0 = eqb-true q.0 0 d in
          (on, rw z (b, f ∙ n, h), (rw n at so, rw v.shapes.nil tt))
      by false d =
          let n : q.0 ≢ 0 = eqb-false q.0 0 d in
          (on, pos q.0 n, so, rw z (ltb-true i (o.shape.ptr x.0) (sym b), f, h))

  ahead_late : (w : Operand Primary) → LateAt (look_ahead w ToStoreCopy StoreCopy)
  ahead_late (Plain u) = tt
  ahead_late (Pointer q) = by (eqb q.0 0)
    where
      by : (c : Bool) → LateAt (pick c (StoreCopy (Pointer (replica 0))) (Looking q ToStoreCopy))
      by true = tt
      by false = tt

  -- a replica whose slot i is not locked
  pub meets_goes : (w : Operand Primary) → (o.tasks t).place ≡ Meet w → IsPlaced (o.hd x.0) → ((u : ℕ) → o.hd x.0 ≡ locked i u → ⊥)
      → Inv K p s (moves o t (goes (o.tasks t) (look_ahead w ToStoreCopy StoreCopy)))
  unfolding holding_of
  meets_goes w pe h f =
      moves_inv t e v
      (late_mode v (upd o.tasks t e) (λ a j. late_after o.tasks t e a j (λ z. (z.0, ahead_late w))) (λ a j. late_before o.tasks t e a j (λ z. (z.0, rw pe tt))))
      (λ u a j q z. meeting_after o.tasks t e a j (λ r. absurd (unmet u a j z r.0)))
      (goes_entry (look_ahead w ToStoreCopy StoreCopy) (v.entries t))
      (ahead w e (Meeting (upd o.tasks t e)) se place.0 place.1.0 place.1.1 place.2 h)
      (goes_owners t (look_ahead w ToStoreCopy StoreCopy) v.owners l (omega arith) (rw pe (λ a j z. z, λ a z. z)))
    where
      e : Task
      e = goes (o.tasks t) (look_ahead w ToStoreCopy StoreCopy)

      place : (o.on ≡ true) × OfStore (storing_on x i) (λ x i. (is_pointer w ≡ ltb i (o.shape.ptr x)) × (o.prim x i ≡ operand_word w)) × SoundOperand K o.shape w
      place = rw (pe, se) at (v.places t)

      unmet : (u a j : ℕ) → o.hd a ≡ locked j u → On (o.tasks t).storing a j → ⊥
      unmet u a j z r = let q : (x.0 ≡ a) × (i ≡ j) = rw se at r in f u (ap o.hd q.0 ∙ z ∙ ap (λ (n : ℕ). locked n u) (sym q.1))

  -- the replica's slot written with what the primary's has
  pub store_copies : (c : Operand Replica) → (o.tasks t).place ≡ StoreCopy c → (k : ℕ) → 0 < k → Inv K p s (copies o x.0 i (copied_word c) t (goes (o.tasks t) (Take k)))
  unfolding holding_of
  store_copies c pe k kp =
      join t e v v.shapes (rw place.0 colours) (λ a z. z) (goes_entry (Take k) (v.entries t)) (place.0, kp)
      (goes_owners t (Take k) v.owners l (omega arith) (rw pe (λ a j z. z, λ a z. z)))
      (λ u q. slot_keep {x = x.0} {i = i} v.owners shape_same record {
        other = λ a j d. (refl, slot_other o.rep x.0 i (copied_word c) a j d, slot_other o.has x.0 i true a j d);
        meets = λ a j d. meeting_after o.tasks t e a j (λ z. absurd (rw pe at z.1));
        read = λ a z. read a;
        put = λ z r. inl same;
        written = λ z r. slot_same o.has x.0 i true;
        store = λ z. refl;
        next = λ z m f. refl;
      })
    where
      e : Task
      e = goes (o.tasks t) (Take k)

      place : (o.on ≡ true) × OfStore (storing_on x i) (λ x i. (is_renamed c ≡ ltb i (o.shape.ptr x)) × (o.prim x i ≡ copied_word c) × IsPlaced (o.hd x)) × SoundCopied K o.shape o.hd c
      place = rw (pe, se) at (v.places t)

      same : slot o.rep x.0 i (copied_word c) x.0 i ≡ o.prim x.0 i
      same = slot_same o.rep x.0 i (copied_word c) ∙ sym place.1.1

      read : (a : ℕ) → (o.prim x.0 i ≡ a) ⊎ Meeting o.tasks x.0 i → (o.prim x.0 i ≡ a) ⊎ Meeting (upd o.tasks t e) x.0 i
      read a (inl z) = inl z
      read a (inr z) = inr (meeting_after o.tasks t e x.0 i (λ r. absurd (rw pe at r.1)) z)

      g : Colours K o.shape o.snap o.hd o.prim o.rep o.has o.stack (Late o.tasks)
      g = rw place.0 at v.mode

      early : (a j : ℕ) → Late (upd o.tasks t e) a j → Late o.tasks a j
      early a j = late_before o.tasks t e a j (λ z. absurd z.1)

      still : (a : ℕ) → IsSeen (o.hd a) ⊎ ((i < left (o.shape.len x.0) (o.hd x.0)) × (o.prim x.0 i ≡ a) × (Late o.tasks x.0 i → ⊥))
          → IsSeen (o.hd a) ⊎ ((i < left (o.shape.len x.0) (o.hd x.0)) × (o.prim x.0 i ≡ a) × (Late (upd o.tasks t e) x.0 i → ⊥))
      still a (inl z) = inl z
      still a (inr z) = inr (z.0, z.1, λ r. z.2 (early x.0 i r))

      colours : Colours K o.shape o.snap o.hd o.prim (slot o.rep x.0 i (copied_word c)) (slot o.has x.0 i true) o.stack (Late (upd o.tasks t e))
      colours = slot_colours {x = x.0} {i = i} g record {
        other = λ a j d. (refl, slot_other o.rep x.0 i (copied_word c) a j d, slot_other o.has x.0 i true a j d);
        late = λ a j d. late_after o.tasks t e a j (λ z. absurd (on_only a j d z.0));
        early = λ a j d. early a j;
        written = λ z a b. slot_same o.has x.0 i true;
        copied = λ z a b. inl same;
        target = λ z a b. let q = renamed_sound K o.shape o.hd c i _ place.1.0 place.2 b in
            rw (slot_same o.rep x.0 i (copied_word c)) (q.1, q.0.1);
        saw = λ a b. still (o.snap.slots x.0 i) (g.saw x.0 i a b);
      }
