-- The steps of a Fill keep the invariant: the primary's slot is written; the replica's slot is written and counted; off, both at once.
use Rattle.std.specs.Prelude.{ℕ, suc, ◌+◌, ◌≤◌, ◌<◌, ◌≡◌, ◌≢◌, Bool, false, ltb, eqb, Option, Some, None}
use Rattle.std.proofs.Math.Path.{refl}
use Rattle.std.proofs.Common.{sym, ◌∙◌, inl, arith, eqb-true}
use Rattle.std.proofs.Math.Bool.{true}
use Rattle.std.proofs.lemmas.Bool.{eqb-false}
use Rattle.table.specs.declared.Primary.{Primary}
use Rattle.machine.specs.Entries.{pending_with}
use Rattle.table.specs.declared.Slot.{Slot}
use Rattle.table.specs.declared.Operand.{Operand}
use Rattle.table.specs.declared.Replica.{Replica}
use Rattle.table.specs.declared.Operand.TheVariants.{Plain, Pointer}
use Rattle.table.specs.declared.Then.TheVariants.{ToFillCopy}
use Rattle.table.specs.declared.Place.TheVariants.{FillWrite, FillCopy, Take, Looking}
use Rattle.table.specs.declared.Task.{Task}
use Rattle.machine.specs.Basics.{pick}
use Rattle.machine.specs.Words.{replica, operand_word, copied_word}
use Rattle.machine.specs.Tasks.{holding_of}
use Rattle.machine.specs.Look.{look_ahead}
use Rattle.machine.specs.Begin.{is_pointer}
use Rattle.machine.specs.Switch.{ended_entry}
use Rattle.machine.proofs.Objects.Base.{clash, upd, upd_same, upd_other, slot, slot_same, slot_other}
use Rattle.machine.proofs.Objects.State.{Hd, white, count, locked, Shape, State, pending_is, OfPending, On, is_renamed, LateAt, Meeting, Late}
use Rattle.machine.proofs.Objects.Inv.{Sound, SoundOperand, SoundCopied, Colours, PendingOk, StoringOk, HalfFilled, PlaceOk, Off, Inv}
use Rattle.machine.proofs.Objects.Ops.{goes, goes_with, wrote_one, filled_one, half_fills, fills_copy, fills_off}
use Rattle.machine.proofs.Objects.Late.{late_after, late_before, meeting_after}
use Rattle.machine.proofs.Objects.SlotLaws.{slot_colours, slot_shapes, slot_keep, owners_inv, goes_owners, join}
use Rattle.machine.proofs.Objects.StoreSteps.{pos, pointer_sound, renamed_sound}
use Rattle.machine.proofs.Objects.Ended.{EndedOk, ended_ok}
use Rattle.machine.proofs.Objects.FillLaws.{wrote_shapes, wrote_colours, filled_sound, filled_shapes, filled_colours}

operand_sound : (K : ℕ → Type 0) (sh sh' : Shape) → ((a : ℕ) → Sound K sh a → Sound K sh' a) → (w : Operand Primary) → SoundOperand K sh w → SoundOperand K sh' w
operand_sound K sh sh' f (Plain u) z = tt
operand_sound K sh sh' f (Pointer q) z = f q.0 z

-- a Fill between its two writes
ahead : (K : ℕ → Type 0) (s : ℕ) (sh : Shape) (hd : ℕ → Hd) (prim rep : ℕ → ℕ → ℕ) (has : ℕ → ℕ → Bool) (Mt : ℕ → ℕ → Type 0) (on : Bool) (t : ℕ) (e : Task) (w : Operand Primary)
    → on ≡ true → hd 0 ≡ count 0 → HalfFilled sh prim e (operand_word w) (is_pointer w) → SoundOperand K sh w
    → PlaceOk K s sh hd prim rep has Mt on t e (look_ahead w ToFillCopy FillCopy)
ahead K s sh hd prim rep has Mt on t e (Plain u) z n h so = (z, h, tt)
ahead K s sh hd prim rep has Mt on t e (Pointer q) z n h so = by (eqb q.0 0) refl
  where
    by : (c : Bool) → eqb q.0 0 ≡ c → PlaceOk K s sh hd prim rep has Mt on t e (pick c (FillCopy (Pointer (replica 0))) (Looking q ToFillCopy))
    by true d = let a : q.0 ≡ 0 = eqb-true q.0 0 d in (z, rw a at h, (rw a at so, rw n tt))
    by false d = (z, pos q.0 (eqb-false q.0 0 d), so, h)

ahead_quiet : (w : Operand Primary) → LateAt (look_ahead w ToFillCopy FillCopy) → ⊥
ahead_quiet (Plain u) = λ z. z
ahead_quiet (Pointer q) = by (eqb q.0 0)
  where
    by : (c : Bool) → LateAt (pick c (FillCopy (Pointer (replica 0))) (Looking q ToFillCopy)) → ⊥
    by true z = z
    by false z = z

full : (K : ℕ → Type 0) (sh : Shape) (d : Option Slot) → StoringOk K sh d → (a j : ℕ) → On d a j → (sh.fill a ≡ sh.len a) × (j < sh.len a)
full K sh None h a j z = absurd z
full K sh (Some y) h a j z = rw (← z.0, ← z.1) (h.1.2, h.2)

module _ {K : ℕ → Type 0} {p s : ℕ} {o : State} (v : Inv K p s o) (t : ℕ) (l : t < p) (x : Primary) (r len f : ℕ) (me : (o.tasks t).pending ≡ pending_with x r len f) where
  made : PendingOk K o.shape o.hd o.on (pending_with x r len f)
  made = rw me at (v.entries t).pending

  -- no other task's pending object is x
  apart : (u : ℕ) → u ≢ t → (a : ℕ) → pending_is (o.tasks u).pending ≡ a → 0 < a → a ≢ x.0
  apart u q a z m e =
      let b : pending_is (o.tasks t).pending ≡ x.0 = rw me refl in
      q (v.owners.pendings u t (omega arith) (z ∙ e ∙ sym b))

  -- no Store is on its next slot, and no task has that slot locked
  no_store_lem : (u : ℕ) → o.shape.fill x.0 < o.shape.len x.0 → On (o.tasks u).storing x.0 (o.shape.fill x.0) → ⊥
  no_store_lem u m z = let d = full K o.shape (o.tasks u).storing (v.entries u).storing x.0 (o.shape.fill x.0) z in omega (arith, d.0, d.1)

  no_lock : o.on ≡ true → (u : ℕ) → o.hd x.0 ≡ locked (o.shape.fill x.0) u → ⊥
  no_lock on u z =
      let c : Colours K o.shape o.snap o.hd o.prim o.rep o.has o.stack (Late o.tasks) = rw on at v.mode in
      let b : suc (o.shape.fill x.0) ≤ o.snap.fill x.0 = (rw z at (c.bound x.0)) tt in
      omega (arith, c.older x.0)

  -- what is written into its next slot, if that is a pointer slot
  next_sound : (w : Operand Primary) → is_pointer w ≡ ltb (o.shape.fill x.0) (o.shape.ptr x.0) → SoundOperand K o.shape w
      → o.shape.fill x.0 < o.shape.ptr x.0
      → Sound K o.shape (slot o.prim x.0 (o.shape.fill x.0) (operand_word w) x.0 (o.shape.fill x.0))
  next_sound w q so m =
      rw (slot_same o.prim x.0 (o.shape.fill x.0) (operand_word w)) (pointer_sound K o.shape w (o.shape.fill x.0) _ q so m)

  -- the first write
  pub fill_writes : o.on ≡ true → (w : Operand Primary) → (o.tasks t).place ≡ FillWrite w
      → Inv K p s (half_fills o x.0 (operand_word w) t (goes (o.tasks t) (look_ahead w ToFillCopy FillCopy)))
  unfolding holding_of
  fill_writes on w pe =
      join t e v
      (wrote_shapes x.0 (slot_shapes x.0 i v.shapes (slot_other o.prim x.0 i (operand_word w)) value) place.1.0 (λ m. (value m).1))
      (rw on colours)
      (λ a z. z)
      (let b = v.entries t in record { eight = b.eight; regs = b.regs; pending = rw me made; storing = rw place.0 tt })
      (ahead K s sh' o.hd prim' o.rep o.has (Meeting (upd o.tasks t e)) o.on t e w on v.shapes.nil
      (place.0, rw me (place.1.0, upd_same o.shape.wrote x.0 (suc i), slot_same o.prim x.0 i (operand_word w), place.1.1)) (operand_sound K o.shape sh' (λ a z. z) w place.2))
      (goes_owners t (look_ahead w ToFillCopy FillCopy) v.owners l (omega arith) (rw pe (λ a j z. z, λ a z. z)))
      (λ u q. slot_keep {x = x.0} {i = i} v.owners record {
        size = omega arith;
        sound = λ a z. z;
        len = λ a z. refl;
        ptr = λ a z. refl;
        fill = λ a z m. refl;
        wrote = λ a z m. upd_other o.shape.wrote x.0 (suc i) a (apart u q a z m);
      } record {
        other = λ a j d. (slot_other o.prim x.0 i (operand_word w) a j d, refl, refl);
        meets = λ a j d. meeting_after o.tasks t e a j (λ z. absurd (rw pe at z.1));
        read = λ c z. absurd (no_lock on u z);
        put = λ z. absurd (no_lock on u z);
        written = λ z c. c;
        store = λ z. absurd (no_store_lem u place.1.0 z);
        next = λ z m c. absurd (apart u q x.0 z m refl);
      })
    where
      e : Task
      e = goes (o.tasks t) (look_ahead w ToFillCopy FillCopy)

      i : ℕ
      i = o.shape.fill x.0

      sh' : Shape
      sh' = wrote_one o.shape x.0

      prim' : ℕ → ℕ → ℕ
      prim' = slot o.prim x.0 i (operand_word w)

      place : ((o.tasks t).storing ≡ None)
          × OfPending (pending_with x r len f) (λ x. (o.shape.fill x < o.shape.len x) × (is_pointer w ≡ ltb (o.shape.fill x) (o.shape.ptr x))) × SoundOperand K o.shape w
      place = rw (pe, me) at (v.places t)

      value : i < o.shape.ptr x.0 → Sound K o.shape (prim' x.0 i)
      value = next_sound w place.1.1 place.2

      c : Colours K o.shape o.snap o.hd o.prim o.rep o.has o.stack (Late o.tasks)
      c = rw on at v.mode

      colours : Colours K sh' o.snap o.hd prim' o.rep o.has o.stack (Late (upd o.tasks t e))
      colours = wrote_colours x.0 (slot_colours {x = x.0} {i = i} c record {
        other = λ a j d. (slot_other o.prim x.0 i (operand_word w) a j d, refl, refl);
        late = λ a j d. late_after o.tasks t e a j (λ z. absurd (rw pe at z.1));
        early = λ a j d. late_before o.tasks t e a j (λ z. absurd (ahead_quiet w z.1));
        written = c.written x.0 i;
        copied = λ z a b. absurd (omega arith);
        target = c.target x.0 i;
        saw = λ a b. absurd (omega (arith, c.older x.0));
      })

  -- the second write: the slot counts
  pub fill_copies : (c : Operand Replica) → (o.tasks t).place ≡ FillCopy c → (k : ℕ) → 0 < k
      → Inv K p s (fills_copy o x.0 (copied_word c) t (goes_with (o.tasks t) (pending_with x r len (f + 1)) (Take k)))
  unfolding holding_of
  fill_copies c pe k kp =
      join t e v
      (filled_shapes x.0 v.shapes half.0 half.1 (λ m. rw half.2 (renamed_sound K o.shape o.hd c i _ half.3 place.2 m).0))
      (rw on colours)
      (filled_sound K o.shape x.0 half.0)
      (let b = v.entries t in record {
        eight = b.eight;
        regs = λ a. filled_sound K o.shape x.0 half.0 _ (b.regs a);
        pending = (made.0, made.1, made.2, made.3, next_filled, made.5, made.6);
        storing = rw place.1.0 tt;
      })
      (on, kp)
      (owners_inv t e v.owners l (omega arith) (rw pe (λ a j z. z, λ a z. z)) (λ u q z d. apart u q x.0 (sym d) z refl)
      (λ u a j q z d. q (v.owners.stores u t a j d z)))
      (λ u q. slot_keep {x = x.0} {i = i} v.owners record {
        size = omega arith;
        sound = filled_sound K o.shape x.0 half.0;
        len = λ a z. refl;
        ptr = λ a z. refl;
        fill = λ a z m. upd_other o.shape.fill x.0 (suc i) a (apart u q a z m);
        wrote = λ a z m. refl;
      } record {
        other = λ a j d. (refl, slot_other o.rep x.0 i (copied_word c) a j d, slot_other o.has x.0 i true a j d);
        meets = λ a j d. meets a j;
        read = λ a z. absurd (no_lock on u z);
        put = λ z. absurd (no_lock on u z);
        written = λ z d. slot_same o.has x.0 i true;
        store = λ z. refl;
        next = λ z m d. refl;
      })
    where
      e : Task
      e = goes_with (o.tasks t) (pending_with x r len (f + 1)) (Take k)

      i : ℕ
      i = o.shape.fill x.0

      place : (o.on ≡ true) × HalfFilled o.shape o.prim (o.tasks t) (copied_word c) (is_renamed c) × SoundCopied K o.shape o.hd c
      place = rw pe at (v.places t)

      on : o.on ≡ true
      on = place.0

      half : (i < o.shape.len x.0) × (o.shape.wrote x.0 ≡ suc i) × (o.prim x.0 i ≡ copied_word c) × (is_renamed c ≡ ltb i (o.shape.ptr x.0))
      half = rw me at place.1.1

      next_filled : f + 1 ≡ (filled_one o.shape x.0).fill x.0
      next_filled = rw (upd_same o.shape.fill x.0 (suc i)) (omega (arith, made.4))

      meets : (a j : ℕ) → Meeting o.tasks a j → Meeting (upd o.tasks t e) a j
      meets a j = meeting_after o.tasks t e a j (λ z. absurd (rw pe at z.1))

      same : slot o.rep x.0 i (copied_word c) x.0 i ≡ o.prim x.0 i
      same = slot_same o.rep x.0 i (copied_word c) ∙ sym half.2

      g : Colours K o.shape o.snap o.hd o.prim o.rep o.has o.stack (Late o.tasks)
      g = rw on at v.mode

      colours : Colours K (filled_one o.shape x.0) o.snap o.hd o.prim (slot o.rep x.0 i (copied_word c)) (slot o.has x.0 i true)
          o.stack (Late (upd o.tasks t e))
      colours = filled_colours x.0 (slot_colours {x = x.0} {i = i} g record {
        other = λ a j d. (refl, slot_other o.rep x.0 i (copied_word c) a j d, slot_other o.has x.0 i true a j d);
        late = λ a j d. late_after o.tasks t e a j (λ z. absurd (rw pe at z.1));
        early = λ a j d. late_before o.tasks t e a j (λ z. absurd z.1);
        written = λ z a b. absurd (omega arith);
        copied = λ z a b. inl same;
        target = λ z a b. let q = renamed_sound K o.shape o.hd c i _ half.3 place.2 b in
            rw (slot_same o.rep x.0 i (copied_word c)) (q.1, q.0.1);
        saw = λ a b. absurd (omega (arith, g.older x.0));
      }) (slot_same o.has x.0 i true) same

  -- the collector off: the one write, and the Fill ends
  pub fill_off : o.on ≡ false → (w : Operand Primary) → (o.tasks t).place ≡ FillWrite w
      → Inv K p s (fills_off o x.0 (operand_word w) t (ended_entry (o.tasks t).regs (pending_with x r len (f + 1))))
  unfolding holding_of
  fill_off off w pe =
      join t e v
      (filled_shapes x.0
      (wrote_shapes x.0 (slot_shapes x.0 i v.shapes (slot_other o.prim x.0 i (operand_word w)) value) place.1.0 (λ m. (value m).1))
      place.1.0 (upd_same o.shape.wrote x.0 (suc i))
      value)
      (rw off (rw off at v.mode))
      sound
      end.mine
      (rw end.idle (end.unfull, end.nowhere))
      (owners_inv t e v.owners l (omega arith) (rw pe (λ a j z. z, λ a z. z)) (λ u q z d. apart u q x.0 (sym d ∙ end.only z) (omega (arith, end.only z)) refl)
      (λ u a j q z d. rw end.nowhere at z))
      (λ u q. slot_keep {x = x.0} {i = i} v.owners record {
        size = omega arith;
        sound = sound;
        len = λ a z. refl;
        ptr = λ a z. refl;
        fill = λ a z m. upd_other o.shape.fill x.0 (suc i) a (apart u q a z m);
        wrote = λ a z m. upd_other o.shape.wrote x.0 (suc i) a (apart u q a z m);
      } record {
        other = λ a j d. (slot_other o.prim x.0 i (operand_word w) a j d, refl, refl);
        meets = λ a j d. meeting_after o.tasks t e a j (λ z. absurd (rw pe at z.1));
        read = λ c z. absurd (unlocked u z);
        put = λ z. absurd (unlocked u z);
        written = λ z c. c;
        store = λ z. absurd (no_store_lem u place.1.0 z);
        next = λ z m c. absurd (apart u q x.0 z m refl);
      })
    where
      e : Task
      e = ended_entry (o.tasks t).regs (pending_with x r len (f + 1))

      i : ℕ
      i = o.shape.fill x.0

      sh' : Shape
      sh' = filled_one (wrote_one o.shape x.0) x.0

      place : ((o.tasks t).storing ≡ None)
          × OfPending (pending_with x r len f) (λ x. (o.shape.fill x < o.shape.len x) × (is_pointer w ≡ ltb (o.shape.fill x) (o.shape.ptr x))) × SoundOperand K o.shape w
      place = rw (pe, me) at (v.places t)

      value : i < o.shape.ptr x.0 → Sound K o.shape (slot o.prim x.0 i (operand_word w) x.0 i)
      value = next_sound w place.1.1 place.2

      sound : (a : ℕ) → Sound K o.shape a → Sound K sh' a
      sound = filled_sound K (wrote_one o.shape x.0) x.0 place.1.0

      white_all : Off o.hd o.stack
      white_all = rw off at v.mode

      unlocked : (u : ℕ) → o.hd x.0 ≡ locked i u → ⊥
      unlocked u z = let d : o.hd x.0 ≡ white = white_all.all x.0 made.0 in clash cc

      next_filled : f + 1 ≡ sh'.fill x.0
      next_filled = rw (upd_same o.shape.fill x.0 (suc i)) (omega (arith, made.4))

      end : EndedOk K sh' o.hd o.on x.0 e
      end = ended_ok K sh' o.hd o.on (o.tasks t).regs x r len (f + 1) (v.entries t).eight (λ a. sound _ ((v.entries t).regs a))
          (made.0, made.1, made.2, made.3, next_filled, made.5, made.6) (omega (arith, made.3, made.4, place.1.0))
