-- A new object keeps the agreement: its block at A while off, the blocks of primary and replica while collecting.
use Rattle.std.specs.Prelude.{ℕ, zero, suc, ◌+◌, ◌*◌, ◌≤◌, ◌<◌, ◌≡◌, refl, ◌≢◌, List, [], ◌∷◌, Bool, true, false, length, get_or, set}
use Rattle.std.proofs.Common.{ap, sym, ◌∙◌, inl, inr, arith, length-set}
use Rattle.std.proofs.Math.Decide.{ℕ_discrete}
use Rattle.table.specs.declared.Place.{Place}
use Rattle.table.specs.declared.Place.TheVariants.{Read, Put, Release, Looking, Placing}
use Rattle.table.specs.declared.Task.{Task}
use Rattle.table.specs.declared.Table.{Table}
use Rattle.machine.specs.Words.{primary, descriptor, laid}
use Rattle.machine.specs.Entries.{marks_at, entered, pending_with}
use Rattle.machine.specs.Tasks.{holding_of}
use Rattle.machine.specs.New.{made}
use Rattle.machine.proofs.Objects.Base.{off_on, upd, upd_same, upd_other, sum_to, sum_to_ext, sum_none}
use Rattle.machine.proofs.Objects.State.{Hd, count, Shape, State, IsPlaced, owes, jobs_in, Meeting, Late}
use Rattle.machine.proofs.Objects.Inv.{Colours, Off, PlaceOk, Inv}
use Rattle.machine.proofs.Objects.Ops.{one_more, makes}
use Rattle.machine.proofs.Agree.Encode.{at_pending, at_task, header_word, copy_word}
use Rattle.machine.proofs.Agree.Mem.{Loc, P, R, InLocs, Holds, Apart, write}
use Rattle.machine.specs.Agree.Agree.{end}
use Rattle.machine.proofs.Agree.Agree.{Held, addr, Ok, content, Beside, Lay, bottom, Agree}
use Rattle.machine.proofs.Agree.Apart.{apart}
use Rattle.machine.proofs.Agree.Enter.{enter}
use Rattle.machine.proofs.Agree.Older.{slot_word_same}
use Rattle.machine.proofs.Agree.Block.{older_same, at_new, make_off_tasks, make_on_tasks, make_roots, spaces, clear_p, clear_r, turned, held_old, held_new, wrote_low, inside', where_p', apart_p', block_frame}

-- ---- what is so while off
-- no task has a job
no_job : (K : ℕ → Type 0) (s : ℕ) (sh : Shape) (hd : ℕ → Hd) (prim rep : ℕ → ℕ → ℕ) (has : ℕ → ℕ → Bool) (Mt : ℕ → ℕ → Type 0) (u : ℕ) (e : Task) (pl : Place)
    → PlaceOk K s sh hd prim rep has Mt false u e pl → jobs_in (holding_of pl) ≡ 0
unfolding holding_of
no_job K s sh hd prim rep has Mt u e (Read n job) h = off_on h.0
no_job K s sh hd prim rep has Mt u e (Put n job c) h = off_on h.0
no_job K s sh hd prim rep has Mt u e (Release n job) h = off_on h.0
no_job K s sh hd prim rep has Mt u e (Looking q th) h = off_on h.0
no_job K s sh hd prim rep has Mt u e (Placing q th) h = off_on h.0
no_job K s sh hd prim rep has Mt u e _ h = refl

sum_more : (n : ℕ) (f : ℕ → ℕ) → sum_to (suc n) f ≡ f n + sum_to n f
unfolding sum_to
sum_more n f = refl

-- the pending object as the table has it
pub made_at : (pa : ℕ → ℕ) (o : State) (t : Table) (r len : ℕ)
    → made t.marks r len ≡ at_pending (upd pa (suc o.shape.n) (t.marks.a + 2)) (pending_with (primary (suc o.shape.n)) r len 0)
made_at pa o t r len = rw (upd_same pa (suc o.shape.n) (t.marks.a + 2))

module _ {K : ℕ → Type 0} {pa ra : ℕ → ℕ} {o : State} {t : Table} {ws : List ℕ} (v : Inv K t.limits.p t.limits.s o) (k : Agree K pa ra o t ws) (i : ℕ)
    (il : i < t.limits.p) (e : Task) (len m : ℕ) where
  abbrev new : ℕ
  new = suc o.shape.n

  abbrev pa' : ℕ → ℕ
  pa' = upd pa new (t.marks.a + 2)

  abbrev sh' : Shape
  sh' = one_more o.shape len m

  abbrev has' : ℕ → ℕ → Bool
  has' = upd o.has new (λ j. false)

  pa_new : pa' new ≡ t.marks.a + 2
  pa_new = upd_same pa new (t.marks.a + 2)

  size_laid : (l : List ℕ) (a d h : ℕ) → length (laid l a d h) ≡ length l
  size_laid l a d h = length-set (set l a d) (a + 1) h ∙ length-set l a d

  -- descriptor and header of the new primary written
  laid_primary : (ra' : ℕ → ℕ) (ls : List Loc) (h : ℕ) → t.marks.a + (len + 2) ≤ end t → Apart (addr pa' ra') (Ok K sh' o.hd has' t.marks.top (end t))
      → header_word (ra' new) (o.hd new) ≡ h
      → Holds (addr pa' ra') (Ok K sh' o.hd has' t.marks.top (end t)) (content sh' pa' ra' o.hd o.prim o.rep o.stack t.marks.top)
      (P new 0 ∷ P new 1 ∷ ls) ws
      → Holds (addr pa' ra') (Ok K sh' o.hd has' t.marks.top (end t)) (content sh' pa' ra' o.hd o.prim o.rep o.stack t.marks.top) ls
      (laid ws t.marks.a (descriptor len m) h)
  laid_primary ra' ls h room ap' eh hs =
      let x : Held K sh' new = held_new v k len m room in
      write (addr pa' ra') _ _ ls (set ws t.marks.a (descriptor len m)) (P new 1) (t.marks.a + 1) h ap'
      (write (addr pa' ra') _ _ (P new 1 ∷ ls) ws (P new 0) t.marks.a (descriptor len m) ap' hs (x, omega arith) (omega (arith, pa_new))
      (rw (upd_same o.shape.len new len, upd_same o.shape.ptr new m)) (omega (arith, spaces v k))) (x, omega arith) (omega (arith, pa_new)) eh
      (rw length-set (omega (arith, spaces v k)))

  pub make_off_agree : o.on ≡ false → t.marks.a + len + 2 ≤ end t
      → t.marks.j + jobs_in (holding_of (o.tasks i).place) ≡ t.marks.j + jobs_in (holding_of e.place)
      → Agree K (upd pa (suc o.shape.n) (t.marks.a + 2)) ra (makes o len m i e)
      (entered t (marks_at (t.marks.a + (len + 2)) t.marks.top t.marks.j t.marks.copies) i (at_task (upd pa (suc o.shape.n) (t.marks.a + 2)) ra e))
      (laid ws t.marks.a (descriptor len m) 0)
  make_off_agree off space q = enter k il record {
    size = size_laid ws t.marks.a (descriptor len m) 0;
    based = omega (arith, k.marked.based);
    free = omega (arith, idle, k.marked.stack, ap length offs.empty);
    stacked = k.marked.stack;
    jobs = q;
    copies = k.marked.copies;
    owed = λ on. off_on (sym off ∙ sym k.on ∙ on);
    lay = lay;
    mem =
        laid_primary ra [] 0 room (apart has' lay (wrote_low v k len m room) (omega (arith, k.marked.based)) (omega (arith, k.marked.stack, ap length offs.empty)))
        (rw (offs.all new (omega arith)))
        (block_frame v k len m room ra (λ y d. refl) (P new 0 ∷ P new 1 ∷ []) (inl refl) (inr (inl refl)) (λ y u h d. absurd (unplaced y h.0 h.1)));
    roots = make_roots v k (t.marks.a + 2);
    tasks = make_off_tasks v k (t.marks.a + 2);
  }
    where
      room : t.marks.a + (len + 2) ≤ end t
      room = omega arith

      offs : Off o.hd o.stack
      offs = rw off at v.mode

      unplaced : (y : ℕ) → Held K sh' y → IsPlaced (o.hd y) → ⊥
      unplaced y h p = rw (offs.all y h.0) at p

      idle : t.marks.j ≡ 0
      idle =
          k.marked.jobs
          ∙ sum_to_ext t.limits.p (λ u. jobs_in (holding_of (o.tasks u).place)) (λ u. 0)
          (λ u l. no_job K t.limits.s o.shape o.hd o.prim o.rep o.has (Meeting o.tasks) u (o.tasks u) (o.tasks u).place (rw off at (v.places u)))
          ∙ sum_none t.limits.p (λ u. 0) (λ u m. refl)

      lay : Lay K sh' o.hd pa' ra (bottom t) (t.marks.a + (len + 2)) (end t) (length ws)
      lay = record {
        nilp = sym (older_same v k pa (t.marks.a + 2) 0 (omega arith)) ∙ k.lay.nilp;
        nilr = k.lay.nilr;
        inside = inside' v k len m room;
        where_p = where_p' v k len m room (t.marks.a + (len + 2)) (omega arith);
        where_r = λ y h p. absurd (unplaced y h p);
        apart_p = apart_p' v k len m room;
        apart_r = λ y z h g p. absurd (unplaced y h p);
        apart_pr = λ y z h g p. absurd (unplaced z g p);
      }

  pub make_on_agree : o.on ≡ true → t.marks.a + t.marks.j + 2 * (len + 2) ≤ t.marks.top
      → t.marks.j + jobs_in (holding_of (o.tasks i).place) ≡ t.marks.j + jobs_in (holding_of e.place)
      → Agree K (upd pa (suc o.shape.n) (t.marks.a + 2)) (upd ra (suc o.shape.n) (t.marks.a + len + 4)) (makes o len m i e)
      (entered t (marks_at (t.marks.a + 2 * (len + 2)) t.marks.top t.marks.j t.marks.copies) i
      (at_task (upd pa (suc o.shape.n) (t.marks.a + 2)) (upd ra (suc o.shape.n) (t.marks.a + len + 4)) e))
      (laid (laid ws t.marks.a (descriptor len m) (t.marks.a + (len + 4))) (t.marks.a + (len + 2)) (descriptor len m) 0)
  make_on_agree on space q = enter k il record {
    size =
        size_laid (laid ws t.marks.a (descriptor len m) (t.marks.a + (len + 4))) (t.marks.a + (len + 2)) (descriptor len m) 0
        ∙ size_laid ws t.marks.a (descriptor len m) (t.marks.a + (len + 4));
    based = omega (arith, k.marked.based);
    free = omega arith;
    stacked = k.marked.stack;
    jobs = q;
    copies = k.marked.copies;
    owed = λ on. omega (arith, k.marked.owed on, sum_more new (λ y. owes (o.hd y)), ap owes hd_new);
    lay = lay;
    mem =
        write (addr pa' ra') _ _ [] (set first (t.marks.a + (len + 2)) (descriptor len m)) (R new 1) (t.marks.a + (len + 2) + 1) 0 apart'
        (write (addr pa' ra') _ _ (R new 1 ∷ []) first (R new 0) (t.marks.a + (len + 2)) (descriptor len m) apart'
        (laid_primary ra' (R new 0 ∷ R new 1 ∷ []) (t.marks.a + (len + 4)) room apart' (rw hd_new (omega (arith, ra_new)))
        (block_frame v k len m room ra' ra_old (P new 0 ∷ P new 1 ∷ R new 0 ∷ R new 1 ∷ []) (inl refl) (inr (inl refl)) replicas))
        (held_new v k len m room, rw hd_new tt, tt) (omega (arith, ra_new)) (rw (upd_same o.shape.len new len, upd_same o.shape.ptr new m))
        (rw size_first (omega (arith, room2, spaces v k))))
        (held_new v k len m room, rw hd_new tt, tt) (omega (arith, ra_new)) (ap copy_word hd_new)
        (rw (length-set first (t.marks.a + (len + 2)) (descriptor len m), size_first) (omega (arith, room2, spaces v k)));
    roots = make_roots v k (t.marks.a + 2);
    tasks = make_on_tasks v k (t.marks.a + 2) (t.marks.a + len + 4);
  }
    where
      ra' : ℕ → ℕ
      ra' = upd ra new (t.marks.a + len + 4)

      first : List ℕ
      first = laid ws t.marks.a (descriptor len m) (t.marks.a + (len + 4))

      size_first : length first ≡ length ws
      size_first = size_laid ws t.marks.a (descriptor len m) (t.marks.a + (len + 4))

      room2 : t.marks.a + 2 * (len + 2) ≤ end t
      room2 = omega (arith, k.marked.stack)

      room : t.marks.a + (len + 2) ≤ end t
      room = omega (arith, room2)

      colours : Colours K o.shape o.snap o.hd o.prim o.rep o.has o.stack (Late o.tasks)
      colours = rw on at v.mode

      hd_new : o.hd new ≡ count 0
      hd_new = colours.newer new (omega (arith, colours.known))

      ra_new : ra' new ≡ t.marks.a + len + 4
      ra_new = upd_same ra new (t.marks.a + len + 4)

      ra_old : (y : ℕ) → y ≢ new → ra' y ≡ ra y
      ra_old = upd_other ra new (t.marks.a + len + 4)

      pa_old : (y : ℕ) → y ≢ new → pa' y ≡ pa y
      pa_old = upd_other pa new (t.marks.a + 2)

      len_new : sh'.len new ≡ len
      len_new = upd_same o.shape.len new len

      len_old : (y : ℕ) → y ≢ new → sh'.len y ≡ o.shape.len y
      len_old = upd_other o.shape.len new len

      old : (y : ℕ) → y ≢ new → Held K sh' y → Held K o.shape y
      old = held_old v k len m room

      where_r' : (y : ℕ) → Held K sh' y → IsPlaced (o.hd y) → (bottom t + 2 ≤ ra' y) × (ra' y + sh'.len y ≤ t.marks.a + 2 * (len + 2))
      where_r' =
          at_new v k (λ y. Held K sh' y → IsPlaced (o.hd y) → (bottom t + 2 ≤ ra' y) × (ra' y + sh'.len y ≤ t.marks.a + 2 * (len + 2)))
          (λ h p. (omega (arith, ra_new, k.marked.based), omega (arith, ra_new, len_new)))
          (λ y d h p. let w = k.lay.where_r y (old y d h) p in (omega (arith, ra_old y d), omega (arith, ra_old y d, len_old y d)))

      apart_r' : (y z : ℕ) → Held K sh' y → Held K sh' z → IsPlaced (o.hd y) → IsPlaced (o.hd z) → y ≢ z → Beside (ra' y) (sh'.len y) (ra' z) (sh'.len z)
      apart_r' y z h g p q d = by (ℕ_discrete y new) (ℕ_discrete z new)
        where
          by : Dec (y ≡ new) → Dec (z ≡ new) → Beside (ra' y) (sh'.len y) (ra' z) (sh'.len z)
          by (yes a) (yes b) = absurd (d (a ∙ sym b))
          by (yes a) (no b) =
              rw (a, ra_new, len_new, ra_old z b, len_old z b)
              (turned v k (ra z) (o.shape.len z) (t.marks.a + len + 4) len (clear_r v k z (t.marks.a + len + 4) len (old z b g) q (omega arith)))
          by (no a) (yes b) = rw (b, ra_new, len_new, ra_old y a, len_old y a) (clear_r v k y (t.marks.a + len + 4) len (old y a h) p (omega arith))
          by (no a) (no b) = rw (ra_old y a, len_old y a, ra_old z b, len_old z b) (k.lay.apart_r y z (old y a h) (old z b g) p q d)

      apart_pr' : (y z : ℕ) → Held K sh' y → Held K sh' z → IsPlaced (o.hd z) → Beside (pa' y) (sh'.len y) (ra' z) (sh'.len z)
      apart_pr' y z h g q = by (ℕ_discrete y new) (ℕ_discrete z new)
        where
          by : Dec (y ≡ new) → Dec (z ≡ new) → Beside (pa' y) (sh'.len y) (ra' z) (sh'.len z)
          by (yes a) (yes b) = rw (a, b, pa_new, ra_new, len_new) (inl (omega arith))
          by (yes a) (no b) =
              rw (a, pa_new, len_new, ra_old z b, len_old z b)
              (turned v k (ra z) (o.shape.len z) (t.marks.a + 2) len (clear_r v k z (t.marks.a + 2) len (old z b g) q (omega arith)))
          by (no a) (yes b) =
              rw (b, ra_new, len_new, pa_old y a, len_old y a) (clear_p v k y (t.marks.a + len + 4) len (old y a h) (omega arith) (omega (arith, room2)))
          by (no a) (no b) = rw (pa_old y a, len_old y a, ra_old z b, len_old z b) (k.lay.apart_pr y z (old y a h) (old z b g) q)

      lay : Lay K sh' o.hd pa' ra' (bottom t) (t.marks.a + 2 * (len + 2)) (end t) (length ws)
      lay = record {
        nilp = sym (older_same v k pa (t.marks.a + 2) 0 (omega arith)) ∙ k.lay.nilp;
        nilr = sym (older_same v k ra (t.marks.a + len + 4) 0 (omega arith)) ∙ k.lay.nilr;
        inside = inside' v k len m room;
        where_p = where_p' v k len m room (t.marks.a + 2 * (len + 2)) (omega arith);
        where_r = where_r';
        apart_p = apart_p' v k len m room;
        apart_r = apart_r';
        apart_pr = apart_pr';
      }

      apart' : Apart (addr pa' ra') (Ok K sh' o.hd has' t.marks.top (end t))
      apart' = apart has' lay (wrote_low v k len m room) (omega (arith, k.marked.based)) (omega arith)

      -- the words of replicas that were there
      replica_old : (y u : ℕ) → y ≢ new → Ok K sh' o.hd has' t.marks.top (end t) (R y u)
          → get_or ws (addr pa' ra' (R y u)) 0 ≡ content sh' pa' ra' o.hd o.prim o.rep o.stack t.marks.top (R y u)
      replica_old y zero d h = rw (ra_old y d, len_old y d, upd_other o.shape.ptr new m y d) (k.mem (R y 0) (old y d h.0, h.1, tt) (λ z. z))
      replica_old y (suc zero) d h = rw (ra_old y d) (k.mem (R y 1) (old y d h.0, h.1, tt) (λ z. z))
      replica_old y (suc (suc j)) d h =
          let w : o.has y j ≡ true = rw (upd_other o.has new (λ j. false) y d) at h.2.1 in
          rw (ra_old y d, upd_other o.shape.ptr new m y d)
          (k.mem (R y (suc (suc j))) (old y d h.0, h.1, (omega (arith, h.2.0, len_old y d), w)) (λ z. z)
          ∙ slot_word_same ra ra' (o.shape.ptr y) j (o.rep y j)
          (λ l. older_same v k ra (t.marks.a + len + 4) (o.rep y j) (colours.target y j h.1 w l).1))

      replica_new : (u : ℕ) → Ok K sh' o.hd has' t.marks.top (end t) (R new u) → InLocs (R new u) (P new 0 ∷ P new 1 ∷ R new 0 ∷ R new 1 ∷ [])
      replica_new zero h = inr (inr (inl refl))
      replica_new (suc zero) h = inr (inr (inr (inl refl)))
      replica_new (suc (suc j)) h = off_on (rw (upd_same o.has new (λ j. false)) at h.2.1)

      replicas : (y u : ℕ) → Ok K sh' o.hd has' t.marks.top (end t) (R y u) → (InLocs (R y u) (P new 0 ∷ P new 1 ∷ R new 0 ∷ R new 1 ∷ []) → ⊥)
          → get_or ws (addr pa' ra' (R y u)) 0 ≡ content sh' pa' ra' o.hd o.prim o.rep o.stack t.marks.top (R y u)
      replicas y u h n = by (ℕ_discrete y new)
        where
          by : Dec (y ≡ new) → get_or ws (addr pa' ra' (R y u)) 0 ≡ content sh' pa' ra' o.hd o.prim o.rep o.stack t.marks.top (R y u)
          by (yes d) = absurd (n (rw d (replica_new u (rw d at h))))
          by (no d) = replica_old y u d h
