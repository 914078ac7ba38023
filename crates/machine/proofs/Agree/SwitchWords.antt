-- The switch-over: every pointer of the table its replica's, the words as they are; they are the primaries now.
use Rattle.std.specs.Prelude.{ℕ, zero, suc, ◌≤◌, ◌<◌, ◌≡◌, ◌⊎◌, List, [], map, get_or, take, eqb, Option, Some, None}
use Rattle.std.proofs.Math.Path.{refl, ap}
use Rattle.std.proofs.Common.{subst, ◌∙◌, inl, inr, arith, ne_eqb}
use Rattle.std.proofs.Math.Bool.{true}
use Rattle.std.proofs.Math.Decide.{ℕ_discrete, dec_lt}
use Rattle.std.proofs.Math.ListN.{length, get_or-map}
use Rattle.table.specs.declared.Primary.{Primary}
use Rattle.table.specs.declared.Making.{Making}
use Rattle.table.specs.declared.Place.{Place}
use Rattle.table.specs.declared.Place.TheVariants.{Idle}
use Rattle.table.specs.declared.Table.{Table}
use Rattle.table.specs.declared.Answer.{Answer}
use Rattle.machine.specs.Basics.{pick, all_of, first_of}
use Rattle.machine.specs.Words.{primary, look_of}
use Rattle.machine.specs.Entries.{no_task, nil, out, pending_with}
use Rattle.machine.specs.Switch.{replica_in, new_name, is_forwarded, has_replica, new_pending, pending_has_replica, new_entry, entry_has_replicas, switched, switch_of}
use Rattle.machine.proofs.Objects.Base.{off_on, upd, upd_other}
use Rattle.machine.proofs.Objects.State.{Hd, white, count, Shape, State, IsPlaced, left, root, Late, Meeting}
use Rattle.machine.proofs.Objects.Inv.{Sound, Colours, PendingOk, PlaceOk, Inv}
use Rattle.machine.proofs.Objects.Ops.{switches}
use Rattle.machine.proofs.Agree.Encode.{at_primary, at_pending, at_task}
use Rattle.machine.proofs.Agree.Mem.{P, R, S, Holds}
use Rattle.machine.specs.Agree.Agree.{end}
use Rattle.machine.proofs.Agree.Agree.{Held, addr, Ok, content, Lay, bottom, Agree}
use Rattle.machine.proofs.Agree.Midway.{Midway}
use Rattle.machine.proofs.Agree.MidwayRead.{space_low, look_in, midway_of}
use Rattle.machine.proofs.Agree.Home.{Home}
use Rattle.machine.proofs.Agree.Rows.{all_take, first_map, length_first, get_d_first, get_d_behind}
use Rattle.machine.proofs.Objects.SwitchInv.{not_late}

module _ {K : ℕ → Type 0} {pa ra : ℕ → ℕ} {o : State} {t : Table} {ws : List ℕ} (v : Inv K t.limits.p t.limits.s o) (k : Agree K pa ra o t ws)
    (on : o.on ≡ true) (idle : (i : ℕ) → (o.tasks i).place ≡ Idle) (done : (x : ℕ) → K x → x ≤ o.shape.n → o.hd x ≡ count 0) (empty : o.stack ≡ []) where
  abbrev sh : Shape
  sh = o.shape

  abbrev s : ℕ
  s = t.limits.s

  mid : Midway K pa ra o.shape o.hd o.prim o.rep o.has o.stack (bottom t) (end t) t.marks ws
  mid = midway_of k on

  colours : Colours K o.shape o.snap o.hd o.prim o.rep o.has o.stack (Late o.tasks)
  colours = rw on at v.mode

  -- ---- every kept object has its replica
  found : (x : ℕ) → Held K sh x → (is_forwarded (look_of ws s (primary (pa x))) ≡ true) × (replica_in (primary (pa x)) (look_of ws s (primary (pa x))) ≡ primary (ra x))
  found x h =
      rw (look_in mid s k.sized.limited.s_high x h (v.shapes.high x h.1) (v.shapes.low x h.1) (space_low t.upper t.limits.h), done x h.2 h.1) (refl, refl)

  named : (x : ℕ) → K x → x ≤ sh.n → (has_replica ws s (primary (pa x)) ≡ true) × (new_name ws s (primary (pa x)) ≡ primary (ra x))
  unfolding has_replica new_name
  named x a b = go (ℕ_discrete x 0)
    where
      go : Dec (x ≡ 0) → (pick (eqb (pa x) 0) true (is_forwarded (look_of ws s (primary (pa x)))) ≡ true)
          × (pick (eqb (pa x) 0) (primary (pa x)) (replica_in (primary (pa x)) (look_of ws s (primary (pa x)))) ≡ primary (ra x))
      go (yes e) = rw (e, k.lay.nilp, k.lay.nilr) (refl, refl)
      go (no n) =
          let h : Held K sh x = (omega (arith, n), b, a) in
          rw (ne_eqb (pa x) 0 (λ e. omega (arith, k.lay.inside x h))) (found x h)

  -- a list of pointers to kept objects
  row_has : (l : List Primary) → ((r : ℕ) → Sound K sh (root l r)) → all_of (has_replica ws s) (take 8 (map (at_primary pa) l)) ≡ true
  row_has l h =
      all_take (has_replica ws s) (primary (pa 0)) 8 (map (at_primary pa) l)
      (λ r a b. rw (get_or-map (at_primary pa) l r nil) (let q = h r in (named (root l r) q.0 q.1).0))

  row_new : (l : List Primary) → length l ≡ 8 → ((r : ℕ) → Sound K sh (root l r)) → first_of 8 (new_name ws s) (map (at_primary pa) l) ≡ map (at_primary ra) l
  row_new l e h = first_map (new_name ws s) (at_primary pa) (at_primary ra) nil 8 l (omega (arith, e)) (λ r a. let q = h r in (named (root l r) q.0 q.1).1)

  -- a pending object
  pending_has : (q : Option Making) → PendingOk K sh o.hd o.on q
      → (pending_has_replica ws s (at_pending pa q) ≡ true) × (new_pending ws s (at_pending pa q) ≡ at_pending ra q)
  unfolding pending_has_replica new_pending
  pending_has None w = (refl, refl)
  pending_has (Some d) w = let n = named d.at.0 w.1 w.2 in (n.0, ap (λ (z : Primary). pending_with z d.register d.len d.filled) n.1)

  -- an idle entry
  idle_ok : (i : ℕ) → (o.tasks i).storing ≡ None
  idle_ok i =
      (subst (λ (z : Place). PlaceOk K s sh o.hd o.prim o.rep o.has (Meeting o.tasks) o.on i (o.tasks i) z) (idle i) (v.places i)).1

  entry_has : (i : ℕ) → entry_has_replicas ws s (at_task pa ra (o.tasks i)) ≡ true
  unfolding entry_has_replicas
  entry_has i = rw (pending_has (o.tasks i).pending (v.entries i).pending).0 (row_has (o.tasks i).regs (v.entries i).regs)

  entry_new : (i : ℕ) → new_entry ws s (at_task pa ra (o.tasks i)) ≡ at_task ra ra (o.tasks i)
  unfolding new_entry
  entry_new i =
      rw (row_new (o.tasks i).regs (v.entries i).eight (v.entries i).regs, (pending_has (o.tasks i).pending (v.entries i).pending).1, idle_ok i, idle i) refl

  -- one that was never used
  entry_fresh : (i : ℕ) → t.limits.p ≤ i → at_task pa ra (o.tasks i) ≡ at_task ra ra (o.tasks i)
  entry_fresh i l = rw (v.owners.beyond i l, k.lay.nilp, k.lay.nilr) refl

  -- ---- the table
  entries_new : (i : ℕ) → i < 8 → get_or (first_of t.limits.p (new_entry ws s) t.tasks) i no_task ≡ at_task ra ra (o.tasks i)
  entries_new i l = go (dec_lt i t.limits.p)
    where
      go : Dec (i < t.limits.p) → get_or (first_of t.limits.p (new_entry ws s) t.tasks) i no_task ≡ at_task ra ra (o.tasks i)
      go (yes m) = get_d_first t.limits.p (new_entry ws s) t.tasks i no_task m (omega (arith, k.eight)) ∙ ap (new_entry ws s) (k.tasks i l) ∙ entry_new i
      go (no n) = get_d_behind t.limits.p (new_entry ws s) t.tasks i no_task (omega (arith, n)) ∙ k.tasks i l ∙ entry_fresh i (omega (arith, n))

  -- refusal 11 does not come: every root, register and pending pointer has its replica
  pub switch_is : (came : Table) (x : Answer) → switch_of came t ws x ≡ out (switched t ws) x
  unfolding switch_of
  switch_is came x =
      let a : all_of (has_replica ws s) (take 8 t.roots) ≡ true = rw k.roots (row_has o.roots v.roots) in
      let b : all_of (entry_has_replicas ws s) (take t.limits.p t.tasks) ≡ true =
      all_take (entry_has_replicas ws s) no_task t.limits.p t.tasks (λ i l m. ap (entry_has_replicas ws s) (k.tasks i (omega (arith, k.eight))) ∙ entry_has i) in
      rw (a, b) refl

  -- ---- words
  hd' : ℕ → Hd
  hd' = upd (λ x. white) 0 (count 0)

  white_now : (x : ℕ) → 0 < x → hd' x ≡ white
  unfolding hd'
  white_now x l = upd_other (λ y. white) 0 (count 0) x (λ e. omega arith)

  unplaced_now : (x : ℕ) → 0 < x → IsPlaced (hd' x) → ⊥
  unplaced_now x l p = rw (white_now x l) at p

  placed : (x : ℕ) → Held K sh x → IsPlaced (o.hd x)
  placed x h = rw (done x h.2 h.1) tt

  abbrev sh' : Shape
  sh' = (switches o).shape

  lay' : Lay K sh' hd' ra ra (bottom t) t.marks.a (end t) (length ws)
  lay' = record {
    nilp = k.lay.nilr;
    nilr = k.lay.nilr;
    inside = λ x h. let w = k.lay.where_r x h (placed x h) in
        (omega (arith, w, space_low t.upper t.limits.h), omega (arith, w, mid.free, mid.stacked, mid.inside));
    where_p = λ x h. inl (k.lay.where_r x h (placed x h));
    where_r = λ x h p. absurd (unplaced_now x h.0 p);
    apart_p = λ x y h g. k.lay.apart_r x y h g (placed x h) (placed y g);
    apart_r = λ x y h g p. absurd (unplaced_now x h.0 p);
    apart_pr = λ x y h g p. absurd (unplaced_now y g.0 p);
  }

  -- a filled slot was copied
  copied : (x j : ℕ) → Held K sh x → j < sh.fill x → (o.has x j ≡ true) × (o.rep x j ≡ o.prim x j)
  copied x j h l =
      let z : left (sh.len x) (o.hd x) ≤ j = rw (done x h.2 h.1) (omega arith) in
      (colours.written x j (placed x h) z l, same (colours.copied x j (placed x h) z l))
    where
      same : (o.rep x j ≡ o.prim x j) ⊎ Late o.tasks x j → o.rep x j ≡ o.prim x j
      same (inl e) = e
      same (inr w) = absurd (not_late o idle x j w)

  mem' : Holds (addr ra ra) (Ok K sh' hd' o.has t.marks.top (end t)) (content sh' ra ra hd' o.prim o.rep [] t.marks.top) [] ws
  mem' (P x zero) u q = k.mem (R x 0) (u.0, placed x u.0, tt) (λ i. i)
  mem' (P x (suc zero)) u q =
      k.mem (R x 1) (u.0, placed x u.0, tt) (λ i. i) ∙ rw (done x u.0.2 u.0.1, white_now x u.0.0) refl
  mem' (P x (suc (suc j))) u q =
      let c = copied x j u.0 (omega (arith, u.1)) in
      k.mem (R x (suc (suc j))) (u.0, placed x u.0, (omega (arith, u.1, v.shapes.filled x, v.shapes.written x), c.0)) (λ i. i) ∙ rw c.1 refl
  mem' (R x i) u q = absurd (unplaced_now x u.0.0 u.1)
  mem' (S i) u q = absurd (omega (arith, u.0, u.1, mid.stacked, ap length empty))

  -- the replicas are the primaries now, and every object is white
  pub switch_agree : Agree K ra ra (switches o) (switched t ws) ws
  unfolding hd'
  switch_agree = record {
    sized = k.sized;
    living = k.living;
    on = refl;
    marked = record {
      based = k.marked.based;
      free = k.marked.free;
      stack = omega (arith, k.marked.stack, ap length empty);
      jobs = k.marked.jobs;
      copies = k.marked.copies;
      owed = λ e. off_on e;
    };
    lay = lay';
    mem = mem';
    roots = ap (first_of 8 (new_name ws s)) k.roots ∙ row_new o.roots v.eight v.roots;
    eight = length_first t.limits.p (new_entry ws s) t.tasks ∙ k.eight;
    tasks = entries_new;
  }

  -- and lie in the space in use, below A
  pub switch_home : Home K ra (switches o).shape (bottom t) t.marks.a
  switch_home x h = k.lay.where_r x h (placed x h)
