-- A write of one slot keeps the agreement: of a replica (put, the second write of a Store or Fill), of a primary (the first).
use Rattle.std.specs.Prelude.{ℕ, zero, suc, ◌+◌, ◌≤◌, ◌<◌, ◌≡◌, refl, ◌≢◌, List, [], ◌∷◌, true, length, get_or, set}
use Rattle.std.proofs.Common.{ap, sym, ◌∙◌, inl, arith, length-set}
use Rattle.table.specs.declared.Task.{Task}
use Rattle.table.specs.declared.Table.{Table}
use Rattle.machine.specs.Entries.{entered}
use Rattle.machine.specs.Tasks.{holding_of}
use Rattle.machine.proofs.Objects.Base.{upd, upd_same, upd_all, slot, slot_same, slot_other}
use Rattle.machine.proofs.Objects.State.{Shape, State, IsPlaced, jobs_in}
use Rattle.machine.proofs.Objects.Inv.{Inv}
use Rattle.machine.proofs.Objects.Ops.{state, shape_of, copies, stores, half_fills, fills_copy, fills_off}
use Rattle.machine.proofs.Agree.Encode.{at_task, slot_word}
use Rattle.machine.proofs.Agree.Mem.{Loc, P, R, S, InLocs, write}
use Rattle.machine.specs.Agree.Agree.{end}
use Rattle.machine.proofs.Agree.Agree.{Held, addr, Ok, content, Lay, bottom, Agree}
use Rattle.machine.proofs.Agree.Apart.{apart}
use Rattle.machine.proofs.Agree.Enter.{bounds, enter}

-- ---- the word that a step writes is the slot's word
-- the shape with other slots filled and written
abbrev refilled : Shape → (ℕ → ℕ) → (ℕ → ℕ) → Shape
refilled sh fill wrote = shape_of sh.n sh.len sh.ptr fill wrote

module _ {K : ℕ → Type 0} {pa ra : ℕ → ℕ} {o : State} {t : Table} {ws : List ℕ} (v : Inv K t.limits.p t.limits.s o) (k : Agree K pa ra o t ws) (i : ℕ)
    (il : i < t.limits.p) (e : Task) (jobs : t.marks.j + jobs_in (holding_of (o.tasks i).place) ≡ t.marks.j + jobs_in (holding_of e.place)) (x : ℕ)
    (hx : Held K o.shape x) where
  -- where the blocks lie does not hang on what is filled
  lay_filled : (fill wrote : ℕ → ℕ) → Lay K (refilled o.shape fill wrote) o.hd pa ra (bottom t) t.marks.a (end t) (length ws)
  lay_filled fill wrote = record {
    nilp = k.lay.nilp;
    nilr = k.lay.nilr;
    inside = k.lay.inside;
    where_p = k.lay.where_p;
    where_r = k.lay.where_r;
    apart_p = k.lay.apart_p;
    apart_r = k.lay.apart_r;
    apart_pr = k.lay.apart_pr;
  }

  -- ---- slot j of x's replica
  replica_slot : (j n : ℕ) (fill : ℕ → ℕ) → IsPlaced (o.hd x) → j < o.shape.len x
      → Agree K pa ra
      (state (refilled o.shape fill o.shape.wrote) o.prim (slot o.rep x j n) (slot o.has x j true) o.hd o.stack (upd o.tasks i e) o.roots
      o.on o.snap) (entered t t.marks i (at_task pa ra e)) (set ws (ra x + j) (slot_word ra (o.shape.ptr x) j n))
  replica_slot j n fill pl l = enter k il record {
    size = length-set ws (ra x + j) (slot_word ra (o.shape.ptr x) j n);
    based = k.marked.based;
    free = k.marked.free;
    stacked = k.marked.stack;
    jobs = jobs;
    copies = k.marked.copies;
    owed = k.marked.owed;
    lay = lay_filled fill o.shape.wrote;
    mem =
        write (addr pa ra) _ _ [] ws (R x (suc (suc j))) (ra x + j) (slot_word ra (o.shape.ptr x) j n)
        (apart (slot o.has x j true) (lay_filled fill o.shape.wrote) v.shapes.written k.marked.based (omega (arith, k.marked.free))) keep
        (hx, pl, (l, slot_same o.has x j true)) (omega (arith, rx)) (ap (slot_word ra (o.shape.ptr x) j) (slot_same o.rep x j n))
        (omega (arith, rx, k.marked.free, k.marked.stack, k.sized.size, bounds t.upper t.limits.h));
    roots = k.roots;
    tasks = k.tasks;
  }
    where
      rx : (bottom t + 2 ≤ ra x) × (ra x + o.shape.len x ≤ t.marks.a)
      rx = k.lay.where_r x hx pl

      keep : (l : Loc) → Ok K (refilled o.shape fill o.shape.wrote) o.hd (slot o.has x j true) t.marks.top (end t) l
          → (InLocs l (R x (suc (suc j)) ∷ []) → ⊥)
          → get_or ws (addr pa ra l) 0
          ≡ content (refilled o.shape fill o.shape.wrote) pa ra o.hd o.prim (slot o.rep x j n) o.stack t.marks.top l
      keep (P y zero) u q = k.mem (P y 0) u (λ z. z)
      keep (P y (suc zero)) u q = k.mem (P y 1) u (λ z. z)
      keep (P y (suc (suc m))) u q = k.mem (P y (suc (suc m))) u (λ z. z)
      keep (R y zero) u q = k.mem (R y 0) u (λ z. z)
      keep (R y (suc zero)) u q = k.mem (R y 1) u (λ z. z)
      keep (R y (suc (suc m))) u q =
          let d : (y ≡ x) × (m ≡ j) → ⊥ = λ r. q (inl (let a : y ≡ x = r.0 in let b : m ≡ j = r.1 in cc)) in
          k.mem (R y (suc (suc m))) (u.0, u.1, (u.2.0, sym (slot_other o.has x j true y m d) ∙ u.2.1)) (λ z. z)
          ∙ ap (slot_word ra (o.shape.ptr y) m) (sym (slot_other o.rep x j n y m d))
      keep (S u) l q = k.mem (S u) l (λ z. z)

  pub copies_agree : (j n : ℕ) → IsPlaced (o.hd x) → j < o.shape.len x
      → Agree K pa ra (copies o x j n i e) (entered t t.marks i (at_task pa ra e)) (set ws (ra x + j) (slot_word ra (o.shape.ptr x) j n))
  copies_agree j n = replica_slot j n o.shape.fill

  pub fills_agree : (n : ℕ) → IsPlaced (o.hd x) → o.shape.fill x < o.shape.len x
      → Agree K pa ra (fills_copy o x n i e) (entered t t.marks i (at_task pa ra e))
      (set ws (ra x + o.shape.fill x) (slot_word ra (o.shape.ptr x) (o.shape.fill x) n))
  fills_agree n = replica_slot (o.shape.fill x) n (upd o.shape.fill x (suc (o.shape.fill x)))

  -- ---- slot j of x's primary; the others that are written now were before
  primary_slot : (j n : ℕ) (fill wrote : ℕ → ℕ) → ((y u : ℕ) → ((y ≡ x) × (u ≡ j) → ⊥) → u < wrote y → u < o.shape.wrote y) → j < wrote x
      → ((y : ℕ) → wrote y ≤ o.shape.len y)
      → Agree K pa ra
      (state (refilled o.shape fill wrote) (slot o.prim x j n) o.rep o.has o.hd o.stack (upd o.tasks i e) o.roots o.on o.snap)
      (entered t t.marks i (at_task pa ra e)) (set ws (pa x + j) (slot_word pa (o.shape.ptr x) j n))
  primary_slot j n fill wrote back l low = enter k il record {
    size = length-set ws (pa x + j) (slot_word pa (o.shape.ptr x) j n);
    based = k.marked.based;
    free = k.marked.free;
    stacked = k.marked.stack;
    jobs = jobs;
    copies = k.marked.copies;
    owed = k.marked.owed;
    lay = lay_filled fill wrote;
    mem =
        write (addr pa ra) _ _ [] ws (P x (suc (suc j))) (pa x + j) (slot_word pa (o.shape.ptr x) j n)
        (apart o.has (lay_filled fill wrote) low k.marked.based (omega (arith, k.marked.free))) keep (hx, omega arith)
        (omega (arith, k.lay.inside x hx)) (ap (slot_word pa (o.shape.ptr x) j) (slot_same o.prim x j n)) (omega (arith, k.lay.inside x hx, low x));
    roots = k.roots;
    tasks = k.tasks;
  }
    where
      keep : (l : Loc) → Ok K (refilled o.shape fill wrote) o.hd o.has t.marks.top (end t) l → (InLocs l (P x (suc (suc j)) ∷ []) → ⊥)
          → get_or ws (addr pa ra l) 0 ≡ content (refilled o.shape fill wrote) pa ra o.hd (slot o.prim x j n) o.rep o.stack t.marks.top l
      keep (P y zero) u q = k.mem (P y 0) (u.0, omega arith) (λ z. z)
      keep (P y (suc zero)) u q = k.mem (P y 1) (u.0, omega arith) (λ z. z)
      keep (P y (suc (suc m))) u q =
          let d : (y ≡ x) × (m ≡ j) → ⊥ = λ r. q (inl (let a : y ≡ x = r.0 in let b : m ≡ j = r.1 in cc)) in
          k.mem (P y (suc (suc m))) (u.0, omega (arith, back y m d (omega arith))) (λ z. z)
          ∙ ap (slot_word pa (o.shape.ptr y) m) (sym (slot_other o.prim x j n y m d))
      keep (R y zero) u q = k.mem (R y 0) u (λ z. z)
      keep (R y (suc zero)) u q = k.mem (R y 1) u (λ z. z)
      keep (R y (suc (suc m))) u q = k.mem (R y (suc (suc m))) u (λ z. z)
      keep (S u) l q = k.mem (S u) l (λ z. z)

  pub stores_agree : (j n : ℕ) → j < o.shape.wrote x
      → Agree K pa ra (stores o x j n i e) (entered t t.marks i (at_task pa ra e)) (set ws (pa x + j) (slot_word pa (o.shape.ptr x) j n))
  stores_agree j n l = primary_slot j n o.shape.fill o.shape.wrote (λ y u d m. m) l v.shapes.written

  -- the next slot of x written: the others were
  next : ℕ → ℕ
  next = upd o.shape.wrote x (suc (o.shape.fill x))

  next_back : (y u : ℕ) → ((y ≡ x) × (u ≡ o.shape.fill x) → ⊥) → u < next y → u < o.shape.wrote y
  unfolding next
  next_back y u =
      upd_all (λ y b. ((y ≡ x) × (u ≡ o.shape.fill x) → ⊥) → u < b → u < o.shape.wrote y) o.shape.wrote x (suc (o.shape.fill x))
      (λ d m. let q : u ≢ o.shape.fill x = λ z. d (refl, z) in omega (arith, v.shapes.filled x)) (λ y q d m. m) y

  next_low : o.shape.fill x < o.shape.len x → (y : ℕ) → next y ≤ o.shape.len y
  unfolding next
  next_low l = upd_all (λ y b. b ≤ o.shape.len y) o.shape.wrote x (suc (o.shape.fill x)) (omega arith) (λ y q. v.shapes.written y)

  next_here : o.shape.fill x < next x
  unfolding next
  next_here = rw upd_same (omega arith)

  pub half_agree : (n : ℕ) → o.shape.fill x < o.shape.len x
      → Agree K pa ra (half_fills o x n i e) (entered t t.marks i (at_task pa ra e))
      (set ws (pa x + o.shape.fill x) (slot_word pa (o.shape.ptr x) (o.shape.fill x) n))
  unfolding next
  half_agree n l = primary_slot (o.shape.fill x) n o.shape.fill next next_back next_here (next_low l)

  pub fills_off_agree : (n : ℕ) → o.shape.fill x < o.shape.len x
      → Agree K pa ra (fills_off o x n i e) (entered t t.marks i (at_task pa ra e))
      (set ws (pa x + o.shape.fill x) (slot_word pa (o.shape.ptr x) (o.shape.fill x) n))
  unfolding next
  fills_off_agree n l = primary_slot (o.shape.fill x) n (upd o.shape.fill x (suc (o.shape.fill x))) next next_back next_here (next_low l)
