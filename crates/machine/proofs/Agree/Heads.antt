-- A change of one header keeps the agreement: a claim, a take, a release.
use Rattle.std.specs.Prelude.{ℕ, zero, suc, ◌+◌, ◌-◌, ◌≤◌, ◌<◌, ◌≡◌, refl, ◌≢◌, List, [], ◌∷◌, Bool, true, false, length, get_or, set, eqb}
use Rattle.std.proofs.Common.{ap, sym, ◌∙◌, inl, inr, arith, length-set, eqb-true}
use Rattle.table.specs.declared.Task.{Task}
use Rattle.table.specs.declared.Table.{Table}
use Rattle.machine.specs.Basics.{pick}
use Rattle.machine.specs.Entries.{marks_at, entered}
use Rattle.machine.specs.Tasks.{holding_of}
use Rattle.machine.proofs.Objects.Base.{upd, upd_same, upd_other, upd_all, sum_to, sum_to_at, sum_to_part}
use Rattle.machine.proofs.Objects.State.{Hd, white, claimed, count, locked, State, IsPlaced, owes, jobs_in, Late}
use Rattle.machine.proofs.Objects.Inv.{Colours, Inv}
use Rattle.machine.proofs.Objects.Ops.{push, heads}
use Rattle.machine.proofs.Agree.Encode.{at_task, header_word, copy_word}
use Rattle.machine.proofs.Agree.Mem.{Loc, P, R, S, InLocs, Holds, Apart, write}
use Rattle.machine.specs.Agree.Agree.{end}
use Rattle.machine.proofs.Agree.Agree.{Held, addr, Ok, content, Lay, bottom, Agree}
use Rattle.machine.proofs.Agree.Apart.{apart}
use Rattle.machine.proofs.Agree.Enter.{bounds, job_counted, enter}
use Rattle.machine.proofs.Objects.Final.{job_counts}

-- the header of x changes from h₀ to h
module _ {K : ℕ → Type 0} {pa ra : ℕ → ℕ} {o : State} {t : Table} {ws : List ℕ} (k : Agree K pa ra o t ws) (x : ℕ) (h₀ h : Hd) (was : o.hd x ≡ h₀)
    (pl : IsPlaced h → IsPlaced h₀) where
  was_placed : (y : ℕ) → IsPlaced (upd o.hd x h y) → IsPlaced (o.hd y)
  was_placed = upd_all (λ y b. IsPlaced b → IsPlaced (o.hd y)) o.hd x h (λ p. rw was (pl p)) (λ y q p. p)

  -- every place but those written holds what it must
  frame : (st : List ℕ) (top : ℕ) (ls : List Loc) → ((InLocs (P x 1) ls → ⊥) → header_word (ra x) h₀ ≡ header_word (ra x) h)
      → ((InLocs (R x 1) ls → ⊥) → copy_word h₀ ≡ copy_word h)
      → ((u : ℕ) → top ≤ u → u < end t → (InLocs (S u) ls → ⊥) → get_or ws u 0 ≡ pa (get_or st (u - top) 0))
      → Holds (addr pa ra) (Ok K o.shape (upd o.hd x h) o.has top (end t)) (content o.shape pa ra (upd o.hd x h) o.prim o.rep st top) ls ws
  frame st top ls ep er sk (P y zero) u q = k.mem (P y 0) u (λ z. z)
  frame st top ls ep er sk (P y (suc zero)) u q =
      k.mem (P y 1) u (λ z. z)
      ∙ upd_all (λ y b. (InLocs (P y 1) ls → ⊥) → header_word (ra y) (o.hd y) ≡ header_word (ra y) b) o.hd x h (λ q. rw was (ep q)) (λ y d q. refl) y q
  frame st top ls ep er sk (P y (suc (suc j))) u q = k.mem (P y (suc (suc j))) u (λ z. z)
  frame st top ls ep er sk (R y zero) u q = k.mem (R y 0) (u.0, was_placed y u.1, tt) (λ z. z)
  frame st top ls ep er sk (R y (suc zero)) u q =
      k.mem (R y 1) (u.0, was_placed y u.1, tt) (λ z. z)
      ∙ upd_all (λ y b. (InLocs (R y 1) ls → ⊥) → copy_word (o.hd y) ≡ copy_word b) o.hd x h (λ q. rw was (er q)) (λ y d q. refl) y q
  frame st top ls ep er sk (R y (suc (suc j))) u q = k.mem (R y (suc (suc j))) (u.0, was_placed y u.1, u.2) (λ z. z)
  frame st top ls ep er sk (S u) l q = sk u l.0 l.1 q

  lay_head : Lay K o.shape (upd o.hd x h) pa ra (bottom t) t.marks.a (end t) (length ws)
  lay_head = record {
    nilp = k.lay.nilp;
    nilr = k.lay.nilr;
    inside = k.lay.inside;
    where_p = k.lay.where_p;
    where_r = λ y u p. k.lay.where_r y u (was_placed y p);
    apart_p = k.lay.apart_p;
    apart_r = λ y z u w p q. k.lay.apart_r y z u w (was_placed y p) (was_placed z q);
    apart_pr = λ y z u w p. k.lay.apart_pr y z u w (was_placed z p);
  }

  -- what is still to be copied changes as x's part does
  owed_head : x ≤ o.shape.n
      → sum_to (suc o.shape.n) (λ y. owes (upd o.hd x h y)) + owes h₀ ≡ sum_to (suc o.shape.n) (λ y. owes (o.hd y)) + owes h
  owed_head l =
      let a : owes (upd o.hd x h x) ≡ owes h = ap owes (upd_same o.hd x h) in
      let b : owes (o.hd x) ≡ owes h₀ = ap owes was in
      omega (arith, sum_to_at (suc o.shape.n) x (λ y. owes (upd o.hd x h y)) (λ y. owes (o.hd y)) (omega arith) (λ y q. ap owes (upd_other o.hd x h y q)))

module _ {K : ℕ → Type 0} {pa ra : ℕ → ℕ} {o : State} {t : Table} {ws : List ℕ} (v : Inv K t.limits.p t.limits.s o) (k : Agree K pa ra o t ws) (i : ℕ)
    (il : i < t.limits.p) (e : Task) (x : ℕ) where
  low : (2 ≤ bottom t) × (end t ≡ bottom t + t.limits.h) × (end t ≤ length ws)
  low = let b = bounds t.upper t.limits.h in (b.0, b.1, omega (arith, k.sized.size))

  pub claim_agree : Held K o.shape x → o.hd x ≡ white
      → t.marks.j + jobs_in (holding_of (o.tasks i).place) ≡ t.marks.j + jobs_in (holding_of e.place)
      → Agree K pa ra (heads o x (claimed i) o.stack i e) (entered t t.marks i (at_task pa ra e)) (set ws (pa x - 1) 1)
  claim_agree hx w q = enter k il record {
    size = length-set ws (pa x - 1) 1;
    based = k.marked.based;
    free = k.marked.free;
    stacked = k.marked.stack;
    jobs = q;
    copies = k.marked.copies;
    owed = λ on. omega (arith, k.marked.owed on, owed_head k x white (claimed i) w (λ p. p) hx.1);
    lay = lay_head k x white (claimed i) w (λ p. p);
    mem =
        write (addr pa ra) _ _ [] ws (P x 1) (pa x - 1) 1
        (apart o.has (lay_head k x white (claimed i) w (λ p. p)) v.shapes.written k.marked.based (omega (arith, k.marked.free)))
        (frame k x white (claimed i) w (λ p. p) o.stack t.marks.top (P x 1 ∷ []) (λ n. absurd (n (inl refl))) (λ n. refl)
        (λ u a b n. k.mem (S u) (a, b) (λ z. z)))
        (hx, omega arith) (omega (arith, k.lay.inside x hx)) (ap (header_word (ra x)) (upd_same o.hd x (claimed i))) (omega (arith, k.lay.inside x hx));
    roots = k.roots;
    tasks = k.tasks;
  }

  pub take_agree : (c : ℕ) (st : List ℕ) → o.stack ≡ x ∷ st → o.hd x ≡ count (suc c) → o.on ≡ true
      → t.marks.j + 1 + jobs_in (holding_of (o.tasks i).place) ≡ t.marks.j + jobs_in (holding_of e.place)
      → Agree K pa ra (heads o x (locked c i) st i e)
      (entered t (marks_at t.marks.a (t.marks.top + 1) (t.marks.j + 1) t.marks.copies) i (at_task pa ra e)) (set ws (ra x - 1) (256 + c))
  take_agree c st es w on q = enter k il record {
    size = length-set ws (ra x - 1) (256 + c);
    based = k.marked.based;
    free = omega (arith, k.marked.free);
    stacked = omega (arith, k.marked.stack, ap length es);
    jobs = q;
    copies = k.marked.copies;
    owed = λ on. omega (arith, k.marked.owed on, owed_head k x (count (suc c)) (locked c i) w (λ p. tt) hx.1);
    lay = lay_head k x (count (suc c)) (locked c i) w (λ p. tt);
    mem =
        write (addr pa ra) _ _ [] ws (R x 1) (ra x - 1) (256 + c)
        (apart o.has (lay_head k x (count (suc c)) (locked c i) w (λ p. tt)) v.shapes.written k.marked.based (omega (arith, k.marked.free)))
        (frame k x (count (suc c)) (locked c i) w (λ p. tt) st (t.marks.top + 1) (R x 1 ∷ []) (λ n. refl) (λ n. absurd (n (inl refl))) sk)
        (hx, rw upd_same tt, tt) (omega (arith, rx)) (ap copy_word (upd_same o.hd x (locked c i))) (omega (arith, rx, k.marked.free, k.marked.stack, low));
    roots = k.roots;
    tasks = k.tasks;
  }
    where
      colours : Colours K o.shape o.snap o.hd o.prim o.rep o.has o.stack (Late o.tasks)
      colours = rw on at v.mode

      hx : Held K o.shape x
      hx = let s = colours.stacked x (rw es (inl refl)) in (s.0, s.1, s.2)

      rx : (bottom t + 2 ≤ ra x) × (ra x + o.shape.len x ≤ t.marks.a)
      rx = k.lay.where_r x hx (rw w tt)

      sk : (u : ℕ) → t.marks.top + 1 ≤ u → u < end t → (InLocs (S u) (R x 1 ∷ []) → ⊥) → get_or ws u 0 ≡ pa (get_or st (u - (t.marks.top + 1)) 0)
      sk u a b n =
          let d : u - t.marks.top ≡ suc (u - (t.marks.top + 1)) = omega arith in
          k.mem (S u) (omega arith, b) (λ z. z) ∙ rw (es, d)

  -- what a release leaves: whether x goes back on the stack is b
  abbrev top_after : Bool → ℕ
  top_after b = pick b t.marks.top (t.marks.top - 1)

  abbrev stack_after : Bool → List ℕ
  stack_after b = pick b o.stack (x ∷ o.stack)

  abbrev stack_place : Bool → List Loc
  stack_place b = pick b [] (S (t.marks.top - 1) ∷ [])

  abbrev words_after : Bool → ℕ → List ℕ
  words_after b c = pick b (set ws (ra x - 1) 0) (set (set ws (ra x - 1) c) (t.marks.top - 1) (pa x))

  abbrev ok_after : ℕ → Bool → Loc → Type 0
  ok_after c b = Ok K o.shape (upd o.hd x (count c)) o.has (top_after b) (end t)

  abbrev content_after : ℕ → Bool → Loc → ℕ
  content_after c b = content o.shape pa ra (upd o.hd x (count c)) o.prim o.rep (stack_after b) (top_after b)

  pub release_agree : (c : ℕ) → o.hd x ≡ locked c i → o.on ≡ true
      → t.marks.j - 1 + jobs_in (holding_of (o.tasks i).place) ≡ t.marks.j + jobs_in (holding_of e.place)
      → Agree K pa ra (heads o x (count c) (push c x o.stack) i e)
      (entered t (marks_at t.marks.a (pick (eqb c 0) t.marks.top (t.marks.top - 1)) (t.marks.j - 1) (t.marks.copies + 1)) i (at_task pa ra e))
      (pick (eqb c 0) (set ws (ra x - 1) 0) (set (set ws (ra x - 1) c) (t.marks.top - 1) (pa x)))
  release_agree c w on q = enter k il record {
    size = size (eqb c 0);
    based = k.marked.based;
    free = omega (arith, k.marked.free, tops (eqb c 0), counted);
    stacked = stacked (eqb c 0);
    jobs = q;
    copies = omega (arith, k.marked.owed (k.on ∙ on), part, low, k.marked.free, k.marked.stack);
    owed = λ on. omega (arith, k.marked.owed on, owed_head k x (locked c i) (count c) w (λ p. tt) hx.1);
    lay = lay_head k x (locked c i) (count c) w (λ p. tt);
    mem = mem (eqb c 0) refl;
    roots = k.roots;
    tasks = k.tasks;
  }
    where
      hx : Held K o.shape x
      hx = let s = v.owners.locker x c i w in (s.1, s.2, s.3)

      rx : (bottom t + 2 ≤ ra x) × (ra x + o.shape.len x ≤ t.marks.a)
      rx = k.lay.where_r x hx (rw w tt)

      -- the task has a job, and the job kept a word of the stack
      counted : 1 ≤ t.marks.j
      counted = omega (arith, job_counted k i il, job_counts (holding_of (o.tasks i).place) x c (v.owners.locker x c i w).4)

      part : 1 ≤ sum_to (suc o.shape.n) (λ y. owes (o.hd y))
      part = let a : owes (o.hd x) ≡ suc c = ap owes w in omega (arith, sum_to_part (suc o.shape.n) x (λ y. owes (o.hd y)) (omega (arith, hx)))

      size : (b : Bool) → length (words_after b c) ≡ length ws
      size true = length-set ws (ra x - 1) 0
      size false = length-set (set ws (ra x - 1) c) (t.marks.top - 1) (pa x) ∙ length-set ws (ra x - 1) c

      tops : (b : Bool) → (t.marks.top ≤ top_after b + 1) × (top_after b ≤ t.marks.top)
      tops true = omega arith
      tops false = omega arith

      stacked : (b : Bool) → top_after b + length (stack_after b) ≡ end t
      stacked true = k.marked.stack
      stacked false = omega (arith, k.marked.stack, counted, k.marked.free)

      sk : (b : Bool) (u : ℕ) → top_after b ≤ u → u < end t → (InLocs (S u) (R x 1 ∷ stack_place b) → ⊥) → get_or ws u 0 ≡ pa (get_or (stack_after b) (u - top_after b) 0)
      sk true u a l n = k.mem (S u) (a, l) (λ z. z)
      sk false u a l n =
          let d : u ≢ t.marks.top - 1 = λ z. n (inr (inl (ap S z))) in
          let r : u - (t.marks.top - 1) ≡ suc (u - t.marks.top) = omega (arith, counted, k.marked.free) in
          k.mem (S u) (omega arith, l) (λ z. z) ∙ rw r

      apart' : (b : Bool) → Apart (addr pa ra) (ok_after c b)
      apart' b =
          apart o.has (lay_head k x (locked c i) (count c) w (λ p. tt)) v.shapes.written k.marked.based (omega (arith, k.marked.free, tops b, counted))

      header : (b : Bool) (n : ℕ) → n ≡ c → Holds (addr pa ra) (ok_after c b) (content_after c b) (stack_place b) (set ws (ra x - 1) n)
      header b n en =
          write (addr pa ra) (ok_after c b) (content_after c b) (stack_place b) ws (R x 1) (ra x - 1) n (apart' b)
          (frame k x (locked c i) (count c) w (λ p. tt) (stack_after b) (top_after b) (R x 1 ∷ stack_place b) (λ n. refl) (λ n. absurd (n (inl refl))) (sk b))
          (hx, rw upd_same tt, tt) (omega (arith, rx)) (ap copy_word (upd_same o.hd x (count c)) ∙ sym en)
          (omega (arith, rx, k.marked.free, k.marked.stack, low))

      mem : (b : Bool) → eqb c 0 ≡ b → Holds (addr pa ra) (ok_after c b) (content_after c b) [] (words_after b c)
      mem true eb = header true 0 (sym (eqb-true c 0 eb))
      mem false eb =
          write (addr pa ra) (ok_after c false) (content_after c false) [] (set ws (ra x - 1) c) (S (t.marks.top - 1)) (t.marks.top - 1) (pa x) (apart' false)
          (header false c refl) (omega arith, omega (arith, counted, k.marked.free, k.marked.stack)) refl
          (let z : t.marks.top - 1 - (t.marks.top - 1) ≡ 0 = omega arith in rw z)
          (rw length-set (omega (arith, counted, k.marked.free, k.marked.stack, low)))
