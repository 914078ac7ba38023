-- A block behind A for the primary of a new object: where it lies, and what stays as it was.
use Rattle.std.specs.Prelude.{ℕ, zero, suc, ◌+◌, ◌-◌, ◌≤◌, ◌<◌, ◌≡◌, refl, ◌≢◌, ◌⊎◌, List, [], ◌∷◌, map, Bool, true, false, length, get_or}
use Rattle.std.proofs.Common.{ap, sym, ◌∙◌, inl, inr, arith}
use Rattle.std.proofs.Math.Decide.{ℕ_discrete}
use Rattle.table.specs.declared.Table.{Table}
use Rattle.machine.specs.Entries.{task_at}
use Rattle.machine.specs.Objects.Base.{In}
use Rattle.machine.proofs.Objects.Base.{upd, upd_same, upd_other}
use Rattle.machine.proofs.Objects.State.{Shape, State, IsPlaced, Late}
use Rattle.machine.proofs.Objects.Inv.{Mode, Inv}
use Rattle.machine.proofs.Objects.Ops.{one_more}
use Rattle.machine.proofs.Agree.Encode.{at_primary, at_task}
use Rattle.machine.proofs.Agree.Mem.{Loc, P, R, S, InLocs, Holds}
use Rattle.machine.specs.Agree.Agree.{end}
use Rattle.machine.proofs.Agree.Agree.{Held, addr, Ok, content, Beside, bottom, Agree}
use Rattle.machine.proofs.Agree.Enter.{bounds}
use Rattle.machine.proofs.Agree.Older.{slot_word_same, task_same, roots_same}

-- the number of the next object
abbrev pub new_of : State → ℕ
new_of o = suc o.shape.n

listed_low : (l : List ℕ) (n : ℕ) → ((x : ℕ) → In x l → x ≤ n) → (j : ℕ) → get_or l j 0 ≤ n
listed_low [] n h j = omega arith
listed_low (x ∷ l) n h zero = h x (inl refl)
listed_low (x ∷ l) n h (suc j) = listed_low l n (λ y i. h y (inr i)) j

module _ {K : ℕ → Type 0} {pa ra : ℕ → ℕ} {o : State} {t : Table} {ws : List ℕ} (v : Inv K t.limits.p t.limits.s o) (k : Agree K pa ra o t ws) where
  pub older_same : (f : ℕ → ℕ) (a x : ℕ) → x ≤ o.shape.n → f x ≡ upd f (new_of o) a x
  older_same f a x l = sym (upd_other f (new_of o) a x (λ (q : x ≡ new_of o). omega arith))

  pub at_new : (Q : ℕ → Type 0) → Q (new_of o) → ((y : ℕ) → y ≢ new_of o → Q y) → (y : ℕ) → Q y
  at_new Q a b y = on (ℕ_discrete y (new_of o))
    where
      on : Dec (y ≡ new_of o) → Q y
      on (yes q) = rw q a
      on (no q) = b y q

  -- what the table says of the older objects stays
  pub make_off_tasks : (p u : ℕ) → u < 8 → task_at t u ≡ at_task (upd pa (new_of o) p) ra (o.tasks u)
  make_off_tasks p u l = k.tasks u l ∙ task_same v (older_same pa p) (λ x l. refl) u

  pub make_on_tasks : (p r u : ℕ) → u < 8 → task_at t u ≡ at_task (upd pa (new_of o) p) (upd ra (new_of o) r) (o.tasks u)
  make_on_tasks p r u l = k.tasks u l ∙ task_same v (older_same pa p) (older_same ra r) u

  pub make_roots : (p : ℕ) → t.roots ≡ map (at_primary (upd pa (new_of o) p)) o.roots
  make_roots p = k.roots ∙ roots_same v {ra = ra} (older_same pa p) (λ x l. refl)

  -- what is on the stack was made
  stack_low : (j : ℕ) → get_or o.stack j 0 ≤ o.shape.n
  stack_low = on o.on v.mode
    where
      on : (b : Bool) → Mode b K o.shape o.snap o.hd o.prim o.rep o.has o.stack (Late o.tasks) → (j : ℕ) → get_or o.stack j 0 ≤ o.shape.n
      on true c = listed_low o.stack o.shape.n (λ x i. (c.stacked x i).1)
      on false c = rw c.empty (λ j. omega arith)

  pub spaces : (2 ≤ bottom t) × (end t ≡ bottom t + t.limits.h) × (end t ≤ length ws)
  spaces = let b = bounds t.upper t.limits.h in (b.0, b.1, omega (arith, k.sized.size))

  -- a block behind A and before the end is beside every primary; beside every replica if behind A
  pub clear_p : (y q men : ℕ) → Held K o.shape y → t.marks.a + 2 ≤ q → q + men ≤ end t → Beside (pa y) (o.shape.len y) q men
  clear_p y q men h l m = on (k.lay.where_p y h)
    where
      on : ((bottom t + 2 ≤ pa y) × (pa y + o.shape.len y ≤ t.marks.a)) ⊎ ((pa y + o.shape.len y ≤ bottom t) ⊎ (end t + 2 ≤ pa y))
          → Beside (pa y) (o.shape.len y) q men
      on (inl w) = inl (omega arith)
      on (inr (inl w)) = inl (omega (arith, k.marked.based))
      on (inr (inr w)) = inr (omega arith)

  pub clear_r : (y q men : ℕ) → Held K o.shape y → IsPlaced (o.hd y) → t.marks.a + 2 ≤ q → Beside (ra y) (o.shape.len y) q men
  clear_r y q men h p l = inl (omega (arith, k.lay.where_r y h p))

  pub turned : (p len q men : ℕ) → Beside p len q men → Beside q men p len
  turned p len q men (inl w) = inr w
  turned p len q men (inr w) = inl w

  -- ---- an object of length len with m pointer slots, its primary behind A
  module _ (len m : ℕ) (room : t.marks.a + (len + 2) ≤ end t) where
    abbrev pa' : ℕ → ℕ
    pa' = upd pa (new_of o) (t.marks.a + 2)

    abbrev sh' : Shape
    sh' = one_more o.shape len m

    pa_new : pa' (new_of o) ≡ t.marks.a + 2
    pa_new = upd_same pa (new_of o) (t.marks.a + 2)

    len_new : sh'.len (new_of o) ≡ len
    len_new = upd_same o.shape.len (new_of o) len

    pa_old : (y : ℕ) → y ≢ new_of o → pa' y ≡ pa y
    pa_old = upd_other pa (new_of o) (t.marks.a + 2)

    len_old : (y : ℕ) → y ≢ new_of o → sh'.len y ≡ o.shape.len y
    len_old = upd_other o.shape.len (new_of o) len

    ptr_old : (y : ℕ) → y ≢ new_of o → sh'.ptr y ≡ o.shape.ptr y
    ptr_old = upd_other o.shape.ptr (new_of o) m

    pub held_old : (y : ℕ) → y ≢ new_of o → Held K sh' y → Held K o.shape y
    held_old y q h = (h.0, omega (arith, h.1), h.2)

    pub held_new : Held K sh' (new_of o)
    held_new = (omega arith, omega arith, (v.shapes.future (new_of o) (omega arith)).0)

    pub wrote_low : (y : ℕ) → sh'.wrote y ≤ sh'.len y
    wrote_low =
        at_new (λ y. sh'.wrote y ≤ sh'.len y) (rw (upd_same o.shape.wrote (new_of o) 0) (omega arith))
        (λ y q. rw (upd_other o.shape.wrote (new_of o) 0 y q, len_old y q) (v.shapes.written y))

    pub inside' : (y : ℕ) → Held K sh' y → (4 ≤ pa' y) × (pa' y + sh'.len y ≤ length ws)
    inside' =
        at_new (λ y. Held K sh' y → (4 ≤ pa' y) × (pa' y + sh'.len y ≤ length ws))
        (λ h. (omega (arith, pa_new, spaces, k.marked.based), omega (arith, pa_new, len_new, spaces)))
        (λ y q h. rw (pa_old y q, len_old y q) (k.lay.inside y (held_old y q h)))

    pub where_p' : (a' : ℕ) → t.marks.a + (len + 2) ≤ a' → (y : ℕ) → Held K sh' y
        → ((bottom t + 2 ≤ pa' y) × (pa' y + sh'.len y ≤ a')) ⊎ ((pa' y + sh'.len y ≤ bottom t) ⊎ (end t + 2 ≤ pa' y))
    where_p' a' l =
        at_new (λ y. Held K sh' y → ((bottom t + 2 ≤ pa' y) × (pa' y + sh'.len y ≤ a')) ⊎ ((pa' y + sh'.len y ≤ bottom t) ⊎ (end t + 2 ≤ pa' y)))
        (λ h. inl (omega (arith, pa_new, k.marked.based), omega (arith, pa_new, len_new)))
        (λ y q h. rw (pa_old y q, len_old y q) (on y (k.lay.where_p y (held_old y q h))))
      where
        on : (y : ℕ) → ((bottom t + 2 ≤ pa y) × (pa y + o.shape.len y ≤ t.marks.a)) ⊎ ((pa y + o.shape.len y ≤ bottom t) ⊎ (end t + 2 ≤ pa y))
            → ((bottom t + 2 ≤ pa y) × (pa y + o.shape.len y ≤ a')) ⊎ ((pa y + o.shape.len y ≤ bottom t) ⊎ (end t + 2 ≤ pa y))
        on y (inl w) = inl (w.0, omega arith)
        on y (inr w) = inr w

    new_clear : (y : ℕ) → y ≢ new_of o → Held K sh' y → Beside (pa' y) (sh'.len y) (pa' (new_of o)) (sh'.len (new_of o))
    new_clear y q h =
        rw (pa_old y q, len_old y q, pa_new, len_new) (clear_p y (t.marks.a + 2) len (held_old y q h) (omega arith) (omega arith))

    pub apart_p' : (y z : ℕ) → Held K sh' y → Held K sh' z → y ≢ z → Beside (pa' y) (sh'.len y) (pa' z) (sh'.len z)
    apart_p' y z h g d = on (ℕ_discrete y (new_of o)) (ℕ_discrete z (new_of o))
      where
        on : Dec (y ≡ new_of o) → Dec (z ≡ new_of o) → Beside (pa' y) (sh'.len y) (pa' z) (sh'.len z)
        on (yes p) (yes q) = absurd (d (p ∙ sym q))
        on (yes p) (no q) = rw p (turned (pa' z) (sh'.len z) (pa' (new_of o)) (sh'.len (new_of o)) (new_clear z q g))
        on (no p) (yes q) = rw q (new_clear y p h)
        on (no p) (no q) = rw (pa_old y p, len_old y p, pa_old z q, len_old z q) (k.lay.apart_p y z (held_old y p h) (held_old z q g) d)

    -- every word but the new ones stays: replicas, and their addresses, may have one more
    module _ (ra' : ℕ → ℕ) (ra_old : (y : ℕ) → y ≢ new_of o → ra' y ≡ ra y) where
      abbrev Ok' : Loc → Type 0
      Ok' = Ok K sh' o.hd (upd o.has (new_of o) (λ j. false)) t.marks.top (end t)

      abbrev content' : Loc → ℕ
      content' = content sh' pa' ra' o.hd o.prim o.rep o.stack t.marks.top

      pub block_frame : (ls : List Loc) → InLocs (P (new_of o) 0) ls → InLocs (P (new_of o) 1) ls
          → ((y u : ℕ) → Ok' (R y u) → (InLocs (R y u) ls → ⊥) → get_or ws (addr pa' ra' (R y u)) 0 ≡ content' (R y u))
          → Holds (addr pa' ra') Ok' content' ls ws
      block_frame ls i0 i1 rs (P y zero) u q =
          let n : y ≢ new_of o = λ d. q (rw d i0) in
          rw (pa_old y n, len_old y n, ptr_old y n) (k.mem (P y 0) (held_old y n u.0, omega arith) (λ z. z))
      block_frame ls i0 i1 rs (P y (suc zero)) u q =
          let n : y ≢ new_of o = λ d. q (rw d i1) in
          rw (pa_old y n, ra_old y n) (k.mem (P y 1) (held_old y n u.0, omega arith) (λ z. z))
      block_frame ls i0 i1 rs (P y (suc (suc j))) u q = on (ℕ_discrete y (new_of o))
        where
          on : Dec (y ≡ new_of o) → get_or ws (addr pa' ra' (P y (suc (suc j)))) 0 ≡ content' (P y (suc (suc j)))
          on (yes d) = absurd (omega (arith, u.1, ap sh'.wrote d, upd_same o.shape.wrote (new_of o) 0))
          on (no n) =
              let l : suc (suc j) < o.shape.wrote y + 2 = omega (arith, u.1, upd_other o.shape.wrote (new_of o) 0 y n) in
              rw (pa_old y n, ptr_old y n)
              (k.mem (P y (suc (suc j))) (held_old y n u.0, l) (λ z. z)
              ∙ slot_word_same pa pa' (o.shape.ptr y) j (o.prim y j)
              (λ m. let h = held_old y n u.0 in older_same pa (t.marks.a + 2) (o.prim y j) (v.shapes.named y j h.2 h.1 (omega arith) m)))
      block_frame ls i0 i1 rs (R y u) h q = rs y u h q
      block_frame ls i0 i1 rs (S u) h q = k.mem (S u) h (λ z. z) ∙ older_same pa (t.marks.a + 2) (get_or o.stack (u - t.marks.top) 0) (stack_low (u - t.marks.top))
