-- What the machine reads of an object: its words, the check of it, the look at it, its replica's header; the top of the stack.
use Rattle.std.specs.Prelude.{ℕ, suc, ◌+◌, ◌-◌, ◌≤◌, ◌<◌, ◌≡◌, refl, List, [], ◌∷◌, true, get_or}
use Rattle.std.proofs.Common.{ap, ◌∙◌, arith}
use Rattle.std.proofs.Math.ListN.{length}
use borrow.Author.Tests.{le-ltb, lt-ltb, le-leb, lt-leb}
use Rattle.table.specs.declared.Table.{Table}
use Rattle.table.specs.declared.Look.TheVariants.{Forwarded}
use Rattle.table.specs.declared.Copying.{Copying}
use Rattle.table.specs.declared.Copying.TheVariants.{Count, Locked, Neither}
use Rattle.machine.specs.Words.{primary, replica, descriptor, length_in, object_of, header_of, look_of, copying_of, described}
use Rattle.machine.proofs.Objects.State.{Hd, white, claimed, count, locked, State, IsPlaced, left, Late}
use Rattle.machine.proofs.Objects.Inv.{Colours, Inv}
use Rattle.machine.proofs.Agree.Encode.{header_word, copy_word, slot_word}
use Rattle.machine.proofs.Agree.Mem.{P, R, S}
use Rattle.machine.specs.Agree.Agree.{end}
use Rattle.machine.proofs.Agree.Agree.{Held, Agree}
use Rattle.machine.proofs.Agree.MidwayRead.{found_by, whole, forwarded}
use Rattle.machine.proofs.Agree.Spaces.{end_inside, top_high, a_high}
use Rattle.machine.proofs.Agree.Names.{pa_four, ra_four}

abbrev pub copying_is : Hd → Copying
copying_is white = Neither
copying_is (claimed t) = Neither
copying_is (count c) = Count c
copying_is (locked i t) = Locked i

-- ---- the checks, of numbers
-- both read off a descriptor
pub length_in_lem : (len m : ℕ) → m ≤ 255 → length_in (descriptor len m) ≡ len
length_in_lem len m l = omega arith

counted : (len c : ℕ) → c ≤ len → copying_of len c ≡ Count c
unfolding copying_of
counted len c a = rw (le-leb c len a) refl

locked_at : (len i : ℕ) → len ≤ 255 → i < len → copying_of len (256 + i) ≡ Locked i
unfolding copying_of
locked_at len i a b =
    let e : 256 + i - 256 ≡ i = omega arith in
    rw (lt-leb (256 + i) len (omega arith), le-ltb (256 + i) 256 (omega arith), e, lt-ltb i len b) refl

copying_at : (len : ℕ) (d : Hd) → len ≤ 255 → left len d ≤ len → IsPlaced d → copying_of len (copy_word d) ≡ copying_is d
copying_at len white a b i = absurd i
copying_at len (claimed u) a b i = absurd i
copying_at len (count c) a b i = counted len c b
copying_at len (locked j u) a b i = locked_at len j a (omega arith)

module _ {K : ℕ → Type 0} {pa ra : ℕ → ℕ} {o : State} {t : Table} {ws : List ℕ} (k : Agree K pa ra o t ws) where
  -- ---- words of a primary
  pub descriptor_word : (x : ℕ) → Held K o.shape x → get_or ws (pa x - 2) 0 ≡ descriptor (o.shape.len x) (o.shape.ptr x)
  descriptor_word x h =
      let e : pa x - 2 ≡ pa x - 2 + 0 = omega arith in
      ap (λ i. get_or ws i 0) e ∙ k.mem (P x 0) (h, omega arith) (λ i. i)

  pub header_word_lem : (x : ℕ) → Held K o.shape x → get_or ws (pa x - 1) 0 ≡ header_word (ra x) (o.hd x)
  header_word_lem x h =
      let e : pa x - 1 ≡ pa x - 2 + 1 = omega (arith, pa_four k x h) in
      ap (λ i. get_or ws i 0) e ∙ k.mem (P x 1) (h, omega arith) (λ i. i)

  pub slot_of : (x j : ℕ) → Held K o.shape x → j < o.shape.wrote x → get_or ws (pa x + j) 0 ≡ slot_word pa (o.shape.ptr x) j (o.prim x j)
  slot_of x j h l =
      let e : pa x + j ≡ pa x - 2 + suc (suc j) = omega (arith, pa_four k x h) in
      ap (λ i. get_or ws i 0) e ∙ k.mem (P x (suc (suc j))) (h, omega arith) (λ i. i)

  -- a slot with no pointer, and one with
  pub plain_word : (x j : ℕ) → Held K o.shape x → j < o.shape.wrote x → o.shape.ptr x ≤ j → get_or ws (pa x + j) 0 ≡ o.prim x j
  plain_word x j h l m = slot_of x j h l ∙ rw (le-ltb j (o.shape.ptr x) m) refl

  pub pointer_word : (x j : ℕ) → Held K o.shape x → j < o.shape.wrote x → j < o.shape.ptr x → get_or ws (pa x + j) 0 ≡ pa (o.prim x j)
  pointer_word x j h l m = slot_of x j h l ∙ rw (lt-ltb j (o.shape.ptr x) m) refl

  -- ---- words of a replica
  pub twin_header_word : (x : ℕ) → Held K o.shape x → IsPlaced (o.hd x) → get_or ws (ra x - 1) 0 ≡ copy_word (o.hd x)
  twin_header_word x h i =
      let e : ra x - 1 ≡ ra x - 2 + 1 = omega (arith, ra_four k x h i) in
      ap (λ i. get_or ws i 0) e ∙ k.mem (R x 1) (h, i, tt) (λ i. i)

  -- ---- where writes go: headers and slots lie inside the buffer
  pub twin_inside : (x : ℕ) → Held K o.shape x → IsPlaced (o.hd x) → ra x + o.shape.len x ≤ length ws
  twin_inside x h i = omega (arith, k.lay.where_r x h i, a_high k, top_high k, end_inside k)

  -- ---- the stack
  pub stack_room : {x : ℕ} {st : List ℕ} → o.stack ≡ x ∷ st → t.marks.top < end t
  stack_room {x} {st} e = omega (arith, k.marked.stack, ap length e)

  pub stack_of : {x : ℕ} {st : List ℕ} → o.stack ≡ x ∷ st → get_or ws t.marks.top 0 ≡ pa x
  stack_of {x} {st} e =
      let z : t.marks.top - t.marks.top ≡ 0 = omega arith in
      let g : get_or o.stack (t.marks.top - t.marks.top) 0 ≡ x = rw (z, e) refl in
      k.mem (S t.marks.top) (omega arith, stack_room e) (λ i. i) ∙ ap pa g

  pub stack_empty : o.stack ≡ [] → t.marks.top ≡ end t
  stack_empty e = omega (arith, k.marked.stack, ap length e)

-- ---- the checks, of objects
module _ {K : ℕ → Type 0} {p : ℕ} {pa ra : ℕ → ℕ} {o : State} {t : Table} {ws : List ℕ} (v : Inv K p t.limits.s o) (k : Agree K pa ra o t ws) where
  pub object_of_lem : (x : ℕ) → Held K o.shape x → object_of ws t.limits.s (primary (pa x)) ≡ described (o.shape.len x) (o.shape.ptr x)
  unfolding object_of
  object_of_lem x h =
      let i : (4 ≤ pa x) × (pa x + o.shape.len x ≤ length ws) = k.lay.inside x h in
      rw (le-ltb (pa x) 4 i.0, le-ltb (length ws) (pa x) (omega arith), descriptor_word k x h)
      (whole (length ws) t.limits.s (pa x) (o.shape.len x) (o.shape.ptr x) (v.shapes.high x h.1) (v.shapes.low x h.1)
      k.sized.limited.s_high i.1)

  twin_of : (x : ℕ) → Held K o.shape x → IsPlaced (o.hd x) → header_of (length ws) (o.shape.len x) (ra x) ≡ Forwarded (replica (ra x)) (o.shape.len x)
  twin_of x h i = forwarded (length ws) (o.shape.len x) (ra x) (ra_four k x h i) (twin_inside k x h i)

  header_of_lem : (x : ℕ) → Held K o.shape x → (d : Hd) → o.hd x ≡ d
      → header_of (length ws) (o.shape.len x) (header_word (ra x) d) ≡ found_by (ra x) (o.shape.len x) d
  header_of_lem x h white e = refl
  header_of_lem x h (claimed u) e = refl
  header_of_lem x h (count c) e = twin_of x h (rw e tt)
  header_of_lem x h (locked j u) e = twin_of x h (rw e tt)

  pub look_of_lem : (x : ℕ) → Held K o.shape x → look_of ws t.limits.s (primary (pa x)) ≡ found_by (ra x) (o.shape.len x) (o.hd x)
  unfolding look_of
  look_of_lem x h = rw (object_of_lem x h, header_word_lem k x h) (header_of_lem x h (o.hd x) refl)

  -- a placed object has at most its length to copy
  pub left_high : o.on ≡ true → (x : ℕ) → IsPlaced (o.hd x) → left (o.shape.len x) (o.hd x) ≤ o.shape.len x
  left_high e x i =
      let c : Colours K o.shape o.snap o.hd o.prim o.rep o.has o.stack (Late o.tasks) = (rw e at v).mode in
      omega (arith, c.bound x i, c.older x, v.shapes.filled x, v.shapes.written x)

  pub copying_of_lem : o.on ≡ true → (x : ℕ) → Held K o.shape x → IsPlaced (o.hd x)
      → copying_of (o.shape.len x) (get_or ws (ra x - 1) 0) ≡ copying_is (o.hd x)
  copying_of_lem e x h i =
      rw (twin_header_word k x h i)
      (copying_at (o.shape.len x) (o.hd x) (omega (arith, v.shapes.high x h.1, k.sized.limited.s_high)) (left_high e x i) i)
