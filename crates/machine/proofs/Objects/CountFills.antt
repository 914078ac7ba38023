-- An object is made, or a slot of one is filled: words, copies and payments are kept.
use Rattle.std.specs.Prelude.{ℕ, suc, ◌+◌, ◌-◌, ◌*◌, ◌≤◌, ◌<◌, refl, List, true}
use Rattle.std.proofs.Math.Path.{◌≡◌}
use Rattle.std.proofs.Common.{ap, ◌∙◌, ne_eqb}
use Rattle.std.proofs.Math.Nat.{mul-add, mul-le-mul_left}
use native.Mathlib.Omega.{arith}
use Rattle.std.proofs.lemmas.Bool.{lt-leb}
use Rattle.table.specs.declared.Primary.{Primary}
use Rattle.machine.specs.Entries.{pending_with}
use Rattle.table.specs.declared.Operand.{Operand}
use Rattle.table.specs.declared.Replica.{Replica}
use Rattle.table.specs.declared.Place.{Place}
use Rattle.table.specs.declared.Place.TheVariants.{Idle, New, FillWrite, FillCopy, Take}
use Rattle.table.specs.declared.Task.{Task}
use Rattle.machine.specs.Words.{primary, wanted}
use Rattle.machine.specs.Tasks.{holding_of}
use Rattle.machine.specs.History.{Copy}
use Rattle.machine.proofs.Objects.Base.{clash, upd, upd_same, upd_other, upd_all, sum_to, sum_to_ext}
use Rattle.machine.proofs.Objects.State.{Hd, Shape, Snapshot, State, ClaimIn, HasClaim, Meeting}
use Rattle.machine.proofs.Objects.Inv.{PendingOk, NewOk, PlaceOk, Inv}
use Rattle.machine.proofs.Objects.Ops.{goes, goes_with, wrote_one, filled_one, one_more}
use Rattle.machine.proofs.Objects.MoveLaws.{at_place_lem}
use Rattle.machine.proofs.Objects.FillLaws.{reach_keep}
use Rattle.machine.proofs.Objects.Counts.{claims, new_words, is_grey, left_to_pay, owing, Counts}
use Rattle.machine.proofs.Objects.CountLaws.{owing_sum, unforgiven, counts_moves, counts_goes}
use Rattle.machine.proofs.Objects.CountFinal.{on_colours}

-- ---- slots written and filled: neither is counted
module _ {k p s : ℕ} {sh : Shape} {g : Snapshot} {hd : ℕ → Hd} {stack : List ℕ} {ts : ℕ → Task} {base a j copies : ℕ} {made : List Copy} {forgiven : ℕ → ℕ} where
  wrote_counts : (x : ℕ) → Counts k p s sh g hd stack ts base a j copies made forgiven → Counts k p s (wrote_one sh x) g hd stack ts base a j copies made forgiven
  wrote_counts x c = record {
    words = c.words;
    greys = c.greys;
    reach = λ y z m q. reach_keep (λ b i f d. d) (c.reach y z m q);
    copied = c.copied;
    once = c.once;
    which = c.which;
    each = c.each;
    paid = c.paid;
    most = c.most;
    forgave = c.forgave;
  }

  filled_counts : (x : ℕ) → Counts k p s sh g hd stack ts base a j copies made forgiven → Counts k p s (filled_one sh x) g hd stack ts base a j copies made forgiven
  filled_counts x c = record {
    words = c.words;
    greys = c.greys;
    reach = λ y z m q. reach_keep (λ b i f d. d) (c.reach y z m q);
    copied = c.copied;
    once = c.once;
    which = c.which;
    each = c.each;
    paid = c.paid;
    most = c.most;
    forgave = c.forgave;
  }

-- ---- one object more: sums
more_sum : (n : ℕ) (f f' : ℕ → ℕ) → ((x : ℕ) → x ≤ n → f' x ≡ f x) → sum_to (suc (suc n)) f' ≡ sum_to (suc n) f + f' (suc n)
unfolding sum_to
more_sum n f f' h = omega (arith, h n (omega arith), sum_to_ext n f' f (λ x l. h x (omega arith)))

module _ (sh : Shape) (g : Snapshot) (hd : ℕ → Hd) (len m : ℕ) (old : g.n ≤ sh.n) where
  same : (x : ℕ) → x ≤ sh.n → upd sh.len (suc sh.n) len x ≡ sh.len x
  same x l = upd_other sh.len (suc sh.n) len x (λ e. absurd (omega arith))

  claims_more : sum_to (suc (suc sh.n)) (claims (one_more sh len m) g hd) ≡ sum_to (suc sh.n) (claims sh g hd) + 2 * (len + 2)
  claims_more =
      more_sum sh.n (claims sh g hd) (claims (one_more sh len m) g hd) (λ x l. rw (same x l) refl)
      ∙ rw (ne_eqb (suc sh.n) 0 (λ e. omega arith), lt-leb (suc sh.n) g.n (omega arith), upd_same sh.len (suc sh.n) len) refl

  news_more : sum_to (suc (suc sh.n)) (new_words (one_more sh len m) g) ≡ sum_to (suc sh.n) (new_words sh g) + (len + 2)
  news_more =
      more_sum sh.n (new_words sh g) (new_words (one_more sh len m) g) (λ x l. rw (same x l) refl)
      ∙ rw (lt-leb (suc sh.n) g.n (omega arith), upd_same sh.len (suc sh.n) len) refl

-- ---- the steps
module _ {K : ℕ → Type 0} {k p s : ℕ} {o : State} {base a j copies : ℕ} {made : List Copy} {forgiven : ℕ → ℕ} (v : Inv K p s o) (on : o.on ≡ true)
    (c : Counts k p s o.shape o.snap o.hd o.stack o.tasks base a j copies made forgiven) (t : ℕ) (l : t < p) where
  pub counts_makes : (r len m : ℕ) → (o.tasks t).place ≡ New (wanted r len m)
      → Counts k p s (one_more o.shape len m) o.snap o.hd o.stack
      (upd o.tasks t (goes_with (o.tasks t) (pending_with (primary (suc o.shape.n)) r len 0) (Take (2 * k)))) base (a + 2 * (len + 2)) j copies made forgiven
  unfolding holding_of
  counts_makes r len m ep = record {
    words = rw (claims_more o.shape o.snap o.hd len m known) (omega (arith, c.words));
    greys = rw (more_sum o.shape.n (λ x. is_grey (o.hd x)) (λ x. is_grey (o.hd x)) (λ x l. refl)) (omega (arith, c.greys, fresh));
    reach = λ x z old q. reach_keep (λ b i f d. more_ptr b i f d) (c.reach x z old q);
    copied = c.copied;
    once = c.once;
    which = λ x i q. let w = c.which x i q in (w.0, w.1, w.2, rw (more_len x w.1) w.3, w.4);
    each = λ x i z old b n f. c.each x i z old b (rw (more_len x old) at n) f;
    paid = rw (news_more o.shape o.snap o.hd len m known)
        (omega (
          arith,
          c.paid,
          owing_sum k p forgiven forgiven o.tasks t e' l (λ u d. refl),
          before,
          after,
          mul-add k (sum_to (suc o.shape.n) (new_words o.shape o.snap)) (len + 2),
          mul-add k len 2,
        ));
    most = upd_all (λ u e. owing k (forgiven u) e ≤ k * (s + 2)) o.tasks t e' (omega (arith, none, after, mul-le-mul_left k nw.3)) (λ u d. c.most u);
    forgave = λ u h. let f = c.forgave u h in (
      f.0,
      f.1,
      λ w x. upd_all (λ w e. HasClaim e x → ⊥) o.tasks t e' (λ q. q) (λ w d. f.2 w x) w,
      upd_all (λ u e. 0 < forgiven u → e.place ≡ Idle) o.tasks t e' (λ h. absurd (omega (arith, none))) (λ u d h. (c.forgave u h).3) u h,
    );
  }
    where
      e' : Task
      e' = goes_with (o.tasks t) (pending_with (primary (suc o.shape.n)) r len 0) (Take (2 * k))

      nw : NewOk s (o.tasks t) r len m
      nw = at_place_lem v t (New (wanted r len m)) ep

      none : forgiven t ≡ 0
      none = unforgiven v on c t l (New (wanted r len m)) ep (λ q. clash cc)

      before : owing k (forgiven t) (o.tasks t) ≡ 0
      before = rw (ep, nw.0, none) (omega arith)

      after : owing k (forgiven t) e' ≡ 2 * k + k * len + forgiven t
      after = let z : len - 0 ≡ len = omega arith in ap (λ d. 2 * k + k * d + forgiven t) z

      known : o.snap.n ≤ o.shape.n
      known = (on_colours v on).known

      fresh : is_grey (o.hd (suc o.shape.n)) ≡ 0
      fresh = rw ((on_colours v on).newer (suc o.shape.n) (omega (arith, known))) refl

      more_len : (x : ℕ) → x ≤ o.snap.n → upd o.shape.len (suc o.shape.n) len x ≡ o.shape.len x
      more_len x q = same o.shape o.snap o.hd len m known x (omega (arith, q, known))

      -- an object not yet made had no slot filled at the flip
      more_ptr : (b i : ℕ) → i < o.snap.fill b → i < o.shape.ptr b → i < upd o.shape.ptr (suc o.shape.n) m b
      more_ptr b i f = upd_all (λ b n. i < o.snap.fill b → i < o.shape.ptr b → i < n) o.shape.ptr (suc o.shape.n) m
          (λ f d. let n : ℕ = suc o.shape.n in absurd (omega (arith, (on_colours v on).older n, v.shapes.filled n, v.shapes.written n, (v.shapes.future n (omega arith)).1)))
          (λ b q f d. d) b f

  pub counts_fills : (w : Operand Replica) (x : Primary) (r len f : ℕ) → (o.tasks t).place ≡ FillCopy w → (o.tasks t).pending ≡ pending_with x r len f
      → Counts k p s (filled_one o.shape x.0) o.snap o.hd o.stack (upd o.tasks t (goes_with (o.tasks t) (pending_with x r len (f + 1)) (Take k)))
      base a j copies made forgiven
  unfolding holding_of
  counts_fills w x r len f ep ed =
      filled_counts x.0
      (counts_moves v on c t l (goes_with (o.tasks t) (pending_with x r len (f + 1)) (Take k)) (omega (arith, owed)) (omega (arith, owed, c.most t)) (λ x q. absurd q)
      (λ h. absurd (omega (arith, unforgiven v on c t l (FillCopy w) ep (λ q. clash cc)))))
    where
      h : PlaceOk K s o.shape o.hd o.prim o.rep o.has (Meeting o.tasks) o.on t (o.tasks t) (FillCopy w)
      h = at_place_lem v t (FillCopy w) ep

      pend : PendingOk K o.shape o.hd o.on (pending_with x r len f)
      pend = rw ed at (v.entries t).pending

      less : f < len
      less = let z = rw ed at h.1.1 in omega (arith, z.0, pend.3, pend.4)

      -- k for one slot less, and the k to pay now
      one : (n d : ℕ) → n ≡ suc d → k + k * d ≡ k * n
      one n d e = rw e (omega arith)

      owed : owing k (forgiven t) (goes_with (o.tasks t) (pending_with x r len (f + 1)) (Take k)) ≡ owing k (forgiven t) (o.tasks t)
      owed = rw (ep, ed) (omega (arith, one (len - f) (len - (f + 1)) (omega (arith, less))))

  pub counts_half : (w : Operand Primary) (x : Primary) (pl : Place) → (o.tasks t).place ≡ FillWrite w → left_to_pay pl ≡ 0 → ((y : ℕ) → ClaimIn (holding_of pl) y → ⊥)
      → Counts k p s (wrote_one o.shape x.0) o.snap o.hd o.stack (upd o.tasks t (goes (o.tasks t) pl)) base a j copies made forgiven
  counts_half w x pl ep pays free =
      wrote_counts x.0 (counts_goes v on c t l (FillWrite w) pl ep (λ q. clash cc) pays free)
