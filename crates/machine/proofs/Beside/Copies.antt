-- The steps of a copy in hand: read, put.
use Rattle.std.specs.Prelude.{ℕ, ◌+◌, ◌<◌, ◌≡◌, List, Bool}
use Rattle.std.proofs.Math.Path.{refl}
use Rattle.std.proofs.Common.{ap, arith}
use Rattle.std.proofs.Math.Bool.{true, false}
use Rattle.std.proofs.Math.Dec.{ltb}
use borrow.Author.Tests.{lt-leb, ltb-true}
use Rattle.table.specs.declared.Limits.{Limits}
use Rattle.table.specs.declared.Primary.{Primary}
use Rattle.table.specs.declared.Operand.{Operand}
use Rattle.table.specs.declared.Replica.{Replica}
use Rattle.table.specs.declared.Operand.TheVariants.{Plain, Pointer}
use Rattle.table.specs.declared.Then.TheVariants.{ToPut}
use Rattle.table.specs.declared.Place.TheVariants.{Read, Put, Release}
use Rattle.table.specs.declared.Deed.TheVariants.{Goes}
use Rattle.table.specs.declared.Answer.TheVariants.{Moved}
use Rattle.table.specs.declared.Task.{Task}
use Rattle.table.specs.declared.Table.{Table}
use Rattle.machine.specs.History.{History}
use Rattle.machine.specs.Basics.{pick}
use Rattle.machine.specs.Words.{primary, copied_word, slot_at}
use Rattle.machine.specs.Entries.{task_at, moved_table, out, ends}
use Rattle.machine.specs.Deeds.{acted}
use Rattle.machine.specs.Look.{look_ahead}
use Rattle.machine.specs.Pay.{read_of, put_of}
use Rattle.machine.specs.Step.{settle, settle_of}
use Rattle.machine.specs.Tasks.{holding_of}
use Rattle.machine.specs.StillStore.{Store, Doing, owner_at, happen_all, is_resting}
use Rattle.machine.proofs.Objects.State.{locked, IsPlaced, jobs_in, Late}
use Rattle.machine.proofs.Objects.Inv.{Inv, Colours, SoundOperand}
use Rattle.machine.proofs.Objects.Ops.{goes, moves, copies}
use Rattle.machine.proofs.Objects.MoveLaws.{at_place_lem}
use Rattle.machine.proofs.Objects.PaySteps.{reads, puts}
use Rattle.machine.proofs.Agree.Encode.{at_primary, at_operand, at_copied, at_place}
use Rattle.machine.proofs.Agree.Agree.{Held}
use Rattle.machine.proofs.Agree.Read.{object_of_lem, slot_of}
use Rattle.machine.proofs.Agree.Enter.{moves_agree}
use Rattle.machine.proofs.Agree.Slots.{copies_agree}
use Rattle.machine.proofs.Beside.Still.{DoingAt}
use Rattle.machine.proofs.Beside.Doing.{still_goes}
use Rattle.machine.proofs.Beside.Stands.{by_ahead, stands_ahead}
use Rattle.machine.proofs.Objects.CountLaws.{counts_goes}
use Rattle.machine.proofs.Beside.Collects.{collects, not_idle, ahead_left, ahead_free}
use Rattle.machine.proofs.Beside.Good.{Good, Comes, comes_moved}
use Rattle.machine.proofs.Beside.Glue.{copied_word_lem, at_ahead, look_placed, below, moved_goes, busy_at}

-- the job in hand stays, and the store knows no more than that the task is busy
ahead_jobs : (v : Operand Primary) (n : ℕ) (x : Primary) (k : ℕ) → 1 ≡ jobs_in (holding_of (look_ahead v (ToPut n (slot_at x k)) (Put n (slot_at x k))))
unfolding holding_of
ahead_jobs v n x k = by_ahead (λ pl. 1 ≡ jobs_in (holding_of pl)) v (ToPut n (slot_at x k)) (Put n (slot_at x k)) (λ c. refl) (λ p. refl)

ahead_doing : (e : Task) (d : Doing) (v : Operand Primary) (n : ℕ) (x : Primary) (k : ℕ) → is_resting d ≡ false
    → DoingAt (goes e (look_ahead v (ToPut n (slot_at x k)) (Put n (slot_at x k)))) d (look_ahead v (ToPut n (slot_at x k)) (Put n (slot_at x k)))
ahead_doing e d v n x k h = by_ahead (λ pl. DoingAt (goes e pl) d pl) v (ToPut n (slot_at x k)) (Put n (slot_at x k)) (λ c. h) (λ p. h)

module _ {l : Limits} {w : Store} {hy : History} {t : Table} {ws : List ℕ} (g : Good l w hy t ws) (i : ℕ) (ip : i < t.limits.p) (X : Type 0) (n : ℕ) (x : Primary) (k : ℕ) where
  colours : g.objects.on ≡ true → Colours g.kept g.objects.shape g.objects.snap g.objects.hd g.objects.prim g.objects.rep g.objects.has g.objects.stack
      (Late g.objects.tasks)
  colours on = rw on at g.inv.mode

  -- a locked slot: of an object with words, and filled
  module _ (live : g.objects.on ≡ true) (lock : g.objects.hd x.0 ≡ locked k i) where
    pub held : Held g.kept g.objects.shape x.0
    held = let h = g.inv.owners.locker x.0 k i lock in (h.1, h.2, h.3)

    pub placed : IsPlaced (g.objects.hd x.0)
    placed = rw lock tt

    filled : k < g.objects.shape.fill x.0
    filled =
        let a = rw lock at ((colours live).bound x.0 placed) in
        omega (arith, (colours live).older x.0)

    pub short : k < g.objects.shape.len x.0
    short = omega (arith, filled, g.inv.shapes.filled x.0, g.inv.shapes.written x.0)

  module _ (pe : (g.objects.tasks i).place ≡ Read n (slot_at x k)) where
    live_r : g.objects.on ≡ true
    live_r = (at_place_lem g.inv i (Read n (slot_at x k)) pe).0

    lock_r : g.objects.hd x.0 ≡ locked k i
    lock_r = (at_place_lem g.inv i (Read n (slot_at x k)) pe).2

    goes_on : (v : Operand Primary) → SoundOperand g.kept g.objects.shape v
        → Inv g.kept t.limits.p t.limits.s (moves g.objects i (goes (g.objects.tasks i) (look_ahead v (ToPut n (slot_at x k)) (Put n (slot_at x k)))))
        → Comes l w hy t ws i (at_place g.pa g.ra (Read n (slot_at x k))) X
        (ends
        (out
        (moved_table t i t.marks (task_at t i).pending
        (look_ahead (at_operand g.pa v) (ToPut n (slot_at (at_primary g.pa x) k)) (Put n (slot_at (at_primary g.pa x) k)))) Moved) ws)
    unfolding happen_all holding_of
    goes_on v s inv =
        comes_moved g i (below g i ip) (at_place g.pa g.ra (Read n (slot_at x k))) X g.kept g.pa g.ra
        (moves g.objects i (goes (g.objects.tasks i) (look_ahead v (ToPut n (slot_at x k)) (Put n (slot_at x k))))) live_r t.marks _ _
        (goes (g.objects.tasks i) (look_ahead v (ToPut n (slot_at x k)) (Put n (slot_at x k)))) ws
        (rw (at_ahead g.agree.lay v s (ToPut n (slot_at x k)) (Put n (slot_at x k)) (Put n (slot_at (at_primary g.pa x) k)) (λ c. refl))
        (moved_goes g i ip t.marks (look_ahead v (ToPut n (slot_at x k)) (Put n (slot_at x k)))))
        inv
        (moves_agree g.inv g.agree i ip (goes (g.objects.tasks i) (look_ahead v (ToPut n (slot_at x k)) (Put n (slot_at x k)))) t.marks.j
        (rw pe (ap (λ m. t.marks.j + m) (ahead_jobs v n x k))) (omega arith))
        (still_goes g.still i (below g i ip) (look_ahead v (ToPut n (slot_at x k)) (Put n (slot_at x k)))
        (ahead_doing (g.objects.tasks i) (owner_at w i).doing v n x k (busy_at g i ip (Read n (slot_at x k)) pe tt))) ip (stands_ahead v (ToPut n (slot_at x k)) (Put n (slot_at x k)) (λ c. tt)) hy.copies refl
        (collects (g.collecting live_r) _ _ refl refl (g.collecting live_r).forgiven (counts_goes g.inv live_r (g.collecting live_r).counts i ip (Read n (slot_at x k)) (look_ahead v (ToPut n (slot_at x k)) (Put n (slot_at x k))) pe (not_idle (Read n (slot_at x k)) tt) (ahead_left v (ToPut n (slot_at x k)) (Put n (slot_at x k)) (λ c. refl)) (ahead_free v (ToPut n (slot_at x k)) (Put n (slot_at x k)) (λ c y h. h))))

    pub read_comes : Comes l w hy t ws i (at_place g.pa g.ra (Read n (slot_at x k))) X (settle t i (read_of t.marks ws t.limits.s n (at_primary g.pa x) k))
    unfolding read_of settle_of
    read_comes =
        rw (
          object_of_lem g.inv g.agree x.0 (held live_r lock_r),
          lt-leb (g.objects.shape.len x.0) k (short live_r lock_r),
          slot_of g.agree x.0 k (held live_r lock_r) (omega (arith, filled live_r lock_r, g.inv.shapes.filled x.0)),
        )
        (on (ltb k (g.objects.shape.ptr x.0)) refl)
      where
        on : (b : Bool) → ltb k (g.objects.shape.ptr x.0) ≡ b
            → Comes l w hy t ws i (at_place g.pa g.ra (Read n (slot_at x k))) X
            (settle t i
            (pick b
            (acted
            (Goes t.marks
            (look_ahead (Pointer (primary (pick b (g.pa (g.objects.prim x.0 k)) (g.objects.prim x.0 k)))) (ToPut n (slot_at (at_primary g.pa x) k))
            (Put n (slot_at (at_primary g.pa x) k))))
            ws)
            (acted
            (Goes t.marks
            (look_ahead (Plain (pick b (g.pa (g.objects.prim x.0 k)) (g.objects.prim x.0 k))) (ToPut n (slot_at (at_primary g.pa x) k)) (Put n (slot_at (at_primary g.pa x) k))))
            ws)))
        on true e =
            goes_on (Pointer (primary (g.objects.prim x.0 k)))
            (g.inv.shapes.closed x.0 k (held live_r lock_r).2 (held live_r lock_r).1 (filled live_r lock_r) (ltb-true k _ e))
            (rw e at (reads g.objects i n x k g.inv ip pe))
        on false e = goes_on (Plain (g.objects.prim x.0 k)) tt (rw e at (reads g.objects i n x k g.inv ip pe))

  -- into the replica
  pub put_comes : (c : Operand Replica) → (g.objects.tasks i).place ≡ Put n (slot_at x k) c
      → Comes l w hy t ws i (at_place g.pa g.ra (Put n (slot_at x k) c)) X (settle t i (put_of t.marks ws t.limits.s n (at_primary g.pa x) k (at_copied g.ra c)))
  unfolding put_of settle_of happen_all holding_of
  put_comes c pe =
      let h = at_place_lem g.inv i (Put n (slot_at x k) c) pe in
      rw (
        look_placed g.inv g.agree x.0 (held h.0 h.2) (placed h.0 h.2),
        lt-leb (g.objects.shape.len x.0) k (short h.0 h.2),
        copied_word_lem g.ra c k (g.objects.shape.ptr x.0) h.3,
      )
      (comes_moved g i (below g i ip) (at_place g.pa g.ra (Put n (slot_at x k) c)) X g.kept g.pa g.ra
      (copies g.objects x.0 k (copied_word c) i (goes (g.objects.tasks i) (Release n (slot_at x k)))) h.0 _ _ _ (goes (g.objects.tasks i) (Release n (slot_at x k))) _
      (moved_goes g i ip t.marks (Release n (slot_at x k))) (puts g.objects i n x k c g.inv ip pe)
      (copies_agree g.inv g.agree i ip (goes (g.objects.tasks i) (Release n (slot_at x k))) (rw pe refl) x.0 (held h.0 h.2) k (copied_word c) (placed h.0 h.2)
      (short h.0 h.2))
      (still_goes g.still i (below g i ip) (Release n (slot_at x k)) (busy_at g i ip (Put n (slot_at x k) c) pe tt)) ip tt hy.copies refl
      (collects (g.collecting h.0) _ _ refl refl (g.collecting h.0).forgiven (counts_goes g.inv h.0 (g.collecting h.0).counts i ip (Put n (slot_at x k) c) (Release n (slot_at x k)) pe (not_idle (Put n (slot_at x k) c) tt) refl (λ y h. h))))
