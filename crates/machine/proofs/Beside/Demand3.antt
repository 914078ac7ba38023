-- Demand 3, from the runs in which table, store and history stand side by side.
use Rattle.std.specs.Prelude.{ℕ, ◌≤◌, ◌<◌, ◌≡◌, refl, ◌≢◌, List, [], ◌∷◌, Bool, true, false, length}
use Rattle.std.proofs.Common.{ap, sym, ◌∙◌, inl, inr, arith}
use Rattle.table.specs.declared.Limits.{Limits}
use Rattle.table.specs.declared.Table.{Table}
use Rattle.table.specs.declared.Refusal.TheVariants.{Exhausted}
use Rattle.table.specs.declared.Answer.TheVariants.{No}
use Rattle.machine.specs.Basics.{pick}
use Rattle.machine.specs.Entries.{task_at, Ends}
use Rattle.machine.specs.Gate.{sizes_ok}
use Rattle.machine.specs.Setup.{setup_of}
use Rattle.machine.specs.Sum.{room_sum}
use Rattle.machine.specs.Call.{Call}
use Rattle.machine.specs.Calls.{then, run}
use Rattle.machine.specs.StillStore.{Store, empty_store}
use Rattle.machine.specs.Kinds.{follows, beside}
use Rattle.machine.specs.History.{InCopies, NoCopyTwice, History, no_history, with_copies, is_flip, flip_history, history_after, history_of, copied, copies_of, NoFlip}
use Rattle.machine.specs.Live.Live.{live_of, size_of, filled_at}
use Rattle.machine.specs.Objects.Base.{In}
use Rattle.machine.proofs.Beside.Collecting.{Exact}
use Rattle.machine.proofs.Beside.Exactly.{counted}
use Rattle.machine.proofs.Beside.Histories.{flip_history_lem}
use Rattle.machine.proofs.Beside.Finish.{known_of}
use Rattle.machine.proofs.Beside.Good.{Good}
use Rattle.machine.specs.Beside.Run.{Living}
use Rattle.machine.proofs.Beside.Run.{Proceeds, proceeds, good_run}
use Rattle.machine.specs.Beside.Rooms.{Suits}
use Rattle.machine.proofs.Beside.Rooms.{suits_on, suits_off}
use Rattle.machine.proofs.Beside.Demand2.{good_after}
use Rattle.machine.specs.Beside.Demand3.{Lasts, AllSuit}

-- the number of copies, on and off
pub copies_are : {l : Limits} {w : Store} {hy : History} {t : Table} {ws : List ℕ} → Good l w hy t ws → t.marks.copies ≡ length hy.copies
copies_are {hy = hy} {t = t} g = on g.objects.on refl
  where
    on : (b : Bool) → g.objects.on ≡ b → t.marks.copies ≡ length hy.copies
    on true e = counted g.agree (g.collecting e) (known_of g.inv e)
    on false e = (g.collected e).1

pub exact_off : {l : Limits} {w : Store} {hy : History} {t : Table} {ws : List ℕ} → Good l w hy t ws → t.on ≡ false → Exact hy
exact_off g off = (g.collected (sym g.agree.on ∙ off)).0

-- a call that is no flip keeps what the flip found
one_history : (c : Call) (e : Ends) (h : History) → is_flip e.out.table.on (then c e).out.table.on ≡ false → history_after c e (then c e) h ≡ with_copies h (copied c e (then c e) h.copies)
one_history (Call.Step task) e h q =
    ap (λ (b : Bool). pick b (flip_history e.out.table e.words) (with_copies h (copied (Call.Step task) e (then (Call.Step task) e) h.copies))) q
one_history _ e h q = refl

pub history_between : (cs : List Call) (e : Ends) (h : History) → NoFlip cs e → history_of cs e h ≡ with_copies h (copies_of cs e h.copies)
unfolding history_of copies_of
history_between [] e h n = refl
history_between (c ∷ cs) e h n =
    ap (λ (k : History). history_of cs (then c e) k) (one_history c e h n.0) ∙ history_between cs (then c e) (with_copies h (copied c e (then c e) h.copies)) n.1

-- a collection from a state on, with the sum for what lived at its flip
all_suit : (l : Limits) (w : Store) (hy : History) (cs : List Call) (e : Ends) → Good l w hy e.out.table e.words
    → room_sum hy.words (length hy.live) l.k l.p l.s ≤ l.h → Lasts cs e → AllSuit cs e
all_suit l w hy [] e g enough last = tt
all_suit l w hy (c ∷ cs) e g enough last = (now, on (λ k. all_suit l (follows w c e (then c e)) (history_after c e (then c e) hy) cs (then c e) k still last.1) (proceeds l w hy c e g))
  where
    now : Suits c e
    now = suits_on l w hy c e g last.0 (rw g.limits enough)

    same : history_after c e (then c e) hy ≡ with_copies hy (copied c e (then c e) hy.copies)
    same = one_history c e hy (ap (λ (b : Bool). is_flip b (then c e).out.table.on) last.0)

    still : room_sum (history_after c e (then c e) hy).words (length (history_after c e (then c e) hy).live) l.k l.p l.s ≤ l.h
    still = rw same enough

    on : (Good l (follows w c e (then c e)) (history_after c e (then c e) hy) (then c e).out.table (then c e).words → AllSuit cs (then c e)) → Proceeds l w hy c e → AllSuit cs (then c e)
    on f (inl h) = absurd (now.1 h.0)
    on f (inr h) = f h.0

module _ (t : Table) (l : Limits) (ws : List ℕ) (accepted : sizes_ok l (length ws) ≡ true) (cs : List Call) (living : Living cs (setup_of t l ws)) where
  abbrev now : Ends
  now = run cs (setup_of t l ws)

  pub copies_right : now.out.table.marks.copies ≡ length (history_of cs (setup_of t l ws) no_history).copies
  copies_right = copies_are (good_after t l ws accepted cs living)

  module _ (i : ℕ) (off : now.out.table.on ≡ false) (flip : (then (Call.Step i) now).out.table.on ≡ true) where
    -- the flip begins a history of its own
    began : history_after (Call.Step i) now (then (Call.Step i) now) (history_of cs (setup_of t l ws) no_history) ≡ flip_history now.out.table now.words
    began = flip_history_lem now.out.table now.words (task_at now.out.table i).place (then (Call.Step i) now) (history_of cs (setup_of t l ws) no_history) off flip

    module _ (alive : (then (Call.Step i) now).out.answer ≢ No Exhausted) where
      flipped_good : Good l (follows (beside cs (setup_of t l ws) empty_store) (Call.Step i) now (then (Call.Step i) now)) (flip_history now.out.table now.words)
          (then (Call.Step i) now).out.table (then (Call.Step i) now).words
      flipped_good = on (proceeds l (beside cs (setup_of t l ws) empty_store) (history_of cs (setup_of t l ws) no_history) (Call.Step i) now (good_after t l ws accepted cs living))
        where
          on : Proceeds l (beside cs (setup_of t l ws) empty_store) (history_of cs (setup_of t l ws) no_history) (Call.Step i) now
              → Good l (follows (beside cs (setup_of t l ws) empty_store) (Call.Step i) now (then (Call.Step i) now)) (flip_history now.out.table now.words)
              (then (Call.Step i) now).out.table (then (Call.Step i) now).words
          on (inl h) = absurd (alive h.0)
          on (inr h) = rw began at h.0

      -- a collection that has ended
      pub exactly_once : (ds : List Call) → Living ds (then (Call.Step i) now) → NoFlip ds (then (Call.Step i) now) → (run ds (then (Call.Step i) now)).out.table.on ≡ false
          → NoCopyTwice (copies_of ds (then (Call.Step i) now) [])
          × ((p k : ℕ) → InCopies p k (copies_of ds (then (Call.Step i) now) []) → In p (live_of now.out.table now.words) × (k < filled_at now.out.table now.words p))
          × ((p k : ℕ) → In p (live_of now.out.table now.words) → k < filled_at now.out.table now.words p → InCopies p k (copies_of ds (then (Call.Step i) now) []))
      exactly_once ds lives none ended =
          let g = good_run l ds (then (Call.Step i) now) _ (flip_history now.out.table now.words) flipped_good lives in
          let x = rw (history_between ds (then (Call.Step i) now) (flip_history now.out.table now.words) none) at (exact_off g ended) in
          (x.once, x.only, x.all)

    -- enough room: the flip's own step, and every call until the switch-over
    pub room_enough : room_sum (size_of now.out.table now.words) (length (live_of now.out.table now.words)) l.k l.p l.s ≤ l.h → (ds : List Call)
        → Lasts ds (then (Call.Step i) now) → Suits (Call.Step i) now × AllSuit ds (then (Call.Step i) now)
    room_enough enough ds last =
        let g = good_after t l ws accepted cs living in
        let s = suits_off l _ _ (Call.Step i) now g off (rw g.limits (omega (arith, enough))) in
        (s, all_suit l _ (flip_history now.out.table now.words) ds (then (Call.Step i) now) (flipped_good s.1) enough last)

  -- the step that would make a flip is not exhausted either
  pub flip_suits : (c : Call) → now.out.table.on ≡ false
      → room_sum (size_of now.out.table now.words) (length (live_of now.out.table now.words)) l.k l.p l.s ≤ l.h → Suits c now
  flip_suits c off enough = let g = good_after t l ws accepted cs living in suits_off l _ _ c now g off (rw g.limits (omega (arith, enough)))
