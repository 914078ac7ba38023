-- A New that finds no room while off: it asks for a flip, or makes it.
use Rattle.std.specs.Prelude.{ℕ, ◌+◌, ◌-◌, ◌<◌, ◌≡◌, ◌⊎◌, List, [], ◌∷◌, Bool, true, leb, Option, Some, None, Result, Ok, Err}
use Rattle.std.proofs.Math.Path.{refl, ap}
use Rattle.std.proofs.Common.{sym, ◌∙◌, inl, arith, leb-true}
use Rattle.std.proofs.Math.Logic.{inr}
use Rattle.std.proofs.Math.Bool.{false}
use Rattle.std.proofs.Math.Decide.{ℕ_discrete}
use Rattle.table.specs.declared.Limits.{Limits}
use Rattle.table.specs.declared.Place.{Place}
use Rattle.table.specs.declared.Place.TheVariants.{Idle, New, Asked}
use Rattle.table.specs.declared.Marks.{Marks}
use Rattle.table.specs.declared.Refusal.{Refusal}
use Rattle.table.specs.declared.Refusal.TheVariants.{Exhausted}
use Rattle.table.specs.declared.Sought.TheVariants.{Blocker}
use Rattle.table.specs.declared.Answer.TheVariants.{Done, Moved, Wait, No}
use Rattle.table.specs.declared.Task.{Task}
use Rattle.table.specs.declared.Table.{Table}
use Rattle.machine.specs.History.{History, with_copy, is_flip}
use Rattle.machine.specs.Basics.{pick}
use Rattle.machine.specs.Numbers.{refusal}
use Rattle.machine.specs.Words.{descriptor, room_for, laid, wanted}
use Rattle.machine.specs.Entries.{task_at, with_place, out, Ends, ends, refused}
use Rattle.machine.specs.Switch.{finish_of}
use Rattle.machine.specs.Flip.{passes_of, unasked, unasked_entry, flipped, flip_end, flip_of}
use Rattle.machine.specs.New.{claimed, made, ask_or, new_off_of}
use Rattle.machine.specs.Tasks.{holding_of, idle_of, seek_of}
use Rattle.machine.specs.StillStore.{Store, Made, Ended, Doing, making, owner_at, happen_all}
use Rattle.machine.specs.Kinds.{done_kinds, moved_kinds}
use Rattle.machine.proofs.Objects.Base.{off_on, clash}
use Rattle.machine.proofs.Objects.Inv.{NewOk}
use Rattle.machine.proofs.Objects.Ops.{goes, moves, flips}
use Rattle.machine.proofs.Objects.MoveLaws.{at_place_lem}
use Rattle.machine.proofs.Objects.Ends.{asks}
use Rattle.machine.proofs.Objects.Flipped.{Restful, Left}
use Rattle.machine.proofs.Objects.FlipInv.{flip_inv, readied}
use Rattle.machine.proofs.Agree.Encode.{at_place}
use Rattle.machine.specs.Agree.Agree.{end}
use Rattle.machine.proofs.Agree.Enter.{entered_place, moves_agree}
use Rattle.machine.proofs.Agree.Search.{no_blocker}
use Rattle.machine.proofs.Agree.FlipWords.{FlipMade, flip_words, flip_agree, made_counts}
use Rattle.machine.proofs.Beside.LivedAt.{flip_made_lived}
use Rattle.machine.proofs.Beside.Still.{DoingAt, Still}
use Rattle.machine.proofs.Beside.Doing.{still_goes}
use Rattle.machine.proofs.Beside.Histories.{off_stays, no_copy, history_is, flip_history_lem, busy_awake}
use Rattle.machine.proofs.Beside.Good.{Good, Comes}
use Rattle.machine.proofs.Beside.Glue.{below, entry_of}
use Rattle.machine.proofs.Beside.News.{new_ok_lem, new_jobs, claims_off}

-- an asking goes on as a New, and nothing else changes for the store
unasked_doing : (e e' : Task) (d : Doing) (pl : Place) → e'.storing ≡ e.storing → Restful pl → DoingAt e d pl → DoingAt e' d (unasked pl)
unfolding unasked
unasked_doing e e' d Idle q r h = h
unasked_doing e e' d (New want) q r h = h
unasked_doing e e' d (Asked want) q r h = h
unasked_doing e e' d _ q r h = absurd r

restful_new : (pl : Place) (r len m : ℕ) → (pl ≡ New (wanted r len m)) ⊎ (pl ≡ Asked (wanted r len m)) → Restful pl
restful_new pl r len m (inl e) = rw e tt
restful_new pl r len m (inr e) = rw e tt

unasked_new : (pl : Place) (r len m : ℕ) → (pl ≡ New (wanted r len m)) ⊎ (pl ≡ Asked (wanted r len m)) → unasked pl ≡ New (wanted r len m)
unfolding unasked
unasked_new pl r len m (inl e) = rw e refl
unasked_new pl r len m (inr e) = rw e refl

unasked_at : (e : Task) (r len m : ℕ) → (e.place ≡ New (wanted r len m)) ⊎ (e.place ≡ Asked (wanted r len m)) → (unasked_entry e).place ≡ New (wanted r len m)
unfolding unasked_entry
unasked_at e r len m q = unasked_new e.place r len m q

-- a flip that answers 10 was stopped for want of room
answered : (t : Table) (ws : List ℕ) → flip_of t ws ≡ ends (refused t (refusal 10)) (passes_of t ws).words → (flip_end t (passes_of t ws).pass).answer ≡ No Exhausted
unfolding flip_of
answered t ws e = ap (λ (z : Ends). z.out.answer) e

stopped : (t : Table) (ws : List ℕ) (x : Result Marks Refusal) → (flip_end t x).answer ≡ No Exhausted → x ≡ Err (refusal 10)
stopped t ws (Ok m) e = clash cc
stopped t ws (Err y) e = let z : y ≡ Exhausted = cc in ap Err z

new_busy : (pl : Place) (r len m : ℕ) → pl ≡ New (wanted r len m) → idle_of (holding_of pl) ≡ false
unfolding holding_of
new_busy pl r len m e = rw e refl

-- a place of a New, in the table
abbrev pub Newly : Place → ℕ → ℕ → ℕ → Type 0
Newly pl r len m = (pl ≡ New (wanted r len m)) ⊎ (pl ≡ Asked (wanted r len m))

module _ {l : Limits} {w : Store} {hy : History} {t : Table} {ws : List ℕ} (g : Good l w hy t ws) (i : ℕ) (ip : i < t.limits.p) (r len m : ℕ)
    (pe : Newly (g.objects.tasks i).place r len m) (off : g.objects.on ≡ false) where
  -- another task stands in the way: the asking is recorded
  asks_comes : (X : Type 0) (before : Place) (q : ℕ) → Comes l w hy t ws i before X (ends (out (with_place t i (Asked (wanted r len m))) (Wait q)) ws)
  unfolding happen_all holding_of
  asks_comes X before q =
      inr (
        rw (
          history_is t ws before (ends (out (with_place t i (Asked (wanted r len m))) (Wait q)) ws) hy hy.copies same_on (no_copy before (Wait q) hy.copies refl),
          entered_place g.pa g.ra g.objects t i (Asked (wanted r len m)) (entry_of g i ip),
        )
            (record {
              kept = g.kept;
              pa = g.pa;
              ra = g.ra;
              objects = moves g.objects i (goes (g.objects.tasks i) (Asked (wanted r len m)));
              limits = g.limits;
              long = g.long;
              inv = asks g.objects i r len m g.inv ip off pe;
              agree =
                  moves_agree g.inv g.agree i ip (goes (g.objects.tasks i) (Asked (wanted r len m))) t.marks.j
                  (rw (new_jobs (g.objects.tasks i).place r len m pe) refl) (omega arith);
              home = g.home;
              collecting = λ f. off_on (sym off ∙ f);
              awake = λ f. off_on (sym off ∙ f);
              collected = g.collected;
              still = still_goes g.still i (below g i ip) (Asked (wanted r len m)) (doing pe);
            }),
        tt,
      )
    where
      same_on : is_flip t.on (with_place t i (Asked (wanted r len m))).on ≡ false
      same_on = off_stays t.on (with_place t i (Asked (wanted r len m))).on (ap (λ (u : Table). u.on) (entered_place g.pa g.ra g.objects t i (Asked (wanted r len m)) (entry_of g i ip)) ∙ g.agree.on ∙ off)

      doing : Newly (g.objects.tasks i).place r len m → (owner_at w i).doing ≡ making r len m
      doing (inl e) = rw e at (g.still.tasks i (below g i ip)).doing
      doing (inr e) = rw e at (g.still.tasks i (below g i ip)).doing

  module _ (none : seek_of t.tasks t.limits.p (Blocker i) ≡ None) where
    resting : (u : ℕ) → Restful (g.objects.tasks u).place
    resting u = on (ℕ_discrete u i)
      where
        on : Dec (u ≡ i) → Restful (g.objects.tasks u).place
        on (yes e) = rw e (restful_new (g.objects.tasks i).place r len m pe)
        on (no d) = no_blocker g.agree g.inv i none u d

    still_flips : (f : FlipMade g.kept g.pa g.objects t ws)
        → Still f.objects.shape f.objects.prim (λ u. unasked_entry (g.objects.tasks u)) f.objects.roots w
    unfolding unasked_entry
    still_flips f =
        rw (f.mid.shape, f.mid.prim, f.mid.roots)
        (record {
          owners = g.still.owners;
          tasks = λ u b.
              let q = g.still.tasks u b in
              record {
                regs = q.regs;
                pending = q.pending;
                goes_to = q.goes_to;
                doing = unasked_doing (g.objects.tasks u) (unasked_entry (g.objects.tasks u)) (owner_at w u).doing (g.objects.tasks u).place refl (resting u) q.doing;
              };
          shared = g.still.shared;
          things = g.still.things;
          each = g.still.each;
        })

    -- the flip
    flip_comes : (X : Type 0) (before : Place) → ((after : Place) → after ≡ New (wanted r len m) → moved_kinds before after ≡ []) → ((passes_of t ws).pass ≡ Err (refusal 10) → X)
        → Comes l w hy t ws i before X (flip_of t ws)
    unfolding happen_all
    flip_comes X before kinds f = on (flip_words g.inv g.agree off (g.home off))
      where
        on : (flip_of t ws ≡ ends (refused t (refusal 10)) (passes_of t ws).words) ⊎ FlipMade g.kept g.pa g.objects t ws → Comes l w hy t ws i before X (flip_of t ws)
        on (inl e) = rw e (inl (refl, f (stopped t ws (passes_of t ws).pass (answered t ws e))))
        on (inr h) =
            let a = flip_agree h (Left g.kept g.objects h.visited) (λ x q. q.0) in
            let q : (task_at (flipped t h.marks) i).place ≡ New (wanted r len m) =
            ap (λ (e : Task). e.place) (a.1.tasks i (below g i ip)) ∙ ap (λ (pl : Place). at_place g.pa h.ra pl) (unasked_at (g.objects.tasks i) r len m pe) in
            rw h.flip
            (inr (
              rw (flip_history_lem t ws before (ends (out (flipped t h.marks) Moved) h.words) hy (g.agree.on ∙ off) refl, kinds (task_at (flipped t h.marks) i).place q)
                  (record {
                    kept = Left g.kept g.objects h.visited;
                    pa = g.pa;
                    ra = h.ra;
                    objects = flips (readied h.objects) h.visited (λ u. unasked_entry (g.objects.tasks u));
                    limits = g.limits;
                    long = g.long;
                    inv = flip_inv g.inv off resting h.mid h.only h.all;
                    agree = a.1;
                    home = λ f. off_on (sym f);
                    collecting = λ f. record {
                      made = [];
                      forgiven = λ u. 0;
                      counts = made_counts g.inv off resting h;
                      same = refl;
                      lived = flip_made_lived g.inv g.agree off resting h;
                    };
                    awake = λ f.
                        busy_awake (flipped t h.marks) i ip (omega (arith, a.1.eight, g.agree.sized.limited.p_high)) (new_busy (task_at (flipped t h.marks) i).place r len m q);
                    collected = λ f. off_on (sym f);
                    still = still_flips h;
                  }),
              tt,
            ))

  -- the step of a New while off
  pub new_off_comes : (X : Type 0) (before : Place) → done_kinds before ≡ Made ∷ Ended ∷ [] → ((after : Place) → after ≡ New (wanted r len m) → moved_kinds before after ≡ [])
      → (seek_of t.tasks t.limits.p (Blocker i) ≡ None → (passes_of t ws).pass ≡ Err (refusal 10) → X) → with_copy before Done hy.copies ≡ hy.copies
      → Comes l w hy t ws i before X (new_off_of t ws i r len m)
  unfolding new_off_of room_for
  new_off_comes X before dones kinds f quiet =
      let h = asked_ok pe in
      rw (new_ok_lem t.limits.s r len m h.2 h.3 h.4) (on (leb (len + 2) (end t - t.marks.a)) refl)
    where
      asked_ok : Newly (g.objects.tasks i).place r len m → NewOk t.limits.s (g.objects.tasks i) r len m
      asked_ok (inl e) = at_place_lem g.inv i (New (wanted r len m)) e
      asked_ok (inr e) = (at_place_lem g.inv i (Asked (wanted r len m)) e).1

      ask : (x : Option ℕ) → seek_of t.tasks t.limits.p (Blocker i) ≡ x → Comes l w hy t ws i before X (ask_or t ws i (Asked (wanted r len m)) x)
      ask (Some q) e = asks_comes X before q
      ask None e = flip_comes e X before kinds (f e)

      on : (b : Bool) → leb (len + 2) (end t - t.marks.a) ≡ b
          → Comes l w hy t ws i before X
          (pick b (finish_of t (laid ws t.marks.a (descriptor len m) 0) i (claimed t.marks (len + 2)) (made t.marks r len) Done)
          (ask_or t ws i (Asked (wanted r len m)) (seek_of t.tasks t.limits.p (Blocker i))))
      on true e = claims_off g i ip r len m X before (λ after. dones) quiet pe off (leb-true (len + 2) (end t - t.marks.a) e)
      on false e = ask (seek_of t.tasks t.limits.p (Blocker i)) refl
