-- With enough room no call answers 9 or 10: one call, in a state of a collection or just before its flip.
use Rattle.std.specs.Prelude.{ℕ, ◌+◌, ◌*◌, ◌/◌, ◌≤◌, ◌<◌, ◌≡◌, refl, ◌≢◌, List, Bool, true, false, length, ltb, None}
use Rattle.std.proofs.Common.{ap, sym, ◌∙◌, inl, inr, arith, ltb-true}
use Rattle.std.proofs.Math.Decide.{ℕ_discrete}
use Rattle.table.specs.declared.Limits.{Limits}
use Rattle.table.specs.declared.Place.{Place}
use Rattle.table.specs.declared.Place.TheVariants.{New, Asked, Placing}
use Rattle.table.specs.declared.Task.{Task}
use Rattle.table.specs.declared.Table.{Table}
use Rattle.machine.proofs.Parts.{described_is}
use Rattle.table.specs.declared.Refusal.TheVariants.{NoTask, NoRoom, Exhausted}
use Rattle.table.specs.declared.Answer.TheVariants.{No}
use Rattle.machine.specs.Entries.{task_at, Ends}
use Rattle.machine.specs.Step.{step_of}
use Rattle.table.specs.declared.Sought.TheVariants.{Blocker}
use Rattle.machine.specs.Tasks.{seek_of}
use Rattle.machine.specs.Sum.{room_sum}
use Rattle.machine.specs.Call.{Call}
use Rattle.machine.specs.Calls.{then}
use Rattle.machine.specs.StillStore.{Store}
use Rattle.machine.specs.History.{History}
use Rattle.machine.specs.Live.Live.{live_of, size_of}
use Rattle.machine.proofs.Objects.Base.{off_on, clash}
use Rattle.machine.proofs.Objects.MoveLaws.{at_place_lem}
use Rattle.machine.proofs.Objects.Flipped.{Restful}
use Rattle.machine.proofs.Agree.Encode.{at_place}
use Rattle.machine.proofs.Agree.Gates.{call_gate_lem}
use Rattle.machine.proofs.Agree.Names.{sound_held}
use Rattle.machine.proofs.Agree.Read.{object_of_lem}
use Rattle.machine.proofs.Agree.Search.{no_blocker}
use Rattle.machine.specs.Beside.Room.{WantsRoom}
use Rattle.machine.proofs.Beside.RoomLaws.{sum_out}
use Rattle.machine.proofs.Beside.Enough.{new_room, place_fits}
use Rattle.machine.proofs.Beside.FlipFits.{flip_fits_live}
use Rattle.machine.proofs.Beside.Good.{Good, Crowded}
use Rattle.machine.proofs.Beside.Glue.{entry_of}
use Rattle.machine.specs.Beside.Run.{Spends}
use Rattle.machine.proofs.Beside.Run.{Well, Proceeds, proceeds}
use Rattle.machine.proofs.Beside.Demand2.{not_spent}
use Rattle.machine.specs.Beside.Rooms.{Suits}

module _ {l : Limits} {w : Store} {hy : History} {t : Table} {ws : List ℕ} (g : Good l w hy t ws) where
  -- collecting, with demand 3's sum for what lived at the flip
  module _ (on : t.on ≡ true) (enough : room_sum hy.words (length hy.live) t.limits.k t.limits.p t.limits.s ≤ t.limits.h) where
    live : g.objects.on ≡ true
    live = sym g.agree.on ∙ on

    sum : hy.words + 2 * (hy.words / t.limits.k) + length hy.live + 2 * (t.limits.p * (t.limits.s + 2)) ≤ t.limits.h
    sum = rw (sum_out hy.words (length hy.live) t.limits.k t.limits.p t.limits.s) at enough

    place_never : (i : ℕ) → i < t.limits.p → (pl : Place) → (g.objects.tasks i).place ≡ pl → WantsRoom t ws i (at_place g.pa g.ra pl) → ⊥
    place_never i ip (New want) pe h = off_on (sym h.0 ∙ on)
    place_never i ip (Asked want) pe h = off_on (sym h.0 ∙ on)
    place_never i ip (Placing q th) pe h =
        let z = at_place_lem g.inv i (Placing q th) pe in
        let e = (described_is h.0 h.1 (g.objects.shape.len q.0) (g.objects.shape.ptr q.0)
        (sym h.2 ∙ object_of_lem g.inv g.agree q.0 (sound_held g.kept g.objects.shape q.0 z.1 z.2))).0 in
        place_fits g.inv g.agree live (g.collecting live) sum i q th pe ip (rw e at h.3)
    place_never i ip _ pe h = h

    new_never : (i : ℕ) → i < t.limits.p → (pl : Place) → (g.objects.tasks i).place ≡ pl → Crowded t (at_place g.pa g.ra pl) → ⊥
    new_never i ip (New want) pe h =
        let z = new_room g.inv g.agree live (g.collecting live) sum i want.register want.len want.m pe ip in
        omega (arith, z, h.1)
    new_never i ip _ pe h = h

  -- nobody stands in the way of task i, which is at rest itself
  all_rest : (i : ℕ) → seek_of t.tasks t.limits.p (Blocker i) ≡ None → Restful (g.objects.tasks i).place → (u : ℕ) → Restful (g.objects.tasks u).place
  all_rest i none r u = at (ℕ_discrete u i)
    where
      at : Dec (u ≡ i) → Restful (g.objects.tasks u).place
      at (yes e) = rw e r
      at (no d) = no_blocker g.agree g.inv i none u d

  -- off, with the sum for what is live now
  module _ (off : t.on ≡ false) (enough : size_of t ws + length (live_of t ws) ≤ t.limits.h) where
    rests : g.objects.on ≡ false
    rests = sym g.agree.on ∙ off

    flip_never : (i : ℕ) → i < t.limits.p → (pl : Place) → (g.objects.tasks i).place ≡ pl → WantsRoom t ws i (at_place g.pa g.ra pl) → ⊥
    flip_never i ip (New want) pe h = flip_fits_live g.inv g.agree rests (all_rest i h.1 (rw pe tt)) (g.home rests) enough h.2
    flip_never i ip (Asked want) pe h = flip_fits_live g.inv g.agree rests (all_rest i h.1 (rw pe tt)) (g.home rests) enough h.2
    flip_never i ip (Placing q th) pe h = off_on (sym rests ∙ (at_place_lem g.inv i (Placing q th) pe).0)
    flip_never i ip _ pe h = h

-- a step of no task is refused as that
none_steps : {l : Limits} {w : Store} {hy : History} {t : Table} {ws : List ℕ} → Good l w hy t ws → (i : ℕ) → ltb i t.limits.p ≡ false → (step_of t ws i).out.answer ≡ No NoTask
unfolding step_of
none_steps {t = t} {ws = ws} g i b = rw (call_gate_lem g.agree g.long i, b) refl

-- the place of a task, by its object's entry
there : {l : Limits} {w : Store} {hy : History} {t : Table} {ws : List ℕ} (g : Good l w hy t ws) (i : ℕ) → i < t.limits.p
    → (task_at t i).place ≡ at_place g.pa g.ra (g.objects.tasks i).place
there g i ip = ap (λ (e : Task). e.place) (entry_of g i ip)

-- what would make a call answer 10, or 9, is excluded for the steps
suits : (l : Limits) (w : Store) (hy : History) (c : Call) (e : Ends) → Good l w hy e.out.table e.words
    → ((i : ℕ) → i < e.out.table.limits.p → WantsRoom e.out.table e.words i (task_at e.out.table i).place → ⊥)
    → ((i : ℕ) → i < e.out.table.limits.p → Crowded e.out.table (task_at e.out.table i).place → ⊥) → Suits c e
suits l w hy c e g a b = (nine c, ten c)
  where
    one_answer : No NoTask ≡ No Exhausted → ⊥
    one_answer q = clash cc

    other_answer : No NoTask ≡ No NoRoom → ⊥
    other_answer q = clash cc

    last_answer : No Exhausted ≡ No NoRoom → ⊥
    last_answer q = clash cc

    spends : (c : Call) → (then c e).out.answer ≡ No Exhausted → Spends c e.out.table e.words → ⊥
    spends (Call.Step i) q h = on (ltb i e.out.table.limits.p) refl
      where
        on : (d : Bool) → ltb i e.out.table.limits.p ≡ d → ⊥
        on true d = a i (ltb-true i e.out.table.limits.p d) h
        on false d = one_answer (sym (none_steps g i d) ∙ q)
    spends _ q h = h

    crowds : (c : Call) → Well c e.out.table (then c e).out.answer → (then c e).out.answer ≢ No NoRoom
    crowds (Call.Step i) h q = on (ltb i e.out.table.limits.p) refl
      where
        on : (d : Bool) → ltb i e.out.table.limits.p ≡ d → ⊥
        on true d = b i (ltb-true i e.out.table.limits.p d) (rw q at h)
        on false d = other_answer (sym (none_steps g i d) ∙ q)
    crowds _ h q = rw q at h

    ten : (c : Call) → (then c e).out.answer ≢ No Exhausted
    ten c q = on (proceeds l w hy c e g)
      where
        on : Proceeds l w hy c e → ⊥
        on (inl h) = spends c q h.1
        on (inr h) = not_spent c e.out.table (then c e).out.answer h.1 q

    nine : (c : Call) → (then c e).out.answer ≢ No NoRoom
    nine c q = on (proceeds l w hy c e g)
      where
        on : Proceeds l w hy c e → ⊥
        on (inl h) = last_answer (sym h.0 ∙ q)
        on (inr h) = crowds c h.1 q

-- collecting with demand 3's sum for what lived at the flip
pub suits_on : (l : Limits) (w : Store) (hy : History) (c : Call) (e : Ends) → Good l w hy e.out.table e.words → e.out.table.on ≡ true
    → room_sum hy.words (length hy.live) e.out.table.limits.k e.out.table.limits.p e.out.table.limits.s ≤ e.out.table.limits.h → Suits c e
suits_on l w hy c e g on enough =
    suits l w hy c e g (λ i ip h. place_never g on enough i ip (g.objects.tasks i).place refl (rw (there g i ip) at h))
    (λ i ip h. new_never g on enough i ip (g.objects.tasks i).place refl (rw (there g i ip) at h))

-- off, just before a flip
pub suits_off : (l : Limits) (w : Store) (hy : History) (c : Call) (e : Ends) → Good l w hy e.out.table e.words → e.out.table.on ≡ false
    → size_of e.out.table e.words + length (live_of e.out.table e.words) ≤ e.out.table.limits.h → Suits c e
suits_off l w hy c e g off enough =
    suits l w hy c e g (λ i ip h. flip_never g off enough i ip (g.objects.tasks i).place refl (rw (there g i ip) at h))
    (λ i ip h. crowd_off i (task_at e.out.table i).place h)
  where
    crowd_off : (i : ℕ) (pl : Place) → Crowded e.out.table pl → ⊥
    crowd_off i (New want) h = off_on (sym off ∙ h.0)
    crowd_off i _ h = h
