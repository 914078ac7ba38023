-- The moment of a Store, computed: with the collector off, and of a pointer while collecting; the hypotheses of its theorems are met.
use Rattle.std.specs.Prelude.{ℕ, ◌≡◌, refl, ◌≢◌, List, [], ◌∷◌, ◌++◌, true, replicate}
use Rattle.table.specs.declared.Refusal.{Refusal}
use Rattle.table.specs.declared.Refusal.TheVariants.{SlotInStore, Exhausted}
use Rattle.table.specs.declared.Answer.{Answer}
use Rattle.table.specs.declared.Answer.TheVariants.{Accepted, Done, Value, Moved, Wait, Report, No}
use Rattle.machine.specs.Entries.{Ends}
use Rattle.machine.specs.Setup.{limits, unset}
use Rattle.machine.specs.Call.{Call}
use Rattle.machine.specs.Calls.{then, run, answers}
use Rattle.machine.specs.StillStore.{empty_store, happen_all}
use Rattle.machine.specs.Kinds.{beside}
use Rattle.machine.specs.Opened.{started, steps, opened}
use Rattle.runs.specs.RoomRuns.{with_refusal, refusals_in, plain, dropped}
use Rattle.machine.proofs.Objects.Base.{clash}
use Rattle.machine.specs.Beside.Moment.{begun_by}
use Rattle.machine.specs.Beside.Run.{Living}
use Rattle.machine.specs.Beside.Stored.{slot_of, StoreMoment}
use Rattle.machine.proofs.Beside.Stored.{store_moment, store_pointer_moment}

-- ---- Off: task 0 stores 8 over 7. Before its step task 1, which holds the object too, is refused a Store into that slot
-- and makes an object of its own.
made : List Call
made = Call.New 0 0 1 0 ∷ Call.Step 0 ∷ Call.Fill 0 7 ∷ Call.Step 0 ∷ Call.Put 0 0 0 ∷ Call.Get 1 0 0 ∷ []

between : List Call
between = Call.Store 1 0 0 9 ∷ Call.New 1 1 1 0 ∷ Call.Step 1 ∷ []

answered : answers (made ++ (Call.Store 0 0 0 8 ∷ (between ++ (Call.Step 0 ∷ [])))) (started 2 4 64 2)
    ≡ Accepted ∷ Done ∷ Accepted ∷ Done ∷ Done ∷ Done ∷ Accepted ∷ No SlotInStore ∷ Accepted ∷ Done ∷ Done ∷ []
unfolding opened made between
answered = refl

accepted_lives : Accepted ≢ No Exhausted
accepted_lives e = let z : ◌≡◌ {A = ℕ} 0 1 = cc in clash z

done_lives : Done ≢ No Exhausted
done_lives e = let z : ◌≡◌ {A = ℕ} 0 1 = cc in clash z

refused_lives : No SlotInStore ≢ No Exhausted
refused_lives e = let z : ◌≡◌ {A = ℕ} 0 1 = cc in clash z

made_lives : Living made (started 2 4 64 2)
unfolding opened made
made_lives = (accepted_lives, (done_lives, (accepted_lives, (done_lives, (done_lives, (done_lives, tt))))))

between_lives : Living (between ++ (Call.Step 0 ∷ [])) (then (Call.Store 0 0 0 8) (run made (started 2 4 64 2)))
unfolding opened made between
between_lives = (refused_lives, (accepted_lives, (done_lives, (done_lives, tt))))

-- object 1, slot 0, the value 8
once : StoreMoment (started 2 4 64 2) made (Call.Store 0 0 0 8) (between ++ (Call.Step 0 ∷ [])) 0 1 0 8
unfolding opened made between begun_by beside happen_all
once = store_moment unset (limits 2 4 64 2) (replicate 130 1) refl made made_lives 0 0 0 8 refl (between ++ (Call.Step 0 ∷ [])) between_lives refl refl

-- 7 until the step, 8 after it
told_when :
    (slot_of (beside made (started 2 4 64 2) empty_store) 1 0 ≡ 7)
    × (slot_of (beside (made ++ (Call.Store 0 0 0 8 ∷ between)) (started 2 4 64 2) empty_store) 1 0 ≡ 7)
    × (slot_of (beside (made ++ (Call.Store 0 0 0 8 ∷ (between ++ (Call.Step 0 ∷ [])))) (started 2 4 64 2) empty_store) 1 0 ≡ 8)
unfolding opened made between beside happen_all
told_when = (refl, refl, refl)

-- ---- While collecting: object 2, held by both tasks, points to object 1, which nothing else holds. Task 0's New has made the
-- flip. Task 1's Store of nil claims and places object 1 before it writes, and task 0's New goes on in between.
flipped : List Call
flipped =
    plain 1 1 ++
    (Call.New 0 0 1 1 ∷ Call.Step 0 ∷ Call.FillPointer 0 1 ∷ Call.Step 0 ∷ Call.Clear 0 1 ∷ Call.Put 0 0 0 ∷ Call.Get 1 0 0 ∷
    (dropped 28 ++ Call.New 0 2 4 0 ∷ Call.Step 0 ∷ []))

placed : List Call
placed = steps (1 ∷ 0 ∷ 1 ∷ 0 ∷ [])

-- a run without a refusal is living
one_lives : (x : Answer) (rest : List Refusal) → with_refusal x rest ≡ [] → (x ≢ No Exhausted) × (rest ≡ [])
one_lives Accepted rest h = (λ e. let z : ◌≡◌ {A = ℕ} 0 1 = cc in clash z, h)
one_lives Done rest h = (λ e. let z : ◌≡◌ {A = ℕ} 0 1 = cc in clash z, h)
one_lives (Value v) rest h = (λ e. let z : ◌≡◌ {A = ℕ} 0 1 = cc in clash z, h)
one_lives Moved rest h = (λ e. let z : ◌≡◌ {A = ℕ} 0 1 = cc in clash z, h)
one_lives (Wait q) rest h = (λ e. let z : ◌≡◌ {A = ℕ} 0 1 = cc in clash z, h)
one_lives (Report on live copies) rest h = (λ e. let z : ◌≡◌ {A = ℕ} 0 1 = cc in clash z, h)
one_lives (No x) rest h = let z : ◌≡◌ {A = ℕ} 0 1 = cc in clash z

unrefused_lives : (cs : List Call) (e : Ends) → refusals_in (answers cs e) ≡ [] → Living cs e
unfolding answers refusals_in
unrefused_lives [] e h = tt
unrefused_lives (c ∷ cs) e h =
    let q = one_lives (then c e).out.answer (refusals_in (answers cs (then c e))) h in
    (q.0, unrefused_lives cs (then c e) q.1)

flipped_lives : Living flipped (started 2 4 64 2)
unfolding opened flipped refusals_in
flipped_lives = unrefused_lives flipped (started 2 4 64 2) refl

placed_lives : Living (placed ++ (Call.Step 1 ∷ [])) (then (Call.StorePointer 1 0 0 1) (run flipped (started 2 4 64 2)))
unfolding opened flipped placed refusals_in
placed_lives = unrefused_lives (placed ++ (Call.Step 1 ∷ [])) (then (Call.StorePointer 1 0 0 1) (run flipped (started 2 4 64 2))) refl

-- object 2, slot 0, nil
pointer_once : StoreMoment (started 2 4 64 2) flipped (Call.StorePointer 1 0 0 1) (placed ++ (Call.Step 1 ∷ [])) 1 2 0 0
unfolding opened flipped placed begun_by beside happen_all
pointer_once =
    store_pointer_moment unset (limits 2 4 64 2) (replicate 130 1) refl flipped flipped_lives 1 0 0 1 refl (placed ++ (Call.Step 1 ∷ [])) placed_lives refl refl

-- object 1 until the third step of task 1, nil after it
pointer_told_when :
    ((run flipped (started 2 4 64 2)).out.table.on ≡ true)
    × (slot_of (beside flipped (started 2 4 64 2) empty_store) 2 0 ≡ 1)
    × (slot_of (beside (flipped ++ (Call.StorePointer 1 0 0 1 ∷ placed)) (started 2 4 64 2) empty_store) 2 0 ≡ 1)
    × (slot_of (beside (flipped ++ (Call.StorePointer 1 0 0 1 ∷ (placed ++ (Call.Step 1 ∷ [])))) (started 2 4 64 2) empty_store) 2 0 ≡ 0)
unfolding opened flipped placed beside happen_all
pointer_told_when = (refl, refl, refl, refl)
