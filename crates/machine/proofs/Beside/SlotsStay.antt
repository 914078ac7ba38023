-- In the store a filled slot changes only where a Store into it is written.
use Rattle.std.specs.Prelude.{ℕ, ◌-◌, ◌<◌, ◌≡◌, refl, List, [], ◌∷◌, ◌++◌, length, get_or, set, eqb}
use Rattle.std.proofs.Common.{ap, sym, ◌∙◌, arith, length-set, length-append, get_or-set_same, get_or-set_other}
use Rattle.std.proofs.Math.Decide.{ℕ_discrete, dec_lt}
use Rattle.std.proofs.Math.ListN.{get_or-append, get_or-eq_default}
use Rattle.std.proofs.Math.Seq.{set_out}
use Rattle.table.specs.declared.Answer.{Answer}
use Rattle.table.specs.declared.Answer.TheVariants.{Accepted, Done}
use Rattle.machine.specs.Entries.{task_at, Ends}
use Rattle.machine.specs.Call.{Call}
use Rattle.machine.specs.StillStore.{empty_store, Store, Owner, Thing, Doing, resting, making, filling, storing, Kind, Made, Filled, Written, Ended, owner, thing, owner_at, thing_at, makes, fills, fills_thing, writes_thing, ends_owner, happens, happen_all, accepted, task_of, told}
use Rattle.machine.specs.StillStore.{writes as puts}
use Rattle.machine.specs.Kinds.{made, follows, beside}
use Rattle.machine.specs.Opened.{started, opened}
use Rattle.machine.proofs.Objects.Base.{clash}
use Rattle.machine.proofs.Beside.Changes.{pick_all}
use Rattle.machine.proofs.Beside.Moment.{writes}

-- slot j of the thing at x stays: it is filled still, and holds what it held
pub record Stays (s w : Store) (x j : ℕ) : Type 0 where
  pub filled : j < length (thing_at w x).slots
  pub same : get_or (thing_at w x).slots j 0 ≡ get_or (thing_at s x).slots j 0

-- a thing with a filled slot is there
there : (s : Store) (x j : ℕ) → j < length (thing_at s x).slots → x - 1 < length s.things
there s x j l = on (dec_lt (x - 1) (length s.things))
  where
    on : Dec (x - 1 < length s.things) → x - 1 < length s.things
    on (yes h) = h
    on (no h) =
        let e : thing_at s x ≡ thing 0 0 [] = get_or-eq_default s.things (thing 0 0 []) (omega (arith, h)) in
        absurd (omega (arith, rw e at l))

made_stays : (s : Store) (i x j : ℕ) (d : Doing) → j < length (thing_at s x).slots → Stays s (makes s i d) x j
made_stays s i x j resting l = record { filled = l; same = refl }
made_stays s i x j (making r len m) l =
    let e : get_or (s.things ++ (thing len m [] ∷ [])) (x - 1) (thing 0 0 []) ≡ thing_at s x =
    get_or-append s.things (thing len m [] ∷ []) (thing 0 0 []) (x - 1) (there s x j l)
    in
    record { filled = rw e l; same = rw e }
made_stays s i x j (filling v) l = record { filled = l; same = refl }
made_stays s i x j (storing y k v) l = record { filled = l; same = refl }

-- one thing changed, so that its filled slot j stays if it is the one at x
changed_stays : (s : Store) (y x j : ℕ) (th : Thing) → j < length (thing_at s x).slots
    → (y - 1 ≡ x - 1 → (j < length th.slots) × (get_or th.slots j 0 ≡ get_or (thing_at s x).slots j 0))
    → (j < length (get_or (set s.things (y - 1) th) (x - 1) (thing 0 0 [])).slots)
    × (get_or (get_or (set s.things (y - 1) th) (x - 1) (thing 0 0 [])).slots j 0 ≡ get_or (thing_at s x).slots j 0)
changed_stays s y x j th l h = on (ℕ_discrete (y - 1) (x - 1))
  where
    on : Dec (y - 1 ≡ x - 1)
        → (j < length (get_or (set s.things (y - 1) th) (x - 1) (thing 0 0 [])).slots)
        × (get_or (get_or (set s.things (y - 1) th) (x - 1) (thing 0 0 [])).slots j 0 ≡ get_or (thing_at s x).slots j 0)
    on (yes e) = rw (e, get_or-set_same s.things (x - 1) th (thing 0 0 []) (there s x j l)) (h e)
    on (no d) = rw (get_or-set_other s.things (y - 1) (x - 1) th (thing 0 0 []) (λ z. d (sym z))) (l, refl)

filled_stays : (s : Store) (i x j : ℕ) (d : Doing) → j < length (thing_at s x).slots → Stays s (fills s i d) x j
filled_stays s i x j resting l = record { filled = l; same = refl }
filled_stays s i x j (making r len m) l = record { filled = l; same = refl }
filled_stays s i x j (filling v) l = record { filled = q.0; same = q.1 }
  where
    q : (j < length (get_or (set s.things ((owner_at s i).pending - 1) (fills_thing (thing_at s (owner_at s i).pending) v)) (x - 1) (thing 0 0 [])).slots)
        × (get_or (get_or (set s.things ((owner_at s i).pending - 1) (fills_thing (thing_at s (owner_at s i).pending) v)) (x - 1) (thing 0 0 [])).slots j 0 ≡ get_or (thing_at s x).slots j 0)
    q = changed_stays s (owner_at s i).pending x j _ l
        (λ e.
        let z : thing_at s (owner_at s i).pending ≡ thing_at s x = ap (λ (n : ℕ). get_or s.things n (thing 0 0 [])) e in
        rw z (rw (length-append (thing_at s x).slots (v ∷ [])) (omega (arith, l)), get_or-append (thing_at s x).slots (v ∷ []) 0 j l))
filled_stays s i x j (storing y k v) l = record { filled = l; same = refl }

written_stays : (s : Store) (i x j : ℕ) (d : Doing) → j < length (thing_at s x).slots
    → ((y v : ℕ) → d ≡ storing y j v → y - 1 ≡ x - 1 → ⊥) → Stays s (puts s i d) x j
written_stays s i x j resting l h = record { filled = l; same = refl }
written_stays s i x j (making r len m) l h = record { filled = l; same = refl }
written_stays s i x j (filling v) l h = record { filled = l; same = refl }
written_stays s i x j (storing y k v) l h = record { filled = q.0; same = q.1 }
  where
    q : (j < length (get_or (set s.things (y - 1) (writes_thing (thing_at s y) k v)) (x - 1) (thing 0 0 [])).slots)
        × (get_or (get_or (set s.things (y - 1) (writes_thing (thing_at s y) k v)) (x - 1) (thing 0 0 [])).slots j 0 ≡ get_or (thing_at s x).slots j 0)
    q = changed_stays s y x j _ l
        (λ e.
        let z : thing_at s y ≡ thing_at s x = ap (λ (n : ℕ). get_or s.things n (thing 0 0 [])) e in
        rw z (
          rw (length-set (thing_at s x).slots k v) l,
          get_or-set_other (thing_at s x).slots k j v 0 (λ n. h y v (ap (λ (n : ℕ). storing y n v) (sym n)) e),
        ))

-- ---- what a task has begun, after one kind of action: the same, or nothing
owner_doing : (s : Store) (i : ℕ) (o : Owner) → o.doing ≡ (owner_at s i).doing
    → (get_or (set s.owners i o) i (owner [] 0 0 resting)).doing ≡ (owner_at s i).doing
owner_doing s i o e = on (dec_lt i (length s.owners))
  where
    on : Dec (i < length s.owners) → (get_or (set s.owners i o) i (owner [] 0 0 resting)).doing ≡ (owner_at s i).doing
    on (yes h) = rw (get_or-set_same s.owners i o (owner [] 0 0 resting) h) e
    on (no h) = rw (set_out s.owners i o (omega (arith, h)))

ended_rests : (o : Owner) (th : Thing) → (ends_owner o th).doing ≡ resting
ended_rests o th =
    pick_all (λ (q : Owner). q.doing ≡ resting) (eqb o.pending 0) _ _ (λ e. refl)
    (λ e. pick_all (λ (q : Owner). q.doing ≡ resting) (eqb (length th.slots) th.len) _ _ (λ f. refl) (λ f. refl))

pub rests_after : (s : Store) (i : ℕ) → (owner_at (happens s i Ended) i).doing ≡ resting
rests_after s i = on (dec_lt i (length s.owners))
  where
    o : Owner
    o = ends_owner (owner_at s i) (thing_at s (owner_at s i).pending)

    on : Dec (i < length s.owners) → (owner_at (happens s i Ended) i).doing ≡ resting
    on (yes h) = rw (get_or-set_same s.owners i o (owner [] 0 0 resting) h) (ended_rests (owner_at s i) (thing_at s (owner_at s i).pending))
    on (no h) =
        rw (set_out s.owners i o (omega (arith, h)), get_or-eq_default s.owners (owner [] 0 0 resting) {n = i} (omega (arith, h)))

pub made_doing : (s : Store) (i : ℕ) (d : Doing) → (owner_at (makes s i d) i).doing ≡ (owner_at s i).doing
made_doing s i resting = refl
made_doing s i (making r len m) = owner_doing s i _ refl
made_doing s i (filling v) = refl
made_doing s i (storing y k v) = refl

pub filled_doing : (s : Store) (i : ℕ) (d : Doing) → (owner_at (fills s i d) i).doing ≡ (owner_at s i).doing
filled_doing s i resting = refl
filled_doing s i (making r len m) = refl
filled_doing s i (filling v) = refl
filled_doing s i (storing y k v) = refl

pub written_doing : (s : Store) (i : ℕ) (d : Doing) → (owner_at (puts s i d) i).doing ≡ (owner_at s i).doing
written_doing s i resting = refl
written_doing s i (making r len m) = refl
written_doing s i (filling v) = refl
written_doing s i (storing y k v) = refl

-- ---- the kinds of action of one task
-- where task i stores into slot j of the thing at x, nothing of this is a write
abbrev pub Spares : Store → ℕ → List Kind → ℕ → ℕ → Type 0
Spares s i ks x j = (y v : ℕ) → (owner_at s i).doing ≡ storing y j v → y - 1 ≡ x - 1 → writes ks ≡ 0

after : (s w : Store) (x j : ℕ) (q : Store) → Stays s w x j → Stays w q x j → Stays s q x j
after s w x j q a b = record { filled = b.filled; same = b.same ∙ a.same }

-- who rests stores nothing
pub no_store_lem : {A : Type 0} {x j v : ℕ} → resting ≡ storing x j v → A
no_store_lem e = clash cc

pub happen_stays : (ks : List Kind) (s : Store) (i x j : ℕ) → j < length (thing_at s x).slots → Spares s i ks x j → Stays s (happen_all s i ks) x j
unfolding happen_all
happen_stays [] s i x j l h = record { filled = l; same = refl }
happen_stays (Made ∷ ks) s i x j l h =
    let a = made_stays s i x j (owner_at s i).doing l in
    after s (happens s i Made) x j _ a
    (happen_stays ks (happens s i Made) i x j a.filled (λ y v e. h y v (sym (made_doing s i (owner_at s i).doing) ∙ e)))
happen_stays (Filled ∷ ks) s i x j l h =
    let a = filled_stays s i x j (owner_at s i).doing l in
    after s (happens s i Filled) x j _ a
    (happen_stays ks (happens s i Filled) i x j a.filled (λ y v e. h y v (sym (filled_doing s i (owner_at s i).doing) ∙ e)))
happen_stays (Written ∷ ks) s i x j l h =
    let a = written_stays s i x j (owner_at s i).doing l (λ y v e q. absurd (omega (arith, h y v e q))) in
    after s (happens s i Written) x j _ a
    (happen_stays ks (happens s i Written) i x j a.filled
    (λ y v e q. absurd (omega (arith, h y v (sym (written_doing s i (owner_at s i).doing) ∙ e) q))))
happen_stays (Ended ∷ ks) s i x j l h =
    after s (happens s i Ended) x j _ (record { filled = l; same = refl })
    (happen_stays ks (happens s i Ended) i x j l (λ y v e q. let z : resting ≡ storing y j v = sym (rests_after s i) ∙ e in no_store_lem z))

-- and the write puts its value there
pub slot_written : (s : Store) (i x j v : ℕ) → j < length (thing_at s x).slots → (owner_at s i).doing ≡ storing x j v
    → get_or (thing_at (happens s i Written) x).slots j 0 ≡ v
slot_written s i x j v l e =
    rw (e, get_or-set_same s.things (x - 1) (writes_thing (thing_at s x) j v) (thing 0 0 []) (there s x j l)) (get_or-set_same (thing_at s x).slots j v 0 l)

-- ---- one call, and a list of calls
accepted_things : (s : Store) (c : Call) → (accepted s c).things ≡ s.things
accepted_things s (Call.New task r len m) = refl
accepted_things s _ = refl

-- a call that made nothing leaves the things
told_things : (s : Store) (c : Call) (x : Answer) → (told s c x []).things ≡ s.things
unfolding happen_all
told_things s c Accepted = accepted_things s c
told_things s c Done = accepted_things s c
told_things s c _ = refl

-- the store is told of a step by its kinds alone
pub told_step : (s : Store) (i : ℕ) (x : Answer) (ks : List Kind) → told s (Call.Step i) x ks ≡ happen_all s i ks
told_step s i Accepted ks = refl
told_step s i _ ks = refl

things_stay : (s w : Store) (x j : ℕ) → w.things ≡ s.things → j < length (thing_at s x).slots → Stays s w x j
things_stay s w x j e l = record { filled = rw e l; same = rw e }

pub follow_stays : (s : Store) (c : Call) (e f : Ends) (x j : ℕ) → j < length (thing_at s x).slots
    → Spares s (task_of c) (made c f.out.answer (task_at e.out.table (task_of c)).place (task_at f.out.table (task_of c)).place) x j
    → Stays s (follows s c e f) x j
follow_stays s (Call.New task r len m) e f x j l h = things_stay s _ x j (told_things s (Call.New task r len m) f.out.answer) l
follow_stays s (Call.Fill task w) e f x j l h = things_stay s _ x j (told_things s (Call.Fill task w) f.out.answer) l
follow_stays s (Call.FillPointer task r) e f x j l h = things_stay s _ x j (told_things s (Call.FillPointer task r) f.out.answer) l
follow_stays s (Call.Load task to from slot) e f x j l h = things_stay s _ x j (told_things s (Call.Load task to from slot) f.out.answer) l
follow_stays s (Call.Store task o slot w) e f x j l h = things_stay s _ x j (told_things s (Call.Store task o slot w) f.out.answer) l
follow_stays s (Call.StorePointer task o slot r) e f x j l h =
    things_stay s _ x j (told_things s (Call.StorePointer task o slot r) f.out.answer) l
follow_stays s (Call.Move task to from) e f x j l h = things_stay s _ x j (told_things s (Call.Move task to from) f.out.answer) l
follow_stays s (Call.Clear task r) e f x j l h = things_stay s _ x j (told_things s (Call.Clear task r) f.out.answer) l
follow_stays s (Call.Same task a b) e f x j l h = things_stay s _ x j (told_things s (Call.Same task a b) f.out.answer) l
follow_stays s (Call.Put task root r) e f x j l h = things_stay s _ x j (told_things s (Call.Put task root r) f.out.answer) l
follow_stays s (Call.Get task r root) e f x j l h = things_stay s _ x j (told_things s (Call.Get task r root) f.out.answer) l
follow_stays s (Call.Step task) e f x j l h = rw (told_step s task f.out.answer _) (happen_stays _ s task x j l h)
follow_stays s Call.Report e f x j l h = things_stay s _ x j (told_things s Call.Report f.out.answer) l

-- ---- a computed instance: the slot holds 7 while the Store of 8 waits, and 8 after its step
stored : List Call
stored = Call.New 0 0 1 0 ∷ Call.Step 0 ∷ Call.Fill 0 7 ∷ Call.Step 0 ∷ Call.Store 0 0 0 8 ∷ []

told_when : (get_or (thing_at (beside stored (started 2 4 64 2) empty_store) 1).slots 0 0 ≡ 7)
    × (get_or (thing_at (beside (stored ++ (Call.Step 0 ∷ [])) (started 2 4 64 2) empty_store) 1).slots 0 0 ≡ 8)
unfolding opened stored beside happen_all
told_when = (refl, refl)
