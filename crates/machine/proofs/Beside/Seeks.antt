-- What each action of a step may wait for: a look for the claimer, a meet for the claimer or for the holder of its own slot; the others for nobody.
use Rattle.std.specs.Prelude.{ℕ, ◌-◌, ◌≡◌, refl, ◌⊎◌, List, Bool, get_or, ltb, leb, eqb, Option, Some, None}
use Rattle.std.proofs.Common.{ap, ◌∙◌, inl, inr, eqb-true}
use Rattle.table.specs.declared.Primary.{Primary}
use Rattle.table.specs.declared.Replica.{Replica}
use Rattle.table.specs.declared.Marks.{Marks}
use Rattle.machine.specs.Entries.{storing_on}
use Rattle.table.specs.declared.Descriptor.{Descriptor}
use Rattle.table.specs.declared.Making.{Making}
use Rattle.table.specs.declared.Slot.{Slot}
use Rattle.table.specs.declared.Operand.{Operand}
use Rattle.table.specs.declared.Then.{Then}
use Rattle.table.specs.declared.Look.{Look}
use Rattle.table.specs.declared.Look.TheVariants.{White, Claimed, Forwarded, Lost}
use Rattle.table.specs.declared.Copying.{Copying}
use Rattle.table.specs.declared.Copying.TheVariants.{Count, Locked, Neither}
use Rattle.table.specs.declared.Sought.{Sought}
use Rattle.table.specs.declared.Sought.TheVariants.{Claimer, Holder}
use Rattle.table.specs.declared.Deed.{Deed}
use Rattle.table.specs.declared.Deed.TheVariants.{Goes, GoesWith, Ends, EndsWith, Waits, Fails}
use Rattle.machine.specs.Words.{primary, object_of, look_of, if_forwarded, copying_of, slot_at}
use Rattle.machine.specs.Deeds.{Acted, acted}
use Rattle.machine.specs.Look.{go_on, unplaced_case, look_step_of, place_of, placed_then, place_case, place_step_of}
use Rattle.machine.specs.Fill.{fill_write_in, fill_write_of, fill_copy_in, fill_copy_of}
use Rattle.machine.specs.Store.{store_write_in, store_write_of, meet_copying, unmet_case, meet_in, meet_of, store_copy_in, store_copy_of}
use Rattle.machine.specs.Pay.{take_count, take_in, take_of, read_case, read_of, put_in, put_of, paid, release_in, release_of}
use Rattle.machine.proofs.Beside.Changes.{pick_all}
use Rattle.machine.proofs.Beside.Fair.{forwarded_all}

-- each Sought that an action names is one of these
abbrev pub Seeks : (Sought → Type 0) → Deed → Type 0
Seeks R (Goes m place) = Unit {0}
Seeks R (GoesWith m pending place) = Unit {0}
Seeks R (Ends m) = Unit {0}
Seeks R (EndsWith m pending) = Unit {0}
Seeks R (Waits w) = R w
Seeks R (Fails x) = Unit {0}

abbrev pub SeeksIn : (Sought → Type 0) → Acted → Type 0
SeeksIn R x = Seeks R x.deed

-- nobody
abbrev pub NoTask : Sought → Type 0
NoTask w = ⊥

-- a look waits for the claimer
abbrev pub LookSeeks : List ℕ → ℕ → Primary → Sought → Type 0
LookSeeks ws s p w = (w ≡ Claimer p) × (look_of ws s p ≡ Claimed)

pub look_seeks : (m : Marks) (ws : List ℕ) (s : ℕ) (p : Primary) (th : Then) → SeeksIn (LookSeeks ws s p) (look_step_of m ws s p th)
unfolding look_step_of
look_seeks m ws s p th = on (look_of ws s p) refl
  where
    on : (l : Look) → look_of ws s p ≡ l → SeeksIn (LookSeeks ws s p) (if_forwarded l (λ r len. acted (Goes m (go_on th r)) ws) (unplaced_case m ws p th l))
    on (White len) e = tt
    on Claimed e = (refl, e)
    on (Forwarded r len) e = tt
    on Lost e = tt

-- a meet waits for the claimer, or for the holder of its own slot
abbrev pub MeetSeeks : List ℕ → ℕ → Primary → ℕ → Sought → Type 0
MeetSeeks ws s x i w =
    LookSeeks ws s x w
    ⊎ ((w ≡ Holder (slot_at x i)) × (r : Replica) × (len : ℕ) × (look_of ws s x ≡ Forwarded r len) × (copying_of len (get_or ws (r.0 - 1) 0) ≡ Locked i))

pub meet_seeks : (m : Marks) (ws : List ℕ) (s k : ℕ) (x : Primary) (i : ℕ) (v : Operand Primary) → SeeksIn (MeetSeeks ws s x i) (meet_of m ws s k (storing_on x i) v)
unfolding meet_of
meet_seeks m ws s k x i v = on (look_of ws s x) refl
  where
    at : (r : Replica) (len : ℕ) → look_of ws s x ≡ Forwarded r len → (c : Copying) → copying_of len (get_or ws (r.0 - 1) 0) ≡ c → SeeksIn (MeetSeeks ws s x i) (meet_copying m ws x i v c)
    at r len e (Count c) f = tt
    at r len e (Locked l) f =
        pick_all (SeeksIn (MeetSeeks ws s x i)) (eqb l i) _ _ (λ h. inr (refl, r, len, e, f ∙ ap Locked (eqb-true l i h))) (λ h. tt)
    at r len e Neither f = tt

    on : (l : Look) → look_of ws s x ≡ l → SeeksIn (MeetSeeks ws s x i) (if_forwarded l (meet_in m ws x i v) (acted (unmet_case m k x l) ws))
    on (White len) e = tt
    on Claimed e = inl (refl, e)
    on (Forwarded r len) e = at r len e (copying_of len (get_or ws (r.0 - 1) 0)) refl
    on Lost e = tt

-- the others wait for nobody
pub place_seeks : (m : Marks) (end : ℕ) (ws : List ℕ) (s : ℕ) (p : Primary) (th : Then) → SeeksIn NoTask (place_step_of m end ws s p th)
unfolding place_step_of
place_seeks m end ws s p th = whole (object_of ws s p)
  where
    placed : (x : Option (Marks × Replica)) (ws' : List ℕ) → SeeksIn NoTask (placed_then th x ws')
    placed (Some (n, r)) ws' = tt
    placed None ws' = tt

    whole : (x : Option Descriptor) → SeeksIn NoTask (place_case m end ws p th x)
    whole (Some o) = placed (place_of m end ws p o.len o.len).placed (place_of m end ws p o.len o.len).words
    whole None = tt

pub fill_write_seeks : (on : Bool) (m : Marks) (ws : List ℕ) (s : ℕ) (d : Option Making) (v : Operand Primary) → SeeksIn NoTask (fill_write_of on m ws s d v)
unfolding fill_write_of
fill_write_seeks on m ws s None v = tt
fill_write_seeks on m ws s (Some d) v = whole (object_of ws s d.at)
  where
    whole : (x : Option Descriptor) → SeeksIn NoTask (fill_write_in on m ws d.at d.register d.len d.filled v x)
    whole (Some o) = pick_all (SeeksIn NoTask) (leb o.len d.filled) _ _ (λ e. tt) (λ e. pick_all (SeeksIn NoTask) on _ _ (λ h. tt) (λ h. tt))
    whole None = tt

pub fill_copy_seeks : (m : Marks) (ws : List ℕ) (s k : ℕ) (d : Option Making) (c : Operand Replica) → SeeksIn NoTask (fill_copy_of m ws s k d c)
unfolding fill_copy_of
fill_copy_seeks m ws s k None c = tt
fill_copy_seeks m ws s k (Some d) c =
    forwarded_all (SeeksIn NoTask) (look_of ws s d.at) (fill_copy_in m ws k d.at d.register d.len d.filled c) _ (λ q l. pick_all (SeeksIn NoTask) (leb l d.filled) _ _ (λ e. tt) (λ e. tt)) tt

pub store_write_seeks : (on : Bool) (m : Marks) (ws : List ℕ) (s : ℕ) (d : Option Slot) (v : Operand Primary) → SeeksIn NoTask (store_write_of on m ws s d v)
unfolding store_write_of
store_write_seeks on m ws s None v = tt
store_write_seeks on m ws s (Some at) v = whole (object_of ws s at.object)
  where
    whole : (y : Option Descriptor) → SeeksIn NoTask (store_write_in on m ws at.object at.index v y)
    whole (Some o) = pick_all (SeeksIn NoTask) (leb o.len at.index) _ _ (λ e. tt) (λ e. pick_all (SeeksIn NoTask) on _ _ (λ h. tt) (λ h. tt))
    whole None = tt

pub store_copy_seeks : (m : Marks) (ws : List ℕ) (s k : ℕ) (d : Option Slot) (c : Operand Replica) → SeeksIn NoTask (store_copy_of m ws s k d c)
unfolding store_copy_of
store_copy_seeks m ws s k None c = tt
store_copy_seeks m ws s k (Some y) c =
    forwarded_all (SeeksIn NoTask) (look_of ws s y.object) (store_copy_in m ws k y.index c) _ (λ r len. pick_all (SeeksIn NoTask) (leb len y.index) _ _ (λ e. tt) (λ e. tt)) tt

pub take_seeks : (m : Marks) (ws : List ℕ) (s n : ℕ) → SeeksIn NoTask (take_of m ws s n)
unfolding take_of
take_seeks m ws s n =
    forwarded_all (SeeksIn NoTask) (look_of ws s (primary (get_or ws m.top 0))) (take_in m ws n (primary (get_or ws m.top 0))) _
    (λ r len. counted r (copying_of len (get_or ws (r.0 - 1) 0))) tt
  where
    counted : (r : Replica) (c : Copying) → SeeksIn NoTask (take_count m ws n (primary (get_or ws m.top 0)) r c)
    counted r (Count c) = pick_all (SeeksIn NoTask) (eqb c 0) _ _ (λ e. tt) (λ e. tt)
    counted r (Locked l) = tt
    counted r Neither = tt

pub read_seeks : (m : Marks) (ws : List ℕ) (s n : ℕ) (x : Primary) (i : ℕ) → SeeksIn NoTask (read_of m ws s n x i)
unfolding read_of
read_seeks m ws s n x i = whole (object_of ws s x)
  where
    whole : (y : Option Descriptor) → SeeksIn NoTask (read_case m ws n x i y)
    whole (Some o) = pick_all (SeeksIn NoTask) (leb o.len i) _ _ (λ e. tt) (λ e. pick_all (SeeksIn NoTask) (ltb i o.m) _ _ (λ h. tt) (λ h. tt))
    whole None = tt

pub put_seeks : (m : Marks) (ws : List ℕ) (s n : ℕ) (x : Primary) (i : ℕ) (c : Operand Replica) → SeeksIn NoTask (put_of m ws s n x i c)
unfolding put_of
put_seeks m ws s n x i c =
    forwarded_all (SeeksIn NoTask) (look_of ws s x) (put_in m ws n x i c) _ (λ r len. pick_all (SeeksIn NoTask) (leb len i) _ _ (λ e. tt) (λ e. tt)) tt

pub release_seeks : (m : Marks) (ws : List ℕ) (s n : ℕ) (x : Primary) (i : ℕ) → SeeksIn NoTask (release_of m ws s n x i)
unfolding release_of
release_seeks m ws s n x i =
    forwarded_all (SeeksIn NoTask) (look_of ws s x) (release_in m ws n x i) _
    (λ r len.
    pick_all (SeeksIn NoTask) (leb len i) _ _ (λ e. tt)
    (λ e.
    pick_all (SeeksIn NoTask) (eqb m.j 0) _ _ (λ f. tt)
    (λ f.
    pick_all (SeeksIn NoTask) (eqb n 0) _ _ (λ g. tt)
    (λ g. pick_all (SeeksIn NoTask) (eqb i 0) _ _ (λ h. pays _) (λ h. pays _)))))
    tt
  where
    pays : (q : Marks) → Seeks NoTask (paid q n)
    pays q = pick_all (Seeks NoTask) (eqb n 1) _ _ (λ e. tt) (λ e. tt)
