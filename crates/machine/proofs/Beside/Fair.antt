-- Each action of a step writes its task's Store or lets it wait; so for every step and every call.
use Rattle.std.specs.Prelude.{ℕ, ◌+◌, ◌-◌, ◌≡◌, refl, List, Bool, true, false, get_or, ltb, leb, eqb, Option, Some, None, Ok, Err}
use Rattle.std.proofs.Common.{arith}
use Rattle.table.specs.declared.Primary.{Primary}
use Rattle.table.specs.declared.Replica.{Replica}
use Rattle.table.specs.declared.Marks.{Marks}
use Rattle.table.specs.declared.Descriptor.{Descriptor}
use Rattle.table.specs.declared.Making.{Making}
use Rattle.table.specs.declared.Slot.{Slot}
use Rattle.table.specs.declared.Operand.{Operand}
use Rattle.machine.specs.Basics.{Gate}
use Rattle.table.specs.declared.Operand.TheVariants.{Plain, Pointer}
use Rattle.table.specs.declared.Then.{Then}
use Rattle.table.specs.declared.Then.TheVariants.{ToWrite, ToStoreCopy, ToFillCopy, ToPut}
use Rattle.table.specs.declared.Place.{Place}
use Rattle.table.specs.declared.Place.TheVariants.{Idle, New, Asked, FillWrite, FillCopy, StoreWrite, Meet, StoreCopy, Take, Read, Put, Release, Looking, Placing}
use Rattle.table.specs.declared.Table.{Table}
use Rattle.table.specs.declared.Look.{Look}
use Rattle.table.specs.declared.Look.TheVariants.{White, Forwarded}
use Rattle.table.specs.declared.Copying.{Copying}
use Rattle.table.specs.declared.Copying.TheVariants.{Count, Locked, Neither}
use Rattle.machine.specs.Numbers.{refusal}
use Rattle.machine.specs.Words.{primary, replica, object_of, look_of, if_forwarded, copying_of, end_of, slot_at, wanted}
use Rattle.machine.specs.Entries.{task_at, pending_ok}
use Rattle.machine.specs.Gate.{call_gate}
use Rattle.machine.specs.Complete.{idle_at}
use Rattle.machine.specs.Deeds.{Acted}
use Rattle.machine.specs.Look.{look_ahead, go_on, unplaced_case, look_step_of, place_of, placed_then, place_case, place_step_of}
use Rattle.machine.specs.Fill.{fill_write_in, fill_write_of, fill_copy_in, fill_copy_of}
use Rattle.machine.specs.Store.{store_write_in, store_write_of, meet_copying, unmet_case, meet_in, meet_of, store_copy_in, store_copy_of}
use Rattle.machine.specs.Pay.{take_count, take_in, take_of, read_case, read_of, put_in, put_of, paid, release_in, release_of}
use Rattle.machine.specs.Step.{take_step_of, off_step_of, on_step_of, task_step_of, step_through, step_of}
use Rattle.machine.specs.Beside.Waits.{waits, waits_then}
use Rattle.machine.proofs.Beside.Changes.{pick_all}
use Rattle.machine.proofs.Beside.StepChanges.{Stepped, Fair, creating_new, creating_asked, refuses, settled, empty_take, new_off, new_on}

abbrev FairAct : Place → Acted → Type 0
FairAct before x = Fair before x.deed

-- what holds with the replica, and without, holds of the look
pub forwarded_all : {A : Type 0} (P : A → Type 0) (l : Look) (f : Replica → ℕ → A) (a : A) → ((r : Replica) (len : ℕ) → P (f r len)) → P a → P (if_forwarded l f a)
forwarded_all P (Forwarded r len) f a p q = p r len
forwarded_all P _ f a p q = q

-- ---- look and place
go_on_waits : (th : Then) (r : Replica) → waits (go_on th r) ≡ waits_then th
go_on_waits (ToWrite v) r = refl
go_on_waits _ r = refl

ahead_waits : (v : Operand Primary) (th : Then) (copy : Operand Replica → Place) → waits_then th ≡ 0 → ((c : Operand Replica) → waits (copy c) ≡ 0) → waits (look_ahead v th copy) ≡ 0
ahead_waits (Plain w) th copy a b = b (Plain w)
ahead_waits (Pointer p) th copy a b = pick_all (λ q. waits q ≡ 0) (eqb p.0 0) _ _ (λ e. b (Pointer (replica 0))) (λ e. a)

look_fair : (m : Marks) (ws : List ℕ) (s : ℕ) (p : Primary) (th : Then) → FairAct (Looking p th) (look_step_of m ws s p th)
unfolding look_step_of
look_fair m ws s p th =
    forwarded_all (FairAct (Looking p th)) (look_of ws s p) _ _ (λ r len. omega (arith, go_on_waits th r)) (unplaced (look_of ws s p))
  where
    unplaced : (l : Look) → FairAct (Looking p th) (unplaced_case m ws p th l)
    unplaced (White len) = omega arith
    unplaced _ = tt

place_fair : (m : Marks) (end : ℕ) (ws : List ℕ) (s : ℕ) (p : Primary) (th : Then) → FairAct (Placing p th) (place_step_of m end ws s p th)
unfolding place_step_of
place_fair m end ws s p th = whole (object_of ws s p)
  where
    placed : (x : Option (Marks × Replica)) (ws' : List ℕ) → FairAct (Placing p th) (placed_then th x ws')
    placed (Some (n, r)) ws' = omega (arith, go_on_waits th r)
    placed None ws' = tt

    whole : (x : Option Descriptor) → FairAct (Placing p th) (place_case m end ws p th x)
    whole (Some o) = placed (place_of m end ws p o.len o.len).placed (place_of m end ws p o.len o.len).words
    whole None = tt

-- ---- Fill
fill_write_fair : (on : Bool) (m : Marks) (ws : List ℕ) (s : ℕ) (d : Option Making) (v : Operand Primary) → FairAct (FillWrite v) (fill_write_of on m ws s d v)
unfolding fill_write_of
fill_write_fair on m ws s None v = tt
fill_write_fair on m ws s (Some d) v = whole (object_of ws s d.at)
  where
    whole : (x : Option Descriptor) → FairAct (FillWrite v) (fill_write_in on m ws d.at d.register d.len d.filled v x)
    whole (Some o) =
        pick_all (FairAct (FillWrite v)) (leb o.len d.filled) _ _ (λ e. tt)
        (λ e.
        pick_all (FairAct (FillWrite v)) on _ _ (λ h. omega (arith, ahead_waits v ToFillCopy FillCopy refl (λ c. refl))) (λ h. refl))
    whole None = tt

fill_copy_fair : (m : Marks) (ws : List ℕ) (s k : ℕ) (d : Option Making) (c : Operand Replica) → FairAct (FillCopy c) (fill_copy_of m ws s k d c)
unfolding fill_copy_of
fill_copy_fair m ws s k None c = tt
fill_copy_fair m ws s k (Some d) c =
    forwarded_all (FairAct (FillCopy c)) (look_of ws s d.at) (fill_copy_in m ws k d.at d.register d.len d.filled c) _
    (λ q l. pick_all (FairAct (FillCopy c)) (leb l d.filled) _ _ (λ e. tt) (λ e. refl)) tt

-- ---- Store
store_write_fair : (on : Bool) (m : Marks) (ws : List ℕ) (s : ℕ) (d : Option Slot) (v : Operand Primary) → FairAct (StoreWrite v) (store_write_of on m ws s d v)
unfolding store_write_of
store_write_fair on m ws s None v = tt
store_write_fair on m ws s (Some at) v = whole (object_of ws s at.object)
  where
    whole : (y : Option Descriptor) → FairAct (StoreWrite v) (store_write_in on m ws at.object at.index v y)
    whole (Some o) =
        pick_all (FairAct (StoreWrite v)) (leb o.len at.index) _ _ (λ e. tt) (λ e. pick_all (FairAct (StoreWrite v)) on _ _ (λ h. refl) (λ h. refl))
    whole None = tt

meet_fair : (m : Marks) (ws : List ℕ) (s k : ℕ) (d : Option Slot) (v : Operand Primary) → FairAct (Meet v) (meet_of m ws s k d v)
unfolding meet_of
meet_fair m ws s k None v = tt
meet_fair m ws s k (Some y) v =
    forwarded_all (FairAct (Meet v)) (look_of ws s y.object) (meet_in m ws y.object y.index v) _ (λ r len. met (copying_of len (get_or ws (r.0 - 1) 0))) (unmet (look_of ws s y.object))
  where
    ahead : waits (look_ahead v ToStoreCopy StoreCopy) ≡ 0
    ahead = ahead_waits v ToStoreCopy StoreCopy refl (λ c. refl)

    met : (c : Copying) → FairAct (Meet v) (meet_copying m ws y.object y.index v c)
    met (Count c) = omega (arith, ahead)
    met (Locked l) = pick_all (FairAct (Meet v)) (eqb l y.index) _ _ (λ e. tt) (λ e. omega (arith, ahead))
    met Neither = tt

    unmet : (l : Look) → Fair (Meet v) (unmet_case m k y.object l)
    unmet (White len) = refl
    unmet _ = tt

store_copy_fair : (m : Marks) (ws : List ℕ) (s k : ℕ) (d : Option Slot) (c : Operand Replica) → FairAct (StoreCopy c) (store_copy_of m ws s k d c)
unfolding store_copy_of
store_copy_fair m ws s k None c = tt
store_copy_fair m ws s k (Some y) c =
    forwarded_all (FairAct (StoreCopy c)) (look_of ws s y.object) (store_copy_in m ws k y.index c) _
    (λ r len. pick_all (FairAct (StoreCopy c)) (leb len y.index) _ _ (λ e. tt) (λ e. refl)) tt

-- ---- pay
take_fair : (m : Marks) (ws : List ℕ) (s n : ℕ) → FairAct (Take n) (take_of m ws s n)
unfolding take_of
take_fair m ws s n =
    forwarded_all (FairAct (Take n)) (look_of ws s (primary (get_or ws m.top 0))) (take_in m ws n (primary (get_or ws m.top 0))) _
    (λ r len. counted r (copying_of len (get_or ws (r.0 - 1) 0))) tt
  where
    counted : (r : Replica) (c : Copying) → FairAct (Take n) (take_count m ws n (primary (get_or ws m.top 0)) r c)
    counted r (Count c) = pick_all (FairAct (Take n)) (eqb c 0) _ _ (λ e. tt) (λ e. refl)
    counted r (Locked l) = tt
    counted r Neither = tt

read_fair : (m : Marks) (ws : List ℕ) (s n : ℕ) (x : Primary) (i : ℕ) → FairAct (Read n (slot_at x i)) (read_of m ws s n x i)
unfolding read_of
read_fair m ws s n x i = whole (object_of ws s x)
  where
    ahead : (v : Operand Primary) → waits (look_ahead v (ToPut n (slot_at x i)) (Put n (slot_at x i))) ≡ 0
    ahead v = ahead_waits v (ToPut n (slot_at x i)) (Put n (slot_at x i)) refl (λ c. refl)

    whole : (y : Option Descriptor) → FairAct (Read n (slot_at x i)) (read_case m ws n x i y)
    whole (Some o) =
        pick_all (FairAct (Read n (slot_at x i))) (leb o.len i) _ _ (λ e. tt)
        (λ e.
        pick_all (FairAct (Read n (slot_at x i))) (ltb i o.m) _ _ (λ h. omega (arith, ahead (Pointer (primary (get_or ws (x.0 + i) 0)))))
        (λ h. omega (arith, ahead (Plain (get_or ws (x.0 + i) 0)))))
    whole None = tt

put_fair : (m : Marks) (ws : List ℕ) (s n : ℕ) (x : Primary) (i : ℕ) (c : Operand Replica) → FairAct (Put n (slot_at x i) c) (put_of m ws s n x i c)
unfolding put_of
put_fair m ws s n x i c =
    forwarded_all (FairAct (Put n (slot_at x i) c)) (look_of ws s x) (put_in m ws n x i c) _
    (λ r len. pick_all (FairAct (Put n (slot_at x i) c)) (leb len i) _ _ (λ e. tt) (λ e. refl)) tt

release_fair : (m : Marks) (ws : List ℕ) (s n : ℕ) (x : Primary) (i : ℕ) → FairAct (Release n (slot_at x i)) (release_of m ws s n x i)
unfolding release_of
release_fair m ws s n x i =
    forwarded_all (FairAct (Release n (slot_at x i))) (look_of ws s x) (release_in m ws n x i) _
    (λ r len.
    pick_all (FairAct (Release n (slot_at x i))) (leb len i) _ _ (λ e. tt)
    (λ e.
    pick_all (FairAct (Release n (slot_at x i))) (eqb m.j 0) _ _ (λ f. tt)
    (λ f.
    pick_all (FairAct (Release n (slot_at x i))) (eqb n 0) _ _ (λ g. tt)
    (λ g. pick_all (FairAct (Release n (slot_at x i))) (eqb i 0) _ _ (λ h. pays _) (λ h. pays _)))))
    tt
  where
    pays : (q : Marks) → Fair (Release n (slot_at x i)) (paid q n)
    pays q = pick_all (Fair (Release n (slot_at x i))) (eqb n 1) _ _ (λ e. refl) (λ e. refl)

-- ---- the step
off_step : (t : Table) (ws : List ℕ) (i : ℕ) (p : Place) → t.on ≡ false → Stepped t i p (off_step_of t ws i (task_at t i) p)
unfolding off_step_of
off_step t ws i Idle h = refuses t i Idle (refusal 6) ws
off_step t ws i (New want) h = new_off t i (New want) ws want.register want.len want.m (creating_new want.register want.len want.m) h
off_step t ws i (Asked want) h = new_off t i (Asked want) ws want.register want.len want.m (creating_asked want.register want.len want.m) h
off_step t ws i (FillWrite v) h = settled t i (FillWrite v) _ _ (fill_write_fair false t.marks ws t.limits.s (task_at t i).pending v)
off_step t ws i (FillCopy c) h = refuses t i (FillCopy c) (refusal 11) ws
off_step t ws i (StoreWrite v) h = settled t i (StoreWrite v) _ _ (store_write_fair false t.marks ws t.limits.s (task_at t i).storing v)
off_step t ws i (Meet v) h = refuses t i (Meet v) (refusal 11) ws
off_step t ws i (StoreCopy c) h = refuses t i (StoreCopy c) (refusal 11) ws
off_step t ws i (Take n) h = refuses t i (Take n) (refusal 11) ws
off_step t ws i (Read n job) h = refuses t i (Read n job) (refusal 11) ws
off_step t ws i (Put n job c) h = refuses t i (Put n job c) (refusal 11) ws
off_step t ws i (Release n job) h = refuses t i (Release n job) (refusal 11) ws
off_step t ws i (Looking p th) h = refuses t i (Looking p th) (refusal 11) ws
off_step t ws i (Placing p th) h = refuses t i (Placing p th) (refusal 11) ws

take_step : (t : Table) (ws : List ℕ) (i n : ℕ) → Stepped t i (Take n) (take_step_of t ws i n)
unfolding take_step_of
take_step t ws i n =
    pick_all (Stepped t i (Take n)) (ltb t.marks.top (end_of t.upper t.limits.h)) _ _
    (λ e. settled t i (Take n) _ _ (take_fair t.marks ws t.limits.s n))
    (λ e. empty_take t i (Take n) ws refl)

on_step : (t : Table) (ws : List ℕ) (i : ℕ) (p : Place) → Stepped t i p (on_step_of t ws i (task_at t i) p)
unfolding on_step_of
on_step t ws i Idle = refuses t i Idle (refusal 6) ws
on_step t ws i (New want) = new_on t i (New want) ws want.register want.len want.m (creating_new want.register want.len want.m)
on_step t ws i (Asked want) = refuses t i (Asked want) (refusal 11) ws
on_step t ws i (FillWrite v) = settled t i (FillWrite v) _ _ (fill_write_fair true t.marks ws t.limits.s (task_at t i).pending v)
on_step t ws i (FillCopy c) = settled t i (FillCopy c) _ _ (fill_copy_fair t.marks ws t.limits.s t.limits.k (task_at t i).pending c)
on_step t ws i (StoreWrite v) = settled t i (StoreWrite v) _ _ (store_write_fair true t.marks ws t.limits.s (task_at t i).storing v)
on_step t ws i (Meet v) = settled t i (Meet v) _ _ (meet_fair t.marks ws t.limits.s t.limits.k (task_at t i).storing v)
on_step t ws i (StoreCopy c) = settled t i (StoreCopy c) _ _ (store_copy_fair t.marks ws t.limits.s t.limits.k (task_at t i).storing c)
on_step t ws i (Take n) = take_step t ws i n
on_step t ws i (Read n job) = settled t i (Read n job) _ _ (read_fair t.marks ws t.limits.s n job.object job.index)
on_step t ws i (Put n job c) = settled t i (Put n job c) _ _ (put_fair t.marks ws t.limits.s n job.object job.index c)
on_step t ws i (Release n job) = settled t i (Release n job) _ _ (release_fair t.marks ws t.limits.s n job.object job.index)
on_step t ws i (Looking p th) = settled t i (Looking p th) _ _ (look_fair t.marks ws t.limits.s p th)
on_step t ws i (Placing p th) =
    settled t i (Placing p th) _ _ (place_fair t.marks (end_of t.upper t.limits.h) ws t.limits.s p th)

pub step_entries : (t : Table) (ws : List ℕ) (i : ℕ) → Stepped t i (task_at t i).place (step_of t ws i)
unfolding step_of task_step_of
step_entries t ws i = gate (call_gate t ws i)
  where
    busy : Stepped t i (task_at t i).place (task_step_of t ws i)
    busy =
        pick_all (Stepped t i (task_at t i).place) (idle_at t i) _ _ (λ e. refuses t i (task_at t i).place (refusal 6) ws)
        (λ e.
        pick_all (Stepped t i (task_at t i).place) (pending_ok (task_at t i).pending) _ _
        (λ f.
        pick_all (Stepped t i (task_at t i).place) t.on _ _ (λ h. on_step t ws i (task_at t i).place) (λ h. off_step t ws i (task_at t i).place h))
        (λ f. refuses t i (task_at t i).place (refusal 11) ws))

    gate : (g : Gate) → Stepped t i (task_at t i).place (step_through g t ws (task_step_of t ws i))
    gate (Ok u) = busy
    gate (Err x) = refuses t i (task_at t i).place x ws
