-- What keeps the store in step with the objects: an entry changes, and the store's task with it or not; objects made, filled, written.
use Rattle.std.specs.Prelude.{ℕ, ◌-◌, ◌≤◌, ◌<◌, ◌≡◌, refl, ◌≢◌, List, [], get_or, set}
use Rattle.std.proofs.Common.{ap, sym, ◌∙◌, arith, length-set, get_or-set_same, get_or-set_other}
use Rattle.std.proofs.Math.Decide.{ℕ_discrete}
use Rattle.std.proofs.Math.ListN.{get_or-map}
use Rattle.table.specs.declared.Primary.{Primary}
use Rattle.table.specs.declared.Task.{Task}
use Rattle.machine.specs.Words.{primary}
use Rattle.machine.specs.Entries.{nil}
use Rattle.machine.specs.StillStore.{Store, Owner, Thing, resting, owner, thing, store, owner_at, thing_at, held, with_owner, with_thing, writes_thing}
use Rattle.machine.proofs.Objects.Base.{upd, upd_same, upd_other, slot, slot_same, slot_other}
use Rattle.machine.proofs.Objects.State.{Shape, root}
use Rattle.machine.proofs.Objects.Ops.{wrote_one}
use Rattle.machine.proofs.Beside.Still.{number, StillTask, StillThing, Still}
use Rattle.std.proofs.lemmas.List.{map-set}

-- ---- one task
module _ {sh : Shape} {prim : ℕ → ℕ → ℕ} {ts : ℕ → Task} {roots : List Primary} {w : Store} (k : Still sh prim ts roots w) (t : ℕ) (l : t < 8) where
  -- the entry changes and the store's task does not
  pub still_entry : (e : Task) → StillTask e (owner_at w t) → Still sh prim (upd ts t e) roots w
  still_entry e q = record { owners = k.owners; tasks = λ i m. go i m (ℕ_discrete i t); shared = k.shared; things = k.things; each = k.each }
    where
      go : (i : ℕ) → i < 8 → Dec (i ≡ t) → StillTask (upd ts t e i) (owner_at w i)
      go i m (yes z) = rw (z, upd_same ts t e) q
      go i m (no z) = rw (upd_other ts t e i z) (k.tasks i m)

  -- both change
  pub still_owner : (e : Task) (o : Owner) → StillTask e o → Still sh prim (upd ts t e) roots (with_owner w t o)
  still_owner e o q = record {
    owners = rw (length-set w.owners t o) k.owners;
    tasks = λ i m. go i m (ℕ_discrete i t);
    shared = k.shared;
    things = k.things;
    each = k.each;
  }
    where
      go : (i : ℕ) → i < 8 → Dec (i ≡ t) → StillTask (upd ts t e i) (get_or (set w.owners t o) i (owner [] 0 0 resting))
      go i m (yes z) = rw (z, upd_same ts t e, get_or-set_same w.owners t o (owner [] 0 0 resting) (omega (arith, k.owners))) q
      go i m (no z) = rw (upd_other ts t e i z, get_or-set_other w.owners t i o (owner [] 0 0 resting) z) (k.tasks i m)

  -- the register of the store's task
  pub still_register : (r : ℕ) → held w t r ≡ root (ts t).regs r
  still_register r = rw (k.tasks t l).regs (get_or-map number (ts t).regs r nil)

pub still_root : {sh : Shape} {prim : ℕ → ℕ → ℕ} {ts : ℕ → Task} {roots : List Primary} {w : Store} → Still sh prim ts roots w → (r : ℕ)
    → get_or w.roots r 0 ≡ root roots r
still_root {roots = roots} k r = rw k.shared (get_or-map number roots r nil)

-- a shared root changes
pub still_reroot : {sh : Shape} {prim : ℕ → ℕ → ℕ} {ts : ℕ → Task} {roots : List Primary} {w : Store} → Still sh prim ts roots w → (r x : ℕ)
    → Still sh prim ts (set roots r (primary x)) (store w.owners (set w.roots r x) w.things)
still_reroot {roots = roots} k r x = record {
  owners = k.owners;
  tasks = k.tasks;
  shared = rw k.shared (sym (map-set number roots r (primary x)));
  things = k.things;
  each = k.each;
}

-- ---- the objects
-- shapes and slots that say the same of every object made
pub still_shape : {sh : Shape} {prim : ℕ → ℕ → ℕ} {ts : ℕ → Task} {roots : List Primary} {w : Store} (sh' : Shape) (prim' : ℕ → ℕ → ℕ)
    → Still sh prim ts roots w → sh'.n ≡ sh.n
    → ((x : ℕ) → 0 < x → x ≤ sh.n → StillThing sh prim x (thing_at w x) → StillThing sh' prim' x (thing_at w x)) → Still sh' prim' ts roots w
still_shape sh' prim' k n f = record {
  owners = k.owners;
  tasks = k.tasks;
  shared = k.shared;
  things = k.things ∙ sym n;
  each = λ x z m. f x z (omega arith) (k.each x z (omega arith));
}

-- the first write of a Fill: no filled slot changes
pub still_half : {sh : Shape} {prim : ℕ → ℕ → ℕ} {ts : ℕ → Task} {roots : List Primary} {w : Store} → Still sh prim ts roots w → (x v : ℕ)
    → Still (wrote_one sh x) (slot prim x (sh.fill x) v) ts roots w
still_half {sh} {prim} k x v = still_shape (wrote_one sh x) (slot prim x (sh.fill x) v) k refl
    (λ y z m q.
    record {
      len = q.len;
      ptr = q.ptr;
      fill = q.fill;
      slots = λ j l. q.slots j l ∙ sym (slot_other prim x (sh.fill x) v y j (λ e. off y j l e));
    })
  where
    off : (y j : ℕ) → j < sh.fill y → (y ≡ x) × (j ≡ sh.fill x) → ⊥
    off y j l e = let a : sh.fill y ≡ sh.fill x = ap sh.fill e.0 in omega (arith, e.1)

-- thing x changed, and the shapes and slots so that the others say the same
pub still_thing : {sh : Shape} {prim : ℕ → ℕ → ℕ} {ts : ℕ → Task} {roots : List Primary} {w : Store} (sh' : Shape) (prim' : ℕ → ℕ → ℕ) (x : ℕ) (th : Thing)
    → Still sh prim ts roots w → sh'.n ≡ sh.n → 0 < x → x ≤ sh.n → StillThing sh' prim' x th
    → ((y : ℕ) → y ≢ x → StillThing sh prim y (thing_at w y) → StillThing sh' prim' y (thing_at w y)) → Still sh' prim' ts roots (with_thing w x th)
still_thing {sh} {prim} {ts} {roots} {w} sh' prim' x th k n z m q f = record {
  owners = k.owners;
  tasks = k.tasks;
  shared = k.shared;
  things = length-set w.things (x - 1) th ∙ k.things ∙ sym n;
  each = λ y a b. go y a b (ℕ_discrete y x);
}
  where
    go : (y : ℕ) → 0 < y → y ≤ sh'.n → Dec (y ≡ x) → StillThing sh' prim' y (get_or (set w.things (x - 1) th) (y - 1) (thing 0 0 []))
    go y a b (yes e) = rw (e, get_or-set_same w.things (x - 1) th (thing 0 0 []) (omega (arith, k.things))) q
    go y a b (no d) =
        rw (get_or-set_other w.things (x - 1) (y - 1) th (thing 0 0 []) (λ e. d (omega arith))) (f y d (k.each y a (omega arith)))

-- a slot written
pub still_written : {sh : Shape} {prim : ℕ → ℕ → ℕ} {ts : ℕ → Task} {roots : List Primary} {w : Store} → Still sh prim ts roots w → (x i v : ℕ)
    → 0 < x → x ≤ sh.n → i < sh.fill x → Still sh (slot prim x i v) ts roots (with_thing w x (writes_thing (thing_at w x) i v))
still_written {sh} {prim} {ts} {roots} {w} k x i v z m l =
    still_thing sh (slot prim x i v) x (writes_thing (thing_at w x) i v) k refl z m
    (record { len = q.len; ptr = q.ptr; fill = length-set (thing_at w x).slots i v ∙ q.fill; slots = λ j a. at j a (ℕ_discrete j i) })
    (λ y d r.
    record {
      len = r.len;
      ptr = r.ptr;
      fill = r.fill;
      slots = λ j a. r.slots j a ∙ sym (slot_other prim x i v y j (λ e. d e.0));
    })
  where
    q : StillThing sh prim x (thing_at w x)
    q = k.each x z m

    at : (j : ℕ) → j < sh.fill x → Dec (j ≡ i) → get_or (set (thing_at w x).slots i v) j 0 ≡ slot prim x i v x j
    at j a (yes e) = rw (e, get_or-set_same (thing_at w x).slots i v 0 (omega (arith, q.fill)), slot_same prim x i v) refl
    at j a (no d) = get_or-set_other (thing_at w x).slots i j v 0 d ∙ q.slots j a ∙ sym (slot_other prim x i v x j (λ e. d e.1))
