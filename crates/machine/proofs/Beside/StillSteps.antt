-- The kinds of action, in store and objects alike: an object made, a slot filled, the instruction ended.
use Rattle.std.specs.Prelude.{ℕ, suc, ◌-◌, ◌≤◌, ◌<◌, ◌≡◌, refl, List, [], ◌∷◌, ◌++◌, map, Bool, true, false, length, get_or, set, eqb, Option, Some, None}
use Rattle.std.proofs.Common.{ap, sym, subst, ◌∙◌, arith, length-set, length-append, get_or-set_same, get_or-set_other, eq-eqb, ne_eqb}
use Rattle.std.proofs.Math.Decide.{ℕ_discrete}
use Rattle.std.proofs.Math.ListN.{get_or-append}
use Rattle.std.proofs.Math.Seq.{get_or-append_seam}
use Rattle.table.specs.declared.Primary.{Primary}
use Rattle.table.specs.declared.Making.{Making}
use Rattle.table.specs.declared.Place.{Place}
use Rattle.table.specs.declared.Place.TheVariants.{Idle}
use Rattle.table.specs.declared.Task.{Task}
use Rattle.machine.specs.Basics.{pick}
use Rattle.machine.specs.Words.{primary}
use Rattle.machine.specs.Entries.{entry, pending_with}
use Rattle.machine.specs.Switch.{ended_entry}
use Rattle.machine.specs.StillStore.{Store, Owner, resting, making, owner, thing, owner_at, thing_at, with_owner, with_thing, makes, fills_thing, ends_owner}
use Rattle.machine.proofs.Objects.Base.{upd, upd_same, upd_other}
use Rattle.machine.proofs.Objects.State.{Shape, pending_is}
use Rattle.machine.proofs.Objects.Ops.{shape_of, one_more, goes_with}
use Rattle.machine.proofs.Beside.Still.{number, GoesTo, DoingAt, StillTask, StillThing, Still}
use Rattle.machine.proofs.Beside.StillLaws.{still_owner, still_thing}
use Rattle.std.proofs.lemmas.List.{map-set}

-- the next slot of x filled with v, which stands there
pub still_filled : {sh : Shape} {prim : ℕ → ℕ → ℕ} {ts : ℕ → Task} {roots : List Primary} {w : Store} (prim' : ℕ → ℕ → ℕ) (wrote : ℕ → ℕ)
    → Still sh prim ts roots w → (x v : ℕ) → 0 < x → x ≤ sh.n → prim' x (sh.fill x) ≡ v → ((y j : ℕ) → j < sh.fill y → prim' y j ≡ prim y j)
    → Still (shape_of sh.n sh.len sh.ptr (upd sh.fill x (suc (sh.fill x))) wrote) prim' ts roots (with_thing w x (fills_thing (thing_at w x) v))
still_filled {sh} {prim} {ts} {roots} {w} prim' wrote k x v z m e f =
    still_thing (shape_of sh.n sh.len sh.ptr (upd sh.fill x (suc (sh.fill x))) wrote) prim' x (fills_thing (thing_at w x) v) k refl z m
    (record {
      len = q.len;
      ptr = q.ptr;
      fill = rw (upd_same sh.fill x (suc (sh.fill x)), length-append (thing_at w x).slots (v ∷ [])) (omega (arith, q.fill));
      slots = λ j a. at j (rw (upd_same sh.fill x (suc (sh.fill x))) at a) (ℕ_discrete j (sh.fill x));
    })
    (λ y d r.
    record {
      len = r.len;
      ptr = r.ptr;
      fill = r.fill ∙ sym (upd_other sh.fill x (suc (sh.fill x)) y d);
      slots = λ j a. let b = rw (upd_other sh.fill x (suc (sh.fill x)) y d) at a in r.slots j b ∙ sym (f y j b);
    })
  where
    q : StillThing sh prim x (thing_at w x)
    q = k.each x z m

    at : (j : ℕ) → j < suc (sh.fill x) → Dec (j ≡ sh.fill x) → get_or ((thing_at w x).slots ++ (v ∷ [])) j 0 ≡ prim' x j
    at j a (yes d) = rw (d, ← q.fill, get_or-append_seam (thing_at w x).slots v [] 0) (sym e ∙ ap (prim' x) (sym q.fill))
    at j a (no d) =
        get_or-append (thing_at w x).slots (v ∷ []) 0 j (omega (arith, q.fill)) ∙ q.slots j (omega arith) ∙ sym (f x j (omega arith))

-- one object more, the task's pending object
pub still_made : {sh : Shape} {prim : ℕ → ℕ → ℕ} {ts : ℕ → Task} {roots : List Primary} {w : Store} → Still sh prim ts roots w → (t : ℕ) → t < 8
    → (r len m : ℕ) (pl : Place) → (owner_at w t).doing ≡ making r len m → DoingAt (goes_with (ts t) (pending_with (primary (suc sh.n)) r len 0) pl) (making r len m) pl
    → Still (one_more sh len m) prim (upd ts t (goes_with (ts t) (pending_with (primary (suc sh.n)) r len 0) pl)) roots (makes w t (making r len m))
still_made {sh} {prim} {ts} {roots} {w} k t l r len m pl d g = record {
  owners = length-set w.owners t o ∙ k.owners;
  tasks = λ i h. go i h (ℕ_discrete i t);
  shared = k.shared;
  things = long;
  each = λ x z h. thing_at_lem x z h (ℕ_discrete x (suc sh.n));
}
  where
    e : Task
    e = goes_with (ts t) (pending_with (primary (suc sh.n)) r len 0) pl

    o : Owner
    o = owner (owner_at w t).regs (length (w.things ++ (thing len m [] ∷ []))) r (owner_at w t).doing

    long : length (w.things ++ (thing len m [] ∷ [])) ≡ suc sh.n
    long = length-append w.things (thing len m [] ∷ []) ∙ omega (arith, k.things)

    go : (i : ℕ) → i < 8 → Dec (i ≡ t) → StillTask (upd ts t e i) (get_or (set w.owners t o) i (owner [] 0 0 resting))
    go i h (yes z) =
        rw (z, upd_same ts t e, get_or-set_same w.owners t o (owner [] 0 0 resting) (omega (arith, k.owners)))
        (record { regs = (k.tasks t l).regs; pending = long; goes_to = refl; doing = subst (λ a. DoingAt e a pl) (sym d) g })
    go i h (no z) = rw (upd_other ts t e i z, get_or-set_other w.owners t i o (owner [] 0 0 resting) z) (k.tasks i h)

    thing_at_lem : (x : ℕ) → 0 < x → x ≤ suc sh.n → Dec (x ≡ suc sh.n)
        → StillThing (one_more sh len m) prim x (get_or (w.things ++ (thing len m [] ∷ [])) (x - 1) (thing 0 0 []))
    thing_at_lem x z h (yes q) =
        let p : x - 1 ≡ length w.things = omega (arith, k.things) in
        rw (p, get_or-append_seam w.things (thing len m []) [] (thing 0 0 []), q)
        (record {
          len = sym (upd_same sh.len (suc sh.n) len);
          ptr = sym (upd_same sh.ptr (suc sh.n) m);
          fill = sym (upd_same sh.fill (suc sh.n) 0);
          slots = λ j a. absurd (omega (arith, rw (upd_same sh.fill (suc sh.n) 0) at a));
        })
    thing_at_lem x z h (no q) =
        let r = k.each x z (omega arith) in
        rw (get_or-append w.things (thing len m [] ∷ []) (thing 0 0 []) (x - 1) (omega (arith, k.things)))
        (record {
          len = r.len ∙ sym (upd_other sh.len (suc sh.n) len x q);
          ptr = r.ptr ∙ sym (upd_other sh.ptr (suc sh.n) m x q);
          fill = r.fill ∙ sym (upd_other sh.fill (suc sh.n) 0 x q);
          slots = λ j a. r.slots j (rw (upd_other sh.fill (suc sh.n) 0 x q) at a);
        })

-- what the end of an instruction knows of the pending object
abbrev pub Filling : Shape → Option Making → Type 0
Filling sh None = Unit {0}
Filling sh (Some d) = (0 < d.at.0) × (d.at.0 ≤ sh.n) × (d.len ≡ sh.len d.at.0) × (d.filled ≡ sh.fill d.at.0)

pub still_ended : {sh : Shape} {prim : ℕ → ℕ → ℕ} {ts : ℕ → Task} {roots : List Primary} {w : Store} → Still sh prim ts roots w → (t : ℕ) → t < 8
    → (regs : List Primary) (d : Option Making) → (owner_at w t).regs ≡ map number regs → (owner_at w t).pending ≡ pending_is d → GoesTo d (owner_at w t).goes_to
    → Filling sh d → Still sh prim (upd ts t (ended_entry regs d)) roots (with_owner w t (ends_owner (owner_at w t) (thing_at w (owner_at w t).pending)))
still_ended {sh} {prim} {ts} {roots} {w} k t l regs d a b g h = still_owner k t l (ended_entry regs d) _ (ended d b g h)
  where
    o : Owner
    o = owner_at w t

    ended : (d : Option Making) → (owner_at w t).pending ≡ pending_is d → GoesTo d (owner_at w t).goes_to → Filling sh d
        → StillTask (ended_entry regs d) (ends_owner (owner_at w t) (thing_at w (owner_at w t).pending))
    ended None b g h = rw (eq-eqb _ _ b) (record { regs = a; pending = refl; goes_to = tt; doing = refl })
    ended (Some d) b g h = on (eqb d.filled d.len) refl
      where
        full : eqb (length (thing_at w (owner_at w t).pending).slots) (thing_at w (owner_at w t).pending).len ≡ eqb d.filled d.len
        full = let q = k.each d.at.0 h.0 h.1 in rw (b, q.fill, q.len, h.2, h.3) refl

        some : eqb (owner_at w t).pending 0 ≡ false
        some = rw b (ne_eqb d.at.0 0 (λ z. omega (arith, h.0)))

        on : (c : Bool) → eqb d.filled d.len ≡ c
            → StillTask (pick (eqb d.filled d.len) (entry (set regs d.register d.at) None None Idle) (entry regs (Some d) None Idle))
            (ends_owner (owner_at w t) (thing_at w (owner_at w t).pending))
        on true c =
            rw (some, full, c)
            (record { regs = rw (a, g, b) (sym (map-set number regs d.register d.at)); pending = refl; goes_to = tt; doing = refl })
        on false c = rw (some, full, c) (record { regs = a; pending = b; goes_to = g; doing = refl })
