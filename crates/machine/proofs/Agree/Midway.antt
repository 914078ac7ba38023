-- The space that copies go to, while objects are given replicas; what `place_of` leaves, by its room test.
use Rattle.std.specs.Prelude.{ℕ, suc, ◌+◌, ◌-◌, ◌≤◌, ◌<◌, ◌≡◌, refl, List, [], Bool, true, false, length, set, eqb, Some, None}
use Rattle.std.proofs.Common.{◌∙◌, arith, length-set, eqb-true, leb-true}
use Rattle.table.specs.declared.Marks.{Marks}
use Rattle.machine.specs.Basics.{pick}
use Rattle.machine.specs.Words.{primary, replica, room_for}
use Rattle.machine.specs.Entries.{marks_at}
use Rattle.machine.specs.Look.{placed_in, forwarded_to, place_of}
use Rattle.machine.proofs.Objects.Base.{sum_to}
use Rattle.machine.proofs.Objects.State.{Hd, Shape, owes}
use Rattle.machine.proofs.Agree.Mem.{Holds}
use Rattle.machine.proofs.Agree.Agree.{addr, Ok, content, Lay}

-- Words and marks of the space that copies go to, while an object may be given its replica: all that Agree says but of table and tasks.
pub record Midway (K : ℕ → Type 0) (pa ra : ℕ → ℕ) (sh : Shape) (hd : ℕ → Hd) (prim rep : ℕ → ℕ → ℕ) (has : ℕ → ℕ → Bool) (stack : List ℕ)
    (base end : ℕ) (m : Marks) (ws : List ℕ) : Type 0 where
  pub lay : Lay K sh hd pa ra base m.a end (length ws)
  pub mem : Holds (addr pa ra) (Ok K sh hd has m.top end) (content sh pa ra hd prim rep stack m.top) [] ws
  pub based : base ≤ m.a
  pub free : m.a + m.j ≤ m.top
  pub stacked : m.top + length stack ≡ end
  pub owed : base + m.copies + sum_to (suc sh.n) (λ x. owes (hd x)) ≤ m.a
  pub inside : end ≤ length ws

-- what a replica of an object of length len needs, and the marks and words that it leaves
abbrev pub twin_need : ℕ → ℕ → ℕ
twin_need len c = pick (eqb c 0) (len + 2) (len + 3)

abbrev pub twin_marks : Marks → ℕ → ℕ → Marks
twin_marks m len c = marks_at (m.a + (len + 2)) (pick (eqb c 0) m.top (m.top - 1)) m.j m.copies

abbrev pub twin_words : Marks → List ℕ → ℕ → ℕ → List ℕ
twin_words m ws p c = pick (eqb c 0) (forwarded_to ws m.a (primary p) c) (set (forwarded_to ws m.a (primary p) c) (m.top - 1) p)

-- what `place_of` does, by its room test
pub place_of_fits : (m : Marks) (end : ℕ) (ws : List ℕ) (p len c : ℕ) → room_for true m end (twin_need len c) ≡ true
    → place_of m end ws (primary p) len c ≡ placed_in (Some (twin_marks m len c, replica (m.a + 2))) (twin_words m ws p c)
unfolding place_of
place_of_fits m end ws p len c r = go (eqb c 0) refl r
  where
    go : (b : Bool) → eqb c 0 ≡ b → room_for true m end (pick b (len + 2) (len + 3)) ≡ true
        → pick b
        (pick (room_for true m end (len + 2))
        (placed_in (Some (marks_at (m.a + (len + 2)) m.top m.j m.copies, replica (m.a + 2))) (forwarded_to ws m.a (primary p) 0))
        (placed_in None ws))
        (pick (room_for true m end (len + 3))
        (placed_in (Some (marks_at (m.a + (len + 2)) (m.top - 1) m.j m.copies, replica (m.a + 2)))
        (set (forwarded_to ws m.a (primary p) c) (m.top - 1) p))
        (placed_in None ws))
        ≡ placed_in (Some (marks_at (m.a + (len + 2)) (pick b m.top (m.top - 1)) m.j m.copies, replica (m.a + 2)))
        (pick b (forwarded_to ws m.a (primary p) c) (set (forwarded_to ws m.a (primary p) c) (m.top - 1) p))
    go true e q = rw (q, eqb-true c 0 e)
    go false e q = rw q

pub no_room : (m : Marks) (end : ℕ) (ws : List ℕ) (p len c : ℕ) → room_for true m end (twin_need len c) ≡ false
    → place_of m end ws (primary p) len c ≡ placed_in None ws
unfolding place_of
no_room m end ws p len c r = go (eqb c 0) r
  where
    go : (b : Bool) → room_for true m end (pick b (len + 2) (len + 3)) ≡ false
        → pick b
        (pick (room_for true m end (len + 2))
        (placed_in (Some (marks_at (m.a + (len + 2)) m.top m.j m.copies, replica (m.a + 2))) (forwarded_to ws m.a (primary p) 0))
        (placed_in None ws))
        (pick (room_for true m end (len + 3))
        (placed_in (Some (marks_at (m.a + (len + 2)) (m.top - 1) m.j m.copies, replica (m.a + 2)))
        (set (forwarded_to ws m.a (primary p) c) (m.top - 1) p))
        (placed_in None ws))
        ≡ placed_in None ws
    go true q = rw q
    go false q = rw q

-- what the room test shows
pub room_is : (m : Marks) (end need : ℕ) → 0 < need → room_for true m end need ≡ true → m.a + m.j + need ≤ m.top
unfolding room_for
room_is m end need pos r = omega (arith, leb-true need (m.top - m.a - m.j) r)

-- no write changes the number of words
pub twin_length : (m : Marks) (ws : List ℕ) (p c : ℕ) → length (twin_words m ws p c) ≡ length ws
twin_length m ws p c = go (eqb c 0)
  where
    three : length (forwarded_to ws m.a (primary p) c) ≡ length ws
    three = simp length-set

    go : (b : Bool) → length (pick b (forwarded_to ws m.a (primary p) c) (set (forwarded_to ws m.a (primary p) c) (m.top - 1) p)) ≡ length ws
    go true = three
    go false = length-set (forwarded_to ws m.a (primary p) c) (m.top - 1) p ∙ three
