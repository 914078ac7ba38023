-- What the buffer's words mean: descriptors, objects, headers, room.
use Rattle.std.specs.Prelude.{ℕ, ◌+◌, ◌-◌, ◌*◌, ◌/◌, ◌%◌, List, Bool, length, get_or, set, ltb, leb, eqb, Option, Some, None}
use Rattle.table.specs.declared.Primary.{Primary}
use Rattle.table.specs.declared.Replica.{Replica}
use Rattle.table.specs.declared.Marks.{Marks}
use Rattle.table.specs.declared.Descriptor.{Descriptor}
use Rattle.table.specs.declared.Slot.{Slot}
use Rattle.table.specs.declared.Wanted.{Wanted}
use Rattle.table.specs.declared.Operand.{Operand}
use Rattle.table.specs.declared.Operand.TheVariants.{Plain, Pointer}
use Rattle.table.specs.declared.Look.{Look}
use Rattle.table.specs.declared.Look.TheVariants.{White, Claimed, Forwarded, Lost}
use Rattle.table.specs.declared.Copying.{Copying}
use Rattle.table.specs.declared.Copying.TheVariants.{Count, Locked, Neither}
use Rattle.machine.specs.Basics.{pick}

abbrev pub primary : ℕ → Primary
primary p = record { 0 = p }

abbrev pub replica : ℕ → Replica
replica r = record { 0 = r }

-- the descriptor of an object of length L with m pointer slots, and both read off it
abbrev pub descriptor : ℕ → ℕ → ℕ
descriptor len m = 256 * len + m

abbrev pub length_in : ℕ → ℕ
length_in d = d / 256

abbrev pub pointers_in : ℕ → ℕ
pointers_in d = d % 256

-- slot i of the object at x, and what a New asks for
abbrev pub slot_at : Primary → ℕ → Slot
slot_at x i = record { object = x; index = i }

abbrev pub wanted : ℕ → ℕ → ℕ → Wanted
wanted r len m = record { register = r; len = len; m = m }

-- an object of length L with m pointer slots, by what its descriptor says
abbrev pub described : ℕ → ℕ → Option Descriptor
described len m = Some (record { len = len; m = m })

-- the object at p in a buffer of n words, by its descriptor d: L at most S, m at most L, its slots inside
abbrev pub object_by : ℕ → ℕ → ℕ → ℕ → Option Descriptor
object_by n s p d =
    pick (ltb s (length_in d)) None
    (pick (ltb (length_in d) (pointers_in d)) None
    (pick (ltb (n - p) (length_in d)) None
    (described (length_in d) (pointers_in d))))

-- what the pointer leads to: no object has a pointer below 4, and only one of length 0 has the buffer's end
unfoldable pub object_of : List ℕ → ℕ → Primary → Option Descriptor
object_of ws s p =
    pick (ltb p.0 4) None
    (pick (ltb (length ws) p.0) None
    (object_by (length ws) s p.0 (get_or ws (p.0 - 2) 0)))

-- a header h of a primary of length len: 0 white, 1 claimed, else its replica's pointer
abbrev pub header_of : ℕ → ℕ → ℕ → Look
header_of n len h =
    pick (eqb h 0) (White len)
    (pick (eqb h 1) Claimed
    (pick (ltb h 4) Lost
    (pick (ltb n h) Lost
    (pick (ltb (n - h) len) Lost
    (Forwarded (replica h) len)))))

abbrev pub look_at : List ℕ → Primary → Option Descriptor → Look
look_at ws p (Some o) = header_of (length ws) o.len (get_or ws (p.0 - 1) 0)
look_at ws p None = Lost

-- what a look at an object finds
unfoldable pub look_of : List ℕ → ℕ → Primary → Look
look_of ws s p = look_at ws p (object_of ws s p)

-- the replica taken out, or what is left otherwise
abbrev pub if_forwarded {ℓ} : {A : Type ℓ} → Look → (Replica → ℕ → A) → A → A
if_forwarded (White len) f a = a
if_forwarded Claimed f a = a
if_forwarded (Forwarded r len) f a = f r len
if_forwarded Lost f a = a

-- a header h of a replica of length len: the slots still to copy, or 256+i while slot i is locked
unfoldable pub copying_of : ℕ → ℕ → Copying
copying_of len h =
    pick (leb h len) (Count h)
    (pick (ltb h 256) Neither
    (pick (ltb (h - 256) len) (Locked (h - 256)) Neither))

-- the word of a value, by that of its pointer; in a primary, and in a replica
abbrev pub value_word : {P : Type 0} → (P → ℕ) → Operand P → ℕ
value_word word (Plain w) = w
value_word word (Pointer p) = word p

abbrev pub operand_word : Operand Primary → ℕ
operand_word v = value_word (λ (p : Primary). p.0) v

abbrev pub copied_word : Operand Replica → ℕ
copied_word c = value_word (λ (r : Replica). r.0) c

-- the first word of the space in use, and the word after it
unfoldable pub bottom_of : Bool → ℕ → ℕ
bottom_of upper h = pick upper (h + 2) 2

unfoldable pub end_of : Bool → ℕ → ℕ
end_of upper h = bottom_of upper h + h

-- room: a job in hand keeps its stack word
abbrev pub room_of : Bool → Marks → ℕ → ℕ
room_of on m end = pick on (m.top - m.a - m.j) (end - m.a)

-- there is room for so many words
unfoldable pub room_for : Bool → Marks → ℕ → ℕ → Bool
room_for on m end need = leb need (room_of on m end)

-- an object's two words before its slots, written at a
abbrev pub laid : List ℕ → ℕ → ℕ → ℕ → List ℕ
laid ws a d h = set (set ws a d) (a + 1) h
