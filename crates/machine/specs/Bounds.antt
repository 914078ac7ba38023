-- What a check that passed shows of the numbers it looked at: the facts behind every access to the buffer.
use Rattle.std.specs.Prelude.{ℕ, ◌+◌, ◌*◌, ◌≤◌, ◌<◌, ◌≡◌, Bool, Option, Some, None, Ok, Err}
use Rattle.table.specs.declared.Limits.{Limits}
use Rattle.table.specs.declared.Marks.{Marks}
use Rattle.table.specs.declared.Descriptor.{Descriptor}
use Rattle.table.specs.declared.Replica.{Replica}
use Rattle.machine.specs.Basics.{Gate}
use Rattle.table.specs.declared.Look.{Look}
use Rattle.table.specs.declared.Look.TheVariants.{White, Claimed, Forwarded, Lost}
use Rattle.table.specs.declared.Copying.{Copying}
use Rattle.table.specs.declared.Copying.TheVariants.{Count, Locked, Neither}
use Rattle.machine.specs.Words.{bottom_of, end_of}

pub record Limited (l : Limits) : Type 0 where
  pub p_low : 1 ≤ l.p
  pub p_high : l.p ≤ 8
  pub s_high : l.s ≤ 255
  pub h_low : 64 ≤ l.h
  pub h_high : l.h ≤ 8190
  pub k_low : 1 ≤ l.k
  pub k_high : l.k ≤ 16

pub record Sized (l : Limits) (n : ℕ) : Type 0 where
  pub limited : Limited l
  pub size : n ≡ 2 + 2 * l.h

-- the free part of the space in use: a stack word is kept for each job in hand, and all of it lies in a buffer of n words
pub record Fits (m : Marks) (end n : ℕ) : Type 0 where
  pub low : 2 ≤ m.a
  pub free : m.a + m.j ≤ m.top
  pub high : m.top ≤ end
  pub inside : end ≤ n
  pub size : n ≤ 16382
  pub counted : m.copies ≤ 16382

pub record Sound (l : Limits) (upper : Bool) (m : Marks) (n : ℕ) : Type 0 where
  pub sized : Sized l n
  pub based : bottom_of upper l.h ≤ m.a
  pub fits : Fits m (end_of upper l.h) n

abbrev pub Opened : Gate → Limits → Bool → Marks → ℕ → Type 0
Opened (Ok u) l upper m n = Sound l upper m n
Opened (Err x) l upper m n = Unit {0}

abbrev pub Admitted : Gate → Limits → Bool → Marks → ℕ → ℕ → Type 0
Admitted (Ok u) l upper m n task = Sound l upper m n × (task < l.p)
Admitted (Err x) l upper m n task = Unit {0}

abbrev pub Paired : Gate → Limits → Bool → Marks → ℕ → ℕ → ℕ → ℕ → Type 0
Paired (Ok u) l upper m n task a b = Sound l upper m n × (task < l.p) × (a < 8) × (b < 8)
Paired (Err x) l upper m n task a b = Unit {0}

-- an object that is whole lies in the n words, with its descriptor and header before it
abbrev pub Stands : Option Descriptor → ℕ → ℕ → ℕ → Type 0
Stands (Some o) s p n = (4 ≤ p) × (p + o.len ≤ n) × (o.len ≤ s) × (o.m ≤ o.len)
Stands None s p n = Unit {0}

-- and so does a replica that a look finds
abbrev pub Reaches : Look → ℕ → ℕ → ℕ → Type 0
Reaches (White len) s p n = (4 ≤ p) × (p + len ≤ n) × (len ≤ s)
Reaches Claimed s p n = Unit {0}
Reaches (Forwarded r len) s p n = (4 ≤ p) × (p + len ≤ n) × (4 ≤ r.0) × (r.0 + len ≤ n) × (len ≤ s)
Reaches Lost s p n = Unit {0}

-- marks after a replica was claimed
abbrev pub Roomy : Option (Marks × Replica) → ℕ → ℕ → Type 0
Roomy (Some (m, r)) end n = Fits m end n
Roomy None end n = Unit {0}

abbrev pub Counts : Copying → ℕ → Type 0
Counts (Count c) len = c ≤ len
Counts (Locked i) len = i < len
Counts Neither len = Unit {0}
