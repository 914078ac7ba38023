-- A look that a `let Look::Forwarded(..) = seen else` has sent into its else: its variant is one of the other three.
use Prim.Native.Nat.{ℕ}
use mathlib.Core.Path.{◌≡◌, refl}
use mathlib.Core.Logic.{inl, inr}
use mathlib.Core.List.{[], ◌∷◌}
use native.Mathlib.Omega.{arith}
use denote.Enum.Declared.{tag_of}
use types.Run.{OneOf}
use Rattle.table.specs.contracts.Look.{the_type}
use Rattle.table.specs.declared.Replica.{Replica}
use Rattle.table.specs.declared.Look.{Look}
use Rattle.table.specs.declared.Look.TheVariants.{Forwarded}
use Rattle.machine.specs.Words.{if_forwarded}

-- what the else knows
abbrev pub Other : Look → Type 0
Other l = OneOf (0 ∷ 1 ∷ 3 ∷ []) (tag_of the_type l)

forwarded_not : (r : Replica) (len : ℕ) → Other (Forwarded r len) → ⊥
forwarded_not r len (inl e) = omega arith
forwarded_not r len (inr (inl e)) = omega arith
forwarded_not r len (inr (inr e)) = omega arith

pub unforwarded : (l : Look) → Other l → {A : Type 0} (f : Replica → ℕ → A) (a : A) → if_forwarded l f a ≡ a
unforwarded (Forwarded r len) o f a = absurd (forwarded_not r len o)
unforwarded _ o f a = refl
