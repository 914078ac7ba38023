-- The calls of 01 but set-up, with any numbers as their arguments, under the script program's names.
use Rattle.std.specs.Prelude.{ℕ}

pub data Call : Type 0 where
  New : (task register len m : ℕ) → Call
  Fill : (task word : ℕ) → Call
  FillPointer : (task register : ℕ) → Call
  Load : (task to from slot : ℕ) → Call
  Store : (task object slot word : ℕ) → Call
  StorePointer : (task object slot register : ℕ) → Call
  Move : (task to from : ℕ) → Call
  Clear : (task register : ℕ) → Call
  Same : (task a b : ℕ) → Call
  Put : (task root register : ℕ) → Call
  Get : (task register root : ℕ) → Call
  Step : (task : ℕ) → Call
  Report : Call
