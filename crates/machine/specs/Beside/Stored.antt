-- A Store in a run: its slot as before until its one writing step, and after that step the value stored.
use Rattle.std.specs.Prelude.{ℕ, ◌≡◌, List, [], ◌∷◌, ◌++◌, get_or}
use Rattle.machine.specs.Entries.{Ends}
use Rattle.machine.specs.Call.{Call}
use Rattle.machine.specs.Calls.{then, run}
use Rattle.machine.specs.StillStore.{Store, empty_store, thing_at}
use Rattle.machine.specs.Kinds.{beside}
use Rattle.machine.specs.Beside.OneStep.{WrittenAt}

-- what slot j of object x holds in the store
abbrev pub slot_of : Store → ℕ → ℕ → ℕ
slot_of s x j = get_or (thing_at s x).slots j 0

-- ---- the runs
-- The Store of v into slot j of x, begun for task i by call c after cs, in the calls ds that come after: it is written in
-- one step of i; after every call before that step the slot is as it was before c, and after the step it holds v.
pub record StoreMoment (start : Ends) (cs : List Call) (c : Call) (ds : List Call) (i x j v : ℕ) : Type 0 where
  pub writing : WrittenAt i ds (then c (run cs start))
  pub before : (bs rest : List Call) → writing.before ≡ bs ++ rest → slot_of (beside (cs ++ (c ∷ bs)) start empty_store) x j ≡ slot_of (beside cs start empty_store) x j
  pub after : slot_of (beside (cs ++ (c ∷ (writing.before ++ (Call.Step i ∷ [])))) start empty_store) x j ≡ v
