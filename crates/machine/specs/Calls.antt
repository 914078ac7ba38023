-- What each call does, as one function, and runs of calls.
use Rattle.std.specs.Prelude.{ℕ, ◌≡◌, List, [], ◌∷◌}
use Rattle.table.specs.declared.Limits.{Limits}
use Rattle.table.specs.declared.Table.{Table}
use Rattle.table.specs.declared.Answer.{Answer}
use Rattle.machine.specs.Entries.{Ends, ends}
use Rattle.machine.specs.Setup.{setup_of, report_of}
use Rattle.machine.specs.Complete.{move_of, clear_of, put_root_of, get_root_of, same_of, load_of}
use Rattle.machine.specs.Begin.{begin_new_of, begin_fill_of, begin_fill_pointer_of, begin_store_of, begin_store_pointer_of}
use Rattle.machine.specs.Step.{step_of}
use Rattle.machine.specs.Call.{Call}

-- only a step writes the buffer
abbrev pub call : Call → Table → List ℕ → Ends
call (Call.New task r len m) t ws = ends (begin_new_of t ws task r len m) ws
call (Call.Fill task w) t ws = ends (begin_fill_of t ws task w) ws
call (Call.FillPointer task r) t ws = ends (begin_fill_pointer_of t ws task r) ws
call (Call.Load task to from slot) t ws = ends (load_of t ws task to from slot) ws
call (Call.Store task o slot w) t ws = ends (begin_store_of t ws task o slot w) ws
call (Call.StorePointer task o slot r) t ws = ends (begin_store_pointer_of t ws task o slot r) ws
call (Call.Move task to from) t ws = ends (move_of t ws task to from) ws
call (Call.Clear task r) t ws = ends (clear_of t ws task r) ws
call (Call.Same task a b) t ws = ends (same_of t ws task a b) ws
call (Call.Put task root r) t ws = ends (put_root_of t ws task root r) ws
call (Call.Get task r root) t ws = ends (get_root_of t ws task r root) ws
call (Call.Step task) t ws = step_of t ws task
call Call.Report t ws = ends (report_of t ws) ws

-- what a call's contract says of how it ends
abbrev pub Meets : Call → Table → List ℕ → Ends → Type 0
Meets c t ws e = e ≡ call c t ws

abbrev pub MeetsSetup : Limits → Table → List ℕ → Ends → Type 0
MeetsSetup l t ws e = e ≡ setup_of t l ws

-- one call more
abbrev pub then : Call → Ends → Ends
then c e = call c e.out.table e.words

-- how a list of calls ends, and what each of them answers
unfoldable pub run : List Call → Ends → Ends
run [] e = e
run (c ∷ cs) e = run cs (then c e)

unfoldable pub answers : List Call → Ends → List Answer
answers [] e = []
answers (c ∷ cs) e = (then c e).out.answer ∷ answers cs (then c e)
