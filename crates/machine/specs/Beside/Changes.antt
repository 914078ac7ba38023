-- What a call that begins a Store is told: that it was accepted.
use Rattle.std.specs.Prelude.{ℕ}
use Rattle.table.specs.declared.Answer.{Answer}
use Rattle.table.specs.declared.Answer.TheVariants.{Accepted, Done, Value, Moved, Wait, Report, No}

abbrev pub if_accepted : Answer → ℕ
if_accepted Accepted = 1
if_accepted Done = 0
if_accepted (Value v) = 0
if_accepted Moved = 0
if_accepted (Wait q) = 0
if_accepted (Report on live copies) = 0
if_accepted (No x) = 0
