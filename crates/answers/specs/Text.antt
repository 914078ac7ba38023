-- The text of an answer, and text put into a buffer.
use Rattle.std.specs.Prelude.{ℕ, zero, suc, ◌+◌, ◌/◌, ◌%◌, List, [], ◌∷◌, ◌++◌, Bool, true, false, length, set, ltb}
use Rattle.machine.specs.Basics.{pick}
use Rattle.script.specs.Line.{ascii}
use Rattle.machine.specs.Numbers.{number_of}
use Rattle.table.specs.declared.Answer.{Answer}
use Rattle.table.specs.declared.Answer.TheVariants.{Accepted, Done, Value, Moved, Wait, Report, No}

-- the decimal digits of n in ASCII, without leading zero; the first number bounds how many are made
unfoldable pub spelled : ℕ → ℕ → List ℕ
spelled zero n = []
spelled (suc k) n = pick (ltb n 10) ((48 + n) ∷ []) (spelled k (n / 10) ++ ((48 + n % 10) ∷ []))

unfoldable pub decimal : ℕ → List ℕ
decimal n = spelled (suc n) n

abbrev pub newline : List ℕ
newline = ascii "\n"

unfoldable pub mode_text : Bool → List ℕ
mode_text true = ascii "report\ton\t"
mode_text false = ascii "report\toff\t"

unfoldable pub report_text : Bool → ℕ → ℕ → List ℕ
report_text on live copies = mode_text on ++ (decimal live ++ (ascii "\t" ++ (decimal copies ++ newline)))

-- ok, done, value, moved, wait, report or no, and its numbers behind tabs
unfoldable pub answer_text : Answer → List ℕ
answer_text Accepted = ascii "ok\n"
answer_text Done = ascii "done\n"
answer_text (Value v) = ascii "value\t" ++ (decimal v ++ newline)
answer_text Moved = ascii "moved\n"
answer_text (Wait q) = ascii "wait\t" ++ (decimal q ++ newline)
answer_text (Report on live copies) = report_text on live copies
answer_text (No x) = ascii "no\t" ++ (decimal (number_of x) ++ newline)

unfoldable pub unreadable_text : List ℕ
unreadable_text = ascii "no\t12\n"

-- text stored byte by byte from an index on
unfoldable pub put : List ℕ → ℕ → List ℕ → List ℕ
put l i [] = l
put l i (b ∷ s) = put (set l i b) (i + 1) s

pub record Wrote : Type 0 where
  pub next : ℕ
  pub bytes : List ℕ

abbrev pub wrote : ℕ → List ℕ → Wrote
wrote n l = record { next = n; bytes = l }

-- text put into l from `at` on, and the index past it
abbrev pub written : List ℕ → List ℕ → ℕ → Wrote
written text l at = wrote (at + length text) (put l at text)
