-- Every answer's text is one line of at most 40 bytes.
use Prim.Native.Nat.{ℕ, ◌+◌, ◌≤◌}
use native.Mathlib.Omega.{arith}
use mathlib.Core.Path.{◌≡◌, refl, sym, ap, ◌∙◌}
use mathlib.Core.List.{List, [], ◌++◌, append_assoc}
use mathlib.Core.Bool.{Bool, true, false}
use lib.ListN.{length, length-append}
use Rattle.machine.specs.Numbers.{values_of, number_of}
use Rattle.table.specs.declared.Answer.{Answer}
use Rattle.table.specs.declared.Answer.TheVariants.{Accepted, Done, Value, Moved, Wait, Report, No}
use Rattle.script.specs.Line.{ascii}
use Rattle.answers.specs.Text.{decimal, newline, mode_text, report_text, answer_text, unreadable_text}
use Rattle.answers.proofs.Put.{decimal_ten}
use Rattle.script_laws.specs.Calls.{Small}
use Rattle.script_laws.specs.Lines.{lacks, OneLine}
use Rattle.script_laws.proofs.Lacks.{lacks_append, decimal_lacks}

at_most : {m : ℕ} {s : List ℕ} (n : ℕ) → m ≤ n → OneLine m s → OneLine n s
at_most n h l = record { bytes = l.bytes; made = l.made; whole = l.whole; short = omega (arith, l.short) }

-- a text without newline before a line is a line
text_line : (m : ℕ) (s : List ℕ) → lacks 10 s ≡ true → length s ≤ m → {n : ℕ} {t : List ℕ} → OneLine n t → OneLine (m + n) (s ++ t)
text_line m s h k {n} {t} l = record {
  bytes = s ++ l.bytes;
  made = ap (λ (u : List ℕ). s ++ u) l.made ∙ sym (append_assoc s l.bytes newline);
  whole = lacks_append 10 s l.bytes h l.whole;
  short = omega (arith, length-append s t, l.short);
}

end_line : OneLine 1 newline
end_line = record { bytes = []; made = refl; whole = refl; short = omega arith }

number_line : (n : ℕ) → n ≤ 4294967295 → {m : ℕ} {t : List ℕ} → OneLine m t → OneLine (10 + m) (decimal n ++ t)
number_line n h l = text_line 10 (decimal n) (decimal_lacks 10 n (omega arith)) (decimal_ten n h) l

mode_line : (on : Bool) {m : ℕ} {t : List ℕ} → OneLine m t → OneLine (11 + m) (mode_text on ++ t)
unfolding mode_text
mode_line true l = text_line 11 (mode_text true) refl (omega arith) l
mode_line false l = text_line 11 (mode_text false) refl (omega arith) l

pub answer_line : (a : Answer) → Small (values_of a) → OneLine 40 (answer_text a)
unfolding answer_text report_text
answer_line Accepted h = at_most 40 (omega arith) (text_line 2 (ascii "ok") refl (omega arith) end_line)
answer_line Done h = at_most 40 (omega arith) (text_line 4 (ascii "done") refl (omega arith) end_line)
answer_line (Value v) h = at_most 40 (omega arith) (text_line 6 (ascii "value\t") refl (omega arith) (number_line v h.0 end_line))
answer_line Moved h = at_most 40 (omega arith) (text_line 5 (ascii "moved") refl (omega arith) end_line)
answer_line (Wait q) h = at_most 40 (omega arith) (text_line 5 (ascii "wait\t") refl (omega arith) (number_line q h.0 end_line))
answer_line (Report on live copies) h =
    at_most 40 (omega arith) (mode_line on (number_line live h.1.0 (text_line 1 (ascii "\t") refl (omega arith) (number_line copies h.1.1.0 end_line))))
answer_line (No x) h = at_most 40 (omega arith) (text_line 3 (ascii "no\t") refl (omega arith) (number_line (number_of x) h.0 end_line))

pub unreadable_line : OneLine 40 unreadable_text
unfolding unreadable_text
unreadable_line = at_most 40 (omega arith) (text_line 5 (ascii "no\t12") refl (omega arith) end_line)
