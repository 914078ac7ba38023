-- What is written for a call is read back as that call.
use Prim.Native.Nat.{ℕ}
use Prim.Native.String.{String}
use native.Mathlib.Omega.{arith}
use mathlib.Core.Path.{◌≡◌, refl, ap, ◌∙◌}
use mathlib.Core.List.{List, [], ◌∷◌, ◌++◌, append-nil, map}
use mathlib.Core.Bool.{true}
use Rattle.machine.specs.Call.{Call, New, Fill, FillPointer, Load, Store, StorePointer, Move, Clear, Same, Put, Get, Step, Report}
use Rattle.script.specs.Line.{fields, field_numbers, ascii, name_is, record_by, line_of, default_rate}
use Rattle.answers.specs.Text.{decimal}
use Rattle.script.specs.declared.Said.TheVariants as said
use Rattle.std.specs.Prelude.{Some}
use Rattle.script_laws.specs.Calls.{tabbed, record_for, Small, name_for, numbers_for, line_for, said_for, setup_line, short_setup_line}
use Rattle.script_laws.specs.Lines.{lacks}
use Rattle.script_laws.proofs.Digits.{reads_back}
use Rattle.script_laws.proofs.Lacks.{lacks_first, decimal_lacks}

-- ---- fields

last_field : (f : List ℕ) → lacks 9 f ≡ true → fields f ≡ f ∷ []
unfolding fields
last_field [] h = refl
last_field (b ∷ f) h =
    let l = lacks_first 9 b f h in
    simp (l.0, last_field f l.1)

field_tab : (f s : List ℕ) → lacks 9 f ≡ true → fields (f ++ (9 ∷ s)) ≡ f ∷ fields s
unfolding fields
field_tab [] s h = refl
field_tab (b ∷ f) s h =
    let l = lacks_first 9 b f h in
    simp (l.0, field_tab f s l.1)

fields_of : (f : List ℕ) (ns : List ℕ) → lacks 9 f ≡ true → fields (f ++ tabbed ns) ≡ f ∷ map decimal ns
unfolding tabbed
fields_of f [] h = ap fields (append-nil f) ∙ last_field f h
fields_of f (n ∷ ns) h =
    field_tab f (decimal n ++ tabbed ns) h ∙ ap (λ (fs : List (List ℕ)). f ∷ fs) (fields_of (decimal n) ns (decimal_lacks 9 n (omega arith)))

numbers_of : (ns : List ℕ) → Small ns → field_numbers (map decimal ns) ≡ Some ns
unfolding field_numbers
numbers_of [] h = refl
numbers_of (n ∷ ns) h = simp (reads_back n h.0, numbers_of ns h.1)

-- ---- records, calls and set-up

pub line_back : (name : String) (ns : List ℕ) → lacks 9 (ascii name) ≡ true → Small ns → line_of (record_for name ns) ≡ record_by (name_is (ascii name)) ns
unfolding line_of
line_back name ns h k = simp (fields_of (ascii name) ns h, numbers_of ns k)

back : (c : Call) → lacks 9 (ascii (name_for c)) ≡ true → Small (numbers_for c) → record_by (name_is (ascii (name_for c))) (numbers_for c) ≡ Some (said_for c) → line_of (line_for c) ≡ Some (said_for c)
back c l h e = line_back (name_for c) (numbers_for c) l h ∙ e

pub call_back : (c : Call) → Small (numbers_for c) → line_of (line_for c) ≡ Some (said_for c)
unfolding record_by
call_back (New task register len m) h = back (New task register len m) refl h refl
call_back (Fill task word) h = back (Fill task word) refl h refl
call_back (FillPointer task register) h = back (FillPointer task register) refl h refl
call_back (Load task to from slot) h = back (Load task to from slot) refl h refl
call_back (Store task object slot word) h = back (Store task object slot word) refl h refl
call_back (StorePointer task object slot register) h = back (StorePointer task object slot register) refl h refl
call_back (Move task to from) h = back (Move task to from) refl h refl
call_back (Clear task register) h = back (Clear task register) refl h refl
call_back (Same task a b) h = back (Same task a b) refl h refl
call_back (Put task root register) h = back (Put task root register) refl h refl
call_back (Get task register root) h = back (Get task register root) refl h refl
call_back (Step task) h = back (Step task) refl h refl
call_back Report h = back Report refl h refl

pub setup_back : (p s h k : ℕ) → Small (p ∷ s ∷ h ∷ k ∷ []) → line_of (setup_line p s h k) ≡ Some (said.Setup p s h k)
unfolding record_by
setup_back p s h k l = line_back "setup" (p ∷ s ∷ h ∷ k ∷ []) refl l

pub setup_default_back : (p s h : ℕ) → Small (p ∷ s ∷ h ∷ []) → line_of (short_setup_line p s h) ≡ Some (said.Setup p s h default_rate)
unfolding record_by
setup_default_back p s h l = line_back "setup" (p ∷ s ∷ h ∷ []) refl l
