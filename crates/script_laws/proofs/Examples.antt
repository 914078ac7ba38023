-- The examples hold, each by computing.
use mathlib.Core.Path.{refl}
use Rattle.script.specs.Line.{fields, digits_from, field_number, field_numbers, record_by, line_of}
use Rattle.script_laws.specs.Examples.{Hold, readable, bad}

pub readable_hold : Hold readable
unfolding fields digits_from field_number field_numbers record_by line_of
readable_hold =
    (refl, (refl, (refl, (refl, (refl, (refl, (refl, (refl, (refl, (refl, (refl, (refl, (refl, (refl, (refl, tt)))))))))))))))

pub bad_hold : Hold bad
unfolding fields digits_from field_number field_numbers record_by line_of
bad_hold =
    (refl, (refl, (refl, (refl, (refl, (refl, (refl, (refl, (refl, (refl, (refl, (refl, (refl, (refl, (refl, (refl, (refl, (refl, tt))))))))))))))))))
