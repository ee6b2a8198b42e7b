use Rattle.std.proofs.Common.{◌≡◌, drop}
use Rattle.columns.specs.Fields.{all_digits, value_from}
use Rattle.columns.proofs.field.digits_value.Given as goal

abbrev pub invariant-loop-b : goal.invariant-loop-b
invariant-loop-b l =
    (all_digits (drop l.b-index l.digits) ≡ all_digits l.digits) ×
    (value_from l.value (drop l.b-index l.digits) ≡ value_from 0 l.digits)
