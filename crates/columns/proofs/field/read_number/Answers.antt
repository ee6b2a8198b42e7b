use Rattle.std.proofs.Common.{◌≡◌, length, get_or, ◌∙◌, arith}
use Rattle.columns.specs.Fields.{unblanked}
use Rattle.columns.proofs.Numbers.{number_none, number_value, numeral_empty, numeral_zero}
use Rattle.columns.proofs.field.read_number.Goals as goal
use Rattle.columns.proofs.field.read_number.Goals.{in_default-via-then-digits-lt2, in_default-via-else-digits-lt2+in_default-1}

pub returns-in-empty-clause-value : goal.returns-in-empty-clause-value
returns-in-empty-clause-value c = grind (arith, number_none c.args.limit c.args.field.now, numeral_empty (unblanked c.args.field.now))

pub returns-in-empty-2-clause-value : goal.returns-in-empty-2-clause-value
returns-in-empty-2-clause-value c = grind (arith, number_none c.args.limit c.args.field.now, numeral_zero (unblanked c.args.field.now))

-- a first digit 0 stands alone
first : (c : goal.After-digits_value) → get_or c.split_at.result.1.now 0 0 ≡ 48 → length c.split_at.result.1.now ≡ 1
first c e =
    elim c.in_default.branch [
      | in_default-via-then-digits-lt2 w ↦ grind arith
      | in_default-via-else-digits-lt2+in_default-1 w ↦ grind arith
    ]

pub returns-in_default-clause-value : goal.returns-in_default-clause-value
returns-in_default-clause-value c =
    c.digits_value.ensures ∙ number_value c.args.limit c.args.field.now c.split_at.result.1.now (c.split_at.ensures.back ∙ c.leading_blanks.ensures.rest) (grind arith) (first c)
