use Rattle.std.proofs.Common.{arith}
use Rattle.std.proofs.lemmas.List.{at_drop_more}
use Rattle.columns.specs.Fields.{value_from}
use Rattle.columns.proofs.Numbers.{value_grows}
use Rattle.columns.proofs.field.digits_value.Goals as goal

pub returns-in_err-checked_mul : goal.returns-in_err-checked_mul
returns-in_err-checked_mul c = grind (arith, at_drop_more (value_from c.loop-b.value) c.args.digits.now c.loop-b.b-index 0, value_grows)

pub returns-in_err-value : goal.returns-in_err-value
returns-in_err-value c = grind (arith, at_drop_more (value_from c.loop-b.value) c.args.digits.now c.loop-b.b-index 0, value_grows)
