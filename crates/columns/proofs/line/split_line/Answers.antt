use Rattle.std.proofs.Common.{arith}
use Rattle.columns.proofs.Splits.{first_front, first_le, first_some, lines_split}
use Rattle.columns.proofs.line.split_line.Goals as goal

pub split_at-requires : goal.split_at-requires
split_at-requires c = omega (arith, first_le c.args.input.now)

pub returns-clause-front : goal.returns-clause-front
returns-clause-front c = grind (arith, first_front c.args.input.now)

pub returns-clause-lines : goal.returns-clause-lines
returns-clause-lines c = grind (arith, first_front c.args.input.now, lines_split c.args.input.now)

pub returns-clause-shorter : goal.returns-clause-shorter
returns-clause-shorter c = grind (arith, first_some c.args.input.now)
