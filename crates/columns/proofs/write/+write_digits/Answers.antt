use Rattle.std.proofs.Common.{length, arith}
use Rattle.std.proofs.lemmas.Fmt.{decimal_nonempty}
use Rattle.columns.proofs.Writing.{digit_length, digits_length, digit_written, digits_written}
use Rattle.columns.proofs.write.+write_digits.Goals as goal

pub returns-in_default-clause-fits : goal.returns-in_default-clause-fits
returns-in_default-clause-fits t c = grind (arith, decimal_nonempty c.args.n)

pub returns-then-n-lt10-clause-fits : goal.returns-then-n-lt10-clause-fits
returns-then-n-lt10-clause-fits t c = grind (arith, digit_length c.args.n)

pub returns-then-n-lt10-clause-written : goal.returns-then-n-lt10-clause-written
returns-then-n-lt10-clause-written t c = grind (arith, digit_written (length c.in-Some.front.now) c.args.n)

pub returns-clause-fits : goal.returns-clause-fits
returns-clause-fits t c = grind (arith, digits_length c.args.n)

pub returns-clause-written : goal.returns-clause-written
returns-clause-written t c = grind (arith, digits_written (length c.in-Some.front.now) c.args.n)
