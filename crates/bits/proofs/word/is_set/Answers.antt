use Rattle.std.proofs.Common.{sym}
use Rattle.bits_theory.proofs.Bit.{bit_read}
use Rattle.bits.proofs.word.is_set.Goals as goal

pub returns : goal.returns
returns c = sym (bit_read c.args.word c.args.place)
