use Rattle.std.proofs.Common.{[], ◌∷◌, refl}
use Rattle.columns.specs.Written.{refusal_line}
use Rattle.columns.proofs.Placing.{pair_placed}
use Rattle.columns.proofs.write.refusal_line.Goals as goal

pub returns : goal.returns
unfolding refusal_line
returns c =
    pair_placed 2 7 3 c.args.number c.args.line (10 ∷ []) _ c.write_number.new.field _ refl c.write_number.ensures refl c.write_number-2.ensures
