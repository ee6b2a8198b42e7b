use Rattle.std.proofs.Common.{[], ◌∷◌, refl}
use Rattle.columns.specs.Written.{total_line}
use Rattle.columns.proofs.Placing.{pair_placed}
use Rattle.columns.proofs.write.total_line.Goals as goal

pub returns : goal.returns
unfolding total_line
returns c =
    pair_placed 7 7 8 c.args.events c.args.sightings (10 ∷ []) _ c.write_number.new.field _ refl c.write_number.ensures refl c.write_number-2.ensures
