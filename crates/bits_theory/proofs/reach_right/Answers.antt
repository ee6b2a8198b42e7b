use Rattle.bits_theory.proofs.Reach.{reach_is}
use Rattle.bits_theory.proofs.reach_right.Goals as goal

pub returns : goal.returns
returns c = reach_is
