use Rattle.bits_theory.proofs.Reach.{step_right}
use Rattle.bits_theory.proofs.step_right.Goals as goal

pub returns : goal.returns
returns c = step_right
