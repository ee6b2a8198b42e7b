-- A sign adds its trials.
use Rattle.matching.proofs.Calls.{spent_step}
use Rattle.matching.proofs.spent_step.Goals as goal

pub returns : goal.returns
returns c = spent_step
