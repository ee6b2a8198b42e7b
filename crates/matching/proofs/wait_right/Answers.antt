-- No cue ends before the wait is over.
use Rattle.matching.proofs.Endings.{wait_right}
use Rattle.matching.proofs.wait_right.Goals as goal

pub returns : goal.returns
returns c = wait_right
