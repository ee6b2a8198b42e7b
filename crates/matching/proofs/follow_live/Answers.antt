-- What is live and the length of the text are enough to follow.
use Rattle.matching.proofs.Follow.{follow_live}
use Rattle.matching.proofs.follow_live.Goals as goal

pub returns : goal.returns
returns c = follow_live
