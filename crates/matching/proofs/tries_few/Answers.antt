-- The trials of a sign and of a text are bounded.
use Rattle.matching.proofs.Live.{tries_few}
use Rattle.matching.proofs.tries_few.Goals as goal

pub returns : goal.returns
returns c = tries_few
