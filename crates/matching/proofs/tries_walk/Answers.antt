-- The trials of a sign, by the links.
use Rattle.matching.proofs.Live.{tries_walk}
use Rattle.matching.proofs.tries_walk.Goals as goal

pub returns : goal.returns
returns c = tries_walk
