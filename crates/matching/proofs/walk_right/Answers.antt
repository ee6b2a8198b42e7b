-- The live beginning of one more sign, by the links.
use Rattle.matching.proofs.Live.{walk_right}
use Rattle.matching.proofs.walk_right.Goals as goal

pub returns : goal.returns
returns c = walk_right
