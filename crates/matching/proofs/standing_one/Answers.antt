-- A standing determines the beginning.
use Rattle.matching.proofs.Live.{standing_one}
use Rattle.matching.proofs.standing_one.Goals as goal

pub returns : goal.returns
returns c = standing_one
