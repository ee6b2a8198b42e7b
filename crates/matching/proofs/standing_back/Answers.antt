-- A standing gives the beginning back, and names the lowest cue.
use Rattle.matching.proofs.Live.{standing_back}
use Rattle.matching.proofs.standing_back.Goals as goal

pub returns : goal.returns
returns c = standing_back
