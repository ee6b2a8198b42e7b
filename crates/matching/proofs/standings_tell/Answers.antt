-- Standings are equal exactly when nothing put behind tells the texts apart.
use Rattle.matching.proofs.Standings.{standings_tell}
use Rattle.matching.proofs.standings_tell.Goals as goal

pub returns : goal.returns
returns c = standings_tell
