-- What is sighted after more signs depends on what is live alone.
use Rattle.matching.proofs.Sightings.{sightings_live}
use Rattle.matching.proofs.sightings_live.Goals as goal

pub returns : goal.returns
returns c = sightings_live
