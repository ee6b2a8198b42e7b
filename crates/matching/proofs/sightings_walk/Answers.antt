-- The sightings, by the links.
use Rattle.matching.proofs.Sightings.{sightings_walk}
use Rattle.matching.proofs.sightings_walk.Goals as goal

pub returns : goal.returns
returns c = sightings_walk
