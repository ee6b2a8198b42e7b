-- The lengths of the sightings of distinct cues fall strictly.
use Rattle.matching.proofs.Sightings.{sightings_fall}
use Rattle.matching.proofs.sightings_fall.Goals as goal

pub returns : goal.returns
returns c = sightings_fall
