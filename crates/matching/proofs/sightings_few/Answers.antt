-- There are no more sightings of distinct cues than the longest cue has signs.
use Rattle.matching.proofs.Sightings.{sightings_few}
use Rattle.matching.proofs.sightings_few.Goals as goal

pub returns : goal.returns
returns c = sightings_few
