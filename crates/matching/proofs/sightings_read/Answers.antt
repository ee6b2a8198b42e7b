-- The sightings are exactly the cues that end the text.
use Rattle.matching.proofs.Sightings.{sightings_read}
use Rattle.matching.proofs.sightings_read.Goals as goal

pub returns : goal.returns
returns c = sightings_read
