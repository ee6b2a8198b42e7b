-- No list but the sightings has exactly the cues that end the text, by falling length.
use Rattle.matching.proofs.Sightings.{sightings_only}
use Rattle.matching.proofs.sightings_only.Goals as goal

pub returns : goal.returns
returns c = sightings_only
