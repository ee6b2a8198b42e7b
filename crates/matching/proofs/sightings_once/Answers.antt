-- None of several distinct cues is sighted twice.
use Rattle.matching.proofs.Sightings.{sightings_once}
use Rattle.matching.proofs.sightings_once.Goals as goal

pub returns : goal.returns
returns c = sightings_once
