use Rattle.bits_theory.proofs.Longest.{sightings_count}
use Rattle.bits_theory.proofs.count_right.Goals as goal

pub returns : goal.returns
returns c = sightings_count
