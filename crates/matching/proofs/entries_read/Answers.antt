-- The entries written are exactly the sightings at the signs that were followed.
use Rattle.matching.proofs.Follow.{entries_read}
use Rattle.matching.proofs.entries_read.Goals as goal

pub returns : goal.returns
returns c = entries_read
