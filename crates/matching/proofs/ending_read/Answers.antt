-- Why following ends.
use Rattle.matching.proofs.Follow.{ending_read}
use Rattle.matching.proofs.ending_read.Goals as goal

pub returns : goal.returns
returns c = ending_read
