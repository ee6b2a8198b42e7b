-- The test for an ending, of a text, of what is live and of one more sign.
use Rattle.matching.proofs.Endings.{ends_read}
use Rattle.matching.proofs.ends_read.Goals as goal

pub returns : goal.returns
returns c = ends_read
