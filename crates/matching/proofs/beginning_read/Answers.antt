-- A list is a beginning exactly when it is empty or a front of some cue.
use Rattle.matching.proofs.Live.{beginning_read}
use Rattle.matching.proofs.beginning_read.Goals as goal

pub returns : goal.returns
returns c = beginning_read
