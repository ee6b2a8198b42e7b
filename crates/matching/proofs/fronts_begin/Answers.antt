-- A front of a beginning is a beginning.
use Rattle.matching.proofs.Live.{beginning_front}
use Rattle.matching.proofs.fronts_begin.Goals as goal

pub returns : goal.returns
returns c = beginning_front
