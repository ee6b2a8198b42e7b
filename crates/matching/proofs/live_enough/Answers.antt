-- What is live after more signs depends on what is live alone.
use Rattle.matching.proofs.Live.{live_enough}
use Rattle.matching.proofs.live_enough.Goals as goal

pub returns : goal.returns
returns c = live_enough
