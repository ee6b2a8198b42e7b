-- The live beginning is the longest beginning that ends the text.
use Rattle.matching.proofs.Live.{live_right}
use Rattle.matching.proofs.live_right.Goals as goal

pub returns : goal.returns
returns c = live_right
