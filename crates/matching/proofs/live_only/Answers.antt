-- No list but the live beginning is the longest beginning that ends the text.
use Rattle.matching.proofs.Live.{live_only}
use Rattle.matching.proofs.live_only.Goals as goal

pub returns : goal.returns
returns c = live_only
