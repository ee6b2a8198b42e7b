-- The link is the longest shorter beginning that ends a list.
use Rattle.matching.proofs.Live.{link_right}
use Rattle.matching.proofs.link_right.Goals as goal

pub returns : goal.returns
returns c = link_right
