-- What a watch holds answers for the text that counts.
use Rattle.matching.proofs.Calls.{held_right}
use Rattle.matching.proofs.held_right.Goals as goal

pub returns : goal.returns
returns c = held_right
