-- Two engines that grant the same loads come to one account.
use Rattle.matching.proofs.Calls.{rooms_alike}
use Rattle.matching.proofs.rooms_alike.Goals as goal

pub returns : goal.returns
returns c = rooms_alike
