-- Room alone decides a load, where no two cues are equal and none is longer than 32.
use Rattle.matching.proofs.Calls.{endings_few}
use Rattle.matching.proofs.endings_few.Goals as goal

pub returns : goal.returns
returns c = endings_few
