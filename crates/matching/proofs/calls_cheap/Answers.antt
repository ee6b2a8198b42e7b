-- After any calls, the trials are at most twice the signs taken and the length resumed.
use Rattle.matching.proofs.Calls.{calls_cheap}
use Rattle.matching.proofs.calls_cheap.Goals as goal

pub returns : goal.returns
returns c = calls_cheap
