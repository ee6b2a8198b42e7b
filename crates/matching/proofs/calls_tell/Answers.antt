-- After any calls, standings are equal exactly when nothing put behind tells the texts apart.
use Rattle.matching.proofs.Calls.{calls_tell}
use Rattle.matching.proofs.calls_tell.Goals as goal

pub returns : goal.returns
returns c = calls_tell
