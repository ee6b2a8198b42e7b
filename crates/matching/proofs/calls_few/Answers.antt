-- After any calls, no text has more than 32 sightings.
use Rattle.matching.proofs.Calls.{calls_few}
use Rattle.matching.proofs.calls_few.Goals as goal

pub returns : goal.returns
returns c = calls_few
