-- Each call keeps what a watch holds.
use Rattle.matching.proofs.Calls.{calls_kept}
use Rattle.matching.proofs.calls_kept.Goals as goal

pub returns : goal.returns
returns c = calls_kept
