-- A standing that was answered can be resumed, and brings the live beginning back.
use Rattle.matching.proofs.Calls.{resume_back}
use Rattle.matching.proofs.resume_back.Goals as goal

pub returns : goal.returns
returns c = resume_back
