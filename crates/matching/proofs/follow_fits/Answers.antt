-- No more is followed than is there, and no more is written than is free.
use Rattle.matching.proofs.Follow.{follow_fits}
use Rattle.matching.proofs.follow_fits.Goals as goal

pub returns : goal.returns
returns c = follow_fits
