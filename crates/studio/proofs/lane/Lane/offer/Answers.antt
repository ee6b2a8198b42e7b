use Rattle.std.proofs.Common.{rules}
use Rattle.studio.proofs.Marks.{marks_apart}
use Rattle.studio.proofs.lane.Lane.offer.Goals as goal

pub returns-then-end-last-clause-apart : goal.returns-then-end-last-clause-apart
returns-then-end-last-clause-apart c = marks_apart _ _ (search rules)

pub returns-then-events-eq0-clause-apart : goal.returns-then-events-eq0-clause-apart
returns-then-events-eq0-clause-apart c = marks_apart _ _ (search rules)

pub returns-clause-apart : goal.returns-clause-apart
returns-clause-apart c = marks_apart _ _ (search rules)
