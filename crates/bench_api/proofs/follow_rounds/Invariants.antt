use Rattle.std.proofs.Common.{length}
use Rattle.bench_api.proofs.follow_rounds.Given as goal

abbrev pub decreases-loop-rest : goal.decreases-loop-rest
decreases-loop-rest l = length l.rest
