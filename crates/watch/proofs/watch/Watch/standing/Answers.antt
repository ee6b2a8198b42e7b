use Rattle.watch.proofs.Runs.{tells_right}
use Rattle.watch.proofs.watch.Watch.standing.Goals as goal

pub returns-clause-tells : goal.returns-clause-tells
returns-clause-tells g c = tells_right g.L.Engine c.args.self.now
