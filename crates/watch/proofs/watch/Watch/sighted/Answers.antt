use Rattle.std.proofs.Common.{length, ap, ◌∙◌}
use Rattle.watch.proofs.Runs.{sighted_right}
use Rattle.watch.proofs.watch.Watch.sighted.Goals as goal

pub returns : goal.returns
returns g c calls h = c.sighted.ensures ∙ ap length (sighted_right g.L.Engine c.args.self.now calls h)
