use Rattle.std.proofs.Common.{ap, ◌∙◌}
use Rattle.engine.specs.Statements.{ith}
use Rattle.watch.proofs.Runs.{sighted_right, listed_right}
use Rattle.watch.proofs.watch.Watch.sighting.Goals as goal

pub returns : goal.returns
returns g c =
    let w = c.args.self.now in
    record {
      value = λ calls h. c.sighting.ensures ∙ ap (ith c.args.i) (sighted_right g.L.Engine w calls h);
      listed = listed_right g.L.Engine w;
    }
