use Rattle.std.proofs.Common.{refl}
use Rattle.watch.proofs.Runs.{taken}
use Rattle.watch.proofs.watch.Watch.take.Goals as goal

pub returns-clause-leads : goal.returns-clause-leads
returns-clause-leads g c = taken g.L.Engine c.args.self.now _ c.args.sign c.if-self-ge-TEXT.false c.step.ensures.cues c.step.ensures.live c.step.ensures.cost refl
