use Rattle.script.proofs.Once.{reported_once}
use Rattle.script.specs.Report.{contents_of}
use Rattle.report.proofs.whole.report.Goals as goal

pub returns-clause-once : goal.returns-clause-once
returns-clause-once g c =
    reported_once g.E.Event.same (record { reflexive = g.met.E.Event.reflexive; symmetric = g.met.E.Event.symmetric; transitive = g.met.E.Event.transitive }) c.args.layout (contents_of c.args.script)
