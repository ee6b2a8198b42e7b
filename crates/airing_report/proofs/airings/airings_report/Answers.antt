use Rattle.std.proofs.Common.{vec_items, ◌∙◌}
use Rattle.std.proofs.lemmas.Result.{IfOk-weaker}
use Rattle.script.specs.Report.{contents_of}
use Rattle.airing_report.proofs.Once.{reads_once}
use Rattle.airing_report.proofs.Reporting.{airings_once, airings_out, said_report, shorter}
use Rattle.airing_report.proofs.airings.airings_report.Goals as goal

pub returns-clause-value : goal.returns-clause-value
returns-clause-value c =
    airings_out c.report_input.result vec_items c.args.input.now c.report_input.ensures.long
    (λ short. IfOk-weaker c.report_input.result _ _ (λ v s. s.2 ∙ said_report c.args.input.now (contents_of s.0) s.1.1) (c.report_input.ensures.read short))

pub returns-clause-says : goal.returns-clause-says
returns-clause-says c = reads_once c.args.input.now

pub returns-clause-once : goal.returns-clause-once
returns-clause-once c = airings_once c.args.input.now

pub returns-clause-shorter : goal.returns-clause-shorter
returns-clause-shorter c = shorter c.args.input.now
