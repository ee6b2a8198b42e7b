use Rattle.std.proofs.lemmas.Result.{IfOk-weaker}
use Rattle.report.proofs.whole.report_input.Goals as goal

pub returns-clause-read : goal.returns-clause-read
returns-clause-read g c short = IfOk-weaker c.report.result _ _ (λ v is. (c.in_ok-read.field-0, c.in_ok-read.ensures, is)) c.report.ensures.value
