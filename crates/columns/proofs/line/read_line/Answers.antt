use Rattle.std.proofs.Common.{◌∙◌, sym, ap, arith}
use Rattle.columns.specs.Lines.{read_line}
use Rattle.columns.proofs.Readings.{cues_by, log_by, read_err, seen_err}
use Rattle.columns.proofs.line.read_line.Goals as goal

pub returns-in-Cues-clause-value : goal.returns-in-Cues-clause-value
unfolding read_line
returns-in-Cues-clause-value c = grind arith

pub returns-in_ok-number-in-Cues-2-clause-value : goal.returns-in_ok-number-in-Cues-2-clause-value
returns-in_ok-number-in-Cues-2-clause-value c = grind (arith, cues_by c.args.line.now)

pub returns-in_err-number-in-Cues-2-clause-value : goal.returns-in_err-number-in-Cues-2-clause-value
returns-in_err-number-in-Cues-2-clause-value c =
    let l = c.args.line.now in
    seen_err _ _ c.from_residual.ensures.1
    ∙ sym (ap (λ s. read_line s l) c.in-Cues-2.is ∙ (cues_by l (sym c.is_ended.ensures ∙ c.if-is_ended.false) ∙ read_err _ _ _ c.in_err-number-in-Cues-2.ensures))

pub returns-in_ok-second-in-Log-clause-value : goal.returns-in_ok-second-in-Log-clause-value
returns-in_ok-second-in-Log-clause-value c = grind (arith, log_by c.args.line.now)

pub returns-in_err-second-in-Log-clause-value : goal.returns-in_err-second-in-Log-clause-value
returns-in_err-second-in-Log-clause-value c =
    let l = c.args.line.now in
    seen_err _ _ c.from_residual-in_err-second-in-Log.ensures.1
    ∙ sym (ap (λ s. read_line s l) c.in-Log.is ∙ (log_by l ∙ read_err _ _ _ c.in_err-second-in-Log.ensures))
