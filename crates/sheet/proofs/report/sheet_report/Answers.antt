use Rattle.std.proofs.Common.{◌≡◌, false, ltb, length, vec_items, IfOk, subst, arith}
use Rattle.std.proofs.lemmas.Bool.Decides.{nat_tests}
use Rattle.cue_lines.specs.Reading.{values_in}
use Rattle.sheet.proofs.Reading.{report_is}
use Rattle.sheet.proofs.report.sheet_report.Goals as goal

pub returns : goal.returns
returns c =
    let short : ltb 32768 (length c.args.input.now) ≡ false = grind (arith, nat_tests) in
    let all = report_is c.args.input.now _ (values_in c.read_cues.new.cues) c.in_ok-behind.behind _ c.and.result c.new-cues.ensures c.in_ok-behind.ensures c.and.ensures short in
    subst (λ xs. IfOk c.list_sheet.result (λ v. vec_items v ≡ xs)) all c.list_sheet.ensures
