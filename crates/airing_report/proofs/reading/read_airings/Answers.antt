use Rattle.std.proofs.Common.{◌≡◌, [], map, vec_items, ap, ◌∙◌, arith}
use Rattle.columns.specs.AsRuns.{values_of}
use Rattle.columns.specs.Lines.{lines_of}
use Rattle.airing_report.specs.Reading.{text_of}
use Rattle.airing_report.proofs.Steps.{first_text, said_is, said_short}
use Rattle.airing_report.proofs.reading.read_airings.Goals as goal

pub invariant_of-result : goal.invariant_of-result
invariant_of-result c =
    let log = lines_of c.in-Ok.log.now in
    let text = c.read_log.new.text in
    let whole = said_is c.args.input.now _ _ _ _ c.new-cues.ensures c.in-Ok.is c.in_ok-log.ensures in
    let is = first_text _ (vec_items text) (text_of log) c.new-text.ensures.items c.in_ok-end-in-Ok.ensures.text in
    let short = said_short c.args.input.now _ (vec_items text) whole is in
    record { short = omega (arith, text.ok.0) }

pub returns-in_ok-end-in-Ok : goal.returns-in_ok-end-in-Ok
returns-in_ok-end-in-Ok c =
    let log = lines_of c.in-Ok.log.now in
    let whole = said_is c.args.input.now _ _ _ _ c.new-cues.ensures c.in-Ok.is c.in_ok-log.ensures in
    let text = first_text _ (vec_items c.read_log.new.text) (text_of log) c.new-text.ensures.items c.in_ok-end-in-Ok.ensures.text in
    let end = c.err.ensures.value ∙ c.in_ok-end-in-Ok.ensures.end in
    cc

pub returns-in-Err : goal.returns-in-Err
returns-in-Err c =
    let whole = said_is c.args.input.now _ _ _ _ c.new-cues.ensures c.in-Err.is c.in_ok-log.ensures in
    let text : map values_of (vec_items c.new-text.result) ≡ [] = ap (map values_of) c.new-text.ensures.items in
    cc
