use Rattle.std.proofs.Common.{[], sym, ap, ◌∙◌, arith}
use Rattle.std.proofs.lemmas.Bool.{eqb-false}
use Rattle.script.specs.Listed.{cues_of}
use Rattle.note_report.specs.Reading.{read_behind}
use Rattle.note_report.proofs.Steps.{read_open, read_line_lem, shorter}
use Rattle.note_report.proofs.reading.read_notes.Goals as goal

pub loop-cue-preserved : goal.loop-cue-preserved
loop-cue-preserved c =
    let line = c.in-Some.ensures in
    let cues = cues_of c.loop-cue.cues in
    let behind = c.in-Some.behind.now in
    let read = read_line_lem cues c.in-Some.cue.now behind _ line.0 (omega (arith, eqb-false _ _ (sym c.if-is_empty.ensures)), line.1) in
    (ap (λ cs. read_behind cs [] behind) c.in_ok-add_cue.ensures ∙ (sym read ∙ c.loop-cue.invariant.0), omega (arith, shorter _ _ _ line.0))

pub returns : goal.returns
returns c = c.without_text.ensures ∙ (sym (read_open (cues_of c.loop-cue.cues) [] _ c.in_default.ensures) ∙ c.loop-cue.invariant.0)
