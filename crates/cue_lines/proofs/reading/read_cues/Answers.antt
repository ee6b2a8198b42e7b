use Rattle.std.proofs.Common.{Ok, sym, ap, ◌∙◌, rules}
use Rattle.script.specs.Listed.{cues_of}
use Rattle.cue_lines.specs.Reading.{step_of_row}
use Rattle.cue_lines.proofs.Steps.{read_more}
use Rattle.cue_lines.proofs.reading.read_cues.Goals as goal

pub loop-rest-preserved-in_ok-extend-in-Ok-More : goal.loop-rest-preserved-in_ok-extend-in-Ok-More
loop-rest-preserved-in_ok-extend-in-Ok-More c =
    let step = ap (λ row. step_of_row (Ok row)) (sym c.in-Ok-More.field-0-is) ∙ c.in-Ok-More.ensures in
    read_more (cues_of c.loop-rest.cues) _ _ _ _ _ c.in-Ok-More.event (c.split_line.ensures.lines (search rules)) c.count.ensures step c.in_ok-extend-in-Ok-More.ensures ∙ c.loop-rest.invariant
