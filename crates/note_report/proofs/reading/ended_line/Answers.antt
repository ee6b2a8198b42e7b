use Rattle.std.proofs.Common.{◌∷◌, ◌++◌, sym, ap, ◌∙◌}
use Rattle.note_report.proofs.Breaks.{front_unbroken, first_split, no_end}
use Rattle.note_report.proofs.reading.ended_line.Goals as goal

pub returns-then-last-ne10 : goal.returns-then-last-ne10
returns-then-last-ne10 c = no_end _ _ _ _ c.split_line.ensures.front c.in_ok-last.ensures.cases.0 c.if-last-ne10.true

pub returns : goal.returns
returns c =
    let line = sym c.split_line.ensures.front ∙ c.in_ok-last.ensures.cases.0 in
    let t = c.in_ok-last.bytes.now in
    let rest = c.split_line.result.1.now in
    (first_split c.args.input.now t rest _ line c.split_line.ensures.back ∙ ap (λ l. t ++ (l ∷ rest)) c.if-last-ne10.false, front_unbroken c.args.input.now t _ line)
