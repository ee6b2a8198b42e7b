use Rattle.std.proofs.Common.{[], ◌∷◌, ◌++◌, get_or, take, sym, ap, ◌∙◌}
use Rattle.std.proofs.lemmas.List.{take_more}
use Rattle.script.specs.Listed.{behind_last, cues_of}
use Rattle.note_report.proofs.Bytes.{behind_last_lem}
use Rattle.note_report.proofs.reading.add_cue.Goals as goal

pub loop-b-preserved : goal.loop-b-preserved
loop-b-preserved c =
    let first = c.loop-b.invariant.0 in
    let others = c.unwrap.result.1.now in
    let i = c.loop-b.b-index in
    let before = cues_of c.args.cues.now in (
      first,
      c.loop-b.invariant.1,
      c.in_ok-extend.ensures ∙
          (ap (λ cs. behind_last cs (get_or others i 0)) c.loop-b.invariant.2 ∙
          (behind_last_lem before (first ∷ take i others) (get_or others i 0) ∙ ap (λ t. before ++ (first ∷ t) ∷ []) (sym (take_more others i 0 c.loop-b-test.true)))),
    )
