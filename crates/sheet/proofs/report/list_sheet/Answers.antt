use Rattle.std.proofs.Common.{◌≡◌, length, sum, Ok, Err, MatchResult, ap, ◌∙◌, subst, arith}
use Rattle.std.proofs.lemmas.List.Concat.{length-flat_map}
use Rattle.std.proofs.lemmas.List.Sums.{sum-map}
use Rattle.book.specs.Held.{begun, draft_held}
use Rattle.columns.specs.AsRuns.{same_as_run}
use Rattle.script.specs.Listed.{cues_of}
use Rattle.sheet.proofs.Listed.{all_is}
use Rattle.sheet.proofs.report.list_sheet.Goals as goal

pub list_cues-requires-clause-size : goal.list_cues-requires-clause-size
list_cues-requires-clause-size c =
    let lens = ap sum (c.as_slice.ensures.value ∙ c.into_parts-events.ensures.lens) ∙ sum-map length (cues_of c.args.cues) in
    let events = ap length c.into_parts-events.ensures.events ∙ length-flat_map (λ xs. xs) (cues_of c.args.cues) in
    let parts = c.into_parts-events.result.0 in
    omega (arith, lens, events, parts.ok.0, parts.small)

pub returns : goal.returns
returns c =
    let events = c.into_parts-events.ensures.events in
    let held = c.in_ok-draft.ensures ∙ ap (begun same_as_run) events in
    let lens = c.as_slice.ensures.value ∙ c.into_parts-events.ensures.lens in
    let lines = c.len-lines.ensures ∙ (c.into_parts-events.result.0.ok.0 ∙ ap length events) in
    let told = subst (λ k. MatchResult c.args.end (λ x. c.end_at.result ≡ Ok x) (λ e. c.end_at.result ≡ Err (e, k))) (omega arith) c.end_at.ensures in
    all_is (cues_of c.args.cues) _ c.len-lines.result _ (draft_held c.list_cues.new.draft) _ _ _ _ _ c.args.end _
    held lens lines c.new-out.ensures.items c.in_ok-added.ensures told c.and.ensures c.in_ok-write_last.ensures
