use Rattle.std.proofs.Common.{◌≡◌, ◌<◌, IfOk, length, vec_items, ap, ◌∙◌, subst, arith}
use Rattle.std.proofs.lemmas.List.{length-map}
use Rattle.std.specs.Result.{result_err}
use Rattle.events.specs.Sameness.{Lawful}
use Rattle.book.specs.Held.{book_held, cue_signs, draft_held, lookups}
use Rattle.script.proofs.Booked.{lines_are}
use Rattle.script.proofs.Tiling.{length_events}
use Rattle.script.specs.Listed.{cues_of}
use Rattle.script.specs.Report.{contents_of, line_count}
use Rattle.script.specs.Steps.{Books}
use Rattle.report.specs.Reached.{Wrote}
use Rattle.report.proofs.Final.{cue_is, held_begun, lens_small, lines_small, stop_is, text_out}
use Rattle.report.proofs.whole.write_report.Given.{Over}
use Rattle.report.proofs.whole.write_report.Goals.{After-book_cues}
use Rattle.report.proofs.whole.write_report.Goals as goal

pub book_cues-requires : goal.book_cues-requires
book_cues-requires g c =
    let events = c.into_parts-events.result.0 in
    lens_small (cues_of c.args.script.cues) c.as_slice.result.now (vec_items events) 9223372036854775808 (c.as_slice.ensures.value ∙ c.into_parts-events.ensures.lens) c.into_parts-events.ensures.events (omega (arith, events.ok.0, events.small))

-- What adding the cues came to, and how many lines they take up.
books : (g : Over) (c : After-book_cues g) → Books g.E.Event.same c.args.layout (cues_of c.args.script.cues) (result_err c.book_cues.result) (draft_held c.book_cues.new.draft)
books g c =
    c.book_cues.ensures (cues_of c.args.script.cues) (c.as_slice.ensures.value ∙ c.into_parts-events.ensures.lens) (held_begun g.E.Event.same (cues_of c.args.script.cues) _ _ c.into_parts-events.ensures.events c.in_ok-draft.ensures)

lines : (g : Over) (c : After-book_cues g) → c.lines_of-lines.result ≡ line_count c.args.layout (cues_of c.args.script.cues)
lines g c =
    let events = c.into_parts-events.result.0 in
    let lens = c.into_parts-events.result.1 in
    let cues = cues_of c.args.script.cues in
    lines_are c.args.layout cues c.len.result c.len-2.result c.lines_of-lines.result (c.len.ensures ∙ (lens.ok.0 ∙ (ap length c.into_parts-events.ensures.lens ∙ length-map cues length))) (c.len-2.ensures ∙ (events.ok.0 ∙ (ap length c.into_parts-events.ensures.events ∙ length_events cues))) c.lines_of-lines.ensures

few : (g : Over) (c : After-book_cues g) → c.lines_of-lines.result < 9223372036854775808
few g c =
    let events = c.into_parts-events.result.0 in
    let lens = c.into_parts-events.result.1 in
    lines_small c.args.layout c.len.result c.len-2.result c.lines_of-lines.result 9223372036854775808 c.lines_of-lines.ensures (omega (arith, c.len.ensures, lens.small)) (omega (arith, c.len-2.ensures, events.small))

pub returns-in-Err : goal.returns-in-Err
returns-in-Err g c =
    subst (λ xs. IfOk c.refuse.result (λ v. vec_items v ≡ xs))
    (cue_is g.E.Event.same c.args.layout (contents_of c.args.script) (result_err c.book_cues.result) c.in-Err.refusal c.in-Err.line (draft_held c.book_cues.new.draft) (books g (goal.at.returns-in-Err g c).After-book_cues) (ap result_err c.in-Err.is))
    c.refuse.ensures

pub overflow_add-lines : goal.overflow_add-lines
overflow_add-lines g c = omega (arith, few g (goal.at.overflow_add-lines g c).After-book_cues)

pub returns-in-Some : goal.returns-in-Some
returns-in-Some g c =
    let b = (goal.at.returns-in-Some g c).After-book_cues in
    subst (λ xs. IfOk c.refuse-in-Some.result (λ v. vec_items v ≡ xs))
    (stop_is g.E.Event.same c.args.layout (contents_of c.args.script) (result_err c.book_cues.result) c.in-Some.refusal c.lines_of-lines.result (draft_held c.book_cues.new.draft) (books g b) (ap result_err c.in_default.is) c.in-Some.is (lines g b))
    c.refuse-in-Some.ensures

pub overflow_add-lines-2 : goal.overflow_add-lines-2
overflow_add-lines-2 g c = omega (arith, few g (goal.at.overflow_add-lines-2 g c).After-book_cues, c.len-events.ensures, c.args.script.short)

pub overflow_add-lines-3 : goal.overflow_add-lines-3
overflow_add-lines-3 g c = omega (arith, few g (goal.at.overflow_add-lines-3 g c).After-book_cues, c.len-events.ensures, c.args.script.short)

pub returns : goal.returns
returns g c =
    let same = g.E.Event.same in
    let b = (goal.at.returns g c).After-book_cues in
    let law : Lawful g.E.Event.same = record { reflexive = g.met.E.Event.reflexive; symmetric = g.met.E.Event.symmetric; transitive = g.met.E.Event.transitive } in
    let s = contents_of c.args.script in
    let wrote = subst (λ xs. Wrote (cue_signs (book_held c.seal-book.result)) (lookups same (book_held c.seal-book.result) xs) (vec_items c.new-out.result) (vec_items c.list_runs.new.out) c.in_ok-sightings.sightings) c.as_slice-2.ensures.value c.in_ok-sightings.ensures in
    text_out same c.args.layout s law (result_err c.book_cues.result) (draft_held c.book_cues.new.draft) (book_held c.seal-book.result) (vec_items c.new-out.result) (vec_items c.list_runs.new.out) _ c.lines_of-lines.result c.len-events.result c.in_ok-sightings.sightings
    (books g b) (ap result_err c.in_default.is) c.in_default-stop.is c.seal-book.ensures.held c.seal-book.result.bounded (lines g b) (c.len-events.ensures ∙ c.args.script.text.ok.0) c.new-out.ensures.items wrote c.in_ok-write_last.ensures
