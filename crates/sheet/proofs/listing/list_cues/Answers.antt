use Rattle.std.proofs.Common.{◌≡◌, Some, get_or, vec_items, ◌∙◌, arith}
use Rattle.std.proofs.lemmas.List.{drop_more}
use Rattle.book.specs.Held.{add_refused, draft_held}
use Rattle.columns.specs.AsRuns.{same_as_run}
use Rattle.sheet.proofs.Listed.{listed_refused}
use Rattle.sheet.proofs.listing.list_cues.Goals as goal

pub returns-in-Err : goal.returns-in-Err
returns-in-Err c lines stop =
    let more = drop_more c.args.lens.now c.loop-len.len-index 0 c.loop-len-test.true in
    let why : add_refused same_as_run (draft_held c.loop-len.draft) c.loop-len.place (get_or c.args.lens.now c.loop-len.len-index 0) ≡ Some c.in-Err.refusal =
    grind (arith, c.in-Err.ensures.same c.loop-len.invariant.2) in
    let written = listed_refused same_as_run (draft_held c.loop-len.draft) (vec_items c.loop-len.out) c.loop-len.place _ _ _ lines stop c.in-Err.refusal more why ∙ c.loop-len.invariant.1 lines stop in
    grind (arith, written)
