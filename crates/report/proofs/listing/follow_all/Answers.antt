use Rattle.std.proofs.Common.{◌+◌, ◌<◌, length, vec_items, sym, subst, arith}
use Rattle.std.proofs.lemmas.Bool.{eqb-false}
use Rattle.std.proofs.lemmas.List.{length-drop, take_rest}
use Rattle.book.specs.Held.{book_held, cue_signs}
use Rattle.report.proofs.Going.{RoundOf, Underway, underway_more}
use Rattle.report.proofs.listing.follow_all.Given.{Over}
use Rattle.report.proofs.listing.follow_all.Goals.{After-follow-followed}
use Rattle.report.proofs.listing.follow_all.Goals as goal

-- What this round comes to.
round : (g : Over) (c : After-follow-followed g) →
    RoundOf g.L.Engine g.E.Event.same (book_held c.args.book.now) (cue_signs (book_held c.args.book.now)) c.args.events.now (vec_items c.args.out.now)
    c.follow-followed.new.self c.loop-rest.rest.now (vec_items c.loop-rest.out) c.loop-rest.sightings c.follow-followed.new.entries c.follow-followed.result
round g c =
    underway_more g.L.Engine g.E.Event.same (book_held c.args.book.now) (cue_signs (book_held c.args.book.now)) c.args.events.now (vec_items c.args.out.now)
    c.loop-rest.watch c.follow-followed.new.self c.loop-rest.rest.now (vec_items c.loop-rest.out) c.loop-rest.sightings c.loop-rest.entries c.follow-followed.new.entries c.follow-followed.result
    c.loop-rest.invariant (omega (arith, eqb-false _ _ (sym c.loop-rest-test.ensures))) c.requires.short (omega (arith, c.requires.room, c.loop-rest.auto.entries)) c.follow-followed.auto.entries
    c.follow-followed.ensures.answer c.follow-followed.ensures.leads

pub overflow_add-sightings : goal.overflow_add-sightings
overflow_add-sightings g c = let t = round g (goal.at.overflow_add-sightings g c).After-follow-followed in omega (arith, t.small, c.requires.short)

pub offset_bounds-rest-followed : goal.offset_bounds-rest-followed
offset_bounds-rest-followed g c = (round g (goal.at.offset_bounds-rest-followed g c).After-follow-followed).within

pub slice_bounds-rest-count : goal.slice_bounds-rest-count
slice_bounds-rest-count g c = (round g (goal.at.slice_bounds-rest-count g c).After-follow-followed).within

pub slice_bounds-rest-start : goal.slice_bounds-rest-start
slice_bounds-rest-start g c = (round g (goal.at.slice_bounds-rest-start g c).After-follow-followed).within

pub loop-rest-smaller : goal.loop-rest-smaller
loop-rest-smaller g c =
    let t = round g (goal.at.loop-rest-smaller g c).After-follow-followed in
    let rest = c.loop-rest.rest.now in
    subst (λ xs. length xs < length rest) (sym (take_rest rest c.follow-followed.result.taken)) (omega (arith, t.some, t.within, length-drop c.follow-followed.result.taken rest))

pub loop-rest-preserved : goal.loop-rest-preserved
loop-rest-preserved g c =
    let t = round g (goal.at.loop-rest-preserved g c).After-follow-followed in
    subst (λ xs. Underway g.L.Engine g.E.Event.same (book_held c.args.book.now) (cue_signs (book_held c.args.book.now)) c.args.events.now (vec_items c.args.out.now)
    c.follow-followed.new.self xs (vec_items c.write_entries.new.out) (c.loop-rest.sightings + c.follow-followed.result.written))
    (sym (take_rest c.loop-rest.rest.now c.follow-followed.result.taken)) (t.next _ c.in_ok-write_entries.ensures)
