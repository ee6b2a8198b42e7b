use Rattle.std.proofs.Common.{length, vec_items}
use Rattle.book.specs.Held.{book_held, cue_signs}
use Rattle.report.proofs.Going.{Underway}
use Rattle.report.proofs.listing.follow_all.Given as goal

abbrev pub invariant-loop-rest : goal.invariant-loop-rest
invariant-loop-rest g l =
    Underway g.L.Engine g.E.Event.same (book_held l.book) (cue_signs (book_held l.book)) l.events (vec_items l.initial.out) l.watch l.rest (vec_items l.out) l.sightings

abbrev pub decreases-loop-rest : goal.decreases-loop-rest
decreases-loop-rest g l = length l.rest
