use Rattle.std.proofs.Common.{◌≡◌, List, [], map, length, take, sum}
use Rattle.book.specs.Held.{draft_held}
use Rattle.script.proofs.Booked.{SoFar}
use Rattle.script.specs.Booking.{held_with}
use Rattle.report.proofs.booking.book_cues.Given as goal

abbrev pub invariant-loop-i : goal.invariant-loop-i
invariant-loop-i g l =
    (l.place ≡ sum (take l.i l.lens)) ×
    ((cues : List (List g.row.E.Denot)) → l.lens ≡ map length cues → draft_held l.initial.draft ≡ held_with g.E.Event.same cues [] → SoFar g.E.Event.same l.layout cues l.i (draft_held l.draft))
