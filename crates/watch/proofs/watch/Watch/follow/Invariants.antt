use Rattle.std.proofs.Common.{◌≡◌, ℕ, ◌≤◌, true, List, length}
use Rattle.book.specs.Held.{book_held, lookups}
use Rattle.matching.specs.Match.{beginning, sightings}
use Rattle.watch.proofs.Sofar.{Sofar}
use Rattle.watch.proofs.watch.Watch.follow.Given as goal

abbrev pub invariant-loop-taken : goal.invariant-loop-taken
invariant-loop-taken g l =
    (l.written ≤ length l.initial.entries) ×
    (beginning (g.L.Engine.cues l.initial.self.engine) (g.L.Engine.live l.initial.self.engine) ≡ true →
    ((t : List ℕ) → length (sightings (g.L.Engine.cues l.initial.self.engine) t) ≤ 32) →
    Sofar (g.L.Engine.cues l.initial.self.engine) (g.L.Engine.live l.initial.self.engine) l.initial.self.len (g.L.Engine.cost l.initial.self.engine)
    (lookups g.E.Event.same (book_held l.book) l.events) l.initial.entries l.taken l.written
    (g.L.Engine.cues l.self.engine) (g.L.Engine.live l.self.engine) l.self.len (g.L.Engine.cost l.self.engine) l.entries)
