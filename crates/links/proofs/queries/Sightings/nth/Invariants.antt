use Rattle.std.proofs.Common.{◌≡◌, ◌+◌, ◌<◌, length, drop, vec_items}
use Rattle.engine.specs.Statements.{ith}
use Rattle.links.specs.Tables.{seen_at}
use Rattle.links.proofs.queries.Sightings.nth.Given as goal

abbrev pub invariant-loop-at : goal.invariant-loop-at
invariant-loop-at l =
    (l.at < length (vec_items l.self.table.now.nodes)) × (ith (l.left + 1) (seen_at l.self.table.now l.at) ≡ ith (l.n + 1) (seen_at l.initial.self.table.now l.initial.self.at)) × (drop (l.left + 1) (seen_at l.self.table.now l.at) ≡ drop (l.n + 1) (seen_at l.initial.self.table.now l.initial.self.at))

abbrev pub decreases-loop-at : goal.decreases-loop-at
decreases-loop-at l = l.at
