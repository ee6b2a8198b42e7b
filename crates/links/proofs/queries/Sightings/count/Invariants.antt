use Rattle.std.proofs.Common.{◌≡◌, ◌+◌, ◌<◌, length, vec_items}
use Rattle.links.specs.Tables.{seen_at}
use Rattle.links.proofs.queries.Sightings.count.Given as goal

abbrev pub invariant-loop-link : goal.invariant-loop-link
invariant-loop-link l = (l.link < length (vec_items l.self.table.now.nodes)) × (l.count + length (seen_at l.self.table.now l.link) ≡ length (seen_at l.self.table.now l.self.at))

abbrev pub decreases-loop-link : goal.decreases-loop-link
decreases-loop-link l = l.link
