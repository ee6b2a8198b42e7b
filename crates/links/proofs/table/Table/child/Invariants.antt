use Rattle.std.proofs.Common.{vec_items}
use Rattle.links_theory.proofs.Chains.{Searched}
use Rattle.links.proofs.table.Table.child.Given as goal

abbrev pub invariant-loop-at : goal.invariant-loop-at
invariant-loop-at l = Searched (vec_items l.self.nodes) l.parent l.sign l.at

abbrev pub decreases-loop-at : goal.decreases-loop-at
decreases-loop-at l = l.at
