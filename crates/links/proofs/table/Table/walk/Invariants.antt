use Rattle.std.proofs.Common.{vec_items}
use Rattle.links_theory.specs.Entries.{node_at}
use Rattle.links_theory.proofs.Walks.{Walking}
use Rattle.links.specs.Tables.{cues_in}
use Rattle.links.proofs.table.Table.walk.Given as goal

abbrev pub invariant-loop-child : goal.invariant-loop-child
invariant-loop-child l = Walking (cues_in l.self) (vec_items l.self.nodes) l.from l.sign l.at l.trials

abbrev pub decreases-loop-child : goal.decreases-loop-child
decreases-loop-child l = (node_at (vec_items l.self.nodes) l.at).len
