use Rattle.links.specs.Tables.{Building, Kept}
use Rattle.links.proofs.table.Table.build.Given as goal

abbrev pub invariant-loop-k : goal.invariant-loop-k
invariant-loop-k l = Building l.self l.k 0 × Kept l.initial.self l.self
