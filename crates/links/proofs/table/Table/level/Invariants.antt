use Rattle.links.specs.Tables.{Building, Kept}
use Rattle.links.proofs.table.Table.level.Given as goal

abbrev pub invariant-loop-number : goal.invariant-loop-number
invariant-loop-number l = Building l.self l.k l.number × Kept l.initial.self l.self
