use Rattle.std.proofs.Common.{◌≡◌, vec_items, vec_capacity}
use Rattle.links_theory.specs.Entries.{Marked}
use Rattle.links_theory.proofs.Marks.{Grown}
use Rattle.links.specs.Tables.{cues_in}
use Rattle.links.proofs.table.Table.mark.Given as goal

-- the entries are the fourth part of the open table; the other lists stay as they are
abbrev pub invariant-loop-number : goal.invariant-loop-number
invariant-loop-number l =
    Grown (cues_in l.fn.self) (vec_items l.self.1.1.1.0) l.fn.self.heads.value l.at-items × Marked (cues_in l.fn.self) (vec_items l.self.1.1.1.0) l.number × (vec_capacity l.self.1.1.1.0 ≡ vec_capacity l.fn.self.nodes)
