-- What a link engine means.
use Rattle.std.specs.Prelude.{ℕ, List, vec_items}
use Rattle.links_theory.specs.Entries.{path}
use Rattle.links.specs.Tables.{cues_in}
use Rattle.links.specs.declared.link_engine.LinkEngine.{LinkEngine}

-- the cues that it has copied from the book
abbrev pub engine_cues : LinkEngine → List (List ℕ)
engine_cues e = cues_in e.table

-- the beginning of its entry
abbrev pub engine_live : LinkEngine → List ℕ
engine_live e = path (cues_in e.table) (vec_items e.table.nodes) e.at
