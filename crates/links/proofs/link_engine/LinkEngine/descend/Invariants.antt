use Rattle.std.proofs.Common.{◌≡◌, ◌<◌, [], length, get_or, take, vec_items}
use Rattle.links_theory.specs.Entries.{path}
use Rattle.links.specs.Engines.{engine_cues}
use Rattle.links.proofs.link_engine.LinkEngine.descend.Given as goal

abbrev pub invariant-loop-sign : goal.invariant-loop-sign
invariant-loop-sign l = (l.at < length (vec_items l.self.table.nodes)) × (path (engine_cues l.self) (vec_items l.self.table.nodes) l.at ≡ take l.sign-index (get_or (engine_cues l.self) l.number []))
