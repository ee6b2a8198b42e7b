use Rattle.std.proofs.Common.{vec_items, ap, ◌∙◌}
use Rattle.links_theory.specs.Entries.{path}
use Rattle.links_theory.proofs.Paths.{path_root}
use Rattle.links.specs.Tables.{cues_in}
use Rattle.links.proofs.Opened.{opened}
use Rattle.links.proofs.link_engine.calls.LinkEngineEngine.restart.Goals as goal

pub returns-clause-live : goal.returns-clause-live
returns-clause-live c =
    let e = c.args.self.now in
    let told = c.set_live.ensures in
    ap (λ t. path (cues_in t) (vec_items t.nodes) c.set_live.new.self.at) told.table ∙ ap (path (cues_in e.table) (vec_items e.table.nodes)) told.at ∙ path_root (cues_in e.table) (vec_items e.table.nodes) e.table.heads.value (opened e).sound
