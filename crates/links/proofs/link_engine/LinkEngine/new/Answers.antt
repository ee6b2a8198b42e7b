use Rattle.std.proofs.Common.{vec_items, refl}
use Rattle.links_theory.proofs.Paths.{path_root}
use Rattle.links.specs.Tables.{cues_in}
use Rattle.links.proofs.link_engine.LinkEngine.new.Goals as goal

pub returns : goal.returns
returns c =
    let told = c.rebuild.ensures in
    let t = c.rebuild.new.self in
    (told.cues, path_root (cues_in t) (vec_items t.nodes) t.heads.value told.ready.sound, refl)
