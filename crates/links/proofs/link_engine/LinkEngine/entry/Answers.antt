use Rattle.std.proofs.Common.{[], get_or, take, vec_items, sym, ap, ◌∙◌}
use Rattle.links_theory.proofs.Paths.{path_root}
use Rattle.links.specs.Engines.{engine_cues}
use Rattle.links.proofs.Opened.{opened}
use Rattle.links.proofs.link_engine.LinkEngine.entry.Goals as goal

pub returns-then-standing-eq0-clause-path : goal.returns-then-standing-eq0-clause-path
returns-then-standing-eq0-clause-path c =
    let e = c.args.self.now in
    path_root (engine_cues e) (vec_items e.table.nodes) e.table.heads.value (opened e).sound ∙ ap (λ n. take n (get_or (engine_cues e) c.args.standing.0 [])) (sym c.if-standing-eq0.true)
