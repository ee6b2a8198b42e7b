use Rattle.std.proofs.Common.{vec_items, ap, ◌∙◌}
use Rattle.links_theory.proofs.Walks.{standing_entry}
use Rattle.links.specs.Tables.{cues_in}
use Rattle.links.proofs.Opened.{opened}
use Rattle.links.proofs.link_engine.calls.LinkEngineEngine.standing.Goals as goal

pub returns : goal.returns
returns c =
    let e = c.args.self.now in
    ap (λ n. (n.cue, n.len)) c.node-node.ensures ∙ standing_entry (cues_in e.table) (vec_items e.table.nodes) e.table.heads.value (opened e).sound e.at (opened e).within
