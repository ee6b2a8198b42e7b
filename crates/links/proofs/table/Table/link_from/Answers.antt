use Rattle.std.proofs.Common.{◌+◌, vec_items, sym, subst, arith}
use Rattle.links_theory.specs.Entries.{node_at, Complete, Walked}
use Rattle.links_theory.proofs.Walks.{link_path, link_root, link_walked, complete_less}
use Rattle.links.specs.Tables.{cues_in}
use Rattle.links.proofs.table.Table.link_from.Goals as goal

pub returns-then-parent-eq0-clause-link : goal.returns-then-parent-eq0-clause-link
returns-then-parent-eq0-clause-link c =
    let t = c.args.self.now in
    link_root (cues_in t) (vec_items t.nodes) t.heads.value c.requires.sound c.args.parent c.args.sign c.if-parent-eq0.true

pub walk-requires-clause-full : goal.walk-requires-clause-full
walk-requires-clause-full c =
    let t = c.args.self.now in
    let l = link_path (cues_in t) (vec_items t.nodes) t.heads.value c.requires.sound c.args.parent (omega (arith, c.if-parent-eq0.false)) (omega (arith, c.requires.within, t.nodes.ok.0)) in
    subst (λ n. Complete (cues_in t) (vec_items t.nodes) ((node_at (vec_items t.nodes) n.link).len + 1)) (sym c.node-link.ensures)
    (complete_less (cues_in t) (vec_items t.nodes) _ _ (omega (arith, l.2)) c.requires.full)

pub returns-clause-link : goal.returns-clause-link
returns-clause-link c =
    let t = c.args.self.now in
    let walked = subst (λ n. Walked (cues_in t) (vec_items t.nodes) n.link c.args.sign c.walk.result.at c.walk.result.trials) c.node-link.ensures c.walk.ensures in
    link_walked (cues_in t) (vec_items t.nodes) t.heads.value c.requires.sound c.args.parent c.args.sign c.walk.result.at c.walk.result.trials (omega (arith, c.if-parent-eq0.false)) (omega (arith, c.requires.within, t.nodes.ok.0)) walked
