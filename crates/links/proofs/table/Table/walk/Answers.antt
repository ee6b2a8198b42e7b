use Rattle.std.proofs.Common.{◌+◌, ◌<◌, vec_items, sym, subst, arith}
use Rattle.links_theory.specs.Entries.{node_at}
use Rattle.links_theory.proofs.Walks.{Walking, link_path, walking_hit, walking_end, walking_more}
use Rattle.links.specs.Tables.{cues_in}
use Rattle.links.proofs.table.Table.walk.Goals as goal

pub returns-in-Some : goal.returns-in-Some
returns-in-Some c =
    let t = c.args.self.now in
    let found = c.in-Some.ensures.some in
    walking_hit (cues_in t) (vec_items t.nodes) t.heads.value c.requires.sound c.args.from c.args.sign c.loop-child.at c.loop-child.trials c.loop-child.invariant c.in-Some.child found.1 found.0

pub returns-then-at-eq0 : goal.returns-then-at-eq0
returns-then-at-eq0 c =
    let t = c.args.self.now in
    walking_end (cues_in t) (vec_items t.nodes) t.heads.value c.requires.sound c.args.from c.args.sign c.loop-child.at c.loop-child.trials c.loop-child.invariant c.in_default.ensures.none c.if-at-eq0.true _ c.requires.full (omega arith)

pub loop-child-smaller : goal.loop-child-smaller
loop-child-smaller c =
    let t = c.args.self.now in
    let l = link_path (cues_in t) (vec_items t.nodes) t.heads.value c.requires.sound c.loop-child.at (omega (arith, c.if-at-eq0.false)) c.loop-child.invariant.within in
    subst (λ n. (node_at (vec_items t.nodes) n.link).len < (node_at (vec_items t.nodes) c.loop-child.at).len) (sym c.node-at.ensures) l.2

pub loop-child-preserved : goal.loop-child-preserved
loop-child-preserved c =
    let t = c.args.self.now in
    let more = walking_more (cues_in t) (vec_items t.nodes) t.heads.value c.requires.sound c.args.from c.args.sign c.loop-child.at c.loop-child.trials c.loop-child.invariant c.in_default.ensures.none (omega (arith, c.if-at-eq0.false)) _ c.requires.full (omega arith) in
    subst (λ n. Walking (cues_in t) (vec_items t.nodes) c.args.from c.args.sign n.link (c.loop-child.trials + 1)) (sym c.node-at.ensures) more
