use Rattle.std.proofs.Common.{◌≤◌, length, vec_items, refl, ap, arith}
use Rattle.links_theory.proofs.Paths.{len_short}
use Rattle.links_theory.proofs.Queries.{sightings_few}
use Rattle.links.specs.declared.queries.Sightings.{Sightings}
use Rattle.links.specs.Tables.{cues_in, seen_at}
use Rattle.links.proofs.Seen.{ready, link_older, seen_count, counted, seen_root}
use Rattle.links.proofs.queries.Sightings.count.Goals as goal

few : (s : Sightings) → length (seen_at s.table.now s.at) ≤ 32
few s =
    let t = s.table.now in
    sightings_few (cues_in t) (vec_items t.nodes) t.heads.value s.at (ready s) 32 s.at (ready s).within (len_short (cues_in t) (vec_items t.nodes) t.heads.value (ready s).sound s.at (ready s).within)

pub overflow_add-count : goal.overflow_add-count
overflow_add-count c =
    let s = c.args.self in
    let more = seen_count s c.loop-link.link c.node-node.result (omega (arith, c.loop-link-test.true)) c.loop-link.invariant.0 c.node-node.ensures c.node-node.result.link refl c.is_some.result c.is_some.ensures c.from-count.result c.from-count.ensures in
    omega (arith, few s, more, c.loop-link.invariant.1)

pub loop-link-smaller : goal.loop-link-smaller
loop-link-smaller c =
    let s = c.args.self in
    link_older s c.loop-link.link c.node-node.result (omega (arith, c.loop-link-test.true)) c.loop-link.invariant.0 c.node-node.ensures _ (omega arith)

pub loop-link-preserved : goal.loop-link-preserved
loop-link-preserved c =
    let s = c.args.self in
    counted s c.loop-link.link c.node-node.result (omega (arith, c.loop-link-test.true)) c.loop-link.invariant.0 c.node-node.ensures _ (omega arith) c.is_some.result c.is_some.ensures c.from-count.result c.from-count.ensures c.loop-link.count _ c.loop-link.invariant.1

pub returns : goal.returns
returns c =
    let s = c.args.self in
    omega (arith, c.loop-link.invariant.1, ap (λ a. length (seen_at s.table.now a)) c.loop-link-test.false, ap length (seen_root s))
