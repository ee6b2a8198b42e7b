use Rattle.std.proofs.Common.{◌≡◌, ℕ, ◌+◌, [], drop, None, sym, refl, ap, ◌∙◌, arith}
use Rattle.engine.specs.Statements.{ith}
use Rattle.links.specs.declared.queries.Sightings.{Sightings}
use Rattle.links.specs.Tables.{seen_at}
use Rattle.links.proofs.Opened.{ready_there}
use Rattle.links.proofs.Seen.{ready, link_older, passed, first, seen_root}
use Rattle.links.proofs.queries.Sightings.nth.Goals as goal

pub loop-at-smaller : goal.loop-at-smaller
loop-at-smaller c =
    let s = c.loop-at.self in
    link_older s c.loop-at.at c.node-node.result (omega (arith, c.loop-at-test.true)) c.loop-at.invariant.0 c.node-node.ensures _ (omega arith)

pub loop-at-preserved : goal.loop-at-preserved
loop-at-preserved c =
    let s = c.loop-at.self in
    passed s c.loop-at.at c.node-node.result (omega (arith, c.loop-at-test.true)) c.loop-at.invariant.0 c.node-node.ensures _ (omega arith) c.is_some.result c.is_some.ensures c.from-here.result c.from-here.ensures c.loop-at.left _ _ (omega (arith, c.if-left-here.false)) c.loop-at.invariant.1 c.loop-at.invariant.2

pub invariant_of-self : goal.invariant_of-self
invariant_of-self c =
    let s = c.loop-at.self in
    let older = link_older s c.loop-at.at c.node-node.result (omega (arith, c.loop-at-test.true)) c.loop-at.invariant.0 c.node-node.ensures c.node-node.result.link refl in
    record { ready = ∣ ready_there s.table.now s.at _ (ready s) (omega (arith, older, c.loop-at.invariant.0)) ∣₁ }

pub returns-then-left-here-clause-value : goal.returns-then-left-here-clause-value
returns-then-left-here-clause-value c =
    let s = c.loop-at.self in
    (first s c.loop-at.at c.node-node.result (omega (arith, c.loop-at-test.true)) c.loop-at.invariant.0 c.node-node.ensures c.node-node.result.link refl c.is_some.result c.is_some.ensures c.from-here.result c.from-here.ensures c.in_ok-node.field-0 c.loop-at.left c.in_ok-node.was (omega (arith, c.if-left-here.true))).0 ∙ c.loop-at.invariant.1

pub returns-then-left-here-clause-rest : goal.returns-then-left-here-clause-rest
returns-then-left-here-clause-rest c =
    let s = c.loop-at.self in
    (first s c.loop-at.at c.node-node.result (omega (arith, c.loop-at-test.true)) c.loop-at.invariant.0 c.node-node.ensures _ (omega arith) c.is_some.result c.is_some.ensures c.from-here.result c.from-here.ensures c.in_ok-node.field-0 c.loop-at.left c.in_ok-node.was (omega (arith, c.if-left-here.true))).1 ∙ c.loop-at.invariant.2

pub invariant_of-self-2 : goal.invariant_of-self-2
invariant_of-self-2 c =
    let s = c.loop-at.self in
    record { ready = ∣ ready_there s.table.now s.at 0 (ready s) (ready s).sound.some ∣₁ }

module _ (s : Sightings) (at : ℕ) (z : at ≡ 0) where
  empty : seen_at s.table.now at ≡ []
  empty = ap (seen_at s.table.now) z ∙ seen_root s

none : (n : ℕ) → None ≡ ith n []
none n = grind arith

pub returns-clause-value : goal.returns-clause-value
returns-clause-value c =
    none (c.loop-at.left + 1) ∙ ap (ith (c.loop-at.left + 1)) (sym (empty c.loop-at.self c.loop-at.at c.loop-at-test.false)) ∙ c.loop-at.invariant.1

pub returns-clause-rest : goal.returns-clause-rest
returns-clause-rest c =
    let s = c.loop-at.self in
    seen_root s ∙ (let e : [] ≡ drop (c.loop-at.left + 1) [] = grind arith in e) ∙ ap (drop (c.loop-at.left + 1)) (sym (empty s c.loop-at.at c.loop-at-test.false)) ∙ c.loop-at.invariant.2
