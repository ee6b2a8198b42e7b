use Rattle.std.proofs.Common.{◌≡◌, ℕ, ◌+◌, ◌-◌, ◌^◌, ◌≤◌, min, length, vec_items, ap, arith}
use Rattle.matching.proofs.Live.{tries_bound}
use Rattle.links_theory.specs.Entries.{path}
use Rattle.links.specs.Tables.{cues_in}
use Rattle.links.proofs.Opened.{opened, moved}
use Rattle.links.proofs.link_engine.calls.LinkEngineEngine.step.Goals as goal

pub walk-walk-requires : goal.walk-walk-requires
walk-walk-requires c =
    let e = c.args.self.now in
    let r = opened e in
    record { sound = r.sound; within = omega (arith, r.within, e.table.nodes.ok.0); full = r.complete _ }

pub invariant_of-self : goal.invariant_of-self
invariant_of-self c =
    let e = c.args.self.now in
    record { ready = ∣ moved e c.walk-walk.result.at c.walk-walk.ensures.within ∣₁; within = e.within }

-- the count, and the trait's bound on it
counted : (a b n m k : ℕ) → a ≡ min (b + n) (2 ^ 32 - 1) → n + m ≤ k + 2 → a + m ≤ b + k + 2
counted a b n m k e h = omega (arith, e, h)

pub returns-clause-cost : goal.returns-clause-cost
returns-clause-cost c =
    let e = c.args.self.now in
    let w = c.walk-walk.ensures in
    counted _ e.trials c.walk-walk.result.trials _ _ c.saturating_add-self.ensures (omega (arith, w.counts, ap length w.lives, tries_bound (cues_in e.table) (path (cues_in e.table) (vec_items e.table.nodes) e.at) c.args.sign))
