use Rattle.std.proofs.Common.{arith}
use Rattle.links.proofs.Opened.{moved}
use Rattle.links.proofs.link_engine.LinkEngine.sightings.Goals as goal

pub invariant_of-result : goal.invariant_of-result
invariant_of-result c =
    let e = c.args.self.now in
    record { ready = ∣ moved e _ (omega (arith, c.requires, e.table.nodes.ok.0)) ∣₁ }
