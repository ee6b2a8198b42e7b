use Rattle.std.proofs.Common.{arith}
use Rattle.links.proofs.Opened.{moved}
use Rattle.links.proofs.link_engine.LinkEngine.set_live.Goals as goal

pub invariant_of-self : goal.invariant_of-self
invariant_of-self c =
    let e = c.args.self.now in
    record { ready = ∣ moved e c.args.at (omega (arith, c.requires, e.table.nodes.ok.0)) ∣₁; within = e.within }
