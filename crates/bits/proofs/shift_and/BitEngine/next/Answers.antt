use Rattle.std.proofs.Common.{arith}
use Rattle.bits_theory.proofs.Reach.{step_right}
use Rattle.bits.proofs.shift_and.BitEngine.next.Goals as goal

pub returns : goal.returns
returns c =
    let e = c.args.self.now in
    step_right c.args.state e.firsts c.mask.result c.args.sign e.masks.signs.items e.spans.items e.spanned e.starts c.requires (omega (arith, e.masks.short, e.masks.signs.ok.0)) c.mask.ensures
