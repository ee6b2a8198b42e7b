use Rattle.std.proofs.Common.{arith}
use Rattle.bits_theory.proofs.Bit.{mask_right}
use Rattle.bits.proofs.masks.Masks.mask.Goals as goal

pub returns : goal.returns
returns c =
    let m = c.args.self.now in
    rw c.from.ensures (rw c.from-2.ensures (λ p h. mask_right m.signs.items m.low m.high c.args.sign p m.bylow m.byhigh (omega arith) h))
