use Rattle.std.proofs.Common.{arith}
use Rattle.bits_theory.specs.Words.{low_key, high_key}
use Rattle.bits_theory.proofs.Bit.{marked_push}
use Rattle.bits.proofs.masks.Masks.push.Goals as goal

pub invariant_of-self-clause-bylow : goal.invariant_of-self-clause-bylow
invariant_of-self-clause-bylow c =
    let m = c.args.self.now in
    rw c.push_reserved.ensures.items (rw c.from.ensures (rw c.len.ensures (rw m.signs.ok.0 (marked_push low_key m.signs.items m.low c.args.sign (omega arith) (omega arith) (omega (arith, c.requires)) m.bylow))))

pub invariant_of-self-clause-byhigh : goal.invariant_of-self-clause-byhigh
invariant_of-self-clause-byhigh c =
    let m = c.args.self.now in
    rw c.push_reserved.ensures.items (rw c.from-2.ensures (rw c.len.ensures (rw m.signs.ok.0 (marked_push high_key m.signs.items m.high c.args.sign (omega arith) (omega arith) (omega (arith, c.requires)) m.byhigh))))
