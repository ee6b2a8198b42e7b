use Rattle.std.proofs.Common.{[], ◌∷◌, ◌++◌, length, ap, arith, length-append}
use Rattle.book.specs.Cues.{parts_of}
use Rattle.matching.proofs.Live.{live_short}
use Rattle.bits_theory.specs.Laid.{reach}
use Rattle.bits.proofs.shift_and.calls.BitEngineEngine.step.Goals as goal

pub returns-clause-cost : goal.returns-clause-cost
returns-clause-cost c =
    let e = c.args.self.now in
    let t = reach e.state e.masks.signs.items e.spans.items in
    omega (arith, ap length c.next-self.ensures.live, live_short (parts_of e.masks.signs.items e.spans.items) (t ++ c.args.sign ∷ []), length-append t (c.args.sign ∷ []))
