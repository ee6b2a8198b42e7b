use Rattle.std.proofs.Common.{refl}
use Rattle.bits_theory.proofs.Reach.{reach_zero}
use Rattle.bits_theory.proofs.Adding.{still}
use Rattle.bits.proofs.shift_and.BitEngine.forget.Goals as goal

pub invariant_of-self : goal.invariant_of-self
invariant_of-self c =
    let e = c.args.self.now in
    record { room = e.room; few = e.few; spanned = e.spanned; starts = e.starts; free = e.free; stops = e.stops; apart = e.apart; exact = still e.masks.signs.items e.spans.items e.spanned }

pub returns : goal.returns
returns c =
    let e = c.args.self.now in
    record { masks = refl; spans = refl; state = refl; live = reach_zero e.masks.signs.items e.spans.items e.spanned }
