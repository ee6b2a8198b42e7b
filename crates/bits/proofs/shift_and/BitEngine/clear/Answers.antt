use Rattle.std.proofs.Common.{sym, ap, subst, rules}
use Rattle.book.specs.Cues.{parts_of}
use Rattle.matching.specs.Match.{distinct}
use Rattle.bits_theory.specs.Laid.{Exact, reach}
use Rattle.bits_theory.proofs.Adding.{kept_none}
use Rattle.bits.proofs.shift_and.BitEngine.clear.Goals as goal

pub invariant_of-self : goal.invariant_of-self
invariant_of-self c =
    let signs = c.clear.new.self.signs.items in
    let spans = c.clear-2.new.self.items in
    let none = c.clear-2.ensures.items in
    let kept = kept_none signs spans none in
    record { room = search rules; few = search rules; spanned = kept.spanned; starts = kept.starts; free = kept.free; stops = kept.stops; apart = ap (λ s. distinct (parts_of signs s)) none; exact = subst (λ w. Exact w signs spans (reach w signs spans)) (sym c.forget.ensures.state) kept.exact }
