use Rattle.std.proofs.Common.{ap, rules}
use Rattle.book.specs.Cues.{parts_of}
use Rattle.matching.specs.Match.{distinct}
use Rattle.bits_theory.proofs.Adding.{kept_none}
use Rattle.bits.proofs.shift_and.BitEngine.new.Goals as goal

pub invariant_of-result : goal.invariant_of-result
invariant_of-result c =
    let made = c.in_ok-spans.ensures in
    let signs = c.in_ok-masks.masks.signs.items in
    let kept = kept_none signs c.in_ok-spans.spans.items made.items in
    record { room = search rules; few = search rules; spanned = kept.spanned; starts = kept.starts; free = kept.free; stops = kept.stops; apart = ap (λ s. distinct (parts_of signs s)) made.items; exact = kept.exact }
