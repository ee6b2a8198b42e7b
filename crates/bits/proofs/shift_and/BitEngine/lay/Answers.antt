use Rattle.std.proofs.Common.{◌≡◌, ◌+◌, length, sym, ap, ◌∙◌, subst, arith, length-append, rules}
use Rattle.matching.specs.Match.{distinct}
use Rattle.bits_theory.specs.Laid.{Exact, reach}
use Rattle.bits_theory.proofs.Adding.{kept_laid, parts_laid}
use Rattle.bits.proofs.shift_and.BitEngine.lay.Goals as goal

pub invariant_of-self : goal.invariant_of-self
invariant_of-self c =
    let e = c.args.self.now in
    let signs = e.masks.signs.items in
    let cue = c.args.cue.now in
    let after = c.extend.new.self.signs.items in
    let more = c.push_reserved.new.self.items in
    let kept = kept_laid signs cue after e.spans.items more e.firsts e.lasts c.len-place.result c.len-place.ensures c.extend.ensures c.push_reserved.ensures.items c.requires.some c.requires.room e.spanned e.starts e.free e.stops in
    let parts = parts_laid signs cue after e.spans.items more c.len-place.result c.len-place.ensures c.extend.ensures c.push_reserved.ensures.items e.spanned in
    let long : length after ≡ length signs + length cue = ap length c.extend.ensures ∙ length-append signs cue in
    record { room = search rules; few = omega (arith, long, e.few, c.requires.some, c.push_reserved.ensures.len); spanned = kept.spanned; starts = kept.starts; free = kept.free; stops = kept.stops; apart = ap distinct parts ∙ c.requires.apart; exact = subst (λ w. Exact w after more (reach w after more)) (sym c.requires.state) kept.exact }

pub returns : goal.returns
returns c =
    let e = c.args.self.now in
    let signs = e.masks.signs.items in
    let cue = c.args.cue.now in
    record {
      cues = parts_laid signs cue c.extend.new.self.signs.items e.spans.items c.push_reserved.new.self.items c.len-place.result c.len-place.ensures c.extend.ensures c.push_reserved.ensures.items e.spanned;
      signs = ap length c.extend.ensures ∙ length-append signs cue;
      state = c.requires.state;
    }
