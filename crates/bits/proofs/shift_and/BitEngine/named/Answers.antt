use Rattle.std.proofs.Common.{◌≡◌, ◌<◌, ◌≤◌, length, get_or, take, drop, sym, ap, ap₂, ◌∙◌, arith}
use Rattle.book.specs.Cues.{cue_at, part_of, parts_of}
use Rattle.book.specs.declared.cue.Cue.{Cue}
use Rattle.std.proofs.lemmas.List.{length-map, take-take}
use Rattle.bits_theory.specs.Laid.{span_at}
use Rattle.bits_theory.proofs.Reach.{length_part, part_at}
use Rattle.bits_theory.proofs.Resuming.{Other, granted}
use Rattle.bits.proofs.shift_and.BitEngine.named.Goals as goal

pub returns : goal.returns
returns c =
    let e = c.args.self.now in
    let signs = e.masks.signs.items in
    let spans = e.spans.items in
    let s = c.args.standing in
    let value = c.deref.ensures.value in
    let found = (rw c.in_ok-c.ensures.ok_part at c.get.ensures.lookup).3 in
    let not : Other s.0 s.1 = grind (arith, c.if-eq.ensures, c.eq.ensures) in
    let lt : s.0 < length spans = omega (arith, found.0, ap length value, c.from-number.ensures) in
    let at : c.in_ok-c.c.now ≡ span_at spans s.0 = found.1 (cue_at 0 0) ∙ ap₂ (λ xs n. get_or xs n (cue_at 0 0)) value c.from-number.ensures in
    let short : s.1 ≤ (span_at spans s.0).len = omega (arith, ap (λ (v : Cue). v.len) at, c.if-len-c.false, c.from-len.ensures) in
    let whole = length_part signs (span_at spans s.0) (e.spanned s.0 lt).1 in (
      granted (parts_of signs spans) s.0 s.1 not (omega (arith, length-map spans (part_of signs))) (omega (arith, ap length (part_at signs spans s.0 lt), whole)),
      c.part.ensures ∙ (ap₂ (λ n (v : Cue). take n (drop v.place signs)) c.from-len.ensures at ∙ (sym (take-take s.1 (span_at spans s.0).len (drop (span_at spans s.0).place signs) short) ∙ ap (take s.1) (sym (part_at signs spans s.0 lt)))),
    )
