use Rattle.std.proofs.Common.{◌+◌, ◌<◌, ◌≤◌, cond, [], ◌∷◌, ◌++◌, length, Some, None, sym, refl, ap, ◌∙◌, ap₂, arith}
use Rattle.book.specs.Cues.{answer, part_of, parts_of}
use Rattle.events.specs.declared.Refusal.TheVariants.{OverCapacity}
use Rattle.matching.specs.Calls.{total}
use Rattle.matching.specs.Match.{distinct}
use Rattle.std.proofs.lemmas.List.{length-map, take_more, take_all}
use Rattle.std.proofs.lemmas.Bool.{le-ltb}
use Rattle.bits_theory.specs.Laid.{reach}
use Rattle.bits_theory.proofs.Adding.{book_cue, distinct_take, total_more}
use Rattle.bits_theory.proofs.Reach.{reach_zero}
use Rattle.bits.proofs.shift_and.calls.BitEngineEngine.load.Goals as goal

pub lay-requires : goal.lay-requires
lay-requires g c =
    let b = c.args.book.now in
    let cues = parts_of b.material.signs.items b.cues.items in
    let n = c.loop-number.number in
    let inv = c.loop-number.invariant in
    let told = c.cue_signs.ensures in
    let there : n < length b.cues.items = omega (arith, ap length c.cues-number-end.ensures) in
    let h : n < length cues = omega (arith, length-map b.cues.items (part_of b.material.signs.items)) in
    record {
      some = omega (arith, ap length told, book_cue b.material.signs.items b.cues.items b.material.events.len n (omega (arith, b.material.signed, b.material.signs.ok.0)) b.within there);
      room = omega (arith, ap length told, inv.1, total_more cues n h);
      apart = ap distinct (ap₂ (λ xs x. xs ++ x ∷ []) inv.0 told ∙ sym (take_more cues n [] h)) ∙ distinct_take (n + 1) cues b.apart;
      state = inv.2;
    }

pub returns : goal.returns
returns g c =
    let b = c.args.book.now in
    let e = c.loop-number.self in
    let cues = parts_of b.material.signs.items b.cues.items in
    let n = c.loop-number.number in
    let inv = c.loop-number.invariant in
    let few = le-ltb 64 (total cues) (omega (arith, c.if-total-room.false, c.total.ensures.signs)) in
    let all : length cues ≤ n = omega (arith, ap length c.cues-number-end.ensures, length-map b.cues.items (part_of b.material.signs.items)) in
    record {
      value = ap (λ t. answer (cond t (Some OverCapacity) None) tt) (sym few);
      held = (inv.0 ∙ take_all n cues all, ap (λ w. reach w e.masks.signs.items e.spans.items) inv.2 ∙ reach_zero e.masks.signs.items e.spans.items e.spanned, refl);
    }
