use Rattle.std.proofs.Common.{◌-◌, ◌<◌, vec_items, vec_len, refl, ◌∙◌, arith}
use Rattle.std.proofs.lemmas.List.{get_or_read_under}
use Rattle.script.proofs.Splitting.{bumped}
use Rattle.script.proofs.cues.Cues.extend.Goals as goal

pub returns-in_ok-push-in-Some : goal.returns-in_ok-push-in-Some
returns-in_ok-push-in-Some g c =
    let d = c.args.self.now in
    let some : 0 < vec_len d.lens = c.in-Some.ensures.variant.0 refl in
    let value = get_or_read_under (vec_items d.lens) (vec_len d.lens - 1) (vec_len d.lens) c.in-Some.len.now 0 c.in-Some.ensures.value (omega arith) d.lens.ok.0 in
    bumped (vec_len d.lens - 1) (vec_items d.lens) (vec_items d.events) _ c.args.event c.in-Some.len.now (omega (arith, d.lens.ok.0)) (d.whole ∙ d.events.ok.0) value c.in_ok-push-in-Some.ensures.items
