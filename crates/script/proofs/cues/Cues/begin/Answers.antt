use Rattle.std.proofs.Common.{[], ◌∷◌, ◌++◌, vec_items, ap, ◌∙◌}
use Rattle.script.specs.Listed.{split}
use Rattle.script.proofs.Splitting.{split_append}
use Rattle.script.proofs.cues.Cues.begin.Goals as goal

pub returns : goal.returns
returns g c =
    let d = c.args.self.now in
    let items = c.push_reserved.ensures.items ∙ ap (λ xs. xs ++ 1 ∷ []) c.reserve.ensures.items in
    let events = c.in_ok-push.ensures.items in
    ap (λ ns. split ns (vec_items c.push.new.self)) items ∙
    (ap (split (vec_items d.lens ++ 1 ∷ [])) events ∙ split_append (vec_items d.lens) (1 ∷ []) (vec_items d.events) (c.args.event ∷ []) (d.whole ∙ d.events.ok.0))
