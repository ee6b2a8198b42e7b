use Rattle.std.proofs.Common.{vec_items, sym, ◌∙◌}
use Rattle.script.proofs.Splitting.{length_split}
use Rattle.script.proofs.cues.Cues.count.Goals as goal

pub returns : goal.returns
returns g c =
    let d = c.args.self.now in
    c.len.ensures ∙ (d.lens.ok.0 ∙ sym (length_split (vec_items d.lens) (vec_items d.events)))
