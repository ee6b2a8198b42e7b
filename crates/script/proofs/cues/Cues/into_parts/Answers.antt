use Rattle.std.proofs.Common.{vec_items, sym, ◌∙◌}
use Rattle.script.proofs.Splitting.{joined_split, lengths_split}
use Rattle.script.proofs.cues.Cues.into_parts.Goals as goal

pub returns : goal.returns
returns g c =
    let d = c.args.self in
    let whole = d.whole ∙ d.events.ok.0 in
    record { events = sym (joined_split (vec_items d.lens) (vec_items d.events) whole); lens = sym (lengths_split (vec_items d.lens) (vec_items d.events) whole) }
