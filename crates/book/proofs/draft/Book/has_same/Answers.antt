use Rattle.std.proofs.Common.{vec_items, sym, ◌∙◌, rules, tests}
use Rattle.std.proofs.lemmas.Iterator.Search.{any_from_yields_List}
use Rattle.std.proofs.lemmas.Iterator.{YieldsList-from_slice}
use Rattle.matching.specs.Match.{same as equal}
use Rattle.book.specs.Cues.{part_of}
use Rattle.book.specs.declared.cue.Cue.{Cue}
use Rattle.book.proofs.Reading.{listed_any}
use Rattle.book.proofs.draft.Book.has_same.Goals as goal

pub returns : goal.returns
returns g c =
    let b = c.args.self.now in
    let signs = vec_items b.material.signs in
    any_from_yields_List (λ (d : Cue). equal (part_of signs d) (part_of signs c.args.given)) _ _ _ c.any.ensures.ran (YieldsList-from_slice (vec_items b.cues) (search rules)) (λ x b q k. search (rules, tests))
    ∙ sym (listed_any signs (vec_items b.cues) (part_of signs c.args.given))
