use Rattle.std.proofs.Common.{ℕ, Bool, List, [], leb, length, get_or, rules, refl, sym, ap, ◌∙◌, arith}
use Rattle.std.specs.List.{list_all, range_with_len}
use Rattle.std.proofs.lemmas.Bool.{le-leb, lt-leb}
use Rattle.std.proofs.lemmas.Iterator.{YieldsList-from_range}
use Rattle.std.proofs.lemmas.Iterator.Search.{all_from_yields_List}
use Rattle.std.proofs.lemmas.List.Folds.{list_all-map}
use Rattle.book.specs.Held.{book_held, cue_signs}
use Rattle.matching.specs.Match.{sightings}
use Rattle.watch.proofs.Books.{cues_long}
use Rattle.watch.proofs.Counted.{few_listed, items_all}
use Rattle.watch.proofs.endings.has_few_endings.Goals as goal

pub returns : goal.returns
returns g c =
    let cues = cue_signs (book_held c.args.book.now) in
    let few : List ℕ → Bool = λ cue. leb (length (sightings cues cue)) 32 in
    let n = length c.cues.result.now in
    all_from_yields_List (λ i. few (get_or cues i [])) _ _ _ c.all.ensures.ran (YieldsList-from_range 0 n n refl (omega arith)) (λ x b q k. search (rules, le-leb, lt-leb)) ∙
    (sym (list_all-map few (λ i. get_or cues i []) (range_with_len 0 n)) ∙
    (ap (list_all few) (items_all cues [] n (sym (cues_long c.args.book.now c.cues.result.now c.cues.ensures))) ∙
    sym (few_listed cues cues)))
