use Rattle.std.proofs.Common.{◌≡◌, ℕ, Bool, [], length, get_or, rules, sym, ap, ◌∙◌, arith}
use Rattle.std.specs.List.{filter, range_with_len}
use Rattle.std.proofs.lemmas.Iterator.{YieldsList-from_range}
use Rattle.std.proofs.lemmas.Iterator.Consumers.{YieldsList-from_filter, count_from_yields_List}
use Rattle.book.specs.Held.{book_held, cue_signs}
use Rattle.matching.specs.Match.{ends}
use Rattle.watch.proofs.Books.{book_cues_of, cues_long}
use Rattle.watch.proofs.Counted.{count_sightings, items_all, passed_map}
use Rattle.watch.proofs.endings.endings.Goals as goal

pub returns : goal.returns
returns g c =
    let cues = cue_signs (book_held c.args.book.now) in
    let text = get_or cues c.args.number [] in
    let test : ℕ → Bool = λ i. ends (get_or cues i []) text in
    let n = length c.cues.result.now in
    let counted : c.count.result ≡ length (filter test (range_with_len 0 n)) =
    count_from_yields_List _ _ c.count.ensures.ran (YieldsList-from_filter _ test (YieldsList-from_range 0 n n c.filter.ensures.source (omega arith)) c.filter.ensures.closure (λ x b q k. search rules)) in
    counted ∙
    (sym (passed_map (λ cue. ends cue text) (λ i. get_or cues i []) (range_with_len 0 n)) ∙
    (ap (λ cs. length (filter (λ cue. ends cue text) cs)) (items_all cues [] n (sym (cues_long c.args.book.now c.cues.result.now c.cues.ensures))) ∙
    sym (count_sightings cues text (book_cues_of c.args.book.now).some_signs)))
