use Rattle.std.proofs.Common.{cond, [], ◌∷◌, ap, arith}
use Rattle.book.specs.Held.{book_held, cue_signs}
use Rattle.matching.specs.Calls.{account, anew, loads}
use Rattle.report.proofs.Loading.{always_loadable, never_refused}
use Rattle.report.proofs.listing.load_book.Goals as goal

pub unwrap-requires : goal.unwrap-requires
unwrap-requires g c = let n = never_refused c.args.book.now in grind (arith, c.load.ensures.value)

pub returns : goal.returns
returns g c =
    let cues = cue_signs (book_held c.args.book.now) in
    let ok = always_loadable c.args.book.now in
    record {
      calls = loads (cue_signs (book_held c.args.book.now)) ∷ [];
      after = c.load.ensures.leads [] c.new-watch.ensures;
      same_cues = ap (λ t. (cond t (anew (cue_signs (book_held c.args.book.now))) (account 1024 [])).cues) ok;
      same_text = ap (λ t. (cond t (anew (cue_signs (book_held c.args.book.now))) (account 1024 [])).text) ok;
    }
