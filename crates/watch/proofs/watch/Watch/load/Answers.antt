use Rattle.std.proofs.Common.{sym, refl, arith}
use Rattle.book.specs.Held.{book_held, cue_signs}
use Rattle.watch.proofs.Books.{book_cues_of}
use Rattle.watch.proofs.Runs.{loaded, not_refused}
use Rattle.watch.proofs.watch.Watch.load.Goals as goal

pub returns-clause-leads : goal.returns-clause-leads
returns-clause-leads g c =
    let m = g.L.Engine in
    let cs = cue_signs (book_held c.args.book.now) in
    let told = c.in_ok-load.ensures.held in
    let why = not_refused m.CAPACITY cs (omega (arith, c.if-total-CAPACITY.false, c.total.ensures.signs, c.CAPACITY.ensures)) (sym c.if-not-has_few_endings.ensures) in
    loaded m c.args.self.now _ cs (book_cues_of c.args.book.now) why told.0 told.1 told.2 refl
