use Rattle.std.proofs.Common.{Some, arith}
use Rattle.std.proofs.lemmas.Grind.{common_steps}
use Rattle.book.specs.Held.{book_held}
use Rattle.studio.specs.Show.{of_log}
use Rattle.studio.proofs.Telling.{of_whole}
use Rattle.studio.proofs.shown.show.Goals as goal

pub returns-then-behind-start-clause-whole : goal.returns-then-behind-start-clause-whole
returns-then-behind-start-clause-whole g c =
    let told = c.in_ok-events.ensures in
    of_whole (book_held c.args.book.now) c.args.log.now c.args.first c.args.entry {o = Some (of_log _)} (grind (arith, common_steps, told))
