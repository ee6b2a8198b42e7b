use Rattle.std.proofs.Common.{◌≡◌, ◌-◌, max, Some, ap, ◌∙◌, arith}
use Rattle.book.specs.Held.{book_held, cue_signs}
use Rattle.matching.specs.Calls.{account, stands}
use Rattle.matching.specs.Match.{wait}
use Rattle.watch.specs.After.{Always}
use Rattle.watch.proofs.Shortest.{none_earlier_right, wait_least}
use Rattle.watch.proofs.watch.Watch.wait.Given as given
use Rattle.watch.proofs.watch.Watch.wait.Goals as goal

right : (g : given.Over) (c : goal.After-max g) → Always g.L.Engine c.args.self.now (λ a. Some c.max.result ≡ wait (cue_signs (book_held c.args.book.now)) (stands a).1)
right g c calls h =
    let k = (stands (account g.L.Engine.CAPACITY calls)).1 in
    let live = ap (λ s. s.1) (c.standing.ensures.value calls h) in
    let e : c.max.result ≡ max 1 (c.in_ok-least.least - k) = omega (arith, c.max.ensures, c.saturating_sub.ensures, c.from-live.ensures, live) in
    ap (λ n. Some n) e ∙ wait_least c.args.book.now k (Some c.in_ok-least.least) c.in_ok-least.ensures

pub returns-clause-value : goal.returns-clause-value
returns-clause-value g c = right g c

pub returns-clause-earlier : goal.returns-clause-earlier
returns-clause-earlier g c calls h same = none_earlier_right (account g.L.Engine.CAPACITY calls) (cue_signs (book_held c.args.book.now)) (Some c.max.result) same (right g c calls h)
