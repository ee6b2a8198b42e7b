use Rattle.std.proofs.Common.{◌≡◌, ◌∙◌, position, rules, tests, arith}
use Rattle.std.proofs.lemmas.Iterator.Consumers.{YieldsList-from_enumerate}
use Rattle.std.proofs.lemmas.Iterator.Search.{position_from_yields_List}
use Rattle.std.proofs.lemmas.Iterator.{YieldsList-from_slice, YieldsList-from_zip}
use Rattle.book.proofs.Reading.{is_own_low, low_position, places}
use Rattle.book.proofs.material.Material.own_place_of.Goals as goal

pub returns-clause-place : goal.returns-clause-place
returns-clause-place g c =
    let m = c.args.self.now in
    let found : c.position.result ≡ position (is_own_low g.E.Event.same c.args.event.now) (places 0 m.events.items m.signs.items) =
    position_from_yields_List {s = c.enumerate.result} (is_own_low g.E.Event.same c.args.event.now) c.position.new.self _ _ c.position.ensures.ran
    (YieldsList-from_enumerate (YieldsList-from_zip (YieldsList-from_slice m.events.items (search rules)) (YieldsList-from_slice m.signs.items (search rules))) (search rules))
    (λ x b q k. search (rules, tests)) in
    found ∙ low_position g.E.Event.same c.args.event.now m.events.items m.signs.items (omega (arith, m.short, m.events.ok.0))
