use Rattle.book.proofs.Reading.{look_found}
use Rattle.book.proofs.material.Material.sign_of.Goals as goal

pub returns : goal.returns
returns g c = look_found g.E.Event.same c.args.self.now.events.items c.args.self.now.signs.items c.args.event.now c.sign_at.result (rw (← c.own_place_of.ensures.place) c.sign_at.ensures)
