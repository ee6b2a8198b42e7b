use Rattle.book.proofs.Reading.{sign_found}
use Rattle.book.proofs.material.calls.sign_in.Goals as goal

pub returns : goal.returns
returns g c = sign_found g.E.Event.same c.args.events.now c.args.event.now c.sign_at.result (rw (← c.place_of.ensures.place) c.sign_at.ensures)
