use Rattle.std.proofs.Common.{◌∙◌, arith, rules}
use Rattle.book.specs.Held.{book_held}
use Rattle.book.proofs.Tells.{lookup_sign, sign_tells}
use Rattle.book.proofs.draft.Book.sign.Goals as goal

pub returns-clause-lowest : goal.returns-clause-lowest
returns-clause-lowest g c = λ signed. c.sign_of.ensures ∙ lookup_sign g.E.Event.same (search rules) (book_held c.args.self.now) signed c.args.event.now

pub returns-clause-tells : goal.returns-clause-tells
returns-clause-tells g c = sign_tells g.E.Event.same (search rules) _ (omega (arith, c.args.self.now.material.short, c.args.self.now.material.events.ok.0)) _
