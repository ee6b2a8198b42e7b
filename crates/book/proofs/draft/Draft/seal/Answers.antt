use Rattle.std.proofs.Common.{arith, rules}
use Rattle.book.specs.Held.{draft_held}
use Rattle.book.proofs.Tells.{cues_end}
use Rattle.book.proofs.draft.Draft.seal.Goals as goal

pub returns-clause-ends : goal.returns-clause-ends
returns-clause-ends g c =
    cues_end g.E.Event.same (search rules) (draft_held c.args.self) (omega (arith, c.args.self.book.material.short, c.args.self.book.material.events.ok.0))
