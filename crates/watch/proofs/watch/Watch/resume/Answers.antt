use Rattle.engine.specs.Statements.{resume_refusal}
use Rattle.watch.proofs.Answered.{answer_ok}
use Rattle.watch.proofs.Runs.{resumed}
use Rattle.watch.proofs.watch.Watch.resume.Goals as goal

pub returns-clause-leads : goal.returns-clause-leads
returns-clause-leads g c =
    let m = g.L.Engine in
    let v = c.args.self.now in
    let s = c.args.standing in
    let told = c.in_ok-resume.ensures in
    resumed m v _ s (answer_ok (resume_refusal (m.cues v.engine) s) tt tt told.value) told.held.0 told.held.1 told.held.2 c.from-self.ensures
