use Rattle.note_report.proofs.Once.{reads_once}
use Rattle.note_report.proofs.Reporting.{notes_once}
use Rattle.note_report.proofs.notes.notes_report.Goals as goal

pub returns-clause-says : goal.returns-clause-says
returns-clause-says c = reads_once c.args.input.now

pub returns-clause-once : goal.returns-clause-once
returns-clause-once c = notes_once c.args.input.now
