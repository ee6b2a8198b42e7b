-- What notes writes.
use Rattle.std.specs.Prelude.{ℕ, List}
use Rattle.events.specs.Sameness.{same_bytes}
use Rattle.script.specs.Answered.{AnsweredOnce, input_report}
use Rattle.script.specs.declared.contents.Layout.TheVariants.{PerCue}
use Rattle.note_report.specs.Inputs.{Reads}
use Rattle.note_report.specs.Reading.{read_notes}

-- All that is written for an input.
abbrev pub notes_report : List ℕ → List ℕ
notes_report xs = input_report same_bytes PerCue read_notes xs

-- Each input has exactly one answer, and it is this one.
abbrev pub NotesOnce : List ℕ → Type 0
NotesOnce xs = AnsweredOnce same_bytes PerCue read_notes Reads xs
