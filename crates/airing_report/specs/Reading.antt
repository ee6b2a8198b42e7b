-- What an input of airings says: the cue lines up to the parting line, and the log lines behind it.
use Rattle.std.specs.Prelude.{ℕ, List, [], ◌∷◌, Some, None, Ok, Err, Option, Result}
use Rattle.events.specs.declared.Refusal.{Refusal}
use Rattle.events.specs.declared.Refusal.TheVariants.{Unreadable}
use Rattle.columns.specs.AsRuns.{Values, values_of}
use Rattle.columns.specs.Lines.{Fields, lines_of, read_line, event_of}
use Rattle.columns.specs.declared.asrun.AsRun.{AsRun}
use Rattle.columns.specs.declared.line.Section.TheVariants.{Log as LogSection}
use Rattle.script.specs.Report.{Contents}
-- What the cue lines say, and what stands behind them.
pub use Rattle.cue_lines.specs.Reading.{Step, more, next, parts, refused, numbered, step_from, step_of, grown}
pub use Rattle.cue_lines.specs.Reading.{Rest, lines_left, stopped, read_step, read_cues}

-- The event of a log line, or why the line is refused.
abbrev pub event_from : Option Values → Result Values Refusal
event_from None = Err (Unreadable 0)
event_from (Some e) = Ok e

abbrev pub logged_from : Result Fields Refusal → Result Values Refusal
logged_from (Ok fields) = event_from (event_of fields)
logged_from (Err refusal) = Err refusal

abbrev pub logged : List ℕ → Result Values Refusal
logged line = logged_from (read_line LogSection line)

-- The events of log lines in front of the first that is refused.
abbrev pub text_from : Result Values Refusal → List Values → List Values
text_from (Ok e) later = e ∷ later
text_from (Err refusal) later = []

abbrev pub text_of : List (List ℕ) → List Values
text_of [] = []
text_of (l ∷ ls) = text_from (logged l) (text_of ls)

-- Why that line is refused; none where all are read.
abbrev pub end_from : Result Values Refusal → Option Refusal → Option Refusal
end_from (Ok e) later = later
end_from (Err refusal) later = Some refusal

abbrev pub end_of : List (List ℕ) → Option Refusal
end_of [] = None
end_of (l ∷ ls) = end_from (logged l) (end_of ls)

-- What an input says, by its cues and what stands behind their lines.
abbrev pub contents_from : List (List Values) → Rest → Contents Values
contents_from cues (lines_left ls) = record { cues = cues; stop = None; text = text_of ls; end = end_of ls }
contents_from cues (stopped refusal) = record { cues = cues; stop = Some refusal; text = []; end = None }

unfoldable pub read_airings : List ℕ → Contents Values
read_airings input = contents_from (read_cues [] (lines_of input)).0 (read_cues [] (lines_of input)).1

-- What the code's answer for a log line says.
abbrev pub logged_as : Result AsRun Refusal → Result Values Refusal
logged_as (Ok e) = Ok (values_of e)
logged_as (Err refusal) = Err refusal
