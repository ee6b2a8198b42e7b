-- What airings writes.
use Rattle.std.specs.Prelude.{◌≡◌, ℕ, ◌+◌, ◌<◌, ◌≤◌, List, ◌∷◌, ◌++◌, length, Err}
use Rattle.std.specs.List.{AllByRecursion}
use Rattle.events.specs.Refused.{number_of}
use Rattle.events.specs.declared.Refusal.{Refusal}
use Rattle.columns.specs.Lines.{first_line, read_line}
use Rattle.columns.specs.Written.{refusal_line, total_line}
use Rattle.columns.specs.declared.line.Section.TheVariants.{Log as LogSection}
use Rattle.script.specs.Answered.{AnsweredOnce, input_report, longest_input}
use Rattle.script.specs.Booking.{Booked, size}
use Rattle.script.specs.Report.{entry_lines}
use Rattle.script.specs.declared.contents.Layout.TheVariants.{PerEvent}
use Rattle.airing_report.specs.Inputs.{LogEvent, Readable, Reads, cue_texts, log_text}
use Rattle.columns.specs.AsRuns.{Values, same_values}
use Rattle.airing_report.specs.Reading.{read_airings}

-- All that is written for an input.
abbrev pub airings_report : List ℕ → List ℕ
airings_report xs = input_report same_values PerEvent read_airings xs

-- Each input has exactly one answer, and it is this one.
abbrev pub AiringsOnce : List ℕ → Type 0
AiringsOnce xs = AnsweredOnce same_values PerEvent read_airings Reads xs

-- A refusal in the log: in front of it stand the same lines as in the report of the shorter input, which
-- ends in front of the line that is refused.
abbrev pub Shorter : List ℕ → Type 0
Shorter xs =
    (cues : List (List Values)) (log : List Values) (rest : List ℕ) (refusal : Refusal) →
    Readable cues → AllByRecursion LogEvent log → Booked same_values cues → length xs ≤ longest_input →
    xs ≡ cue_texts 0 cues ++ (10 ∷ (log_text log ++ rest)) → 0 < length rest → read_line LogSection (first_line rest) ≡ Err refusal →
    (es : List (ℕ × ℕ × ℕ)) ×
    (airings_report (cue_texts 0 cues ++ (10 ∷ log_text log)) ≡ entry_lines es ++ total_line (length log) (length es)) ×
    (airings_report xs ≡ entry_lines es ++ refusal_line (number_of refusal) (size cues + length log + 2))
