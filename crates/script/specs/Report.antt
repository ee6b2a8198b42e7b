-- What a program writes of what its input says.
use Rattle.std.specs.Prelude.{ℕ, ◌+◌, Bool, List, [], ◌∷◌, ◌++◌, map, length, Some, None, vec_items, Option}
use Rattle.std.specs.List.{flat_map}
use Rattle.events.specs.Refused.{number_of}
use Rattle.events.specs.declared.Refusal.{Refusal}
use Rattle.columns.specs.Written.{entry_line, total_line, refusal_line}
use Rattle.script.specs.Booking.{book_refusal, size}
use Rattle.script.specs.Listed.{cues_of}
use Rattle.script.specs.Runs.{runs}
use Rattle.script.specs.declared.contents.Layout.{Layout}
use Rattle.script.specs.declared.contents.Layout.TheVariants.{PerEvent, PerCue}
use Rattle.script.specs.declared.contents.Script.{Script}

-- What an input says: its cues; why the line behind them is refused, none where it is the parting line;
-- the events of the text, and why the line behind them is refused, none where the input ends there.
pub record Contents (E : Type 0) : Type 0 where
  pub cues : List (List E)
  pub stop : Option Refusal
  pub text : List E
  pub end : Option Refusal

abbrev pub contents_of : {E : Type 0} → Script E → Contents E
contents_of s = record { cues = cues_of s.cues; stop = s.stop; text = vec_items s.text; end = s.end }

-- The same contents, each event given otherwise.
abbrev pub map_contents : {E F : Type 0} → (E → F) → Contents E → Contents F
map_contents f s = record { cues = map (map f) s.cues; stop = s.stop; text = map f s.text; end = s.end }

-- How many lines some cues take up.
abbrev pub line_count : {E : Type 0} → Layout → List (List E) → ℕ
line_count PerEvent cues = size cues
line_count PerCue cues = length cues

-- A refusal with its line, where there is one, else what comes later.
abbrev pub or_later : Option Refusal → ℕ → Option (Refusal × ℕ) → Option (Refusal × ℕ)
or_later None line later = later
or_later (Some refusal) line later = Some (refusal, line)

-- The first cue that the book refuses: why, and the cue's last line; else what comes behind the cues.
abbrev pub first_refused : {E : Type 0} → (E → E → Bool) → Layout → List (List E) → List (List E) → Option (Refusal × ℕ) → Option (Refusal × ℕ)
first_refused same layout before [] later = later
first_refused same layout before (c ∷ cs) later =
    or_later (book_refusal same before c) (line_count layout (before ++ c ∷ [])) (first_refused same layout (before ++ c ∷ []) cs later)

-- The first refusal up to the parting line: of a cue, or of the line behind the cues.
abbrev pub front_refused : {E : Type 0} → (E → E → Bool) → Layout → Contents E → Option (Refusal × ℕ)
front_refused same layout s = first_refused same layout [] s.cues (or_later s.stop (line_count layout s.cues + 1) None)

-- A line for each run.
abbrev pub entry_lines : List (ℕ × ℕ × ℕ) → List ℕ
entry_lines es = flat_map (λ e. entry_line e.0 e.1 e.2) es

-- The last line: the totals, or why the line behind the text's events is refused.
abbrev pub last_line : Option Refusal → ℕ → ℕ → ℕ → List ℕ
last_line None line events sightings = total_line events sightings
last_line (Some refusal) line events sightings = refusal_line (number_of refusal) line

-- The runs in a text, and the last line. The parting line stands behind the lines of the cues, and a
-- line that is refused behind the lines of the text's events.
abbrev pub text_report : {E : Type 0} → (E → E → Bool) → Layout → Contents E → List ℕ
text_report same layout s =
    entry_lines (runs same s.cues s.text) ++
    last_line s.end (line_count layout s.cues + length s.text + 2) (length s.text) (length (runs same s.cues s.text))

-- A refusal up to the parting line is all that is written.
abbrev pub refused_or : Option (Refusal × ℕ) → List ℕ → List ℕ
refused_or None report = report
refused_or (Some q) report = refusal_line (number_of q.0) q.1

-- All that is written.
unfoldable pub report_of : {E : Type 0} → (E → E → Bool) → Layout → Contents E → List ℕ
report_of same layout s = refused_or (front_refused same layout s) (text_report same layout s)
