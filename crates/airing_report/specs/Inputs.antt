-- An input of airings in the words of the subject: it is the text that is written of what it says.
use Rattle.std.specs.Prelude.{◌≡◌, ℕ, suc, ◌<◌, ◌≤◌, true, List, [], ◌∷◌, ◌++◌, length, Some, None, Err, Option, ◌≢◌}
use Rattle.std.specs.List.{flat_map, AllByRecursion}
use Rattle.events.specs.declared.Refusal.{Refusal}
use Rattle.events.specs.declared.Refusal.TheVariants.{Unreadable, Misnumbered}
use Rattle.columns.specs.Kinds.{kind_letter}
use Rattle.columns.specs.Lines.{CueText, carts, cue_numbers, first_line, read_line, seconds}
use Rattle.columns.specs.Written.{cue_line, log_line}
use Rattle.columns.specs.declared.line.Section.TheVariants.{Cues, Log as LogSection}
use Rattle.script.specs.Report.{Contents}
use Rattle.columns.specs.AsRuns.{Values}
use Rattle.airing_report.specs.Reading.{read_airings}

-- The cue lines of cues, from number n on: a line for each event.
abbrev pub cue_texts : ℕ → List (List Values) → List ℕ
cue_texts n [] = []
cue_texts n (c ∷ cues) = flat_map (λ e. cue_line n e.1 e.2) c ++ cue_texts (suc n) cues

-- The log lines of events.
abbrev pub log_text : List Values → List ℕ
log_text events = flat_map (λ e. log_line e.0 e.1 e.2) events

-- What a cue line can say of an event; what a log line can.
abbrev pub CueEvent : Values → Type 0
CueEvent e = (e.0 ≡ 0) × (kind_letter e.1 ≡ true) × (e.2 < carts)

abbrev pub LogEvent : Values → Type 0
LogEvent e = (e.0 < seconds) × (kind_letter e.1 ≡ true) × (e.2 < carts)

-- Cues that cue lines can say: at most 10,000 of them, each of one event or more.
pub record Readable (cues : List (List Values)) : Type 0 where
  pub each : AllByRecursion (λ c. (1 ≤ length c) × AllByRecursion CueEvent c) cues
  pub few : length cues ≤ cue_numbers

-- Why what stands behind the lines of n cues is refused.
pub data Stops (n : ℕ) (rest : List ℕ) (r : Refusal) : Type 0 where
  -- no line is left
  none_left : rest ≡ [] → r ≡ Unreadable 0 → Stops n rest r
  -- the first line is not readable
  unreadable : 0 < length rest → read_line Cues (first_line rest) ≡ Err r → Stops n rest r
  -- it is a cue line, and its number is neither the last cue's nor one more
  misnumbered : (number letter cart : ℕ) → CueText number letter cart (first_line rest) →
      (suc number ≢ n) → (number ≢ n) → r ≡ Misnumbered → Stops n rest r

-- Why what stands behind the lines of the log's events is refused; none where nothing does.
pub data Ends (rest : List ℕ) (end : Option Refusal) : Type 0 where
  whole : rest ≡ [] → end ≡ None → Ends rest end
  cut_short : (r : Refusal) → 0 < length rest → read_line LogSection (first_line rest) ≡ Err r → end ≡ Some r → Ends rest end

-- What an input says.
pub data Reads (xs : List ℕ) (s : Contents Values) : Type 0 where
  -- cue lines, the parting line, log lines, and what is refused behind them
  parted : (rest : List ℕ) → Readable s.cues → AllByRecursion LogEvent s.text →
      xs ≡ cue_texts 0 s.cues ++ (10 ∷ (log_text s.text ++ rest)) → s.stop ≡ None → Ends rest s.end → Reads xs s
  -- cue lines, and what is refused behind them
  unparted : (rest : List ℕ) (r : Refusal) → Readable s.cues →
      xs ≡ cue_texts 0 s.cues ++ rest → Stops (length s.cues) rest r → s.stop ≡ Some r → s.text ≡ [] → s.end ≡ None → Reads xs s

-- Each input says exactly one thing.
abbrev pub ReadsOnce : List ℕ → Type 0
ReadsOnce xs = Reads xs (read_airings xs) × ((s : Contents Values) → Reads xs s → s ≡ read_airings xs)
