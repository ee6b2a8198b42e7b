-- The rows of a cue sheet: its lines up to the parting line, as events of numbered cues.
use Rattle.std.specs.Prelude.{ℕ, suc, ◌+◌, ◌-◌, Bool, true, false, cond, List, [], ◌∷◌, ◌++◌, length, Some, None, Ok, Err, Option, Result, ◌==◌}
use Rattle.std.specs.List.{flat_map}
use Rattle.std.specs.Result.{result_err}
use Rattle.events.specs.declared.Refusal.{Refusal}
use Rattle.events.specs.declared.Refusal.TheVariants.{Unreadable, Misnumbered}
use Rattle.book.specs.Cues.{cue_at}
use Rattle.book.specs.declared.cue.Cue.{Cue}
use Rattle.columns.specs.Lines.{Fields, cue, log, parting, read_line, event_of, cue_number_of}
use Rattle.columns.specs.declared.line.Section.TheVariants.{Cues}
-- An event by its second, kind letter and cart.
pub use Rattle.columns.specs.AsRuns.{Values}
-- What a line of the sheet is, where so many cues have begun before it: an event of the last of these
-- cues or of the next one, the parting line, or refused.
pub use Rattle.cue_lines.specs.Reading.{Step as Kind, more, next, parts, refused}

-- A cue line's number is the last cue's or one more; the first is 0.
abbrev pub numbered : ℕ → Option ℕ → Option Values → Kind
numbered cues None event = refused (Unreadable 0)
numbered cues (Some n) None = refused (Unreadable 0)
numbered cues (Some n) (Some e) = cond (suc n == cues) (more e) (cond (n == cues) (next e) (refused Misnumbered))

abbrev pub kind_from : ℕ → Result Fields Refusal → Kind
kind_from cues (Ok (cue n k c)) = numbered cues (cue_number_of (cue n k c)) (event_of (cue n k c))
kind_from cues (Ok (log s k c)) = refused (Unreadable 0)
kind_from cues (Ok parting) = parts
kind_from cues (Err refusal) = refused refusal

abbrev pub kind_of : ℕ → List ℕ → Kind
kind_of cues line = kind_from cues (read_line Cues line)

-- A sheet as far as it was read: the events of its cue lines, the place at which each cue begins among
-- them, and why the line behind them is refused; none at the parting line.
pub record Sheet : Type 0 where
  pub events : List Values
  pub starts : List ℕ
  pub stop : Option Refusal

-- One line more, by its kind.
abbrev pub events_after : Kind → List Values → List Values
events_after (more e) events = events ++ e ∷ []
events_after (next e) events = events ++ e ∷ []
events_after parts events = events
events_after (refused r) events = events

abbrev pub starts_after : Kind → List Values → List ℕ → List ℕ
starts_after (more e) events starts = starts
starts_after (next e) events starts = starts ++ length events ∷ []
starts_after parts events starts = starts
starts_after (refused r) events starts = starts

abbrev pub goes_on : Kind → Bool
goes_on (more e) = true
goes_on (next e) = true
goes_on parts = false
goes_on (refused r) = false

abbrev pub stop_of : Kind → Option Refusal
stop_of (more e) = None
stop_of (next e) = None
stop_of parts = None
stop_of (refused r) = Some r

-- A sheet with no line behind these events: no parting line is as a line that is not readable.
abbrev pub unread : List Values → List ℕ → Sheet
unread events starts = record { events = events; starts = starts; stop = Some (Unreadable 0) }

-- The sheet of some lines, behind the events and starts read before.
abbrev pub read_sheet : List Values → List ℕ → List (List ℕ) → Sheet
read_sheet events starts [] = unread events starts
read_sheet events starts (l ∷ ls) =
    cond (goes_on (kind_of (length starts) l))
    (read_sheet (events_after (kind_of (length starts) l) events) (starts_after (kind_of (length starts) l) events starts) ls)
    (record { events = events; starts = starts; stop = stop_of (kind_of (length starts) l) })

-- The cues of a sheet of so many events: each from its start to the next cue's.
abbrev pub cues_from : List ℕ → ℕ → List Cue
cues_from [] n = []
cues_from (s ∷ []) n = cue_at s (n - s) ∷ []
cues_from (s ∷ (t ∷ ss)) n = cue_at s (t - s) ∷ cues_from (t ∷ ss) n

-- Where cues begin, each behind the one before, from a place on.
abbrev pub starts_from : ℕ → List (List Values) → List ℕ
starts_from place [] = []
starts_from place (c ∷ cues) = place ∷ starts_from (place + length c) cues

-- The sheet of these cues, with how their lines end.
abbrev pub sheet_of : {A : Type 0} → List (List Values) → Result A Refusal → Sheet
sheet_of cues end = record { events = flat_map (λ c. c) cues; starts = starts_from 0 cues; stop = result_err end }
