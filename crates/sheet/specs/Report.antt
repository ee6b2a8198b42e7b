-- What the program writes of a cue sheet.
use Rattle.std.specs.Prelude.{ℕ, ◌+◌, Bool, cond, List, [], ◌∷◌, ◌++◌, length, Some, None, Option, nat_lt}
use Rattle.events.specs.Refused.{number_of}
use Rattle.events.specs.declared.Refusal.{Refusal}
use Rattle.events.specs.declared.Refusal.TheVariants.{LongInput}
use Rattle.book.specs.Held.{Held, add_refused, begun, with_cue}
use Rattle.book.specs.declared.cue.Cue.{Cue}
use Rattle.columns.specs.Lines.{lines_of}
use Rattle.columns.specs.Written.{entry_line, total_line, refusal_line}
use Rattle.sheet.specs.Rows.{Sheet, read_sheet, cues_from}
-- Two events are the same where kind letter and cart are equal.
pub use Rattle.columns.specs.AsRuns.{same_values}

-- The last line: the totals of the sealed book, or why the line behind the cue lines is refused.
abbrev pub last_line : {E : Type 0} → Held E → ℕ → Option Refusal → List ℕ
last_line h lines None = total_line (length h.material) (length h.cues)
last_line h lines (Some refusal) = refusal_line (number_of refusal) (lines + 1)

-- A line for a cue and what follows, or the refusal with the number of the cue's last line.
abbrev pub cue_line : Option Refusal → Cue → ℕ → List ℕ → List ℕ
cue_line None c number rest = entry_line c.place number c.len ++ rest
cue_line (Some refusal) c number rest = refusal_line (number_of refusal) (c.place + c.len)

-- The cues that are added one by one to what is held, and the last line. Each of the sheet's lines
-- up to the parting line has one event, so a cue's last line is as many lines down as events.
abbrev pub listing : {E : Type 0} → (E → E → Bool) → Held E → List Cue → ℕ → Option Refusal → List ℕ
listing same h [] lines stop = last_line h lines stop
listing same h (c ∷ cs) lines stop =
    cue_line (add_refused same h c.place c.len) c (length h.cues) (listing same (with_cue h c) cs lines stop)

abbrev pub sheet_listing : Sheet → List ℕ
sheet_listing s = listing same_values (begun same_values s.events) (cues_from s.starts (length s.events)) (length s.events) s.stop

-- All that is written for an input.
abbrev pub sheet_report : List ℕ → List ℕ
sheet_report input = cond (nat_lt 32768 (length input)) (refusal_line (number_of LongInput) 0) (sheet_listing (read_sheet [] [] (lines_of input)))
