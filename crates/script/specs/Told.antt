-- The report in the words of the subject: which contents are accepted, what is listed of them, and else
-- which refusal comes, with its line and what stands before it.
use Rattle.std.specs.Prelude.{◌≡◌, ℕ, ◌+◌, Bool, List, [], ◌∷◌, ◌++◌, length, Some, None}
use Rattle.events.specs.Refused.{number_of}
use Rattle.events.specs.declared.Refusal.{Refusal}
use Rattle.columns.specs.Written.{total_line, refusal_line}
use Rattle.script.specs.Booking.{Booked, book_refusal}
use Rattle.script.specs.Report.{Contents, entry_lines, line_count, report_of}
use Rattle.script.specs.Runs.{Lists}
use Rattle.script.specs.declared.contents.Layout.{Layout}

pub data Reported {E : Type 0} (same : E → E → Bool) (layout : Layout) (s : Contents E) (out : List ℕ) : Type 0 where
  -- a book takes the cues before this one, and refuses this one: its last line is named
  cue_refused : (before : List (List E)) (c : List E) (after : List (List E)) (refusal : Refusal) →
      s.cues ≡ before ++ c ∷ after → Booked same before → book_refusal same before c ≡ Some refusal →
      out ≡ refusal_line (number_of refusal) (line_count layout (before ++ c ∷ [])) → Reported same layout s out
  -- a book takes all cues, and the line behind them is refused
  line_refused : (refusal : Refusal) → Booked same s.cues → s.stop ≡ Some refusal →
      out ≡ refusal_line (number_of refusal) (line_count layout s.cues + 1) → Reported same layout s out
  -- the text is refused behind some events: their runs are listed, then the refusal
  cut_short : (refusal : Refusal) (es : List (ℕ × ℕ × ℕ)) → Booked same s.cues → s.stop ≡ None → s.end ≡ Some refusal →
      Lists same s.cues s.text es →
      out ≡ entry_lines es ++ refusal_line (number_of refusal) (line_count layout s.cues + length s.text + 2) → Reported same layout s out
  -- accepted: the runs in the text, and the totals
  accepted : (es : List (ℕ × ℕ × ℕ)) → Booked same s.cues → s.stop ≡ None → s.end ≡ None →
      Lists same s.cues s.text es →
      out ≡ entry_lines es ++ total_line (length s.text) (length es) → Reported same layout s out

-- There is exactly one report of each contents.
abbrev pub ReportedOnce : {E : Type 0} → (E → E → Bool) → Layout → Contents E → Type 0
ReportedOnce same layout s =
    Reported same layout s (report_of same layout s) × ((out : List ℕ) → Reported same layout s out → out ≡ report_of same layout s)
