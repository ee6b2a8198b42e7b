-- The report of a whole input.
use Rattle.std.specs.Prelude.{◌≡◌, ℕ, ◌<◌, ◌≤◌, Bool, cond, List, length, nat_lt}
use Rattle.events.specs.Refused.{number_of}
use Rattle.events.specs.declared.Refusal.TheVariants.{LongInput}
use Rattle.columns.specs.Written.{refusal_line}
use Rattle.script.specs.Report.{Contents, report_of}
use Rattle.script.specs.Told.{Reported}
use Rattle.script.specs.declared.contents.Layout.{Layout}

-- An input has at most so many bytes.
abbrev pub longest_input : ℕ
longest_input = 32768

-- What is written for an input that is too long.
abbrev pub too_long_report : List ℕ
too_long_report = refusal_line (number_of LongInput) 0

-- What is written for an input, by what is read of it.
abbrev pub input_report : {E : Type 0} → (E → E → Bool) → Layout → (List ℕ → Contents E) → List ℕ → List ℕ
input_report same layout read xs = cond (nat_lt longest_input (length xs)) too_long_report (report_of same layout (read xs))

-- The same in the words of the subject, where `Reads` relates an input to what it says.
pub data Answered {E : Type 0} (same : E → E → Bool) (layout : Layout) (Reads : List ℕ → Contents E → Type 0) (xs out : List ℕ) : Type 0 where
  too_long : longest_input < length xs → out ≡ too_long_report → Answered same layout Reads xs out
  reported : length xs ≤ longest_input → (s : Contents E) → Reads xs s → Reported same layout s out → Answered same layout Reads xs out

-- Each input has exactly one answer.
abbrev pub AnsweredOnce : {E : Type 0} → (E → E → Bool) → Layout → (List ℕ → Contents E) → (List ℕ → Contents E → Type 0) → List ℕ → Type 0
AnsweredOnce same layout read Reads xs =
    Answered same layout Reads xs (input_report same layout read xs) ×
    ((out : List ℕ) → Answered same layout Reads xs out → out ≡ input_report same layout read xs)
