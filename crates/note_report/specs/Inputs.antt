-- Inputs of notes in the words of the subject: an input says what it is the text of.
use Rattle.std.specs.Prelude.{◌≡◌, ℕ, ◌<◌, List, [], ◌∷◌, ◌++◌, length, Some, None}
use Rattle.std.specs.List.{AllByRecursion}
use Rattle.events.specs.declared.Refusal.TheVariants.{Unreadable}
use Rattle.script.specs.Report.{Contents}
use Rattle.note_report.specs.Reading.{read_notes}

-- Bytes with no byte 10 among them.
abbrev pub Unbroken : List ℕ → Type 0
Unbroken bs = AllByRecursion (λ b. (b ≡ 10) → ⊥) bs

-- A cue that a line can say: at least one byte, and none of them byte 10.
abbrev pub Sayable : List ℕ → Type 0
Sayable cue = (0 < length cue) × Unbroken cue

-- The lines of cues: each cue and its byte 10.
abbrev pub note_lines : List (List ℕ) → List ℕ
note_lines [] = []
note_lines (c ∷ cues) = c ++ (10 ∷ note_lines cues)

pub data Reads (xs : List ℕ) (s : Contents ℕ) : Type 0 where
  -- the lines of the cues, the parting line and the text
  parted : AllByRecursion Sayable s.cues → xs ≡ note_lines s.cues ++ (10 ∷ s.text) → s.stop ≡ None → s.end ≡ None → Reads xs s
  -- the lines of the cues, and behind them neither a parting line nor the end of a line
  unparted : (rest : List ℕ) → AllByRecursion Sayable s.cues → Unbroken rest → xs ≡ note_lines s.cues ++ rest →
      s.stop ≡ Some (Unreadable 0) → s.text ≡ [] → s.end ≡ None → Reads xs s

-- Each input says exactly one thing.
abbrev pub ReadsOnce : List ℕ → Type 0
ReadsOnce xs = Reads xs (read_notes xs) × ((s : Contents ℕ) → Reads xs s → s ≡ read_notes xs)
