-- What an input of notes says: a line for each cue, the parting line, which is byte 10 alone, and the
-- text behind it, each byte of which is an event.
use Rattle.std.specs.Prelude.{ℕ, cond, List, [], ◌∷◌, ◌++◌, length, Some, None, ◌==◌}
use Rattle.events.specs.declared.Refusal.TheVariants.{Unreadable}
use Rattle.script.specs.Report.{Contents}

-- Cues with a parting line, and the text behind it.
abbrev pub with_text : List (List ℕ) → List ℕ → Contents ℕ
with_text cues text = record { cues = cues; stop = None; text = text; end = None }

-- Cues with no parting line behind them.
abbrev pub without_text : List (List ℕ) → Contents ℕ
without_text cues = record { cues = cues; stop = Some (Unreadable 0); text = []; end = None }

-- What the last argument says behind these cues and the bytes of a line that is not ended yet.
abbrev pub read_behind : List (List ℕ) → List ℕ → List ℕ → Contents ℕ
read_behind cues line [] = without_text cues
read_behind cues line (b ∷ bs) =
    cond (b == 10)
    (cond (length line == 0) (with_text cues bs) (read_behind (cues ++ line ∷ []) [] bs))
    (read_behind cues (line ++ b ∷ []) bs)

abbrev pub read_notes : List ℕ → Contents ℕ
read_notes xs = read_behind [] [] xs
