-- The laws of the bit engine. Each is proved: a function of this crate has it as its contract.
use Rattle.std.specs.Prelude.{◌≡◌, ℕ, ◌<◌, ◌≤◌, true, List, [], length, ◌==◌, slice_index, slice_index_or}
use Rattle.book.specs.Cues.{parts_of}
use Rattle.book.specs.declared.cue.Cue.{Cue}
use Rattle.matching.specs.Match.{beginning, sightings}
use Rattle.bits_theory.specs.Words.{bit}
use Rattle.bits_theory.specs.Laid.{Spanned, Starts, Exact, reach, stepped, Stepped}
use Rattle.bits_theory.specs.Below.{endings}

-- Where the bits are exact for a beginning, the longest front whose bit is set is that beginning.
abbrev pub ReachRight : Type 0
ReachRight =
    (state : ℕ) (signs : List ℕ) (spans : List Cue) (t : List ℕ) →
    Spanned (length signs) spans → Exact state signs spans t → beginning (parts_of signs spans) t ≡ true → reach state signs spans ≡ t

-- Shift-And steps from the live beginning to the live beginning.
abbrev pub StepRight : Type 0
StepRight =
    (state firsts mask s : ℕ) (signs : List ℕ) (spans : List Cue) →
    Spanned (length signs) spans → Starts firsts spans → Exact state signs spans (reach state signs spans) → length signs ≤ 64 →
    ((p : ℕ) → p < length signs → bit mask p ≡ (slice_index signs p == s)) → Stepped state (stepped state firsts mask) s signs spans

-- Where no cue is empty, there are as many sightings as cues that end the text.
abbrev pub CountRight : Type 0
CountRight =
    (cues : List (List ℕ)) (t : List ℕ) →
    ((n : ℕ) → n < length cues → 0 < length (slice_index_or cues n [])) → length (sightings cues t) ≡ endings cues t
