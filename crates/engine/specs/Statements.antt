-- What an engine answers, and when it refuses.
use Rattle.std.specs.Prelude.{ℕ, ◌-◌, cond, ◌&&◌, List, [], length, take, Some, None, Option, ◌==◌, nat_le, nat_lt, slice_index_or}
use Rattle.events.specs.declared.Refusal.{Refusal}
use Rattle.events.specs.declared.Refusal.TheVariants.{OverCapacity, NoSuchCue, BehindCue}
use Rattle.matching.specs.Calls.{total}

-- A load is refused exactly when the cues have more signs in all than the engine has room for.
abbrev pub load_refusal : ℕ → List (List ℕ) → Option Refusal
load_refusal room cues = cond (nat_lt room (total cues)) (Some OverCapacity) None

-- A resume is refused where there is no such cue, unless it is (0, 0), or where the cue is shorter.
abbrev pub resume_refusal : List (List ℕ) → ℕ × ℕ → Option Refusal
resume_refusal cues s =
    cond (s.0 == 0 && s.1 == 0) None
    (cond (nat_le (length cues) s.0) (Some NoSuchCue)
    (cond (nat_lt (length (slice_index_or cues s.0 [])) s.1) (Some BehindCue) None))

-- The beginning that a standing names: the first signs of the cue.
abbrev pub named : List (List ℕ) → ℕ × ℕ → List ℕ
named cues s = take s.1 (slice_index_or cues s.0 [])

-- The i-th of a list of sightings, counted from 1.
abbrev pub ith : ℕ → List (ℕ × ℕ) → Option (ℕ × ℕ)
ith i seen = cond (nat_le 1 i && nat_le i (length seen)) (Some (slice_index_or seen (i - 1) (0, 0))) None
