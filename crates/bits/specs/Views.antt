-- What an engine means: its cues, and what is live.
use Rattle.std.specs.Prelude.{ℕ, ◌+◌, ◌-◌, Bool, List, vec_items}
use Rattle.book.specs.Cues.{parts_of}
use Rattle.book.specs.declared.cue.Cue.{Cue}
use Rattle.bits_theory.specs.Laid.{reach}
use Rattle.bits_theory.specs.Words.{bit}
use Rattle.bits.specs.declared.shift_and.BitEngine.{BitEngine}

-- The signs of all cues, laid end to end.
abbrev pub signs_of : BitEngine → List ℕ
signs_of e = vec_items e.masks.signs

-- The cues, each a part of these signs.
abbrev pub cues_of : BitEngine → List (List ℕ)
cues_of e = parts_of (signs_of e) (vec_items e.spans)

-- The live beginning: the longest front of a cue whose bit is set.
abbrev pub live_of : BitEngine → List ℕ
live_of e = reach e.state (signs_of e) (vec_items e.spans)

-- A step is one shift and one look-up, so nothing is counted.
abbrev pub cost_of : BitEngine → ℕ
cost_of e = 0

-- The bit of a cue's last place.
abbrev pub whole_set : ℕ → Cue → Bool
whole_set state c = bit state (c.place + c.len - 1)
