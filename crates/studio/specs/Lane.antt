-- What a lane holds, and what an offer answers and leaves.
use Rattle.std.specs.Prelude.{ℕ, ◌+◌, ◌-◌, Bool, cond, ◌||◌, Some, None, Option, Result, ◌==◌, nat_le, nat_lt}
use Rattle.events.specs.declared.Refusal.{Refusal}
use Rattle.events.specs.declared.Refusal.TheVariants.{EndBelowLast, BadLength}
use Rattle.book.specs.Cues.{answer}
use Rattle.studio.specs.declared.lane.Lane.{Lane}

-- The first place behind every mark, the count of marks, and the end of the last granted offer.
pub record LaneHeld : Type 0 where
  pub edge : ℕ
  pub marks : ℕ
  pub last : ℕ

abbrev pub lane_held : Lane → LaneHeld
lane_held l = record { edge = l.edge; marks = l.marks; last = l.last }

-- A lane before any offer.
abbrev pub new_lane : LaneHeld
new_lane = record { edge = 0; marks = 0; last = 0 }

-- Why an offer is refused: its end is below the last, or it has no event or more than there are up to its end.
abbrev pub offer_refusal : LaneHeld → ℕ → ℕ → Option Refusal
offer_refusal h end len =
    cond (nat_lt end h.last) (Some EndBelowLast)
    (cond (len == 0 || nat_lt (end + 1) len) (Some BadLength) None)

-- The place of the first event of an offer.
abbrev pub start_of : ℕ → ℕ → ℕ
start_of end len = end + 1 - len

-- An offer that is not refused is marked where it begins at or behind the edge.
abbrev pub marked : LaneHeld → ℕ → ℕ → Bool
marked h end len = nat_le h.edge (start_of end len)

abbrev pub offer_answer : LaneHeld → ℕ → ℕ → Result Bool Refusal
offer_answer h end len = answer (offer_refusal h end len) (marked h end len)

-- What an offer that is not refused leaves.
abbrev pub granted : LaneHeld → ℕ → ℕ → LaneHeld
granted h end len =
    cond (marked h end len) (record { edge = end + 1; marks = h.marks + 1; last = end })
    (record { edge = h.edge; marks = h.marks; last = end })

-- The first where there is no refusal, else the second.
abbrev pub unless : {T : Type 0} → Option Refusal → T → T → T
unless None x y = x
unless (Some refusal) x y = y

-- What an offer leaves: a refused one changes nothing.
abbrev pub offered : LaneHeld → ℕ → ℕ → LaneHeld
offered h end len = unless (offer_refusal h end len) (granted h end len) h
