-- The frames at the front of an input.
use Rattle.std.specs.Prelude.{◌≡◌, ℕ, cond, ◌==◌, nat_le, List, ◌++◌, length, drop, slice_index, Option, Some, None, MatchOption}
use Rattle.columns.specs.Fields.{number_below}
use Rattle.columns.specs.Lines.{columns, first_line}
use Rattle.frames.specs.declared.frame.Frame.{Frame}
use Rattle.frames.specs.declared.frame.Frames.{Frames}

-- What is left of an input.
abbrev pub rest_of : Frames → List ℕ
rest_of frames = frames.rest.now

-- One more than the greatest length of a payload.
abbrev pub lengths : ℕ
lengths = 10000000

-- The length of the payload that a header says, where the header is good: 10 bytes, and the length in
-- columns 3 to 9.
abbrev pub payload_length : List ℕ → Option ℕ
payload_length header = cond (length header == 10) (number_below lengths (columns 3 9 header)) None

-- What stands behind the first line of an input.
abbrev pub behind_header : List ℕ → List ℕ
behind_header input = drop (length (first_line input)) input

-- A length, where there are that many bytes.
abbrev pub at_hand : ℕ → Option ℕ → Option ℕ
at_hand bytes None = None
at_hand bytes (Some n) = cond (nat_le n bytes) (Some n) None

-- The length of the first frame's payload, where the input begins with a whole frame.
abbrev pub first_length : List ℕ → Option ℕ
first_length input = at_hand (length (behind_header input)) (payload_length (first_line input))

-- The first frame is given where the input begins with one, and the input behind it is left; else nothing
-- is given, and the input is left as it was.
abbrev pub GivesFrame : List ℕ → Option Frame → List ℕ → Type 0
GivesFrame input given left =
    MatchOption given
    ((first_length input ≡ None) × (left ≡ input))
    (λ f. (first_length input ≡ Some (length f.payload.now)) × (f.letter ≡ slice_index (first_line input) 0) × (behind_header input ≡ f.payload.now ++ left))
