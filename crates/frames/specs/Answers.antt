-- The answers to the frames of an input.
use Rattle.std.specs.Prelude.{◌≡◌, ℕ, List, [], ◌++◌, Option, Some, None, ⊤}
use Rattle.std.specs.Io.KnownBytes.{Appends}
use Rattle.frames.specs.declared.frame.Frame.{Frame}
use Rattle.frames.specs.Frames.{first_length, GivesFrame}

-- What is written says of each frame of the input, in their order, what `Says` allows, and nothing else.
pub data Answered (Says : Frame → List ℕ → Type 0) : List ℕ → List ℕ → Type 0 where
  no_frame : (input : List ℕ) → first_length input ≡ None → Answered Says input []
  a_frame : (input left said more : List ℕ) (frame : Frame) → GivesFrame input (Some frame) left → Says frame said → Answered Says left more → Answered Says input (said ++ more)

-- The same, where the bytes of the input are known.
abbrev pub WritesAnswers : (Frame → List ℕ → Type 0) → Option (List ℕ) → Option (List ℕ) → Option (List ℕ) → Type 0
WritesAnswers Says None old new = ⊤
WritesAnswers Says (Some input) old new = (written : List ℕ) × Answered Says input written × Appends old new written
