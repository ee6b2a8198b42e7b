use Rattle.std.proofs.Common.{◌≡◌, Ok, ℕ, List, ◌++◌}
use Rattle.std.specs.Io.KnownBytes.{Appends}
use Rattle.frames.specs.Frames.{rest_of}
use Rattle.frames.specs.Answers.{Answered}
use Rattle.frames.proofs.io_answers.answer_frames.Given as goal

abbrev pub invariant-loop-frame : goal.invariant-loop-frame
invariant-loop-frame g l =
    (written : List ℕ) × Appends (g.O.Write.contents l.fn.output) (g.O.Write.contents l.output) written
    × ((more : List ℕ) → Answered (λ frame said. (v : _) × goal.F-post g l.answer l.heap frame.letter frame.payload (Ok v) × (v.items ≡ said)) (rest_of l.frame-iterator) more → Answered (λ frame said. (v : _) × goal.F-post g l.answer l.heap frame.letter frame.payload (Ok v) × (v.items ≡ said)) (rest_of l.initial.frame-iterator) (written ++ more))
