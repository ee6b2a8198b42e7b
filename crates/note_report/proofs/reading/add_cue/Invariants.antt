use Rattle.std.proofs.Common.{◌≡◌, ℕ, [], ◌∷◌, ◌++◌, take}
use Rattle.script.specs.Listed.{cues_of}
use Rattle.note_report.proofs.reading.add_cue.Given as goal

abbrev pub invariant-loop-b : goal.invariant-loop-b
invariant-loop-b l = (first : ℕ) × (l.bytes ≡ first ∷ l.others) × (cues_of l.cues ≡ cues_of l.fn.cues ++ (first ∷ take l.b-index l.others) ∷ [])
