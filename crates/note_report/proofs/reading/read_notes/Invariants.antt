use Rattle.std.proofs.Common.{◌≡◌, ◌≤◌, [], length}
use Rattle.script.specs.Listed.{cues_of}
use Rattle.note_report.specs.Reading.{read_behind, read_notes}
use Rattle.note_report.proofs.reading.read_notes.Given as goal

abbrev pub invariant-loop-cue : goal.invariant-loop-cue
invariant-loop-cue l = (read_behind (cues_of l.cues) [] l.rest ≡ read_notes l.input) × (length l.rest ≤ 32768)

abbrev pub decreases-loop-cue : goal.decreases-loop-cue
decreases-loop-cue l = length l.rest
