use Rattle.std.proofs.Common.{◌≡◌, length}
use Rattle.columns.specs.Lines.{lines_of}
use Rattle.cue_lines.specs.Reading.{read_cues, values_in}
use Rattle.cue_lines.proofs.reading.read_cues.Given as goal

abbrev pub invariant-loop-rest : goal.invariant-loop-rest
invariant-loop-rest l = read_cues (values_in l.cues) (lines_of l.rest) ≡ read_cues (values_in l.initial.cues) (lines_of l.input)

abbrev pub decreases-loop-rest : goal.decreases-loop-rest
decreases-loop-rest l = length l.rest
