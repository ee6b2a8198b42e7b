use Rattle.std.proofs.Common.{◌≡◌, ◌++◌, map, length, vec_items}
use Rattle.columns.specs.AsRuns.{values_of}
use Rattle.columns.specs.Lines.{lines_of}
use Rattle.airing_report.specs.Reading.{end_of, text_of}
use Rattle.airing_report.proofs.reading.read_log.Given as goal

abbrev pub invariant-loop-rest : goal.invariant-loop-rest
invariant-loop-rest l =
    (map values_of (vec_items l.text) ++ text_of (lines_of l.rest) ≡ map values_of (vec_items l.initial.text) ++ text_of (lines_of l.log)) ×
    (end_of (lines_of l.rest) ≡ end_of (lines_of l.log))

abbrev pub decreases-loop-rest : goal.decreases-loop-rest
decreases-loop-rest l = length l.rest
