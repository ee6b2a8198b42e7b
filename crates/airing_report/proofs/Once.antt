-- Each input says exactly one thing.
use Rattle.std.proofs.Common.{ℕ, List}
use Rattle.airing_report.specs.Inputs.{ReadsOnce}
use Rattle.airing_report.proofs.Existing.{reads}
use Rattle.airing_report.proofs.Unique.{unique}

pub reads_once : (xs : List ℕ) → ReadsOnce xs
reads_once xs = (reads xs, unique xs)
