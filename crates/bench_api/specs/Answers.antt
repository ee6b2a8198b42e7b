-- The answer of a call that takes no fault, for a tally or a fault.
use Rattle.std.specs.Prelude.{◌≡◌, MatchResult, Result}
use Rattle.bench_api.specs.Faults.{status_of}
use Rattle.bench_api.specs.declared.fault.Fault.{Fault}
use Rattle.bench_api.specs.declared.tally.Tally.{Tally}

abbrev pub AnswersFor : Result Tally Fault → Tally → Type 0
AnswersFor given answer =
    MatchResult given
    (λ tally. (answer.status ≡ 0) × (answer.sightings ≡ tally.sightings) × (answer.checksum ≡ tally.checksum))
    (λ fault. (answer.status ≡ status_of fault) × (answer.sightings ≡ 0) × (answer.checksum ≡ 0))
