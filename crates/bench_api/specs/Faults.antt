-- What a measured call answers where it has no tally, as a status and in words.
use Rattle.std.specs.Prelude.{ℕ, List, codes}
use Rattle.events.specs.Refused.{number_of}
use Rattle.events.specs.Words.{words_of}
use Rattle.bench_api.specs.declared.fault.Fault.{Fault}
use Rattle.bench_api.specs.declared.fault.Fault.TheVariants.{Refused, NoMemory}

abbrev pub status_of : Fault → ℕ
status_of (Refused refusal) = number_of refusal
status_of NoMemory = 255

abbrev pub fault_words : Fault → List ℕ
fault_words (Refused refusal) = words_of refusal
fault_words NoMemory = codes "out of memory"
