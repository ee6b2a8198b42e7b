-- The refusals by the numbers that callers and operators know them by.
use Rattle.std.specs.Prelude.{ℕ}
use Rattle.events.specs.declared.Refusal.{Refusal}
use Rattle.events.specs.declared.Refusal.TheVariants.{EmptyCue, LongCue, BehindMaterial, BookFull, SameCue, OverCapacity, ManyEndings, NoSuchCue, BehindCue, FullText, EndBelowLast, BadLength, Unreadable, Misnumbered, LongInput}

abbrev pub number_of : Refusal → ℕ
number_of EmptyCue = 1
number_of LongCue = 2
number_of BehindMaterial = 3
number_of BookFull = 4
number_of SameCue = 5
number_of OverCapacity = 6
number_of ManyEndings = 7
number_of NoSuchCue = 8
number_of BehindCue = 9
number_of FullText = 10
number_of EndBelowLast = 11
number_of BadLength = 12
number_of (Unreadable column) = 13
number_of Misnumbered = 14
number_of LongInput = 15
