-- What is printed of a refusal.
use Rattle.std.specs.Prelude.{ℕ, List, ◌++◌, codes}
use Rattle.std.specs.Fmt.{decimal}
use Rattle.events.specs.declared.Refusal.{Refusal}
use Rattle.events.specs.declared.Refusal.TheVariants.{EmptyCue, LongCue, BehindMaterial, BookFull, SameCue, OverCapacity, ManyEndings, NoSuchCue, BehindCue, FullText, EndBelowLast, BadLength, Unreadable, Misnumbered, LongInput}

abbrev pub words_of : Refusal → List ℕ
words_of EmptyCue = codes "the cue has no event"
words_of LongCue = codes "the cue has more than 32 events"
words_of BehindMaterial = codes "the cue ends behind the material"
words_of BookFull = codes "the book has no room for the cue"
words_of SameCue = codes "the book has a same cue"
words_of OverCapacity = codes "the cues have more signs than the engine holds"
words_of ManyEndings = codes "more than 32 cues end a cue"
words_of NoSuchCue = codes "there is no such cue"
words_of BehindCue = codes "the length is longer than the cue"
words_of FullText = codes "the text is full"
words_of EndBelowLast = codes "the end is below the last end"
words_of BadLength = codes "the length is 0, or over the end and 1"
words_of (Unreadable column) = codes "the line is not readable at column " ++ decimal column
words_of Misnumbered = codes "the cue number is neither the last one nor one more"
words_of LongInput = codes "the input has more than 32,768 bytes"
