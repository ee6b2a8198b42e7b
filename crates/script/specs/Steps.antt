-- What the steps towards a report come to.
use Rattle.std.specs.Prelude.{◌≡◌, ℕ, Bool, List, [], map, length, Some, None, Option}
use Rattle.events.specs.declared.Refusal.{Refusal}
use Rattle.book.specs.Held.{Held}
use Rattle.script.specs.Booking.{held_with}
use Rattle.script.specs.Report.{first_refused}
use Rattle.script.specs.declared.contents.Layout.{Layout}
use Rattle.script.specs.declared.contents.Layout.TheVariants.{PerEvent, PerCue}

-- The lines of so many cues with so many events in all.
abbrev pub lines_of : Layout → ℕ → ℕ → ℕ
lines_of PerEvent cues events = events
lines_of PerCue cues events = cues

-- A refusal that was found, else what comes later.
abbrev pub found : Option (Refusal × ℕ) → Option (Refusal × ℕ) → Option (Refusal × ℕ)
found None later = later
found (Some q) later = Some q

-- Adding the cues one by one found this refusal, or none; then the draft holds them all.
pub record Books {E : Type 0} (same : E → E → Bool) (layout : Layout) (cues : List (List E)) (r : Option (Refusal × ℕ)) (h : Held E) : Type 0 where
  pub value : (later : Option (Refusal × ℕ)) → found r later ≡ first_refused same layout [] cues later
  pub held : r ≡ None → h ≡ held_with same cues cues

-- The same of a draft with no cue, for whatever cues have these lengths and make up its material.
abbrev pub BooksAll : {E : Type 0} → (E → E → Bool) → Layout → List ℕ → Held E → Held E → Option (Refusal × ℕ) → Type 0
BooksAll {E = E} same layout lens h h' r = (cues : List (List E)) → lens ≡ map length cues → h ≡ held_with same cues [] → Books same layout cues r h'
