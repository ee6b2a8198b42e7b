-- Which events stand behind an entry, and where they are taken from.
use Rattle.std.specs.Prelude.{◌≡◌, ℕ, ◌+◌, ◌-◌, ◌≤◌, Bool, cond, ◌&&◌, List, length, Some, None, Option, ◌==◌, nat_le, nat_lt, slice_index_or}
use Rattle.book.specs.Cues.{cue_at, part, part_of}
use Rattle.book.specs.Held.{Held}
use Rattle.book.specs.declared.cue.Cue.{Cue}
use Rattle.book.specs.declared.entry.Entry.{Entry}
use Rattle.studio.specs.declared.shown.Shown.{Shown}
use Rattle.studio.specs.declared.shown.Shown.TheVariants.{Log, Material}

-- Events with where they are taken from: a piece of the log, or the material.
pub data Part (E : Type 0) : Type 0 where
  of_log : List E → Part E
  of_material : List E → Part E

abbrev pub part_shown : {E : Type 0} → Shown E → Part E
part_shown (Log events) = of_log events.now
part_shown (Material events) = of_material events.now

abbrev pub shown_of : {E : Type 0} → Option (Shown E) → Option (Part E)
shown_of None = None
shown_of (Some shown) = Some (part_shown shown)

-- The cue of a number that is below the count of cues.
abbrev pub cue_numbered : List Cue → ℕ → Cue
cue_numbered cues number = slice_index_or cues number (cue_at 0 0)

-- The book has the cue of this number, and it has this length.
abbrev pub has_cue : List Cue → ℕ → ℕ → Bool
has_cue cues number len = nat_lt number (length cues) && (cue_numbered cues number).len == len

-- The events of the cue, where the book has it with this length.
abbrev pub cue_events : {E : Type 0} → Held E → ℕ → ℕ → Option (List E)
cue_events h number len = cond (has_cue h.cues number len) (Some (part_of h.material (cue_numbered h.cues number))) None

-- The places of the entry's events, place + 1 - len to place, are all among the `held` places from `first` on.
abbrev pub all_there : ℕ → ℕ → Entry → Bool
all_there first held entry = nat_le (first + entry.len) (entry.place + 1) && nat_le (entry.place + 1) (first + held)

-- The entry's events in a piece of the log that begins at place `first`.
abbrev pub log_part : {E : Type 0} → List E → ℕ → Entry → List E
log_part log first entry = part (entry.place + 1 - entry.len - first) entry.len log

abbrev pub showing : {E : Type 0} → Held E → List E → ℕ → Entry → Option (Part E)
showing h log first entry =
    cond (has_cue h.cues entry.cue entry.len)
    (Some (cond (all_there first (length log) entry) (of_log (log_part log first entry)) (of_material (part_of h.material (cue_numbered h.cues entry.cue)))))
    None

-- What is shown from the log stands in the piece at the entry's places, all of which the piece has.
abbrev pub InPlace : {E : Type 0} → List E → ℕ → Entry → Option (Part E) → Type 0
InPlace {E = E} log first entry o =
    (events : List E) → o ≡ Some (of_log events) →
    (first + entry.len ≤ entry.place + 1) × (entry.place + 1 ≤ first + length log) × (events ≡ part (entry.place + 1 - entry.len - first) entry.len log)

-- And so it stands at the entry's places in every whole log of which this is the piece from place `first` on.
abbrev pub OfWhole : {E : Type 0} → List E → ℕ → Entry → Option (Part E) → Type 0
OfWhole {E = E} log first entry o =
    (whole events : List E) → part first (length log) whole ≡ log → o ≡ Some (of_log events) → events ≡ part (entry.place + 1 - entry.len) entry.len whole

-- What is shown from the material is the cue's events, and what is shown has the entry's length.
pub record SameEvents {E : Type 0} (h : Held E) (entry : Entry) (o : Option (Part E)) : Type 0 where
  pub log : (events : List E) → o ≡ Some (of_log events) → length events ≡ entry.len
  pub material : (events : List E) → o ≡ Some (of_material events) → (events ≡ part_of h.material (cue_numbered h.cues entry.cue)) × (length events ≡ entry.len)
