-- From events to signs: why matching signs finds the same cues as matching events.
use Rattle.std.specs.Prelude.{◌≡◌, ℕ, ◌<◌, Bool, true, List, ◌++◌, length, ◌==◌, slice_index_or}
use Rattle.matching.specs.Match.{Ends}
use Rattle.events.specs.Sameness.{same_lists}
use Rattle.book.specs.Signs.{sign_of, signs_of}
use Rattle.book.specs.Cues.{part_of}
use Rattle.book.specs.Held.{Held}
use Rattle.book.specs.declared.cue.Cue.{Cue}

-- The text is some list followed by a list that is the same as the given one, event by event.
abbrev pub EndsSame : {E : Type 0} → (E → E → Bool) → List E → List E → Type 0
EndsSame {E = E} same c t = (u : List E) × (v : List E) × (u ++ v ≡ t) × (same_lists same c v ≡ true)

-- An event has the sign of a material event exactly when the two are the same.
abbrev pub SignTells : {E : Type 0} → (E → E → Bool) → List E → E → Type 0
SignTells {E = E} same material e =
    (i : ℕ) (d : E) → i < length material → (sign_of same material (slice_index_or material i d) == sign_of same material e) ≡ same (slice_index_or material i d) e

-- A cue's events end a list of events exactly when its signs end the list of their signs.
abbrev pub CuesEnd : {E : Type 0} → (E → E → Bool) → Held E → Type 0
CuesEnd {E = E} same h =
    (c : Cue) (text : List E) →
    (EndsSame same (part_of h.material c) text → Ends (part_of h.signs c) (signs_of same h.material text)) ×
    (Ends (part_of h.signs c) (signs_of same h.material text) → EndsSame same (part_of h.material c) text)
