-- What a draft or a book holds, as lists, and how the calls on a draft change it.
use Rattle.std.specs.Prelude.{◌≡◌, ℕ, ◌+◌, Bool, cond, ◌&&◌, List, [], ◌∷◌, ◌++◌, map, length, take, vec_items, Option, ◌==◌}
use Rattle.events.specs.declared.Refusal.{Refusal}
use Rattle.matching.specs.Match.{listed}
use Rattle.book.specs.Cues.{add_refusal, cue_at, has_same, part, parts_of}
use Rattle.book.specs.Signs.{signs_of}
use Rattle.book.specs.declared.cue.Cue.{Cue}
use Rattle.book.specs.declared.draft.Book.{Book}
use Rattle.book.specs.declared.draft.Draft.{Draft}

-- The material, the signs of its events and the cues, each in their order.
pub record Held (E : Type 0) : Type 0 where
  pub material : List E
  pub signs : List ℕ
  pub cues : List Cue

abbrev pub book_held : {E : Type 0} → Book E → Held E
book_held b = record { material = vec_items b.material.events; signs = vec_items b.material.signs; cues = vec_items b.cues }

abbrev pub draft_held : {E : Type 0} → Draft E → Held E
draft_held d = book_held d.book

-- The cues of a book as lists of signs: what all matching is about.
abbrev pub cue_signs : {E : Type 0} → Held E → List (List ℕ)
cue_signs h = parts_of h.signs h.cues

-- A draft begun on a list of events: the first 2,048 are its material, and it has no cue.
abbrev pub begun : {E : Type 0} → (E → E → Bool) → List E → Held E
begun same events = record { material = take 2048 events; signs = signs_of same (take 2048 events) (take 2048 events); cues = [] }

-- The signs held are those of the material under this sameness. A draft that was begun keeps it, and
-- so does the book that it is sealed into.
abbrev pub Signed : {E : Type 0} → (E → E → Bool) → Held E → Type 0
Signed same h = h.signs ≡ signs_of same h.material h.material

-- The sign of an event as it is looked up: the material is read from a place on, and only at places that
-- are their own sign, so that no event is compared with two that are the same. Where the signs held are
-- those of the material, this is the sign of the event.
abbrev pub look_from : {E : Type 0} → (E → E → Bool) → ℕ → List E → List ℕ → E → ℕ
look_from same i [] signs e = 2048
look_from same i (m ∷ ms) [] e = 2048
look_from same i (m ∷ ms) (s ∷ signs) e = cond (s == i && same m e) i (look_from same (i + 1) ms signs e)

abbrev pub lookup : {E : Type 0} → (E → E → Bool) → Held E → E → ℕ
lookup same h e = look_from same 0 h.material h.signs e

abbrev pub lookups : {E : Type 0} → (E → E → Bool) → Held E → List E → List ℕ
lookups same h events = map (lookup same h) events

-- Why a cue is refused, where a same cue is told by sameness event by event.
abbrev pub add_refused : {E : Type 0} → (E → E → Bool) → Held E → ℕ → ℕ → Option Refusal
add_refused same h place len = add_refusal (length h.material) h.cues (has_same same h.material h.cues (cue_at place len)) place len

-- The same, where a same cue is told by equal signs.
abbrev pub add_refused_by_signs : {E : Type 0} → Held E → ℕ → ℕ → Option Refusal
add_refused_by_signs h place len = add_refusal (length h.material) h.cues (listed (cue_signs h) (part place len h.signs)) place len

-- With one cue more, behind the others.
abbrev pub with_cue : {E : Type 0} → Held E → Cue → Held E
with_cue h c = record { material = h.material; signs = h.signs; cues = h.cues ++ c ∷ [] }
