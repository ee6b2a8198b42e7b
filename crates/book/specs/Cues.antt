-- Cues (textbook: patterns) as parts of the material, and what a draft answers to an added one.
use Rattle.std.specs.Prelude.{ℕ, ◌+◌, ◌<◌, ◌≤◌, Bool, false, cond, ◌||◌, List, [], ◌∷◌, map, length, take, drop, Some, None, Ok, Err, Option, Result, ◌==◌, nat_lt, slice_index_or}
use Rattle.events.specs.Sameness.{same_lists}
use Rattle.events.specs.declared.Refusal.{Refusal}
use Rattle.events.specs.declared.Refusal.TheVariants.{EmptyCue, LongCue, BehindMaterial, BookFull, SameCue}
use Rattle.book.specs.declared.cue.Cue.{Cue}

-- The part of a list from a place on, of some length.
abbrev pub part : {X : Type 0} → ℕ → ℕ → List X → List X
part place len xs = take len (drop place xs)

-- What a cue is in the material, or in the list of the material's signs.
abbrev pub part_of : {X : Type 0} → List X → Cue → List X
part_of xs c = part c.place c.len xs

abbrev pub cue_at : ℕ → ℕ → Cue
cue_at place len = record { place = place; len = len }

abbrev pub parts_of : {X : Type 0} → List X → List Cue → List (List X)
parts_of xs cues = map (part_of xs) cues

-- The events of all cues together.
abbrev pub total : List Cue → ℕ
total [] = 0
total (c ∷ cues) = c.len + total cues

-- Some cue is the same as the given one, event by event.
abbrev pub has_same : {X : Type 0} → (X → X → Bool) → List X → List Cue → Cue → Bool
has_same same xs [] given = false
has_same same xs (c ∷ cues) given = same_lists same (part_of xs c) (part_of xs given) || has_same same xs cues given

-- A cue of 1 to 32 events inside the material.
abbrev pub Within : ℕ → Cue → Type 0
Within material c = (1 ≤ c.len) × (c.len ≤ 32) × (c.place + c.len ≤ material)

abbrev pub AllWithin : ℕ → List Cue → Type 0
AllWithin material cues = (k : ℕ) (d : Cue) → k < length cues → Within material (slice_index_or cues k d)

-- Why a cue that is to be added is refused: the first reason that applies. The material has so many
-- events; `there` says whether a same cue is there.
abbrev pub add_refusal : ℕ → List Cue → Bool → ℕ → ℕ → Option Refusal
add_refusal material cues there place len =
    cond (len == 0) (Some EmptyCue)
    (cond (nat_lt 32 len) (Some LongCue)
    (cond (nat_lt material (place + len)) (Some BehindMaterial)
    (cond (length cues == 128 || nat_lt 1024 (total cues + len)) (Some BookFull)
    (cond there (Some SameCue) None))))

-- The answer of a call: a refusal where there is one, else the value.
abbrev pub answer : {T : Type 0} → Option Refusal → T → Result T Refusal
answer None x = Ok x
answer (Some refusal) x = Err refusal
