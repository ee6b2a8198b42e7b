-- Which cues a book takes, told by the cues as lists of events.
use Rattle.std.specs.Prelude.{◌≡◌, ℕ, ◌+◌, ◌<◌, ◌≤◌, Bool, false, cond, ◌||◌, List, [], ◌∷◌, map, length, take, Some, None, Option, ◌==◌, nat_lt, slice_index_or}
use Rattle.std.specs.List.{flat_map, AllByRecursion}
use Rattle.book.specs.Cues.{cue_at}
use Rattle.book.specs.Held.{Held}
use Rattle.book.specs.Signs.{signs_of}
use Rattle.book.specs.declared.cue.Cue.{Cue}
use Rattle.events.specs.Sameness.{same_lists}
use Rattle.events.specs.declared.Refusal.{Refusal}
use Rattle.events.specs.declared.Refusal.TheVariants.{EmptyCue, LongCue, BookFull, SameCue}

-- The events of all cues together.
abbrev pub size : {E : Type 0} → List (List E) → ℕ
size [] = 0
size (c ∷ cues) = length c + size cues

-- Some cue is the same as the given one, event by event.
abbrev pub has_cue : {E : Type 0} → (E → E → Bool) → List (List E) → List E → Bool
has_cue same [] given = false
has_cue same (c ∷ cues) given = same_lists same c given || has_cue same cues given

-- Why a cue is refused behind those that the book has: the first reason that applies. The material is
-- made of the cues themselves, so that none ends behind it.
abbrev pub book_refusal : {E : Type 0} → (E → E → Bool) → List (List E) → List E → Option Refusal
book_refusal same before c =
    cond (length c == 0) (Some EmptyCue)
    (cond (nat_lt 32 (length c)) (Some LongCue)
    (cond (length before == 128 || nat_lt 1024 (size before + length c)) (Some BookFull)
    (cond (has_cue same before c) (Some SameCue) None)))

-- Cues of these lengths, one behind the other from a place on.
abbrev pub cues_at : ℕ → List ℕ → List Cue
cues_at place [] = []
cues_at place (n ∷ ns) = cue_at place n ∷ cues_at (place + n) ns

-- What a draft holds that was begun on the events of all these cues and has been given those before.
abbrev pub held_with : {E : Type 0} → (E → E → Bool) → List (List E) → List (List E) → Held E
held_with same cues before =
    record {
      material = take 2048 (flat_map (λ c. c) cues);
      signs = signs_of same (take 2048 (flat_map (λ c. c) cues)) (take 2048 (flat_map (λ c. c) cues));
      cues = cues_at 0 (map length before);
    }

-- The cues are those of a book: at most 128 of 1 to 32 events, 1,024 events in all, and no two the same.
pub record Booked {E : Type 0} (same : E → E → Bool) (cues : List (List E)) : Type 0 where
  pub sizes : AllByRecursion (λ c. (1 ≤ length c) × (length c ≤ 32)) cues
  pub few : length cues ≤ 128
  pub together : size cues ≤ 1024
  pub apart : (i j : ℕ) → i < j → j < length cues → same_lists same (slice_index_or cues i []) (slice_index_or cues j []) ≡ false
