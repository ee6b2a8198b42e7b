-- The laws of matching, in the textbook's words. Each is proved: a function of this crate has it as its contract.
-- Assumes nothing.
use Rattle.std.specs.Prelude.{◌≡◌, ℕ, suc, ◌+◌, ◌*◌, ◌<◌, ◌≤◌, true, false, ◌&&◌, ◌⊎◌, List, [], ◌∷◌, ◌++◌, length, get_or, take, Some, ◌==◌, ◌≢◌, slice_index_or}
use Rattle.std.specs.List.{AllByRecursion}
use Rattle.matching.specs.Match.{begins, beginning, live, exact, sightings, standing, link, tries, trials, Ends, ends, wait, Sighted, Among, distinct, filled, Signs, Alike}

-- a list is a beginning exactly when it is empty or some cue is that list and more
abbrev pub BeginningRead : Type 0
BeginningRead =
    (cues : List (List ℕ)) (b : List ℕ) →
    (beginning cues b ≡ true → (b ≡ []) ⊎ ((n : ℕ) × (n < length cues) × ((s : List ℕ) × (b ++ s ≡ slice_index_or cues n [])))) ×
    ((b ≡ []) ⊎ ((n : ℕ) × (n < length cues) × ((s : List ℕ) × (b ++ s ≡ slice_index_or cues n []))) → beginning cues b ≡ true)

-- a front of a beginning is a beginning
abbrev pub FrontsBegin : Type 0
FrontsBegin =
    (cues : List (List ℕ)) (b s : List ℕ) → beginning cues (b ++ s) ≡ true → beginning cues b ≡ true

-- the live beginning is a beginning, ends the text, and no longer beginning does
abbrev pub LiveRight : Type 0
LiveRight =
    (cues : List (List ℕ)) (t : List ℕ) →
    (beginning cues (live cues t) ≡ true) × Ends (live cues t) t ×
    ((b : List ℕ) → beginning cues b ≡ true → Ends b t → length b ≤ length (live cues t))

-- and nothing else is so
abbrev pub LiveOnly : Type 0
LiveOnly =
    (cues : List (List ℕ)) (t b : List ℕ) → beginning cues b ≡ true → Ends b t →
    ((a : List ℕ) → beginning cues a ≡ true → Ends a t → length a ≤ length b) → b ≡ live cues t

-- the live beginning after more signs depends on the live beginning alone
abbrev pub LiveEnough : Type 0
LiveEnough = (cues : List (List ℕ)) (t s : List ℕ) → live cues (live cues t ++ s) ≡ live cues (t ++ s)

-- so do the sightings; in particular a text and its live beginning have the same sightings
abbrev pub SightingsLive : Type 0
SightingsLive =
    (cues : List (List ℕ)) (t : List ℕ) →
    ((s : List ℕ) → sightings cues (live cues t ++ s) ≡ sightings cues (t ++ s)) × (sightings cues (live cues t) ≡ sightings cues t)

-- the sightings are exactly the cues that end the text
abbrev pub SightingsRead : Type 0
SightingsRead =
    (cues : List (List ℕ)) (t : List ℕ) → filled cues ≡ true → (n k : ℕ) →
    (Among (n, k) (sightings cues t) → Sighted cues t n k) × (Sighted cues t n k → Among (n, k) (sightings cues t))

-- where no two cues are equal, the lengths of the sightings fall strictly
abbrev pub SightingsFall : Type 0
SightingsFall =
    (cues : List (List ℕ)) (t : List ℕ) → distinct cues ≡ true →
    (i j : ℕ) → i < j → j < length (sightings cues t) → (get_or (sightings cues t) j (0, 0)).1 < (get_or (sightings cues t) i (0, 0)).1

-- so no cue is sighted twice
abbrev pub SightingsOnce : Type 0
SightingsOnce =
    (cues : List (List ℕ)) (t : List ℕ) → distinct cues ≡ true →
    (i j : ℕ) → i < j → j < length (sightings cues t) → (get_or (sightings cues t) i (0, 0)).0 ≢ (get_or (sightings cues t) j (0, 0)).0

-- and no other list of falling lengths has exactly the cues that end the text
abbrev pub SightingsOnly : Type 0
SightingsOnly =
    (cues : List (List ℕ)) (t : List ℕ) (seen : List (ℕ × ℕ)) → distinct cues ≡ true → filled cues ≡ true →
    ((i j : ℕ) → i < j → j < length seen → (get_or seen j (0, 0)).1 < (get_or seen i (0, 0)).1) →
    ((n k : ℕ) → (Among (n, k) seen → Sighted cues t n k) × (Sighted cues t n k → Among (n, k) seen)) →
    seen ≡ sightings cues t

-- where no two cues are equal, there are at most as many sightings as the longest cue has signs
abbrev pub SightingsFew : Type 0
SightingsFew =
    (cues : List (List ℕ)) (t : List ℕ) (most : ℕ) → distinct cues ≡ true → AllByRecursion (λ c. length c ≤ most) cues →
    length (sightings cues t) ≤ most

-- over a book of 16-bit signs, two texts have one standing exactly when no list put behind both tells them apart
abbrev pub StandingsTell : Type 0
StandingsTell =
    (cues : List (List ℕ)) (t u : List ℕ) → AllByRecursion Signs cues →
    (standing cues (live cues t) ≡ standing cues (live cues u) → Alike cues t u) ×
    (Alike cues t u → standing cues (live cues t) ≡ standing cues (live cues u))

-- the standing of a beginning gives it back, and names the lowest cue that begins so
abbrev pub StandingBack : Type 0
StandingBack =
    (cues : List (List ℕ)) (b : List ℕ) → beginning cues b ≡ true →
    (take (standing cues b).1 (slice_index_or cues (standing cues b).0 []) ≡ b) × ((standing cues b).1 ≡ length b) ×
    ((n : ℕ) → n < (standing cues b).0 → begins b (slice_index_or cues n []) ≡ false)

-- so a standing determines the beginning
abbrev pub StandingOne : Type 0
StandingOne =
    (cues : List (List ℕ)) (a b : List ℕ) → beginning cues a ≡ true → beginning cues b ≡ true → standing cues a ≡ standing cues b → a ≡ b

-- the link of a non-empty list is a beginning, ends it and is shorter, and no longer such beginning is
abbrev pub LinkRight : Type 0
LinkRight =
    (cues : List (List ℕ)) (x : ℕ) (b : List ℕ) →
    (beginning cues (link cues (x ∷ b)) ≡ true) × Ends (link cues (x ∷ b)) (x ∷ b) × (length (link cues (x ∷ b)) < length (x ∷ b)) ×
    ((a : List ℕ) → beginning cues a ≡ true → Ends a (x ∷ b) → length a < length (x ∷ b) → length a ≤ length (link cues (x ∷ b)))

-- one sign behind a list: where that is a beginning it is live, and else the same holds of the link
abbrev pub WalkRight : Type 0
WalkRight =
    (cues : List (List ℕ)) (b : List ℕ) (s : ℕ) →
    (beginning cues (b ++ s ∷ []) ≡ true → live cues (b ++ s ∷ []) ≡ b ++ s ∷ []) ×
    (beginning cues (b ++ s ∷ []) ≡ false → live cues (b ++ s ∷ []) ≡ live cues (link cues b ++ s ∷ []))

-- the trials are counted along the links
abbrev pub TriesWalk : Type 0
TriesWalk =
    (cues : List (List ℕ)) (s : ℕ) →
    (tries cues [] s ≡ 1) ×
    ((x : ℕ) (b : List ℕ) → beginning cues (x ∷ b) ≡ true →
    (beginning cues (x ∷ (b ++ s ∷ [])) ≡ true → tries cues (x ∷ b) s ≡ 1) ×
    (beginning cues (x ∷ (b ++ s ∷ [])) ≡ false → tries cues (x ∷ b) s ≡ suc (tries cues (link cues (x ∷ b)) s)))

-- the trials and the live length rise by at most 2 with a sign, so a text of n signs costs at most 2 n and the length that was live before
abbrev pub TriesFew : Type 0
TriesFew =
    (cues : List (List ℕ)) (b : List ℕ) →
    ((s : ℕ) → tries cues b s + length (live cues (b ++ s ∷ [])) ≤ length b + 2) ×
    ((t : List ℕ) → trials cues b t + length (live cues (b ++ t)) ≤ length b + 2 * length t)

-- the sightings of a list are the cues that it is, and then those of its link (the output along the failure function)
abbrev pub SightingsWalk : Type 0
SightingsWalk =
    (cues : List (List ℕ)) (x : ℕ) (b : List ℕ) →
    sightings cues (x ∷ b) ≡ exact 0 cues (x ∷ b) ++ sightings cues (link cues (x ∷ b))

-- the test for an ending says so; a beginning ends a text exactly when it ends the live beginning; and one sign behind both lists
-- has to be the same
abbrev pub EndsRead : Type 0
EndsRead =
    (b t : List ℕ) →
    (ends b t ≡ true → Ends b t) × (Ends b t → ends b t ≡ true) ×
    ((cues : List (List ℕ)) → beginning cues b ≡ true → ends b (live cues t) ≡ ends b t) ×
    ((x y : ℕ) → ends (b ++ x ∷ []) (t ++ y ∷ []) ≡ (x == y && ends b t))

-- no cue ends before the wait is over
abbrev pub WaitRight : Type 0
WaitRight =
    (cues : List (List ℕ)) (t : List ℕ) (w : ℕ) → wait cues (length (live cues t)) ≡ Some w →
    (1 ≤ w) × ((s : List ℕ) → 0 < length s → length s < w → sightings cues (t ++ s) ≡ [])
