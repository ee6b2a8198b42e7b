-- Exact matching of several patterns, over lists of numbers. A sign is a number (a symbol), a cue is a list of signs (a pattern),
-- a book is a list of cues, and a text is a list of signs.
-- Assumes nothing.
use Rattle.std.specs.Prelude.{◌≡◌, ℕ, suc, ◌+◌, ◌-◌, ◌<◌, min, max, Bool, true, false, cond, not, ◌&&◌, ◌||◌, ◌⊎◌, List, [], ◌∷◌, ◌++◌, length, Some, None, Option, ◌==◌, slice_index_or}
use Rattle.std.specs.List.{AllByRecursion}

-- the first list is a front (a prefix) of the second
abbrev pub begins : List ℕ → List ℕ → Bool
begins [] c = true
begins (x ∷ b) [] = false
begins (x ∷ b) (y ∷ c) = x == y && begins b c

-- some cue begins so
abbrev pub some_begins : List (List ℕ) → List ℕ → Bool
some_begins [] b = false
some_begins (c ∷ cues) b = begins b c || some_begins cues b

-- a beginning (a prefix of a pattern): the first signs of some cue, or none at all
abbrev pub beginning : List (List ℕ) → List ℕ → Bool
beginning cues [] = true
beginning cues (x ∷ b) = some_begins cues (x ∷ b)

-- the live beginning: the longest beginning that ends the text (the longest suffix that is a prefix of a pattern)
abbrev pub live : List (List ℕ) → List ℕ → List ℕ
live cues [] = []
live cues (x ∷ t) = cond (beginning cues (x ∷ t)) (x ∷ t) (live cues t)

-- the two lists are equal
abbrev pub same : List ℕ → List ℕ → Bool
same [] [] = true
same [] (y ∷ t) = false
same (x ∷ c) [] = false
same (x ∷ c) (y ∷ t) = x == y && same c t

-- the cues that are the list, from number n on, each as (number, length)
abbrev pub exact : ℕ → List (List ℕ) → List ℕ → List (ℕ × ℕ)
exact n [] t = []
exact n (c ∷ cues) t = cond (same c t) ((n, length t) ∷ exact (suc n) cues t) (exact (suc n) cues t)

-- the sightings (the occurrences that end at the text's last sign): (cue number, length), by falling length
abbrev pub sightings : List (List ℕ) → List ℕ → List (ℕ × ℕ)
sightings cues [] = []
sightings cues (x ∷ t) = exact 0 cues (x ∷ t) ++ sightings cues t

-- the lowest number of a cue that begins so
abbrev pub lowest : List (List ℕ) → List ℕ → ℕ
lowest [] b = 0
lowest (c ∷ cues) b = cond (begins b c) 0 (suc (lowest cues b))

-- the standing of a beginning (the state of the automaton): the lowest cue that begins so, and the length; (0, 0) for the empty one
abbrev pub standing : List (List ℕ) → List ℕ → ℕ × ℕ
standing cues [] = (0, 0)
standing cues (x ∷ b) = (lowest cues (x ∷ b), length (x ∷ b))

-- the link of a beginning (the failure function): the longest shorter beginning that ends it
abbrev pub link : List (List ℕ) → List ℕ → List ℕ
link cues [] = []
link cues (x ∷ b) = live cues b

-- the trials of one sign: how many beginnings that end b, the longest first, are tried until one is still a beginning with the sign
-- behind it, or the empty one was tried
abbrev pub tries : List (List ℕ) → List ℕ → ℕ → ℕ
tries cues [] s = 1
tries cues (x ∷ b) s =
    cond (beginning cues (x ∷ b)) (cond (beginning cues (x ∷ (b ++ s ∷ []))) 1 (suc (tries cues b s))) (tries cues b s)

-- the trials of all signs of a text, taken from the live beginning b on
abbrev pub trials : List (List ℕ) → List ℕ → List ℕ → ℕ
trials cues b [] = 0
trials cues b (s ∷ t) = tries cues b s + trials cues (live cues (b ++ s ∷ [])) t

-- the text ends with c (c is a suffix)
abbrev pub Ends : List ℕ → List ℕ → Type 0
Ends c t = (u : List ℕ) × (u ++ c ≡ t)

-- the same as a test
abbrev pub ends : List ℕ → List ℕ → Bool
ends b [] = same b []
ends b (x ∷ t) = same b (x ∷ t) || ends b t

-- cue n exists, has length k and ends the text
abbrev pub Sighted : List (List ℕ) → List ℕ → ℕ → ℕ → Type 0
Sighted cues t n k = (n < length cues) × (length (slice_index_or cues n []) ≡ k) × Ends (slice_index_or cues n []) t

-- x stands in the list
abbrev pub Among : {X : Type 0} → X → List X → Type 0
Among x [] = ⊥
Among x (y ∷ ys) = (y ≡ x) ⊎ Among x ys

-- the list is one of the cues
abbrev pub listed : List (List ℕ) → List ℕ → Bool
listed [] t = false
listed (c ∷ cues) t = same c t || listed cues t

-- no two cues are equal
abbrev pub distinct : List (List ℕ) → Bool
distinct [] = true
distinct (c ∷ cues) = not (listed cues c) && distinct cues

-- no cue is empty
abbrev pub filled : List (List ℕ) → Bool
filled [] = true
filled (c ∷ cues) = not (same c []) && filled cues

-- the least of m and the lengths of the cues
abbrev pub shortest : ℕ → List (List ℕ) → ℕ
shortest m [] = m
shortest m (c ∷ cues) = shortest (min m (length c)) cues

-- the wait, where k signs are live: none without a cue, else the shortest cue's length less k, but at least 1
abbrev pub wait : List (List ℕ) → ℕ → Option ℕ
wait [] k = None
wait (c ∷ cues) k = Some (max 1 (shortest (length c) cues - k))

-- all signs are 16-bit numbers
abbrev pub Signs : List ℕ → Type 0
Signs t = AllByRecursion (λ x. x < 65536) t

-- no list of 16-bit numbers put behind both texts, the empty one too, tells them apart by its sightings
abbrev pub Alike : List (List ℕ) → List ℕ → List ℕ → Type 0
Alike cues t u = (s : List ℕ) → Signs s → sightings cues (t ++ s) ≡ sightings cues (u ++ s)
