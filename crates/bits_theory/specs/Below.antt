-- The longest cue below a length that ends a text.
use Rattle.std.specs.Prelude.{◌≡◌, ℕ, suc, ◌<◌, cond, List, [], ◌∷◌, length, Some, None, Option, nat_lt}
use Rattle.matching.specs.Match.{ends, sightings}

-- The end of the text that is shorter than a length, as long as can be.
abbrev pub shorter : ℕ → List ℕ → List ℕ
shorter n [] = []
shorter n (x ∷ t) = cond (nat_lt (length (x ∷ t)) n) (x ∷ t) (shorter n t)

-- The sightings below a length: none, or the first and then those below its length.
abbrev pub Next : List (List ℕ) → List ℕ → ℕ → Option (ℕ × ℕ) → Type 0
Next cues t below None = sightings cues (shorter below t) ≡ []
Next cues t below (Some s) = (sightings cues (shorter below t) ≡ s ∷ sightings cues (shorter s.1 t)) × (0 < s.1)

-- How many cues end the text.
abbrev pub endings : List (List ℕ) → List ℕ → ℕ
endings [] t = 0
endings (c ∷ cues) t = cond (ends c t) (suc (endings cues t)) (endings cues t)
