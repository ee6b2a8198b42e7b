-- The runs of cues in a text, told by the sameness of events alone.
use Rattle.std.specs.Prelude.{◌≡◌, ℕ, suc, ◌<◌, Bool, cond, ◌⊎◌, List, [], ◌∷◌, ◌++◌, length, take, slice_index_or}
use Rattle.events.specs.Sameness.{same_lists}
use Rattle.matching.specs.Follow.{placed}
use Rattle.matching.specs.Match.{Among, sightings}
use Rattle.book.specs.Bridge.{EndsSame}

-- The cues that are the same as the list, from number n on, each as (number, length).
abbrev pub exact_runs : {E : Type 0} → (E → E → Bool) → ℕ → List (List E) → List E → List (ℕ × ℕ)
exact_runs same n [] t = []
exact_runs same n (c ∷ cues) t = cond (same_lists same c t) ((n, length t) ∷ exact_runs same (suc n) cues t) (exact_runs same (suc n) cues t)

-- The runs that end with the list: (cue number, length), by falling length.
abbrev pub runs_at : {E : Type 0} → (E → E → Bool) → List (List E) → List E → List (ℕ × ℕ)
runs_at same cues [] = []
runs_at same cues (x ∷ t) = exact_runs same 0 cues (x ∷ t) ++ runs_at same cues t

-- The runs that end at one of the events behind those before it: (place of the last event, cue number, length).
abbrev pub runs_behind : {E : Type 0} → (E → E → Bool) → List (List E) → List E → List E → List (ℕ × ℕ × ℕ)
runs_behind same cues before [] = []
runs_behind same cues before (e ∷ es) = placed (length before) (runs_at same cues (before ++ e ∷ [])) ++ runs_behind same cues (before ++ e ∷ []) es

-- The same over lists of signs, where sameness is equality.
abbrev pub sign_runs : List (List ℕ) → List ℕ → List ℕ → List (ℕ × ℕ × ℕ)
sign_runs cues t [] = []
sign_runs cues t (s ∷ ss) = placed (length t) (sightings cues (t ++ s ∷ [])) ++ sign_runs cues (t ++ s ∷ []) ss

-- All runs in a text.
abbrev pub runs : {E : Type 0} → (E → E → Bool) → List (List E) → List E → List (ℕ × ℕ × ℕ)
runs same cues text = runs_behind same cues [] text

-- Cue n has k events, and events that are the same as these end at place p of the text.
abbrev pub RunAt : {E : Type 0} → (E → E → Bool) → List (List E) → List E → ℕ × ℕ × ℕ → Type 0
RunAt same cues text q =
    (q.0 < length text) × (q.1 < length cues) × (length (slice_index_or cues q.1 []) ≡ q.2) × EndsSame same (slice_index_or cues q.1 []) (take (suc q.0) text)

-- One run is listed before another: at an earlier place, or at the same place and longer.
abbrev pub Before : ℕ × ℕ × ℕ → ℕ × ℕ × ℕ → Type 0
Before q r = (q.0 < r.0) ⊎ ((q.0 ≡ r.0) × (r.2 < q.2))

-- The list has exactly the runs of the cues in the text, each once, in this order.
pub record Lists {E : Type 0} (same : E → E → Bool) (cues : List (List E)) (text : List E) (es : List (ℕ × ℕ × ℕ)) : Type 0 where
  pub exactly : (q : ℕ × ℕ × ℕ) → (Among q es → RunAt same cues text q) × (RunAt same cues text q → Among q es)
  pub ordered : (i j : ℕ) → i < j → j < length es → Before (slice_index_or es i (0, 0, 0)) (slice_index_or es j (0, 0, 0))
