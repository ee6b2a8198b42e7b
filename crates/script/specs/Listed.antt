-- The cues of an input as lists of events.
use Rattle.std.specs.Prelude.{ℕ, List, [], ◌∷◌, ◌++◌, take, drop, vec_items}
use Rattle.script.specs.declared.cues.Cues.{Cues}

-- A list cut into parts of these lengths.
abbrev pub split : {E : Type 0} → List ℕ → List E → List (List E)
split [] xs = []
split (n ∷ ns) xs = take n xs ∷ split ns (drop n xs)

-- What `Cues` holds.
abbrev pub cues_of : {E : Type 0} → Cues E → List (List E)
cues_of c = split (vec_items c.lens) (vec_items c.events)

-- One event more of the last cue; of the first, where there is none.
abbrev pub behind_last : {E : Type 0} → List (List E) → E → List (List E)
behind_last [] e = (e ∷ []) ∷ []
behind_last (c ∷ []) e = (c ++ e ∷ []) ∷ []
behind_last (c ∷ (d ∷ cs)) e = c ∷ behind_last (d ∷ cs) e
