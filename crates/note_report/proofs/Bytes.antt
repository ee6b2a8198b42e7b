-- One event more of a last cue.
use Rattle.std.proofs.Common.{◌≡◌, List, [], ◌∷◌, ◌++◌, refl, ap}
use Rattle.script.specs.Listed.{behind_last}

pub behind_last_lem : {E : Type 0} (cs : List (List E)) (c : List E) (e : E) → behind_last (cs ++ c ∷ []) e ≡ cs ++ (c ++ e ∷ []) ∷ []
behind_last_lem [] c e = refl
behind_last_lem (a ∷ []) c e = refl
behind_last_lem (a ∷ (b ∷ cs)) c e = ap (λ ys. a ∷ ys) (behind_last_lem (b ∷ cs) c e)
