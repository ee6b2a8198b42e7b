-- The runs told by sameness of events are those told by equality of signs.
use Rattle.std.proofs.Common.{◌≡◌, ℕ, suc, Bool, List, [], ◌∷◌, ◌++◌, map, refl}
use Rattle.std.proofs.lemmas.List.{length-map, map-append}
use Rattle.std.specs.List.{AllByRecursion}
use Rattle.matching.specs.Match.{exact, sightings}
use Rattle.book.specs.Signs.{sign_of, signs_of}
use Rattle.book.proofs.Tells.{Telling, signs_same}
use Rattle.script.specs.Runs.{exact_runs, runs_at, runs_behind, sign_runs}

module _ {E : Type 0} (same : E → E → Bool) (material : List E) where
  exact_signs : (n : ℕ) (cues : List (List E)) (t : List E) → AllByRecursion (λ c. AllByRecursion (Telling same material) c) cues → exact n (map (signs_of same material) cues) (signs_of same material t) ≡ exact_runs same n cues t
  exact_signs n [] t told = refl
  exact_signs n (c ∷ cues) t told =
      let h = signs_same same material c t told.0 in
      let l = length-map t (sign_of same material) in
      let r = exact_signs (suc n) cues t told.1 in
      cc

  at_signs : (cues : List (List E)) (t : List E) → AllByRecursion (λ c. AllByRecursion (Telling same material) c) cues → sightings (map (signs_of same material) cues) (signs_of same material t) ≡ runs_at same cues t
  at_signs cues [] told = refl
  at_signs cues (x ∷ t) told = let h = exact_signs 0 cues (x ∷ t) told in let r = at_signs cues t told in cc

  pub sign_runs_signs : (cues : List (List E)) (before es : List E) → AllByRecursion (λ c. AllByRecursion (Telling same material) c) cues → sign_runs (map (signs_of same material) cues) (signs_of same material before) (signs_of same material es) ≡ runs_behind same cues before es
  sign_runs_signs cues before [] told = refl
  sign_runs_signs cues before (e ∷ es) told =
      let more = map-append (sign_of same material) before (e ∷ []) in
      let l = length-map before (sign_of same material) in
      let h = at_signs cues (before ++ e ∷ []) told in
      let r = sign_runs_signs cues (before ++ e ∷ []) es told in
      cc
