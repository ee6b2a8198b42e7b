-- What a book keeps, with one cue more at the end.
use Rattle.std.proofs.Common.{◌≡◌, ℕ, zero, suc, ◌+◌, ◌<◌, ◌≤◌, min, Bool, true, false, ◌||◌, ◌⊎◌, List, [], ◌∷◌, ◌++◌, length, drop, None, sym, refl, ap, ◌∙◌, subst, ⊎_elim, arith}
use Rattle.std.proofs.lemmas.List.{get_or_append_left, get_or_at, length_push, length-take, length-drop}
use Rattle.std.proofs.lemmas.Bool.{cases_lt}
use Rattle.matching.specs.Calls.{total as sign_total}
use Rattle.matching.specs.Match.{listed, distinct, same as equal}
use Rattle.book.specs.Cues.{add_refusal, cue_at, part_of, parts_of, total, Within, AllWithin}
use Rattle.book.specs.declared.cue.Cue.{Cue}

pub total_push : (cues : List Cue) (c : Cue) → total (cues ++ c ∷ []) ≡ total cues + c.len
total_push [] c = omega arith
total_push (d ∷ cues) c = omega (arith, total_push cues c)

pub within_push : (n : ℕ) (cues : List Cue) (c : Cue) → AllWithin n cues → Within n c → AllWithin n (cues ++ c ∷ [])
within_push n cues c all one k d h =
    let l = length_push cues c in
    ⊎_elim (λ (b : k < length cues). subst (Within n) (sym (get_or_append_left cues (c ∷ []) d k b)) (all k d b))
    (λ (b : length cues ≤ k). subst (Within n) (sym (get_or_at cues c [] d k (omega arith))) one)
    (cases_lt k (length cues))

equal_sym : (xs ys : List ℕ) → equal xs ys ≡ equal ys xs
equal_sym [] [] = refl
equal_sym [] (y ∷ ys) = refl
equal_sym (x ∷ xs) [] = refl
equal_sym (x ∷ xs) (y ∷ ys) = grind (arith, equal_sym xs ys)

listed_push : (cues : List (List ℕ)) (c t : List ℕ) → listed (cues ++ c ∷ []) t ≡ (listed cues t || equal c t)
listed_push [] c t = grind arith
listed_push (d ∷ cues) c t = grind (arith, listed_push cues c t)

pub distinct_push : (cues : List (List ℕ)) (c : List ℕ) → distinct cues ≡ true → listed cues c ≡ false → distinct (cues ++ c ∷ []) ≡ true
distinct_push [] c a h = refl
distinct_push (d ∷ cues) c a h = grind (arith, distinct_push cues c, listed_push cues c d, equal_sym c d)

-- A cue that is not refused keeps what a book keeps.
pub record Granted (material : ℕ) (cues : List Cue) (there : Bool) (place len : ℕ) : Type 0 where
  pub within : Within material (cue_at place len)
  pub few : length cues < 128 ⊎ (128 < length cues)
  pub bounded : total cues + len ≤ 1024
  pub apart : there ≡ false

pub granted : (material : ℕ) (cues : List Cue) (there : Bool) (place len : ℕ) → add_refusal material cues there place len ≡ None → Granted material cues there place len
granted material cues there place len h =
    record { within = (grind arith, grind arith, grind arith); few = grind arith; bounded = grind arith; apart = grind arith }

-- A cue inside the material has as many signs as events, and so have all cues together.
pub length_part : (signs : List ℕ) (c : Cue) → c.place + c.len ≤ length signs → length (part_of signs c) ≡ c.len
length_part signs c h = length-take c.len (drop c.place signs) ∙ (ap (min c.len) (length-drop c.place signs) ∙ omega arith)

pub total_signs : (signs : List ℕ) (cues : List Cue) → AllWithin (length signs) cues → sign_total (parts_of signs cues) ≡ total cues
total_signs signs [] all = refl
total_signs signs (c ∷ cues) all =
    let one = length_part signs c (all zero c (omega arith)).2 in
    let rest = total_signs signs cues (λ k d h. all (suc k) d (omega arith)) in
    omega arith
