-- When a resume is refused.
use Rattle.std.proofs.Common.{◌≡◌, ℕ, zero, suc, ◌<◌, ◌≤◌, true, false, ◌&&◌, eqb, ◌⊎◌, List, [], length, get_or, take, drop, None, sym, refl, ap, ◌∙◌, subst, ⊎_elim}
use Rattle.std.proofs.lemmas.List.{get_or_past, take-append-drop}
use Rattle.std.proofs.lemmas.Bool.{cases_lt, ne_eqb, and_left, and_right, lt-leb, le-ltb}
use Rattle.engine.specs.Statements.{named, resume_refusal}
use Rattle.matching.specs.Match.{beginning}
use Rattle.matching.proofs.Live.{beginning_front, some_from_cue}
use Rattle.bits_theory.proofs.Reach.{begins_front_of, beginning_some}

-- It is not (0, 0), as code tells.
abbrev pub Other : ℕ → ℕ → Type 0
Other n l = ((n ≡ 0) × (l ≡ 0 → ⊥)) ⊎ (n ≡ 0 → ⊥)

other : (n l : ℕ) → Other n l → (eqb n 0 && eqb l 0) ≡ false
other n l h = ⊎_elim (λ p. and_right (eqb n 0) (eqb l 0) (ne_eqb l 0 p.1)) (λ p. and_left (eqb n 0) (eqb l 0) (ne_eqb n 0 p)) h

pub granted : (cues : List (List ℕ)) (n l : ℕ) → Other n l → n < length cues → l ≤ length (get_or cues n []) → resume_refusal cues (n, l) ≡ None
granted cues n l h a b = rw (other n l h) (rw (lt-leb (length cues) n a) (rw (le-ltb (length (get_or cues n [])) l b) refl))

take_none : (n : ℕ) → take {A = ℕ} n [] ≡ []
take_none zero = refl
take_none (suc n) = refl

-- Each front of what a standing names is a beginning.
pub named_begins : (cues : List (List ℕ)) (s : ℕ × ℕ) (k : ℕ) → beginning cues (take k (named cues s)) ≡ true
named_begins cues s k =
    beginning_front cues (take k (named cues s)) (drop k (named cues s)) (subst (λ b. beginning cues b ≡ true) (sym (take-append-drop k (named cues s))) whole)
  where
    whole : beginning cues (named cues s) ≡ true
    whole =
        ⊎_elim (λ (h : s.0 < length cues). beginning_some cues _ (some_from_cue cues (named cues s) s.0 h (begins_front_of s.1 (get_or cues s.0 []))).0)
        (λ (h : length cues ≤ s.0). ap (λ c. beginning cues (take s.1 c)) (get_or_past cues s.0 [] h) ∙ ap (beginning cues) (take_none s.1))
        (cases_lt s.0 (length cues))
