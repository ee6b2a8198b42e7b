-- The sightings one by one, each the longest cue below a length that ends the text.
use Rattle.std.proofs.Common.{◌≡◌, ℕ, zero, suc, ◌+◌, ◌<◌, ◌≤◌, true, false, List, [], ◌∷◌, length, get_or, sym, refl, ap, ◌∙◌, ⊎_elim, arith, length-append}
use Rattle.std.proofs.lemmas.Bool.{cases_Bool, cases_lt, cases_eq, or_cases, lt-ltb, le-ltb}
use Rattle.matching.specs.Match.{same, ends, exact, sightings, listed, distinct}
use Rattle.matching.proofs.Sightings.{same_is, same_itself, exact_unlisted}
use Rattle.matching.proofs.Endings.{ends_true}
use Rattle.bits_theory.specs.Laws.{CountRight}
use Rattle.bits_theory.specs.Below.{shorter, endings}

pub ends_length : (b t : List ℕ) → ends b t ≡ true → length b ≤ length t
ends_length b t h = let e = ends_true b t h in omega (arith, ap length e.1, length-append e.0 b)

pub shorter_all : (n : ℕ) (t : List ℕ) → length t < n → shorter n t ≡ t
shorter_all n [] h = refl
shorter_all n (x ∷ t) h = grind (arith, lt-ltb (length (x ∷ t)) n h)

-- No cue is the list.
exact_empty : (m : ℕ) (cues : List (List ℕ)) (t : List ℕ) → ((n : ℕ) → n < length cues → same (get_or cues n []) t ≡ false) → exact m cues t ≡ []
exact_empty m [] t h = refl
exact_empty m (c ∷ cues) t h =
    grind (arith, h zero (omega arith), exact_empty (suc m) cues t (λ n l. h (suc n) (omega arith)))

-- One cue is the list, and no other since they are distinct.
unlisted : (cues : List (List ℕ)) (c : List ℕ) (n : ℕ) → listed cues c ≡ false → n < length cues → same (get_or cues n []) c ≡ false
unlisted [] c n h l = absurd (omega arith)
unlisted (b ∷ cues) c zero h l = grind (arith, h)
unlisted (b ∷ cues) c (suc n) h l = unlisted cues c n (grind (arith, h)) (omega arith)

exact_single : (m : ℕ) (cues : List (List ℕ)) (t : List ℕ) (n : ℕ) → distinct cues ≡ true → n < length cues → get_or cues n [] ≡ t → exact m cues t ≡ (m + n, length t) ∷ []
exact_single m [] t n d l e = absurd (omega arith)
exact_single m (c ∷ cues) t zero d l e =
    grind (arith, same_itself t, exact_unlisted (suc m) cues t, d)
exact_single m (c ∷ cues) t (suc n) d l e =
    let rest = exact_single (suc m) cues t n (grind (arith, d)) (omega arith) e in
    let other : same c t ≡ false = ⊎_elim (λ (s : same c t ≡ true). grind (arith, unlisted cues c n, same_is c t s, same_itself t, d, e)) (λ (s : same c t ≡ false). s) (cases_Bool (same c t)) in
    grind (arith, rest, other)

-- Lengths at which no cue ends the text are passed over.
pub pass_over : (cues : List (List ℕ)) (t : List ℕ) (below len : ℕ) → len < below → ((n : ℕ) → n < length cues → ends (get_or cues n []) t ≡ true → length (get_or cues n []) < below → length (get_or cues n []) ≤ len) →
    sightings cues (shorter below t) ≡ sightings cues (shorter (suc len) t)
pass_over cues [] below len l h = refl
pass_over cues (x ∷ t) below len l h =
    let rest = pass_over cues t below len l (λ n m e b. h n m (grind (arith, e)) b) in
    ⊎_elim
    (λ (a : length (x ∷ t) < suc len). grind (arith, lt-ltb (length (x ∷ t)) below (omega arith), lt-ltb (length (x ∷ t)) (suc len) a))
    (λ (a : suc len ≤ length (x ∷ t)).
    ⊎_elim
    (λ (b : length (x ∷ t) < below).
    let none = exact_empty 0 cues (x ∷ t) (λ n m. ⊎_elim (λ (s : same (get_or cues n []) (x ∷ t) ≡ true). let e = same_is (get_or cues n []) (x ∷ t) s in absurd (omega (arith, ap length e, h n m (grind (arith, s)) (omega (arith, ap length e))))) (λ (s : same (get_or cues n []) (x ∷ t) ≡ false). s) (cases_Bool (same (get_or cues n []) (x ∷ t)))) in
    grind (arith, none, rest, shorter_all below t (omega arith), lt-ltb (length (x ∷ t)) below b, le-ltb (length (x ∷ t)) (suc len) a))
    (λ (b : below ≤ length (x ∷ t)). grind (arith, rest, le-ltb (length (x ∷ t)) below b, le-ltb (length (x ∷ t)) (suc len) a))
    (cases_lt (length (x ∷ t)) below))
    (cases_lt (length (x ∷ t)) (suc len))

-- A cue that ends the text is the first sighting of its length and below.
pub first_below : (cues : List (List ℕ)) (t : List ℕ) (n len : ℕ) → distinct cues ≡ true → n < length cues → length (get_or cues n []) ≡ len → 0 < len → ends (get_or cues n []) t ≡ true →
    sightings cues (shorter (suc len) t) ≡ (n, len) ∷ sightings cues (shorter len t)
first_below cues [] n len d l e p h = absurd (omega (arith, ends_length (get_or cues n []) [] h))
first_below cues (x ∷ t) n len d l e p h =
    ⊎_elim
    (λ (q : length (x ∷ t) ≡ len).
    let whole : get_or cues n [] ≡ x ∷ t = ⊎_elim (λ (s : same (get_or cues n []) (x ∷ t) ≡ true). same_is _ _ s) (λ (s : ends (get_or cues n []) t ≡ true). absurd (omega (arith, ends_length (get_or cues n []) t s))) (or_cases (same (get_or cues n []) (x ∷ t)) (ends (get_or cues n []) t) h) in
    let one = exact_single 0 cues (x ∷ t) n d l whole in
    grind (arith, one, shorter_all len t (omega arith), lt-ltb (length (x ∷ t)) (suc len) (omega arith), le-ltb (length (x ∷ t)) len (omega arith)))
    (λ (q : length (x ∷ t) ≡ len → ⊥).
    let more = ends_length (get_or cues n []) (x ∷ t) h in
    let there : ends (get_or cues n []) t ≡ true = ⊎_elim (λ (s : same (get_or cues n []) (x ∷ t) ≡ true). absurd (q (sym (ap length (same_is (get_or cues n []) (x ∷ t) s)) ∙ e))) (λ (s : ends (get_or cues n []) t ≡ true). s) (or_cases (same (get_or cues n []) (x ∷ t)) (ends (get_or cues n []) t) h) in
    let long : len < length (x ∷ t) = ⊎_elim (λ (a : len < length (x ∷ t)). a) (λ (a : length (x ∷ t) ≤ len). absurd (q (omega arith))) (cases_lt len (length (x ∷ t))) in
    let rest = first_below cues t n len d l e p there in
    grind (arith, rest, le-ltb (length (x ∷ t)) (suc len) (omega arith), le-ltb (length (x ∷ t)) len (omega arith)))
    (cases_eq (length (x ∷ t)) len)

pub shorter_one : (t : List ℕ) → shorter 1 t ≡ []
shorter_one [] = refl
shorter_one (x ∷ t) = grind (arith, shorter_one t, le-ltb (length (x ∷ t)) 1 (omega arith))

-- There are as many sightings as cues that end the text.
pub no_endings : (cues : List (List ℕ)) (t : List ℕ) → ((n : ℕ) → n < length cues → ends (get_or cues n []) t ≡ false) → endings cues t ≡ 0
no_endings [] t h = refl
no_endings (c ∷ cues) t h = grind (arith, h zero (omega arith), no_endings cues t (λ n l. h (suc n) (omega arith)))

endings_split : (m : ℕ) (cues : List (List ℕ)) (x : ℕ) (t : List ℕ) → endings cues (x ∷ t) ≡ length (exact m cues (x ∷ t)) + endings cues t
endings_split m [] x t = refl
endings_split m (c ∷ cues) x t =
    let rest = endings_split (suc m) cues x t in
    ⊎_elim
    (λ (s : same c (x ∷ t) ≡ true).
    let out : ends c t ≡ false = ⊎_elim (λ (e : ends c t ≡ true). absurd (omega (arith, ends_length c t e, ap length (same_is c (x ∷ t) s)))) (λ (e : ends c t ≡ false). e) (cases_Bool (ends c t)) in
    grind (arith, rest, s, out))
    (λ (s : same c (x ∷ t) ≡ false). grind (arith, rest, s))
    (cases_Bool (same c (x ∷ t)))

pub sightings_count : CountRight
sightings_count cues [] some =
    sym (no_endings cues [] (λ n l. ⊎_elim (λ (e : ends (get_or cues n []) [] ≡ true). absurd (omega (arith, some n l, ends_length (get_or cues n []) [] e))) (λ (e : ends (get_or cues n []) [] ≡ false). e) (cases_Bool (ends (get_or cues n []) []))))
sightings_count cues (x ∷ t) some =
    length-append (exact 0 cues (x ∷ t)) (sightings cues t) ∙ omega (arith, endings_split 0 cues x t, sightings_count cues t some)
