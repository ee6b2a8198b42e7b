-- How many cues end a list, and whether each has few endings.
use Rattle.std.proofs.Common.{◌≡◌, ℕ, zero, suc, ◌+◌, ◌≤◌, Bool, true, false, ◌&&◌, leb, List, [], ◌∷◌, map, length, get_or, take, drop, sym, refl, ap, ◌∙◌, ⊎_elim, arith, length-append}
use Rattle.std.specs.List.{filter, list_all, range_with_len}
use Rattle.std.proofs.lemmas.List.{drop_all, drop_more, take_all}
use Rattle.std.proofs.lemmas.Bool.{cases_Bool}
use Rattle.matching.specs.Calls.{few_endings}
use Rattle.matching.specs.Match.{ends, exact, filled, same, sightings}
use Rattle.matching.proofs.Endings.{ends_true}
use Rattle.matching.proofs.Sightings.{same_is}

none_ends : (cues : List (List ℕ)) → filled cues ≡ true → length (filter (λ c. ends c []) cues) ≡ 0
none_ends [] h = refl
none_ends (c ∷ cues) h = grind (arith, none_ends cues)

-- A list does not both be a longer one and end the shorter.
not_both : (c : List ℕ) (x : ℕ) (t : List ℕ) → same c (x ∷ t) ≡ true → ends c t ≡ true → ⊥
not_both c x t whole end =
    let l = ap length (same_is c (x ∷ t) whole) in
    let e = ends_true c t end in
    omega (arith, length-append e.0 c, ap length e.1)

one_more : (n : ℕ) (cues : List (List ℕ)) (x : ℕ) (t : List ℕ) → length (exact n cues (x ∷ t)) + length (filter (λ c. ends c t) cues) ≡ length (filter (λ c. ends c (x ∷ t)) cues)
one_more n [] x t = refl
one_more n (c ∷ cues) x t =
    let ih = one_more (suc n) cues x t in
    ⊎_elim
    (λ (w : same c (x ∷ t) ≡ true).
    ⊎_elim (λ (e : ends c t ≡ true). absurd (not_both c x t w e)) (λ (e : ends c t ≡ false). rw (w, e) (omega (arith, ih))) (cases_Bool (ends c t)))
    (λ (w : same c (x ∷ t) ≡ false).
    ⊎_elim (λ (e : ends c t ≡ true). rw (w, e) (omega (arith, ih))) (λ (e : ends c t ≡ false). rw (w, e) (omega (arith, ih))) (cases_Bool (ends c t)))
    (cases_Bool (same c (x ∷ t)))

pub count_sightings : (cues : List (List ℕ)) (t : List ℕ) → filled cues ≡ true → length (sightings cues t) ≡ length (filter (λ c. ends c t) cues)
count_sightings cues [] h = sym (none_ends cues h)
count_sightings cues (x ∷ t) h =
    omega (arith, length-append (exact 0 cues (x ∷ t)) (sightings cues t), count_sightings cues t h, one_more 0 cues x t)

-- How many items pass after a map.
pub passed_map : {X Y : Type 0} (p : Y → Bool) (f : X → Y) (xs : List X) → length (filter p (map f xs)) ≡ length (filter (λ x. p (f x)) xs)
passed_map p f [] = refl
passed_map p f (x ∷ xs) = grind (arith, passed_map p f xs)

-- Behind the last cue each has few endings.
pub few_all : (cues : List (List ℕ)) (i : ℕ) → length cues ≤ i → few_endings cues (drop i cues) ≡ true
few_all cues i h = ap (few_endings cues) (drop_all i cues h)

-- Whether each has few endings, as one test of all.
pub few_listed : (cues cs : List (List ℕ)) → few_endings cues cs ≡ list_all (λ c. leb (length (sightings cues c)) 32) cs
few_listed cues [] = refl
few_listed cues (c ∷ cs) = ap (λ t. leb (length (sightings cues c)) 32 && t) (few_listed cues cs)

-- The items at some numbers in a row.
items_from : {X : Type 0} (xs : List X) (d : X) (a n : ℕ) → a + n ≤ length xs → map (λ i. get_or xs i d) (range_with_len a n) ≡ take n (drop a xs)
items_from xs d a zero h = refl
items_from xs d a (suc n) h = ap (λ ys. get_or xs a d ∷ ys) (items_from xs d (a + 1) n (omega arith)) ∙ ap (take (suc n)) (sym (drop_more xs a d (omega arith)))

pub items_all : {X : Type 0} (xs : List X) (d : X) (n : ℕ) → n ≡ length xs → map (λ i. get_or xs i d) (range_with_len 0 n) ≡ xs
items_all xs d n h = items_from xs d 0 n (omega arith) ∙ take_all n xs (omega arith)
