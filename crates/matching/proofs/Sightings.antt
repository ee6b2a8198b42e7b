-- The sightings: what they are, how they fall, how many there are.
-- Assumes nothing.
use Rattle.std.proofs.Common.{◌≡◌, ℕ, zero, suc, ◌+◌, ◌<◌, ◌≤◌, true, false, ◌⊎◌, List, [], ◌∷◌, ◌++◌, length, get_or, sym, refl, ap, ◌∙◌, inl, inr, ⊎_elim, append-nil, arith, length-append}
use Rattle.std.proofs.lemmas.Bool.{cond_both}
use Rattle.std.proofs.ByRecursion.{All-get_or}
use Rattle.matching.specs.Match.{begins, some_begins, live, same, exact, sightings, listed, distinct, filled, Sighted, Among}
use Rattle.matching.specs.Laws.{SightingsLive, SightingsRead, SightingsFall, SightingsOnce, SightingsOnly, SightingsFew, SightingsWalk}
use Rattle.matching.proofs.Live.{some_front}

pub same_itself : (c : List ℕ) → same c c ≡ true
same_itself [] = refl
same_itself (x ∷ c) = grind (arith, same_itself c)

pub same_is : (c t : List ℕ) → same c t ≡ true → c ≡ t
same_is [] [] h = refl
same_is [] (y ∷ t) h = grind arith
same_is (x ∷ c) [] h = grind arith
same_is (x ∷ c) (y ∷ t) h = grind (arith, same_is c t)

pub same_begins : (c t : List ℕ) → same c t ≡ true → begins t c ≡ true
same_begins [] [] h = refl
same_begins [] (y ∷ t) h = grind arith
same_begins (x ∷ c) [] h = refl
same_begins (x ∷ c) (y ∷ t) h = grind (arith, same_begins c t)

-- no cue is a list that none begins with
pub exact_none : (n : ℕ) (cues : List (List ℕ)) (t : List ℕ) → some_begins cues t ≡ false → exact n cues t ≡ []
exact_none n [] t h = refl
exact_none n (c ∷ cues) t h = grind (arith, exact_none (suc n) cues t, same_begins c t)

pub sightings_enough : (cues : List (List ℕ)) (t s : List ℕ) → sightings cues (live cues t ++ s) ≡ sightings cues (t ++ s)
sightings_enough cues [] s = refl
sightings_enough cues (x ∷ t) s =
    grind (arith, sightings_enough cues t s, some_front cues (x ∷ t) s, exact_none 0 cues (x ∷ (t ++ s)))

pub sightings_live : SightingsLive
sightings_live cues t =
    (sightings_enough cues t, grind (arith, sightings_enough cues t [], append-nil t, append-nil (live cues t)))

pub sightings_walk : SightingsWalk
sightings_walk cues x b = ap (λ ps. exact 0 cues (x ∷ b) ++ ps) (sym (sightings_live cues b).1)

-- what stands in two lists put together
pub among_left : {X : Type 0} (x : X) (xs ys : List X) → Among x xs → Among x (xs ++ ys)
among_left x [] ys h = absurd h
among_left x (y ∷ xs) ys h = ⊎_elim (λ e. inl e) (λ m. inr (among_left x xs ys m)) h

pub among_right : {X : Type 0} (x : X) (xs ys : List X) → Among x ys → Among x (xs ++ ys)
among_right x [] ys h = h
among_right x (y ∷ xs) ys h = inr (among_right x xs ys h)

pub among_cases : {X : Type 0} (x : X) (xs ys : List X) → Among x (xs ++ ys) → Among x xs ⊎ Among x ys
among_cases x [] ys h = inr h
among_cases x (y ∷ xs) ys h =
    ⊎_elim (λ e. inl (inl e)) (λ m. ⊎_elim (λ l. inl (inr l)) (λ r. inr r) (among_cases x xs ys m)) h

pub among_get_d : {X : Type 0} (xs : List X) (i : ℕ) (d : X) → i < length xs → Among (get_or xs i d) xs
among_get_d [] i d l = grind arith
among_get_d (x ∷ xs) zero d l = inl refl
among_get_d (x ∷ xs) (suc i) d l = inr (among_get_d xs i d (omega arith))

-- what stands in `exact`: a cue that is the list
pub exact_found : (m : ℕ) (cues : List (List ℕ)) (t : List ℕ) (n k : ℕ) → Among (n, k) (exact m cues t) → (j : ℕ) × (n ≡ m + j) × (j < length cues) × (get_or cues j [] ≡ t) × (k ≡ length t)
exact_found m [] t n k = λ h. absurd h
exact_found m (c ∷ cues) t n k =
    cond_both (same c t) ((m, length t) ∷ exact (suc m) cues t) (exact (suc m) cues t)
    (λ v. Among (n, k) v → (j : ℕ) × (n ≡ m + j) × (j < length (c ∷ cues)) × (get_or (c ∷ cues) j [] ≡ t) × (k ≡ length t))
    (λ e h.
    ⊎_elim (λ (q : (m, length t) ≡ (n, k)). (0, grind arith, grind arith, same_is c t e, grind arith))
    (λ a. let f = exact_found (suc m) cues t n k a in (suc f.0, grind arith, grind arith, f.3, f.4)) h)
    (λ e h. let f = exact_found (suc m) cues t n k h in (suc f.0, grind arith, grind arith, f.3, f.4))

pub exact_has : (m : ℕ) (cues : List (List ℕ)) (t : List ℕ) (n j : ℕ) → n ≡ m + j → j < length cues → get_or cues j [] ≡ t → Among (n, length t) (exact m cues t)
exact_has m [] t n j e l h = grind arith
exact_has m (c ∷ cues) t n zero e l h = grind (arith, same_itself t)
exact_has m (c ∷ cues) t n (suc j) e l h = grind (arith, exact_has (suc m) cues t n j)

-- a sighting is of a cue that ends the text, and has its length
pub sightings_sound : (cues : List (List ℕ)) (t : List ℕ) (n k : ℕ) → Among (n, k) (sightings cues t) → Sighted cues t n k × (0 < k)
sightings_sound cues [] n k h = absurd h
sightings_sound cues (x ∷ t) n k h =
    ⊎_elim
    (λ a.
    let f = exact_found 0 cues (x ∷ t) n k a in
    let e : n ≡ f.0 = grind arith in
    let s : get_or cues n [] ≡ x ∷ t = ap (λ i. get_or cues i []) e ∙ f.3 in
    ((grind arith, grind (arith, ap length s), ([], s)), grind arith))
    (λ a.
    let f = sightings_sound cues t n k a in
    ((f.0.0, f.0.1, (x ∷ f.0.2.0, ap (λ v. x ∷ v) f.0.2.1)), f.1))
    (among_cases (n, k) (exact 0 cues (x ∷ t)) (sightings cues t) h)

-- a non-empty cue that ends the text is sighted
pub sightings_all : (cues : List (List ℕ)) (u c : List ℕ) (n : ℕ) → n < length cues → get_or cues n [] ≡ c → 0 < length c → Among (n, length c) (sightings cues (u ++ c))
sightings_all cues [] [] n l e p = grind arith
sightings_all cues [] (x ∷ c) n l e p =
    among_left (n, length (x ∷ c)) (exact 0 cues (x ∷ c)) (sightings cues c) (exact_has 0 cues (x ∷ c) n n (grind arith) l e)
sightings_all cues (x ∷ u) c n l e p =
    among_right (n, length c) (exact 0 cues (x ∷ (u ++ c))) (sightings cues (u ++ c)) (sightings_all cues u c n l e p)

pub filled_cue : (cues : List (List ℕ)) (n : ℕ) → filled cues ≡ true → n < length cues → 0 < length (get_or cues n [])
filled_cue [] n f l = grind arith
filled_cue ([] ∷ cues) zero f l = grind arith
filled_cue ((x ∷ c) ∷ cues) zero f l = grind arith
filled_cue (c ∷ cues) (suc n) f l = grind (arith, filled_cue cues n)

pub sightings_read : SightingsRead
sightings_read cues t f n k = (
  λ h. (sightings_sound cues t n k h).0,
  λ s.
      let a = sightings_all cues s.2.0 (get_or cues n []) n s.0 refl (filled_cue cues n f s.0) in
      grind (arith, a, s.1, s.2.1),
)

-- the lengths fall strictly, from below k on
abbrev pub Falling : ℕ → List (ℕ × ℕ) → Type 0
Falling k [] = Unit {0}
Falling k (p ∷ ps) = (p.1 < k) × Falling p.1 ps

falling_weaker : (j k : ℕ) (ps : List (ℕ × ℕ)) → j ≤ k → Falling j ps → Falling k ps
falling_weaker j k [] l h = tt
falling_weaker j k (p ∷ ps) l h = (omega (arith, h.0), h.1)

falling_below : (k : ℕ) (ps : List (ℕ × ℕ)) (i : ℕ) → Falling k ps → i < length ps → (get_or ps i (0, 0)).1 < k
falling_below k [] i h l = grind arith
falling_below k (p ∷ ps) zero h l = h.0
falling_below k (p ∷ ps) (suc i) h l = omega (arith, h.0, falling_below p.1 ps i h.1 (omega arith))

falling_order : (k : ℕ) (ps : List (ℕ × ℕ)) (i j : ℕ) → Falling k ps → i < j → j < length ps → (get_or ps j (0, 0)).1 < (get_or ps i (0, 0)).1
falling_order k [] i j h l m = grind arith
falling_order k (p ∷ ps) zero zero h l m = grind arith
falling_order k (p ∷ ps) (suc i) zero h l m = grind arith
falling_order k (p ∷ ps) zero (suc j) h l m = falling_below p.1 ps j h.1 (omega arith)
falling_order k (p ∷ ps) (suc i) (suc j) h l m = falling_order p.1 ps i j h.1 (omega arith) (omega arith)

-- positive lengths that fall from below k on are fewer than k
falling_few : (k : ℕ) (ps : List (ℕ × ℕ)) → Falling k ps → ((i : ℕ) → i < length ps → 0 < (get_or ps i (0, 0)).1) → 0 < k → length ps < k
falling_few k [] h f p = p
falling_few k (q ∷ ps) h f p =
    omega (arith, h.0, falling_few q.1 ps h.1 (λ i l. f (suc i) (omega arith)) (f 0 (omega arith)))

-- a list that is no cue
pub exact_unlisted : (m : ℕ) (cues : List (List ℕ)) (t : List ℕ) → listed cues t ≡ false → exact m cues t ≡ []
exact_unlisted m [] t h = refl
exact_unlisted m (c ∷ cues) t h = grind (arith, exact_unlisted (suc m) cues t)

-- of distinct cues at most one is the list
pub exact_one : (m : ℕ) (cues : List (List ℕ)) (t : List ℕ) → distinct cues ≡ true → (exact m cues t ≡ []) ⊎ ((j : ℕ) × (exact m cues t ≡ (j, length t) ∷ []))
exact_one m [] t h = inl refl
exact_one m (c ∷ cues) t h =
    cond_both (same c t) ((m, length t) ∷ exact (suc m) cues t) (exact (suc m) cues t)
    (λ v. (v ≡ []) ⊎ ((j : ℕ) × (v ≡ (j, length t) ∷ [])))
    (λ e. inr (m, grind (arith, same_is c t e, exact_unlisted (suc m) cues t)))
    (λ e. exact_one (suc m) cues t (grind arith))

pub sightings_falling : (cues : List (List ℕ)) (t : List ℕ) → distinct cues ≡ true → Falling (suc (length t)) (sightings cues t)
sightings_falling cues [] h = tt
sightings_falling cues (x ∷ t) h =
    let f = sightings_falling cues t h in
    ⊎_elim
    (λ (e : exact 0 cues (x ∷ t) ≡ []). rw e (falling_weaker (suc (length t)) (suc (suc (length t))) (sightings cues t) (omega arith) f))
    (λ (e : (j : ℕ) × (exact 0 cues (x ∷ t) ≡ (j, length (x ∷ t)) ∷ [])). rw e.1 (omega arith, f))
    (exact_one 0 cues (x ∷ t) h)

pub sightings_fall : SightingsFall
sightings_fall cues t h i j l m = falling_order (suc (length t)) (sightings cues t) i j (sightings_falling cues t h) l m

-- the sighting at a place, in the textbook's words
pub sighting_at : (cues : List (List ℕ)) (t : List ℕ) (i : ℕ) → i < length (sightings cues t) → Sighted cues t (get_or (sightings cues t) i (0, 0)).0 (get_or (sightings cues t) i (0, 0)).1 × (0 < (get_or (sightings cues t) i (0, 0)).1)
sighting_at cues t i l = sightings_sound cues t _ _ (among_get_d (sightings cues t) i (0, 0) l)

pub sightings_once : SightingsOnce
sightings_once cues t h i j l m e =
    grind (arith, sightings_fall cues t h i j l m, (sighting_at cues t i (omega arith)).0.1, (sighting_at cues t j m).0.1)

pub sightings_few : SightingsFew
sightings_few cues t most h s =
    let ps : List (ℕ × ℕ) = sightings cues t in
    let bound : (i : ℕ) → i < length ps → (get_or ps i (0, 0)).1 < suc most = λ i l. omega (arith, (sighting_at cues t i l).0.1, All-get_or (λ c. length c ≤ most) cues (get_or ps i (0, 0)).0 [] (sighting_at cues t i l).0.0 s) in
    let tight : Falling (suc most) ps = falling_tight (suc (length t)) (suc most) ps (sightings_falling cues t h) bound in
    omega (arith, falling_few (suc most) ps tight (λ i l. (sighting_at cues t i l).1) (omega arith))
  where
    falling_tight : (k m : ℕ) (ps : List (ℕ × ℕ)) → Falling k ps → ((i : ℕ) → i < length ps → (get_or ps i (0, 0)).1 < m) → Falling m ps
    falling_tight k m [] h f = tt
    falling_tight k m (p ∷ ps) h f = (f 0 (omega arith), h.1)

-- lists of strictly falling lengths with the same elements are equal
falling_among : (k : ℕ) (ps : List (ℕ × ℕ)) (q : ℕ × ℕ) → Falling k ps → Among q ps → q.1 < k
falling_among k [] q f a = absurd a
falling_among k (p ∷ ps) q f a =
    ⊎_elim (λ (e : p ≡ q). omega (arith, f.0, ap (λ r. r.1) e)) (λ b. omega (arith, f.0, falling_among p.1 ps q f.1 b)) a

falling_from : (ps : List (ℕ × ℕ)) (k : ℕ) → ((i : ℕ) → i < length ps → (get_or ps i (0, 0)).1 < k) → ((i j : ℕ) → i < j → j < length ps → (get_or ps j (0, 0)).1 < (get_or ps i (0, 0)).1) → Falling k ps
falling_from [] k b f = tt
falling_from (p ∷ ps) k b f = (
  b 0 (omega arith),
  falling_from ps p.1 (λ i l. f 0 (suc i) (omega arith) (omega arith)) (λ i j l m. f (suc i) (suc j) (omega arith) (omega arith)),
)

pub falling_same : (j k : ℕ) (ps qs : List (ℕ × ℕ)) → Falling j ps → Falling k qs → ((r : ℕ × ℕ) → Among r ps → Among r qs) → ((r : ℕ × ℕ) → Among r qs → Among r ps) → ps ≡ qs
falling_same j k [] [] f g there back = refl
falling_same j k [] (q ∷ qs) f g there back = absurd (back q (inl refl))
falling_same j k (p ∷ ps) [] f g there back = absurd (there p (inl refl))
falling_same j k (p ∷ ps) (q ∷ qs) f g there back =
    let e : p ≡ q = ⊎_elim (λ (h : q ≡ p). sym h) (λ a. ⊎_elim (λ (h : p ≡ q). h) (λ b. absurd (omega (arith, falling_among q.1 qs p g.1 a, falling_among p.1 ps q f.1 b))) (back q (inl refl))) (there p (inl refl)) in
    let low : p.1 ≡ q.1 = ap (λ r. r.1) e in
    let tails : ps ≡ qs = falling_same p.1 q.1 ps qs f.1 g.1
    (λ r a. ⊎_elim (λ (h : q ≡ r). absurd (omega (arith, low, ap (λ v. v.1) h, falling_among p.1 ps r f.1 a))) (λ b. b) (there r (inr a)))
    (λ r a. ⊎_elim (λ (h : p ≡ r). absurd (omega (arith, low, ap (λ v. v.1) h, falling_among q.1 qs r g.1 a))) (λ b. b) (back r (inr a))) in
    cc

pub sightings_only : SightingsOnly
sightings_only cues t seen d f fall read =
    falling_same (suc (length t)) (suc (length t)) seen (sightings cues t) (falling_from seen (suc (length t)) below fall) (sightings_falling cues t d)
    (λ r a. (sightings_read cues t f r.0 r.1).1 ((read r.0 r.1).0 a))
    (λ r a. (read r.0 r.1).1 ((sightings_read cues t f r.0 r.1).0 a))
  where
    below : (i : ℕ) → i < length seen → (get_or seen i (0, 0)).1 < suc (length t)
    below i l =
        let s = (read (get_or seen i (0, 0)).0 (get_or seen i (0, 0)).1).0 (among_get_d seen i (0, 0) l) in
        omega (arith, s.1, ap length s.2.1, length-append s.2.0 (get_or cues (get_or seen i (0, 0)).0 []))
