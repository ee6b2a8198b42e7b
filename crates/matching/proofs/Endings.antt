-- The test for an ending, and the wait.
-- Assumes nothing.
use Rattle.std.proofs.Common.{◌≡◌, ℕ, zero, suc, ◌+◌, ◌<◌, ◌≤◌, min, true, false, ◌&&◌, eqb, List, [], ◌∷◌, ◌++◌, length, get_or, sym, refl, ap, subst, inl, ⊎_elim, arith, length-append}
use Rattle.std.proofs.lemmas.Bool.{or_cases}
use Rattle.matching.specs.Match.{beginning, live, same, ends, sightings, shortest, Ends, Among}
use Rattle.matching.specs.Laws.{EndsRead, WaitRight}
use Rattle.matching.proofs.Sightings.{same_itself, same_is, sightings_enough, sightings_sound}

pub ends_true : (b t : List ℕ) → ends b t ≡ true → Ends b t
ends_true b [] h = ([], same_is b [] h)
ends_true b (x ∷ t) h =
    ⊎_elim (λ e. ([], same_is b (x ∷ t) e)) (λ e. let f = ends_true b t e in (x ∷ f.0, ap (λ v. x ∷ v) f.1)) (or_cases (same b (x ∷ t)) (ends b t) h)

pub ends_itself : (b : List ℕ) → ends b b ≡ true
ends_itself [] = refl
ends_itself (x ∷ b) = grind (arith, same_itself (x ∷ b))

pub ends_append : (u b : List ℕ) → ends b (u ++ b) ≡ true
ends_append [] b = ends_itself b
ends_append (x ∷ u) b = grind (arith, ends_append u b)

pub ends_from : (b t : List ℕ) → Ends b t → ends b t ≡ true
ends_from b t e = grind (arith, ends_append e.0 b, e.1)

-- a list that some cue begins with is no list that none begins with
same_some : (cues : List (List ℕ)) (b t : List ℕ) → beginning cues b ≡ true → beginning cues t ≡ false → same b t ≡ false
same_some cues b t h g = grind (arith, same_is b t)

pub ends_live : (cues : List (List ℕ)) (b t : List ℕ) → beginning cues b ≡ true → ends b (live cues t) ≡ ends b t
ends_live cues b [] h = refl
ends_live cues b (x ∷ t) h = grind (arith, ends_live cues b t, same_some cues b (x ∷ t))

same_push : (b t : List ℕ) (x y : ℕ) → same (b ++ x ∷ []) (t ++ y ∷ []) ≡ (eqb x y && same b t)
same_push [] [] x y = grind arith
same_push [] (z ∷ []) x y = grind arith
same_push [] (z ∷ w ∷ t) x y = grind arith
same_push (z ∷ []) [] x y = grind arith
same_push (z ∷ w ∷ b) [] x y = grind arith
same_push (z ∷ b) (w ∷ t) x y = grind (arith, same_push b t x y)

push_some : (b : List ℕ) (x : ℕ) → same (b ++ x ∷ []) [] ≡ false
push_some [] x = refl
push_some (y ∷ b) x = refl

pub ends_push : (b t : List ℕ) (x y : ℕ) → ends (b ++ x ∷ []) (t ++ y ∷ []) ≡ (eqb x y && ends b t)
ends_push b [] x y = grind (arith, same_push b [] x y, push_some b x)
ends_push b (z ∷ t) x y = grind (arith, same_push b (z ∷ t) x y, ends_push b t x y)

pub ends_read : EndsRead
ends_read b t = (ends_true b t, ends_from b t, λ cues h. ends_live cues b t h, ends_push b t)

pub shortest_least : (m : ℕ) (cues : List (List ℕ)) → shortest m cues ≤ m
shortest_least m [] = omega arith
shortest_least m (c ∷ cues) = omega (arith, shortest_least (min m (length c)) cues)

pub shortest_cue : (m : ℕ) (cues : List (List ℕ)) (n : ℕ) → n < length cues → shortest m cues ≤ length (get_or cues n [])
shortest_cue m [] n l = grind arith
shortest_cue m (c ∷ cues) zero l = omega (arith, shortest_least (min m (length c)) cues)
shortest_cue m (c ∷ cues) (suc n) l = shortest_cue (min m (length c)) cues n (omega arith)

-- a sighting after more signs is no longer than the live beginning and those signs
pub sighting_long : (cues : List (List ℕ)) (t s : List ℕ) (n k : ℕ) → Among (n, k) (sightings cues (t ++ s)) → (n < length cues) × (length (get_or cues n []) ≡ k) × (k ≤ length (live cues t) + length s)
sighting_long cues t s n k a =
    let f = (sightings_sound cues (live cues t ++ s) n k (subst (Among (n, k)) (sym (sightings_enough cues t s)) a)).0 in
    (f.0, f.1, omega (arith, f.1, ap length f.2.1, length-append f.2.0 (get_or cues n []), length-append (live cues t) s))

pub none_from : (ps : List (ℕ × ℕ)) → ((n k : ℕ) → Among (n, k) ps → ⊥) → ps ≡ []
none_from [] h = refl
none_from (p ∷ ps) h = absurd (h p.0 p.1 (inl refl))

pub wait_right : WaitRight
wait_right [] t w h = grind arith
wait_right (c ∷ cues) t w h = (
  grind arith,
  λ s p l. none_from (sightings (c ∷ cues) (t ++ s)) (λ n k a.
      let f = sighting_long (c ∷ cues) t s n k a in
      grind (arith, f.1, f.2, shortest_cue (length c) (c ∷ cues) n f.0)),
)
