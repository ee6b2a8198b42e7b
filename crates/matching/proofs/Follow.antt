-- Following a list of signs: what is written, and why it ends.
-- Assumes nothing.
use Rattle.std.proofs.Common.{◌≡◌, ℕ, zero, suc, ◌+◌, ◌-◌, ◌<◌, ◌≤◌, true, false, ◌&&◌, leb, List, [], ◌∷◌, ◌++◌, length, get_or, take, sym, refl, ap, ◌∙◌, subst, inl, inr, ⊎_elim, append_assoc, arith, length-append}
use Rattle.std.proofs.lemmas.Bool.{cases_Bool}
use Rattle.std.proofs.lemmas.List.{length-map, take_more}
use Rattle.matching.specs.Match.{live, sightings, Among}
use Rattle.matching.specs.Follow.{takable, followed, placed, entries, ending, followed_at, entries_at, ending_at, FollowLive, EntriesRead, FollowFits, EndingRead}
use Rattle.matching.proofs.Live.{live_enough}
use Rattle.matching.proofs.Sightings.{among_left, among_right, among_cases, sightings_enough}

placed_found : (q : ℕ) (ps : List (ℕ × ℕ)) (p n k : ℕ) → Among (p, n, k) (placed q ps) → (p ≡ q) × Among (n, k) ps
placed_found q [] p n k h = absurd h
placed_found q (r ∷ ps) p n k h =
    ⊎_elim (λ (e : (q, r.0, r.1) ≡ (p, n, k)). (ap (λ v. v.0) (sym e), inl (grind arith)))
    (λ a. let f = placed_found q ps p n k a in (f.0, inr f.1)) h

placed_has : (q : ℕ) (ps : List (ℕ × ℕ)) (p n k : ℕ) → p ≡ q → Among (n, k) ps → Among (p, n, k) (placed q ps)
placed_has q [] p n k e h = absurd h
placed_has q (r ∷ ps) p n k e h =
    ⊎_elim (λ (g : r ≡ (n, k)). inl (grind arith)) (λ a. inr (placed_has q ps p n k e a)) h

pub entries_sound : (cues : List (List ℕ)) (t : List ℕ) (free : ℕ) (ss : List ℕ) (p n k : ℕ) → Among (p, n, k) (entries cues t free ss) → (i : ℕ) × (p ≡ length t + i) × (i < followed cues t free ss) × Among (n, k) (sightings cues (t ++ take (suc i) ss))
entries_sound cues t free [] p n k = λ h. absurd h
entries_sound cues t free (s ∷ ss) p n k =
    let u : List ℕ = t ++ s ∷ [] in
    let left : ℕ = free - length (sightings cues u) in
    ⊎_elim
    (λ (g : (takable t && leb 32 free) ≡ true). rw g (λ h.
    ⊎_elim (λ a. let f = placed_found (length t) (sightings cues u) p n k a in (0, omega (arith, f.0), omega arith, f.1))
    (λ a.
    let f = entries_sound cues u left ss p n k a in
    (suc f.0, omega (arith, f.1, length-append t (s ∷ [])), omega (arith, f.2), subst (λ v. Among (n, k) (sightings cues v)) (append_assoc t (s ∷ []) (take (suc f.0) ss)) f.3))
    (among_cases (p, n, k) (placed (length t) (sightings cues u)) (entries cues u left ss) h)))
    (λ (g : (takable t && leb 32 free) ≡ false). rw g (λ h. absurd h))
    (cases_Bool (takable t && leb 32 free))

pub entries_all : (cues : List (List ℕ)) (t : List ℕ) (free : ℕ) (ss : List ℕ) (p n k i : ℕ) → p ≡ length t + i → i < followed cues t free ss → Among (n, k) (sightings cues (t ++ take (suc i) ss)) → Among (p, n, k) (entries cues t free ss)
entries_all cues t free [] p n k i e = λ l h. grind arith
entries_all cues t free (s ∷ ss) p n k zero e =
    let u : List ℕ = t ++ s ∷ [] in
    let left : ℕ = free - length (sightings cues u) in
    ⊎_elim
    (λ (g : (takable t && leb 32 free) ≡ true). rw g (λ l h.
    among_left (p, n, k) (placed (length t) (sightings cues u)) (entries cues u left ss) (placed_has (length t) (sightings cues u) p n k (omega (arith, e)) h)))
    (λ (g : (takable t && leb 32 free) ≡ false). rw g (λ l h. grind arith))
    (cases_Bool (takable t && leb 32 free))
entries_all cues t free (s ∷ ss) p n k (suc i) e =
    let u : List ℕ = t ++ s ∷ [] in
    let left : ℕ = free - length (sightings cues u) in
    ⊎_elim
    (λ (g : (takable t && leb 32 free) ≡ true). rw g (λ l h.
    among_right (p, n, k) (placed (length t) (sightings cues u)) (entries cues u left ss)
    (entries_all cues u left ss p n k i (omega (arith, e, length-append t (s ∷ []))) (omega arith) (subst (λ v. Among (n, k) (sightings cues v)) (sym (append_assoc t (s ∷ []) (take (suc i) ss))) h))))
    (λ (g : (takable t && leb 32 free) ≡ false). rw g (λ l h. grind arith))
    (cases_Bool (takable t && leb 32 free))

pub entries_read : EntriesRead
entries_read cues t free ss p n k = (entries_sound cues t free ss p n k, entries_all cues t free ss p n k)

pub followed_few : (cues : List (List ℕ)) (t : List ℕ) (free : ℕ) (ss : List ℕ) → followed cues t free ss ≤ length ss
followed_few cues t free [] = omega arith
followed_few cues t free (s ∷ ss) = grind (arith, followed_few cues (t ++ s ∷ []) (free - length (sightings cues (t ++ s ∷ []))) ss)

pub length_placed : (p : ℕ) (ps : List (ℕ × ℕ)) → length (placed p ps) ≡ length ps
length_placed p ps = length-map ps (λ q. (p, q.0, q.1))

pub entries_few : (cues : List (List ℕ)) → ((u : List ℕ) → length (sightings cues u) ≤ 32) → (t : List ℕ) (free : ℕ) (ss : List ℕ) → length (entries cues t free ss) ≤ free
entries_few cues h t free [] = omega arith
entries_few cues h t free (s ∷ ss) =
    let u : List ℕ = t ++ s ∷ [] in
    let left : ℕ = free - length (sightings cues u) in
    grind (arith, h u, entries_few cues h u left ss, length-append (placed (length t) (sightings cues u)) (entries cues u left ss), length_placed (length t) (sightings cues u))

pub follow_fits : FollowFits
follow_fits cues t free ss = (followed_few cues t free ss, λ h. entries_few cues h t free ss)

pub ending_read : EndingRead
ending_read cues t free [] = (λ e. refl, λ e. grind arith, λ e. grind arith, omega arith)
ending_read cues t free (s ∷ ss) =
    let u : List ℕ = t ++ s ∷ [] in
    let left : ℕ = free - length (sightings cues u) in
    let r = ending_read cues u left ss in
    ⊎_elim
    (λ (g : takable t ≡ true). ⊎_elim
    (λ (f : leb 32 free ≡ true). rw (g, f) (
      λ e. omega (arith, r.0 e),
      λ e. (
        omega (arith, (r.1 e).0),
        omega (arith, (r.1 e).1, length-append t (s ∷ [])),
        omega (arith, (r.1 e).2, length-append (placed (length t) (sightings cues u)) (entries cues u left ss), length_placed (length t) (sightings cues u)),
      ),
      λ e. (omega (arith, (r.2 e).0), omega (arith, (r.2 e).1, length-append t (s ∷ []))),
      r.3,
    ))
    (λ (f : leb 32 free ≡ false). grind arith) (cases_Bool (leb 32 free)))
    (λ (g : takable t ≡ false). grind arith)
    (cases_Bool (takable t))

-- the same from any beginning and length that are the text's
pub followed_at_lem : (cues : List (List ℕ)) (t b : List ℕ) (len free : ℕ) (ss : List ℕ) → b ≡ live cues t → len ≡ length t → followed_at cues b len free ss ≡ followed cues t free ss
followed_at_lem cues t b len free [] e l = refl
followed_at_lem cues t b len free (s ∷ ss) e l =
    let u : List ℕ = t ++ s ∷ [] in
    let seen : sightings cues (b ++ s ∷ []) ≡ sightings cues u = rw e (sightings_enough cues t (s ∷ [])) in
    let next : live cues (b ++ s ∷ []) ≡ live cues u = rw e (live_enough cues t (s ∷ [])) in
    let long : len + 1 ≡ length u = omega (arith, l, length-append t (s ∷ [])) in
    grind (arith, seen, l, followed_at_lem cues u (live cues (b ++ s ∷ [])) (len + 1) (free - length (sightings cues u)) ss next long)

pub entries_at_lem : (cues : List (List ℕ)) (t b : List ℕ) (len free : ℕ) (ss : List ℕ) → b ≡ live cues t → len ≡ length t → entries_at cues b len free ss ≡ entries cues t free ss
entries_at_lem cues t b len free [] e l = refl
entries_at_lem cues t b len free (s ∷ ss) e l =
    let u : List ℕ = t ++ s ∷ [] in
    let seen : sightings cues (b ++ s ∷ []) ≡ sightings cues u = rw e (sightings_enough cues t (s ∷ [])) in
    let next : live cues (b ++ s ∷ []) ≡ live cues u = rw e (live_enough cues t (s ∷ [])) in
    let long : len + 1 ≡ length u = omega (arith, l, length-append t (s ∷ [])) in
    grind (arith, seen, l, entries_at_lem cues u (live cues (b ++ s ∷ [])) (len + 1) (free - length (sightings cues u)) ss next long)

pub ending_at_lem : (cues : List (List ℕ)) (t b : List ℕ) (len free : ℕ) (ss : List ℕ) → b ≡ live cues t → len ≡ length t → ending_at cues b len free ss ≡ ending cues t free ss
ending_at_lem cues t b len free [] e l = refl
ending_at_lem cues t b len free (s ∷ ss) e l =
    let u : List ℕ = t ++ s ∷ [] in
    let seen : sightings cues (b ++ s ∷ []) ≡ sightings cues u = rw e (sightings_enough cues t (s ∷ [])) in
    let next : live cues (b ++ s ∷ []) ≡ live cues u = rw e (live_enough cues t (s ∷ [])) in
    let long : len + 1 ≡ length u = omega (arith, l, length-append t (s ∷ [])) in
    grind (arith, seen, l, ending_at_lem cues u (live cues (b ++ s ∷ [])) (len + 1) (free - length (sightings cues u)) ss next long)

pub follow_live : FollowLive
follow_live cues t free ss = (
  followed_at_lem cues t (live cues t) (length t) free ss refl refl,
  entries_at_lem cues t (live cues t) (length t) free ss refl refl,
  ending_at_lem cues t (live cues t) (length t) free ss refl refl,
)

-- one more of the signs that are followed
pub live_more : (cues : List (List ℕ)) (b ss : List ℕ) (i d : ℕ) → i < length ss → live cues (live cues (b ++ take i ss) ++ get_or ss i d ∷ []) ≡ live cues (b ++ take (i + 1) ss)
live_more cues b ss i d l =
    live_enough cues (b ++ take i ss) (get_or ss i d ∷ []) ∙ ap (live cues) (append_assoc b (take i ss) (get_or ss i d ∷ []) ∙ ap (λ v. b ++ v) (sym (take_more ss i d l)))
