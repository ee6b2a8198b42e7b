-- Standings: two texts have one standing exactly when nothing put behind both tells them apart.
-- Assumes nothing.
use Rattle.std.proofs.Common.{◌≡◌, ℕ, ◌<◌, true, List, [], ◌∷◌, ◌++◌, length, get_or, drop, sym, refl, ap, ◌∙◌, subst, append_assoc, append-nil, arith}
use Rattle.std.specs.List.{AllByRecursion}
use Rattle.std.proofs.ByRecursion.{All-get_or, All-drop}
use Rattle.std.proofs.lemmas.List.{append_cancel_right}
use Rattle.matching.specs.Match.{beginning, live, lowest, standing, sightings, Ends, Among, Signs, Alike}
use Rattle.matching.specs.Laws.{StandingsTell}
use Rattle.matching.proofs.Live.{ends_same, live_begins, live_ends, live_right, lowest_begins, begins_rest, standing_one}
use Rattle.matching.proofs.Sightings.{sightings_enough, sightings_sound, sightings_all}

-- a beginning that ends one text then ends the other: put the rest of its cue behind both
pub alike_ends : (cues : List (List ℕ)) (b t u : List ℕ) → AllByRecursion Signs cues → Alike cues t u → beginning cues b ≡ true → Ends b t → Ends b u
alike_ends cues [] t u a h g e = (u, append-nil u)
alike_ends cues (x ∷ b) t u a h g e =
    let l = lowest_begins cues (x ∷ b) g in
    let n : ℕ = lowest cues (x ∷ b) in
    let c : List ℕ = get_or cues n [] in
    let r : List ℕ = drop (length (x ∷ b)) c in
    let cut : (x ∷ b) ++ r ≡ c = begins_rest (x ∷ b) c l.1 in
    let long : 0 < length c = grind (arith, ap length cut) in
    let before : e.0 ++ c ≡ t ++ r = cc (cut, e.1, append_assoc e.0 (x ∷ b) r) in
    let seen : Among (n, length c) (sightings cues (e.0 ++ c)) = sightings_all cues e.0 c n l.0 refl long in
    let same : sightings cues (e.0 ++ c) ≡ sightings cues (u ++ r) = ap (sightings cues) before ∙ h r (All-drop (λ y. y < 65536) (length (x ∷ b)) c (All-get_or Signs cues n [] l.0 a)) in
    let there = (sightings_sound cues (u ++ r) n (length c) (subst (Among (n, length c)) same seen)).0.2 in
    (there.0, append_cancel_right (there.0 ++ (x ∷ b)) u r (cc (cut, there.1, append_assoc there.0 (x ∷ b) r)))

pub alike_live : (cues : List (List ℕ)) (t u : List ℕ) → AllByRecursion Signs cues → Alike cues t u → live cues t ≡ live cues u
alike_live cues t u a h =
    let there : Ends (live cues t) u = alike_ends cues (live cues t) t u a h (live_begins cues t) (live_ends cues t) in
    let back : Ends (live cues u) t = alike_ends cues (live cues u) u t a (λ s g. sym (h s g)) (live_begins cues u) (live_ends cues u) in
    ends_same (live cues t) (live cues u) u there (live_ends cues u)
    (omega (arith, (live_right cues u).2 (live cues t) (live_begins cues t) there, (live_right cues t).2 (live cues u) (live_begins cues u) back))

pub standings_tell : StandingsTell
standings_tell cues t u a = (
  λ e s g.
      let l : live cues t ≡ live cues u = standing_one cues (live cues t) (live cues u) (live_begins cues t) (live_begins cues u) e in
      sym (sightings_enough cues t s) ∙ ap (λ b. sightings cues (b ++ s)) l ∙ sightings_enough cues u s,
  λ h. ap (standing cues) (alike_live cues t u a h),
)
