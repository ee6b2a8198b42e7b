-- Worked examples of the definitions; a letter is its code, as 97 for a.
-- Assumes nothing.
use Rattle.std.specs.Prelude.{◌≡◌, ℕ, List, [], ◌∷◌, map, length, None}
use Rattle.matching.specs.Match.{live, sightings, standing, link, trials, wait}
use Rattle.matching.specs.Follow.{entries}

-- the fronts of a text, the empty one not among them, the shortest first
abbrev pub fronts : List ℕ → List (List ℕ)
fronts [] = []
fronts (x ∷ t) = (x ∷ []) ∷ map (λ u. x ∷ u) (fronts t)

-- aaba in aaabaabacabc: seen where its sign number 4 or 7 was taken, counted from 0
abbrev pub SeenTwice : Type 0
SeenTwice =
    map (λ u. length (sightings ((97 ∷ 97 ∷ 98 ∷ 97 ∷ []) ∷ []) u)) (fronts (97 ∷ 97 ∷ 97 ∷ 98 ∷ 97 ∷ 97 ∷ 98 ∷ 97 ∷ 99 ∷ 97 ∷ 98 ∷ 99 ∷ [])) ≡
    0 ∷ 0 ∷ 0 ∷ 0 ∷ 1 ∷ 0 ∷ 0 ∷ 1 ∷ 0 ∷ 0 ∷ 0 ∷ 0 ∷ []

-- the lengths of the links of abcabba
abbrev pub LinksAbcabba : Type 0
LinksAbcabba =
    let c : List ℕ = 97 ∷ 98 ∷ 99 ∷ 97 ∷ 98 ∷ 98 ∷ 97 ∷ [] in
    map (λ u. length (link (c ∷ []) u)) (fronts c) ≡ 0 ∷ 0 ∷ 0 ∷ 1 ∷ 2 ∷ 0 ∷ 1 ∷ []

-- she and he, both at the end of she, the longer first
abbrev pub SheHe : Type 0
SheHe =
    sightings ((115 ∷ 104 ∷ 101 ∷ []) ∷ (104 ∷ 101 ∷ []) ∷ []) (115 ∷ 104 ∷ 101 ∷ []) ≡ (0, 3) ∷ (1, 2) ∷ []

-- with the one cue a, the text a stands at (0, 1) and the text b at (0, 0)
abbrev pub OneLetter : Type 0
OneLetter =
    let cues : List (List ℕ) = (97 ∷ []) ∷ [] in
    (standing cues (live cues (97 ∷ [])) ≡ (0, 1)) × (standing cues (live cues (98 ∷ [])) ≡ (0, 0))

-- with no cue nothing is live and nothing is seen after abc, and nothing is waited for
abbrev pub NoCue : Type 0
NoCue =
    (standing [] (live [] (97 ∷ 98 ∷ 99 ∷ [])) ≡ (0, 0)) × (sightings [] (97 ∷ 98 ∷ 99 ∷ []) ≡ []) × (wait [] 0 ≡ None)

-- the cue aab and the text aaa: four trials in all, and aa is live
abbrev pub FourTrials : Type 0
FourTrials =
    let cues : List (List ℕ) = (97 ∷ 97 ∷ 98 ∷ []) ∷ [] in
    (trials cues [] (97 ∷ 97 ∷ 97 ∷ []) ≡ 4) × (standing cues (live cues (97 ∷ 97 ∷ 97 ∷ [])) ≡ (0, 2))

-- three cues over 10 and 20: the standings after each sign of 10 20 10 20 5
abbrev pub FiveStandings : Type 0
FiveStandings =
    let cues : List (List ℕ) = (10 ∷ 20 ∷ []) ∷ (20 ∷ []) ∷ (20 ∷ 10 ∷ []) ∷ [] in
    map (λ u. standing cues (live cues u)) (fronts (10 ∷ 20 ∷ 10 ∷ 20 ∷ 5 ∷ [])) ≡
    (0, 1) ∷ (0, 2) ∷ (2, 2) ∷ (0, 2) ∷ (0, 0) ∷ []

-- and the entries written where they are followed, with the places of the last signs
abbrev pub FiveEntries : Type 0
FiveEntries =
    let cues : List (List ℕ) = (10 ∷ 20 ∷ []) ∷ (20 ∷ []) ∷ (20 ∷ 10 ∷ []) ∷ [] in
    entries cues [] 100 (10 ∷ 20 ∷ 10 ∷ 20 ∷ 5 ∷ []) ≡ (1, 0, 2) ∷ (1, 1, 1) ∷ (2, 2, 2) ∷ (3, 0, 2) ∷ (3, 1, 1) ∷ []

abbrev pub Examples : Type 0
Examples = SeenTwice × LinksAbcabba × SheHe × OneLetter × NoCue × FourTrials × FiveStandings × FiveEntries
