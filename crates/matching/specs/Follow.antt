-- Following a list of signs: how many are taken behind a text, what is written of them, and why it ends.
-- Assumes nothing.
use Rattle.std.specs.Prelude.{◌≡◌, ℕ, suc, ◌+◌, ◌-◌, ◌<◌, ◌≤◌, Bool, cond, ◌&&◌, List, [], ◌∷◌, ◌++◌, map, length, take, nat_le, nat_lt}
use Rattle.matching.specs.Match.{live, sightings, Among}

-- a text has at most so many signs
abbrev pub longest_text : ℕ
longest_text = 9999999

-- one sign more may be taken
abbrev pub takable : List ℕ → Bool
takable t = nat_lt (length t) longest_text

-- how many of the signs are followed behind the text t, with so many entries free: before each of them the text has room, and at least
-- 32 entries are free
abbrev pub followed : List (List ℕ) → List ℕ → ℕ → List ℕ → ℕ
followed cues t free [] = 0
followed cues t free (s ∷ ss) =
    cond (takable t && nat_le 32 free) (suc (followed cues (t ++ s ∷ []) (free - length (sightings cues (t ++ s ∷ []))) ss)) 0

-- the sightings at one place, as entries (place, cue number, length)
abbrev pub placed : ℕ → List (ℕ × ℕ) → List (ℕ × ℕ × ℕ)
placed p seen = map (λ q. (p, q.0, q.1)) seen

-- the entries written on the way; the place of an entry is that of the last sign in the text
abbrev pub entries : List (List ℕ) → List ℕ → ℕ → List ℕ → List (ℕ × ℕ × ℕ)
entries cues t free [] = []
entries cues t free (s ∷ ss) =
    cond (takable t && nat_le 32 free)
    (placed (length t) (sightings cues (t ++ s ∷ [])) ++ entries cues (t ++ s ∷ []) (free - length (sightings cues (t ++ s ∷ []))) ss)
    []

-- why it ends: 0 after the last sign, 2 where the text has no room, 1 where fewer than 32 entries are free
abbrev pub ending : List (List ℕ) → List ℕ → ℕ → List ℕ → ℕ
ending cues t free [] = 0
ending cues t free (s ∷ ss) =
    cond (takable t) (cond (nat_le 32 free) (ending cues (t ++ s ∷ []) (free - length (sightings cues (t ++ s ∷ []))) ss) 1) 2

-- the same three, from what is live and the length of the text alone
abbrev pub followed_at : List (List ℕ) → List ℕ → ℕ → ℕ → List ℕ → ℕ
followed_at cues b len free [] = 0
followed_at cues b len free (s ∷ ss) =
    cond (nat_lt len longest_text && nat_le 32 free)
    (suc (followed_at cues (live cues (b ++ s ∷ [])) (len + 1) (free - length (sightings cues (b ++ s ∷ []))) ss))
    0

abbrev pub entries_at : List (List ℕ) → List ℕ → ℕ → ℕ → List ℕ → List (ℕ × ℕ × ℕ)
entries_at cues b len free [] = []
entries_at cues b len free (s ∷ ss) =
    cond (nat_lt len longest_text && nat_le 32 free)
    (placed len (sightings cues (b ++ s ∷ [])) ++ entries_at cues (live cues (b ++ s ∷ [])) (len + 1) (free - length (sightings cues (b ++ s ∷ []))) ss)
    []

abbrev pub ending_at : List (List ℕ) → List ℕ → ℕ → ℕ → List ℕ → ℕ
ending_at cues b len free [] = 0
ending_at cues b len free (s ∷ ss) =
    cond (nat_lt len longest_text)
    (cond (nat_le 32 free) (ending_at cues (live cues (b ++ s ∷ [])) (len + 1) (free - length (sightings cues (b ++ s ∷ []))) ss) 1)
    2

-- what is live and the length of the text are enough to follow
abbrev pub FollowLive : Type 0
FollowLive =
    (cues : List (List ℕ)) (t : List ℕ) (free : ℕ) (ss : List ℕ) →
    (followed_at cues (live cues t) (length t) free ss ≡ followed cues t free ss) ×
    (entries_at cues (live cues t) (length t) free ss ≡ entries cues t free ss) ×
    (ending_at cues (live cues t) (length t) free ss ≡ ending cues t free ss)

-- an entry (p, n, k) is written exactly when p is the place of a sign that was followed, and (n, k) is sighted there
abbrev pub EntriesRead : Type 0
EntriesRead =
    (cues : List (List ℕ)) (t : List ℕ) (free : ℕ) (ss : List ℕ) (p n k : ℕ) →
    (Among (p, n, k) (entries cues t free ss) →
    (i : ℕ) × (p ≡ length t + i) × (i < followed cues t free ss) × Among (n, k) (sightings cues (t ++ take (suc i) ss))) ×
    ((i : ℕ) → p ≡ length t + i → i < followed cues t free ss → Among (n, k) (sightings cues (t ++ take (suc i) ss)) →
    Among (p, n, k) (entries cues t free ss))

-- no more is followed than is there; where no text has over 32 sightings, no more is written than is free
abbrev pub FollowFits : Type 0
FollowFits =
    (cues : List (List ℕ)) (t : List ℕ) (free : ℕ) (ss : List ℕ) →
    (followed cues t free ss ≤ length ss) ×
    (((u : List ℕ) → length (sightings cues u) ≤ 32) → length (entries cues t free ss) ≤ free)

-- the ending is 0 exactly when all signs were followed, 2 exactly when not and the text has no room left, and else 1
abbrev pub EndingRead : Type 0
EndingRead =
    (cues : List (List ℕ)) (t : List ℕ) (free : ℕ) (ss : List ℕ) →
    (ending cues t free ss ≡ 0 → followed cues t free ss ≡ length ss) ×
    (ending cues t free ss ≡ 1 → (followed cues t free ss < length ss) × (length t + followed cues t free ss < longest_text) ×
    (free < length (entries cues t free ss) + 32)) ×
    (ending cues t free ss ≡ 2 → (followed cues t free ss < length ss) × (longest_text ≤ length t + followed cues t free ss)) ×
    (ending cues t free ss ≤ 2)
