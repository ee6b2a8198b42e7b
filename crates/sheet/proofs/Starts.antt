-- The cues of a sheet, one by one.
use Rattle.std.proofs.Common.{◌≡◌, ℕ, ◌+◌, ◌-◌, ◌<◌, ◌≤◌, cond, ltb, List, ◌∷◌, length, get_or, drop, ⊎_elim}
use Rattle.std.proofs.lemmas.List.{drop_more, drop_all}
use Rattle.std.proofs.lemmas.Bool.{cases_lt, lt-ltb, le-ltb}
use Rattle.book.specs.Cues.{cue_at}
use Rattle.sheet.specs.Rows.{cues_from}

-- The first of the cues from one start on reaches to the next start, or to the end of the events.
pub cues_more : (starts : List ℕ) (n i : ℕ) → i < length starts →
    cues_from (drop i starts) n ≡ cue_at (get_or starts i 0) (cond (ltb (i + 1) (length starts)) (get_or starts (i + 1) 0) n - get_or starts i 0) ∷ cues_from (drop (i + 1) starts) n
cues_more starts n i h =
    let one = drop_more starts i 0 h in
    ⊎_elim
    (λ (l : i + 1 < length starts).
    let two = drop_more starts (i + 1) 0 l in
    let t = lt-ltb (i + 1) (length starts) l in
    rw (one, two, t))
    (λ (l : length starts ≤ i + 1).
    let none = drop_all (i + 1) starts l in
    let t = le-ltb (i + 1) (length starts) l in
    rw (one, none, t))
    (cases_lt (i + 1) (length starts))
