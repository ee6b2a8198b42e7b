-- The worked examples, shown of the definitions; a letter is its code.
use Rattle.std.specs.Prelude.{◌≡◌, ℕ, true, false, List, [], ◌∷◌, map, replicate, Some, None}
use Rattle.events.specs.Sameness.{same_bytes, same_lists}
use Rattle.events.specs.declared.Refusal.TheVariants.{LongCue, SameCue}
use Rattle.book.specs.Cues.{cue_at}
use Rattle.book.specs.Held.{add_refused, begun, cue_signs, with_cue}
use Rattle.book.specs.Signs.{signs_of}
use Rattle.matching.specs.Examples.{Examples, fronts}
use Rattle.matching.specs.Follow.{entries}
use Rattle.matching.specs.Match.{live, sightings, standing}
use Rattle.sheet.specs.Report.{same_values}
use Rattle.sheet.specs.Rows.{Values}
use Rattle.studio.specs.Marks.{offer_of, played}

-- AXT is the same as axt, byte by byte; the bytes before A and before a are not the same.
abbrev pub Letters : Type 0
Letters =
    (same_lists same_bytes (65 ∷ 88 ∷ 84 ∷ []) (97 ∷ 120 ∷ 116 ∷ []) ≡ true) × (same_bytes 64 96 ≡ false) × (same_bytes 90 122 ≡ true) × (same_bytes 91 123 ≡ false)

-- Of 40 events a cue of 32 is granted, and one of 33 refused.
abbrev pub Lengths : Type 0
Lengths =
    (add_refused same_bytes (begun same_bytes (replicate 40 97)) 0 32 ≡ None) × (add_refused same_bytes (begun same_bytes (replicate 40 97)) 0 33 ≡ Some LongCue)

-- In `aAbB` the second two bytes are a cue of their own beside the first two, and `Aa` is the same as `aA`.
abbrev pub SameCues : Type 0
SameCues =
    (add_refused same_bytes (with_cue (begun same_bytes (97 ∷ 65 ∷ 98 ∷ 66 ∷ [])) (cue_at 0 2)) 2 2 ≡ None) ×
    (add_refused same_bytes (with_cue (begun same_bytes (97 ∷ 65 ∷ 65 ∷ 97 ∷ [])) (cue_at 0 2)) 2 2 ≡ Some SameCue)

-- The signs of `aAbc` under the material `aAb`: the place of the first same byte, 2,048 for one that is not there.
abbrev pub SignsWorked : Type 0
SignsWorked = signs_of same_bytes (97 ∷ 65 ∷ 98 ∷ []) (97 ∷ 65 ∷ 98 ∷ 99 ∷ []) ≡ 0 ∷ 0 ∷ 2 ∷ 2048 ∷ []

-- The cue AXT is sighted at the end of axt.
abbrev pub Axt : Type 0
Axt =
    sightings (cue_signs (with_cue (begun same_bytes (65 ∷ 88 ∷ 84 ∷ [])) (cue_at 0 3))) (signs_of same_bytes (65 ∷ 88 ∷ 84 ∷ []) (97 ∷ 120 ∷ 116 ∷ [])) ≡ (0, 3) ∷ []

-- The sheet J10 S20; S20; S20 J10 as material and cues, and the log J10 S20 J10 S20 M5: second, kind letter, cart.
abbrev pub sheet_material : List Values
sheet_material = (0, 74, 10) ∷ (0, 83, 20) ∷ (0, 83, 20) ∷ (0, 83, 20) ∷ (0, 74, 10) ∷ []

abbrev pub sheet_cues : List (List ℕ)
sheet_cues = cue_signs (with_cue (with_cue (with_cue (begun same_values sheet_material) (cue_at 0 2)) (cue_at 2 1)) (cue_at 3 2))

abbrev pub log_signs : List ℕ
log_signs = signs_of same_values sheet_material ((100, 74, 10) ∷ (130, 83, 20) ∷ (160, 74, 10) ∷ (190, 83, 20) ∷ (220, 77, 5) ∷ [])

-- Its standings after each event, its five entries, and that these give a new lane two marks, the first and the fourth.
abbrev pub TheLog : Type 0
TheLog =
    (map (λ u. standing sheet_cues (live sheet_cues u)) (fronts log_signs) ≡ (0, 1) ∷ (0, 2) ∷ (2, 2) ∷ (0, 2) ∷ (0, 0) ∷ []) ×
    (entries sheet_cues [] 100 log_signs ≡ (1, 0, 2) ∷ (1, 1, 1) ∷ (2, 2, 2) ∷ (3, 0, 2) ∷ (3, 1, 1) ∷ []) ×
    ((played (map (λ e. offer_of e.0 e.2) (entries sheet_cues [] 100 log_signs))).lane.marks ≡ 2) ×
    ((played (map (λ e. offer_of e.0 e.2) (entries sheet_cues [] 100 log_signs))).spans ≡ offer_of 1 2 ∷ offer_of 3 2 ∷ [])

-- All worked examples together.
abbrev pub Worked : Type 0
Worked = Examples × Letters × Lengths × SameCues × SignsWorked × Axt × TheLog
