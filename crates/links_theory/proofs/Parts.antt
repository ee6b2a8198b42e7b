-- Cues as parts of a list of signs.
use Rattle.std.proofs.Common.{◌≡◌, ℕ, ◌<◌, ◌≤◌, min, List, [], length, get_or, take, drop, sym, ap, ◌∙◌, ⊎_elim, arith}
use Rattle.std.proofs.lemmas.List.{length-take, length-drop, length-map, get_or-map, get_or_past, take-take}
use Rattle.std.proofs.lemmas.Bool.{cases_lt}
use Rattle.book.specs.Cues.{AllWithin, part_of, parts_of}
use Rattle.book.specs.declared.cue.Cue.{Cue}

pub cue_at_lem : (signs : List ℕ) (cues : List Cue) (i : ℕ) (d : Cue) → i < length cues → get_or (parts_of signs cues) i [] ≡ part_of signs (get_or cues i d)
cue_at_lem signs cues i d h = get_or-map (part_of signs) cues i d [] h

pub cue_length : (signs : List ℕ) (cues : List Cue) → AllWithin (length signs) cues → (i : ℕ) (d : Cue) → i < length cues → length (get_or (parts_of signs cues) i []) ≡ (get_or cues i d).len
cue_length signs cues all i d h =
    let w = all i d h in
    ap length (cue_at_lem signs cues i d h) ∙ length-take (get_or cues i d).len (drop (get_or cues i d).place signs) ∙ ap (min (get_or cues i d).len) (length-drop (get_or cues i d).place signs) ∙ omega (arith, w.2)

abbrev none : Cue
none = record { place = 0; len = 0 }

pub cue_short : (signs : List ℕ) (cues : List Cue) → AllWithin (length signs) cues → (i : ℕ) → length (get_or (parts_of signs cues) i []) ≤ 32
cue_short signs cues all i =
    ⊎_elim
    (λ (h : i < length cues). omega (arith, cue_length signs cues all i none h, (all i none h).1))
    (λ (h : length cues ≤ i). omega (arith, ap length (get_or_past (parts_of signs cues) i [] (omega (arith, length-map cues (part_of signs))))))
    (cases_lt i (length cues))

-- the first signs of a cue lie in a row
pub front_of_cue : (signs : List ℕ) (cues : List Cue) → AllWithin (length signs) cues → (i n : ℕ) (d : Cue) → i < length cues → n ≤ length (get_or (parts_of signs cues) i []) → take n (drop (get_or cues i d).place signs) ≡ take n (get_or (parts_of signs cues) i [])
front_of_cue signs cues all i n d h l =
    sym (ap (take n) (cue_at_lem signs cues i d h) ∙ take-take n (get_or cues i d).len (drop (get_or cues i d).place signs) (omega (arith, l, cue_length signs cues all i d h)))

pub cues_length : (signs : List ℕ) (cues : List Cue) → length (parts_of signs cues) ≡ length cues
cues_length signs cues = length-map cues (part_of signs)
