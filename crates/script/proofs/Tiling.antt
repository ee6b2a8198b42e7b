-- Cues that lie one behind the other in the material that is made of them.
use Rattle.std.proofs.Common.{◌≡◌, ℕ, suc, ◌+◌, ◌-◌, ◌<◌, ◌≤◌, Bool, false, ◌||◌, ltb, List, [], ◌∷◌, ◌++◌, map, length, take, drop, sym, refl, ap, ◌∙◌, subst, ⊎_elim, append_assoc, append-nil, arith}
use Rattle.std.proofs.lemmas.List.{drop_at, drop-take, length-append, length-take, take_at, take-take}
use Rattle.std.proofs.lemmas.Bool.{cases_lt, lt-ltb, le-ltb}
use Rattle.std.specs.List.{flat_map, AllByRecursion}
use Rattle.events.specs.Sameness.{Lawful, same_lists}
use Rattle.book.proofs.Tells.{Telling, lookups_signs, part_signs, part_telling}
use Rattle.book.specs.Cues.{cue_at, has_same, part, part_of, parts_of, total}
use Rattle.book.specs.Held.{add_refused, cue_signs, lookups}
use Rattle.book.specs.Signs.{signs_of}
use Rattle.book.specs.declared.cue.Cue.{Cue}
use Rattle.script.proofs.Bridge.{sign_runs_signs}
use Rattle.script.specs.Booking.{size, has_cue, book_refusal, cues_at, held_with}
use Rattle.script.specs.Runs.{sign_runs, runs}

abbrev events : {E : Type 0} → List (List E) → List E
events cues = flat_map (λ c. c) cues

pub length_events : {E : Type 0} (cues : List (List E)) → length (flat_map (λ c. c) cues) ≡ size cues
length_events [] = refl
length_events (c ∷ cues) = length-append c (events cues) ∙ ap (λ n. length c + n) (length_events cues)

pub size_append : {E : Type 0} (xs ys : List (List E)) → size (xs ++ ys) ≡ size xs + size ys
size_append [] ys = omega arith
size_append (c ∷ xs) ys = let r = size_append xs ys in omega arith

events_append : {E : Type 0} (xs ys : List (List E)) → events (xs ++ ys) ≡ events xs ++ events ys
events_append [] ys = refl
events_append (c ∷ xs) ys = ap (λ z. c ++ z) (events_append xs ys) ∙ sym (append_assoc c (events xs) (events ys))

part_within : {E : Type 0} (pre c post : List E) → length pre + length c ≤ 2048 → part (length pre) (length c) (take 2048 (pre ++ (c ++ post))) ≡ c
part_within pre c post h =
    let m = 2048 - length pre in
    let n : length pre + (2048 - length pre) ≡ 2048 = omega arith in
    let cut : drop (length pre) (take 2048 (pre ++ (c ++ post))) ≡ take (2048 - length pre) (c ++ post) =
    ap (λ k. drop (length pre) (take k (pre ++ (c ++ post)))) (sym n) ∙ (drop-take (length pre) (2048 - length pre) (pre ++ (c ++ post)) ∙ ap (take (2048 - length pre)) (drop_at pre (c ++ post) (length pre) refl)) in
    ap (take (length c)) cut ∙ (take-take (length c) (2048 - length pre) (c ++ post) (omega arith) ∙ take_at c post (length c) refl)

parts_within : {E : Type 0} (pre : List E) (cues : List (List E)) (post : List E) (p : ℕ) → p ≡ length pre → length pre + size cues ≤ 2048 →
    parts_of (take 2048 (pre ++ (events cues ++ post))) (cues_at p (map length cues)) ≡ cues
parts_within pre [] post p at h = refl
parts_within pre (c ∷ cues) post p at h =
    let one : pre ++ ((c ++ events cues) ++ post) ≡ pre ++ (c ++ (events cues ++ post)) = ap (λ z. pre ++ z) (append_assoc c (events cues) post) in
    let two : pre ++ ((c ++ events cues) ++ post) ≡ (pre ++ c) ++ (events cues ++ post) = one ∙ sym (append_assoc pre c (events cues ++ post)) in
    let l = length-append pre c in
    let head : part p (length c) (take 2048 (pre ++ ((c ++ events cues) ++ post))) ≡ c =
    ap (λ k. part k (length c) (take 2048 (pre ++ ((c ++ events cues) ++ post)))) at ∙ (ap (λ z. part (length pre) (length c) (take 2048 z)) one ∙ part_within pre c (events cues ++ post) (omega arith)) in
    let tail : parts_of (take 2048 (pre ++ ((c ++ events cues) ++ post))) (cues_at (p + length c) (map length cues)) ≡ cues =
    ap (λ z. parts_of (take 2048 z) (cues_at (p + length c) (map length cues))) two ∙ parts_within (pre ++ c) cues post (p + length c) (omega arith) (omega arith) in
    ap (λ x. x ∷ parts_of (take 2048 (pre ++ ((c ++ events cues) ++ post))) (cues_at (p + length c) (map length cues))) head ∙ ap (λ xs. c ∷ xs) tail

-- The cues before, and one more, as parts of the material.
module _ {E : Type 0} (before : List (List E)) (c : List E) (after : List (List E)) where
  all_events : events (before ++ c ∷ after) ≡ events before ++ (c ++ events after)
  all_events = events_append before (c ∷ after)

  before_parts : size before ≤ 2048 → parts_of (take 2048 (events (before ++ c ∷ after))) (cues_at 0 (map length before)) ≡ before
  before_parts h = ap (λ z. parts_of (take 2048 z) (cues_at 0 (map length before))) all_events ∙ parts_within [] before (c ++ events after) 0 refl (omega arith)

  own_part : size before + length c ≤ 2048 → part (size before) (length c) (take 2048 (events (before ++ c ∷ after))) ≡ c
  own_part h =
      let l = length_events before in
      ap (λ z. part (size before) (length c) (take 2048 z)) all_events ∙
      (ap (λ k. part k (length c) (take 2048 (events before ++ (c ++ events after)))) (sym l) ∙ part_within (events before) c (events after) (omega arith))

has_parts : {E : Type 0} (same : E → E → Bool) (m : List E) (cues : List Cue) (given : Cue) → has_same same m cues given ≡ has_cue same (parts_of m cues) (part_of m given)
has_parts same m [] given = refl
has_parts same m (c ∷ cues) given = ap (λ b. same_lists same (part_of m c) (part_of m given) || b) (has_parts same m cues given)

pub total_at : {E : Type 0} (p : ℕ) (cues : List (List E)) → total (cues_at p (map length cues)) ≡ size cues
total_at p [] = refl
total_at p (c ∷ cues) = ap (λ n. length c + n) (total_at (p + length c) cues)

length_at : {E : Type 0} (p : ℕ) (cues : List (List E)) → length (cues_at p (map length cues)) ≡ length cues
length_at p [] = refl
length_at p (c ∷ cues) = ap (λ n. suc n) (length_at (p + length c) cues)

-- The draft refuses a cue exactly as the rules on lists of events do.
pub add_refused_lem : {E : Type 0} (same : E → E → Bool) (before : List (List E)) (c : List E) (after : List (List E)) → size before ≤ 1024 →
    add_refused same (held_with same (before ++ c ∷ after) before) (size before) (length c) ≡ book_refusal same before c
add_refused_lem same before c after small =
    let m = take 2048 (events (before ++ c ∷ after)) in
    let t = total_at 0 before in
    let n = length_at 0 before in
    ⊎_elim
    (λ (l : 32 < length c). grind (arith, lt-ltb 32 (length c) l))
    (λ (l : length c ≤ 32).
    let long : length (take 2048 (events (before ++ c ∷ after))) ≡ _ = length-take 2048 (events (before ++ c ∷ after)) in
    let all = length_events (before ++ c ∷ after) in
    let s = size_append before (c ∷ after) in
    let within : ltb (length (take 2048 (events (before ++ c ∷ after)))) (size before + length c) ≡ false = le-ltb _ _ (omega arith) in
    let there : has_same same (take 2048 (events (before ++ c ∷ after))) (cues_at 0 (map length before)) (cue_at (size before) (length c)) ≡ has_cue same before c =
    has_parts same (take 2048 (events (before ++ c ∷ after))) (cues_at 0 (map length before)) (cue_at (size before) (length c)) ∙
    (ap (λ z. has_cue same z (part (size before) (length c) (take 2048 (events (before ++ c ∷ after))))) (before_parts before c after (omega arith)) ∙
    ap (has_cue same before) (own_part before c after (omega arith))) in
    rw (within, there, t, n))
    (cases_lt 32 (length c))

-- The signs of the cues, once all are there, and what they tell.
parts_signs : {E : Type 0} (same : E → E → Bool) (material : List E) (cues : List Cue) → parts_of (signs_of same material material) cues ≡ map (signs_of same material) (parts_of material cues)
parts_signs same material [] = refl
parts_signs same material (c ∷ cues) =
    let h = part_signs same material (signs_of same material material) refl c.place c.len in
    let r = parts_signs same material cues in
    cc

parts_telling : {E : Type 0} (same : E → E → Bool) → Lawful same → (material : List E) → length material ≤ 2048 → (cues : List Cue) → AllByRecursion (λ c. AllByRecursion (Telling same material) c) (parts_of material cues)
parts_telling same law material short [] = tt
parts_telling same law material short (c ∷ cues) = (part_telling same law material short c.place c.len, parts_telling same law material short cues)

-- What following lists in signs is what the rules on events say.
pub runs_signs : {E : Type 0} (same : E → E → Bool) → Lawful same → (cues : List (List E)) (text : List E) → size cues ≤ 2048 →
    sign_runs (cue_signs (held_with same cues cues)) [] (lookups same (held_with same cues cues) text) ≡ runs same cues text
runs_signs {E = E} same law cues text small =
    let h = held_with same cues cues in
    let m = take 2048 (events cues) in
    let own : parts_of (take 2048 (events cues)) (cues_at 0 (map length cues)) ≡ cues =
    ap (λ z. parts_of (take 2048 z) (cues_at 0 (map length cues))) (sym (append-nil (events cues))) ∙ parts_within [] cues [] 0 refl (omega arith) in
    let short : length (take 2048 (events cues)) ≤ 2048 = omega (arith, length-take 2048 (events cues)) in
    let told : AllByRecursion (λ c. AllByRecursion (Telling same (take 2048 (events cues))) c) cues = subst (AllByRecursion (λ c. AllByRecursion (Telling same (take 2048 (events cues))) c)) own (parts_telling same law (take 2048 (events cues)) short (cues_at 0 (map length cues))) in
    let signs : cue_signs (held_with same cues cues) ≡ map (signs_of same (take 2048 (events cues))) cues = parts_signs same (take 2048 (events cues)) (cues_at 0 (map length cues)) ∙ ap (map (signs_of same (take 2048 (events cues)))) own in
    let looked = lookups_signs same law (held_with same cues cues) refl text in
    ap (λ cs. sign_runs cs [] (lookups same (held_with same cues cues) text)) signs ∙
    (ap (sign_runs (map (signs_of same (take 2048 (events cues))) cues) []) looked ∙ sign_runs_signs same (take 2048 (events cues)) cues [] text told)
