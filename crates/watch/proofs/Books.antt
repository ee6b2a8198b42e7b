-- What the type of a book says of its cues as lists of signs.
use Rattle.std.proofs.Common.{◌≡◌, ℕ, zero, suc, ◌<◌, ◌≤◌, true, not, List, [], ◌∷◌, length, get_or, vec_items, sym, refl, ap, ◌∙◌, subst, arith}
use Rattle.std.proofs.ByRecursion.{All-drop, All-from_get_or, All-take}
use Rattle.std.proofs.lemmas.List.{length-map}
use Rattle.std.specs.List.{AllByRecursion}
use Rattle.book.proofs.Adding.{length_part}
use Rattle.book.specs.Cues.{AllWithin, part_of, parts_of}
use Rattle.book.specs.Held.{book_held, cue_signs}
use Rattle.book.specs.declared.cue.Cue.{Cue}
use Rattle.book.specs.declared.draft.Book.{Book}
use Rattle.matching.specs.Match.{Signs, filled, same}
use Rattle.watch.specs.After.{BookCues}

not_empty : (c : List ℕ) → 1 ≤ length c → not (same c []) ≡ true
not_empty [] h = absurd (omega arith)
not_empty (x ∷ c) h = refl

parts_filled : (signs : List ℕ) (cues : List Cue) → AllWithin (length signs) cues → filled (parts_of signs cues) ≡ true
parts_filled signs [] all = refl
parts_filled signs (c ∷ cues) all =
    let own = all zero c (omega arith) in
    let some = not_empty (part_of signs c) (omega (arith, length_part signs c own.2, own.0)) in
    grind (arith, some, parts_filled signs cues (λ k d h. all (suc k) d (omega arith)))

signs_fit : (signs : List ℕ) → ((k : ℕ) → get_or signs k 0 ≤ 2048) → Signs signs
signs_fit signs small = All-from_get_or (λ x. x < 65536) signs 0 (λ i h. omega (arith, small i))

parts_signs : (signs : List ℕ) → Signs signs → (cues : List Cue) → AllByRecursion Signs (parts_of signs cues)
parts_signs signs fit [] = tt
parts_signs signs fit (c ∷ cues) = (All-take _ c.len _ (All-drop _ c.place _ fit), parts_signs signs fit cues)

pub book_within : {E : Type 0} (b : Book E) → AllWithin (length (vec_items b.material.signs)) (vec_items b.cues)
book_within b = subst (λ k. AllWithin k (vec_items b.cues)) (sym b.material.signed ∙ b.material.signs.ok.0) b.within

pub book_cues_of : {E : Type 0} (b : Book E) → BookCues (cue_signs (book_held b))
book_cues_of b =
    record {
      some_signs = parts_filled (vec_items b.material.signs) (vec_items b.cues) (book_within b);
      apart = b.apart;
      signs = parts_signs (vec_items b.material.signs) (signs_fit (vec_items b.material.signs) b.material.small) (vec_items b.cues);
    }

-- There are as many lists of signs as cues.
pub cues_long : {E : Type 0} (b : Book E) (cues : List Cue) → cues ≡ vec_items b.cues → length (cue_signs (book_held b)) ≡ length cues
cues_long b cues e = length-map (vec_items b.cues) (part_of (vec_items b.material.signs)) ∙ ap length (sym e)
