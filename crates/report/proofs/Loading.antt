-- No book is refused by an engine that holds 1,024 signs.
use Rattle.std.proofs.Common.{◌≡◌, ℕ, zero, suc, ◌≤◌, true, List, [], ◌∷◌, length, None, vec_items, ◌∙◌, arith}
use Rattle.std.proofs.lemmas.Bool.{le-leb}
use Rattle.std.specs.List.{AllByRecursion}
use Rattle.book.proofs.Adding.{length_part, total_signs}
use Rattle.book.specs.Cues.{AllWithin, parts_of}
use Rattle.book.specs.Held.{book_held, cue_signs}
use Rattle.book.specs.declared.cue.Cue.{Cue}
use Rattle.book.specs.declared.draft.Book.{Book}
use Rattle.matching.proofs.Calls.{endings_few}
use Rattle.matching.specs.Calls.{total, loadable}
use Rattle.watch.proofs.Books.{book_within}
use Rattle.watch.specs.Refusals.{load_refused}

parts_short : (signs : List ℕ) (cues : List Cue) → AllWithin (length signs) cues → AllByRecursion (λ c. length c ≤ 32) (parts_of signs cues)
parts_short signs [] all = tt
parts_short signs (c ∷ cues) all =
    let own = all zero c (omega arith) in
    (omega (arith, length_part signs c own.2, own.1), parts_short signs cues (λ k d h. all (suc k) d (omega arith)))

granted : (room : ℕ) (cs : List (List ℕ)) → loadable room cs ≡ true → load_refused room cs ≡ None
granted room cs h = grind arith

pub always_loadable : {E : Type 0} (b : Book E) → loadable 1024 (cue_signs (book_held b)) ≡ true
always_loadable b =
    let w = book_within b in
    let t = total_signs (vec_items b.material.signs) (vec_items b.cues) w in
    endings_few 1024 (cue_signs (book_held b)) b.apart (parts_short (vec_items b.material.signs) (vec_items b.cues) w) ∙ le-leb (total (cue_signs (book_held b))) 1024 (omega (arith, t, b.bounded))

pub never_refused : {E : Type 0} (b : Book E) → load_refused 1024 (cue_signs (book_held b)) ≡ None
never_refused b = granted 1024 (cue_signs (book_held b)) (always_loadable b)
