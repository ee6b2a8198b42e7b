-- The shortest cue, and the wait.
use Rattle.std.proofs.Common.{◌≡◌, ℕ, zero, suc, ◌-◌, min, max, List, [], ◌∷◌, map, length, Some, Option, sym, refl, ap, ◌∙◌, arith}
use Rattle.std.specs.List.{fold, reduce}
use Rattle.std.specs.Option.{option_map}
use Rattle.book.proofs.Adding.{length_part}
use Rattle.book.specs.Cues.{AllWithin, part_of, parts_of}
use Rattle.book.specs.Held.{book_held, cue_signs}
use Rattle.book.specs.declared.cue.Cue.{Cue}
use Rattle.book.specs.declared.draft.Book.{Book}
use Rattle.matching.specs.Calls.{Account, stands}
use Rattle.matching.specs.Match.{live, shortest, standing, wait}
use Rattle.matching.proofs.Endings.{wait_right}
use Rattle.watch.specs.After.{NoneEarlier}
use Rattle.watch.proofs.Books.{book_within}

shortest_fold : (signs : List ℕ) (cues : List Cue) → AllWithin (length signs) cues → (m : ℕ) → fold min m (map (λ c. c.len) cues) ≡ shortest m (parts_of signs cues)
shortest_fold signs [] all m = refl
shortest_fold signs (c ∷ cues) all m =
    ap (λ n. fold min (min m n) (map (λ c. c.len) cues)) (sym (length_part signs c (all zero c (omega arith)).2)) ∙
    shortest_fold signs cues (λ k d h. all (suc k) d (omega arith)) (min m (length (part_of signs c)))

wait_fold : (signs : List ℕ) (cues : List Cue) → AllWithin (length signs) cues → (k : ℕ) → option_map (λ n. max 1 (n - k)) (reduce min (map (λ c. c.len) cues)) ≡ wait (parts_of signs cues) k
wait_fold signs [] all k = refl
wait_fold signs (c ∷ cues) all k =
    ap (λ m. Some (max 1 (m - k)))
    (shortest_fold signs cues (λ i d h. all (suc i) d (omega arith)) c.len ∙ ap (λ m. shortest m (parts_of signs cues)) (sym (length_part signs c (all zero c (omega arith)).2)))

-- The wait of a book's cues, by the least of their lengths.
pub wait_least : {E : Type 0} (b : Book E) (k : ℕ) (least : Option ℕ) → least ≡ reduce min (map (λ c. c.len) (book_held b).cues) → option_map (λ n. max 1 (n - k)) least ≡ wait (cue_signs (book_held b)) k
wait_least b k least is = ap (option_map (λ n. max 1 (n - k))) is ∙ wait_fold (book_held b).signs (book_held b).cues (book_within b) k

standing_length : (cues : List (List ℕ)) (b : List ℕ) → (standing cues b).1 ≡ length b
standing_length cues [] = refl
standing_length cues (x ∷ b) = refl

pub none_earlier_right : (a : Account) (cues : List (List ℕ)) (r : Option ℕ) → a.cues ≡ cues → r ≡ wait cues (stands a).1 → NoneEarlier a r
none_earlier_right a cues r same is w some =
    wait_right a.cues a.text w
    (ap (wait a.cues) (sym (standing_length a.cues (live a.cues a.text))) ∙ (ap (λ cs. wait cs (stands a).1) same ∙ (sym is ∙ some)))
