-- Cues by their lengths, listed one by one.
use Rattle.std.proofs.Common.{◌≡◌, ℕ, suc, ◌+◌, ◌-◌, ◌<◌, Bool, cond, ltb, List, [], ◌∷◌, ◌++◌, map, length, get_or, take, Some, Ok, Err, Option, Result, MatchResult, sym, refl, ap, ◌∙◌, arith}
use Rattle.std.proofs.lemmas.List.{length-map, map-append, take-map}
use Rattle.std.proofs.lemmas.Bool.{lt-ltb}
use Rattle.std.specs.List.{flat_map}
use Rattle.std.specs.Result.{result_and, result_err}
use Rattle.book.specs.Cues.{cue_at}
use Rattle.book.specs.Held.{Held, add_refused, begun, with_cue}
use Rattle.columns.specs.AsRuns.{Values, same_as_run, same_values, values_of}
use Rattle.columns.specs.Written.{refusal_line, total_line}
use Rattle.columns.specs.declared.asrun.AsRun.{AsRun}
use Rattle.events.specs.Refused.{number_of}
use Rattle.events.specs.declared.Refusal.{Refusal}
use Rattle.script.proofs.Tiling.{length_events}
use Rattle.script.specs.Booking.{cues_at, size}
use Rattle.script.specs.Report.{refused_or}
use Rattle.sheet.proofs.Starts.{cues_more}
use Rattle.sheet.proofs.Values.{listing_map}
use Rattle.sheet.specs.Report.{cue_line, last_line, listing, sheet_listing}
use Rattle.sheet.specs.Rows.{cues_from, sheet_of, starts_from}

-- A cue is refused.
pub listed_refused : {E : Type 0} (same : E → E → Bool) (h : Held E) (out : List ℕ) (place n : ℕ) (ls ns : List ℕ) (lines : ℕ) (stop : Option Refusal) (r : Refusal) →
    ls ≡ n ∷ ns → add_refused same h place n ≡ Some r → out ++ refusal_line (number_of r) (place + n) ≡ out ++ listing same h (cues_at place ls) lines stop
listed_refused same h out place n ls ns lines stop r split some =
    sym (ap (λ xs. out ++ listing same h (cues_at place xs) lines stop) split ∙
    ap (λ o. out ++ cue_line o (cue_at place n) (length h.cues) (listing same (with_cue h (cue_at place n)) (cues_at (place + n) ns) lines stop)) some)

-- The first cue ends where the next one begins, or with the events.
first_length : (p n : ℕ) (c : List Values) (cues : List (List Values)) → n ≡ p + (length c + size cues) →
    cond (ltb 1 (length (starts_from p (c ∷ cues)))) (get_or (starts_from p (c ∷ cues)) 1 0) n - p ≡ length c
first_length p n c [] e = omega arith
first_length p n c (d ∷ cues) e =
    let more : 1 < suc (suc (length (starts_from (p + length c + length d) cues))) = omega arith in
    let l : (p + length c) - p ≡ length c = omega arith in
    ap (λ b. cond b (p + length c) n - p) (lt-ltb _ _ more) ∙ l

-- Cues that begin one behind the other are those of their lengths.
cues_tile : (p n : ℕ) (cues : List (List Values)) → n ≡ p + size cues → cues_from (starts_from p cues) n ≡ cues_at p (map length cues)
cues_tile p n [] e = refl
cues_tile p n (c ∷ cues) e =
    let some : 0 < suc (length (starts_from (p + length c) cues)) = omega arith in
    let l = first_length p n c cues e in
    cues_more (starts_from p (c ∷ cues)) n 0 some ∙
    (ap (λ k. cue_at p k ∷ cues_from (starts_from (p + length c) cues) n) l ∙ ap (λ xs. cue_at p (length c) ∷ xs) (cues_tile (p + length c) n cues (omega arith)))

events_map : {E F : Type 0} (f : E → F) (cues : List (List E)) → flat_map (λ c. c) (map (map f) cues) ≡ map f (flat_map (λ c. c) cues)
events_map f [] = refl
events_map f (c ∷ cues) = ap (λ xs. map f c ++ xs) (events_map f cues) ∙ sym (map-append f c (flat_map (λ x. x) cues))

lengths_map : {E F : Type 0} (f : E → F) (cues : List (List E)) → map length (map (map f) cues) ≡ map length cues
lengths_map f [] = refl
lengths_map f (c ∷ cues) = let h = length-map c f in let t = lengths_map f cues in cc

-- The listing of cues by the events that the code holds is that of the sheet.
by_values : {A : Type 0} (cues : List (List AsRun)) (end : Result A Refusal) (h : Held AsRun) (lens : List ℕ) (lines : ℕ) →
    h ≡ begun same_as_run (flat_map (λ c. c) cues) → lens ≡ map length cues → lines ≡ length (flat_map (λ c. c) cues) →
    listing same_as_run h (cues_at 0 lens) lines (result_err end) ≡ sheet_listing (sheet_of (map (map values_of) cues) end)
by_values cues end h lens lines held long all =
    let e = events_map values_of cues in
    let n : length (flat_map (λ c. c) (map (map values_of) cues)) ≡ length (flat_map (λ c. c) cues) = ap length e ∙ length-map (flat_map (λ c. c) cues) values_of in
    let material : take 2048 (flat_map (λ c. c) (map (map values_of) cues)) ≡ map values_of (take 2048 (flat_map (λ c. c) cues)) = ap (take 2048) e ∙ take-map values_of 2048 (flat_map (λ c. c) cues) in
    let tiles = cues_tile 0 (length (flat_map (λ c. c) (map (map values_of) cues))) (map (map values_of) cues) (omega (arith, length_events (map (map values_of) cues))) in
    let m = listing_map same_as_run same_values values_of (λ x y. refl) (begun same_as_run (flat_map (λ c. c) cues)) (begun same_values (flat_map (λ c. c) (map (map values_of) cues))) material refl (cues_at 0 (map length cues)) (length (flat_map (λ c. c) cues)) (result_err end) in
    let l = lengths_map values_of cues in
    cc

-- The last line, where all cues were added; else the refusal.
last_is : {A E : Type 0} (added both : Result A (Refusal × ℕ)) (end : Result A Refusal) (end' : Result A (Refusal × ℕ)) (h : Held E) (lines : ℕ) →
    MatchResult end (λ x. end' ≡ Ok x) (λ e. end' ≡ Err (e, lines + 1)) → both ≡ result_and added end' →
    refused_or (result_err both) (total_line (length h.material) (length h.cues)) ≡ refused_or (result_err added) (last_line h lines (result_err end))
last_is (Err q) both end end' h lines told is = ap (λ r. refused_or (result_err r) (total_line (length h.material) (length h.cues))) is
last_is (Ok x) both (Ok y) end' h lines told is = ap (λ r. refused_or (result_err r) (total_line (length h.material) (length h.cues))) (is ∙ told)
last_is (Ok x) both (Err e) end' h lines told is = ap (λ r. refused_or (result_err r) (total_line (length h.material) (length h.cues))) (is ∙ told)

-- All that is written, by what adding the cues wrote and answered.
pub all_is : {A : Type 0} (cues : List (List AsRun)) (lens : List ℕ) (lines : ℕ) (begun' after : Held AsRun) (out wrote all : List ℕ) (added both : Result A (Refusal × ℕ)) (end : Result A Refusal) (end' : Result A (Refusal × ℕ)) →
    begun' ≡ begun same_as_run (flat_map (λ c. c) cues) → lens ≡ map length cues → lines ≡ length (flat_map (λ c. c) cues) → out ≡ [] →
    ((k : ℕ) (stop : Option Refusal) → wrote ++ refused_or (result_err added) (last_line after k stop) ≡ out ++ listing same_as_run begun' (cues_at 0 lens) k stop) →
    MatchResult end (λ x. end' ≡ Ok x) (λ e. end' ≡ Err (e, lines + 1)) → both ≡ result_and added end' →
    all ≡ wrote ++ refused_or (result_err both) (total_line (length after.material) (length after.cues)) → all ≡ sheet_listing (sheet_of (map (map values_of) cues) end)
all_is cues lens lines begun' after out wrote all added both end end' held long count none listed told is last =
    last ∙ (ap (λ xs. wrote ++ xs) (last_is added both end end' after lines told is) ∙
    (listed lines (result_err end) ∙ (ap (λ xs. xs ++ listing same_as_run begun' (cues_at 0 lens) lines (result_err end)) none ∙ by_values cues end begun' lens lines held long count)))
