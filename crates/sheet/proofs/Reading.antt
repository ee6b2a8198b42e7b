-- The cues that are read of cue lines are those of the sheet.
use Rattle.std.proofs.Common.{◌≡◌, ℕ, suc, ◌+◌, ◌<◌, Bool, true, false, cond, eqb, ltb, List, [], ◌∷◌, ◌++◌, map, length, Some, None, Ok, Err, Option, Result, sym, refl, ap, ◌∙◌, append_assoc, append-nil, arith}
use Rattle.std.proofs.lemmas.Bool.{cond_both, cond-false, eqb-true}
use Rattle.std.proofs.lemmas.Grind.{flat_map-append}
use Rattle.std.specs.Borrow.{Bor}
use Rattle.std.specs.List.{flat_map}
use Rattle.std.specs.Result.{result_and}
use Rattle.columns.specs.AsRuns.{Values, values_of}
use Rattle.columns.specs.declared.asrun.AsRun.{AsRun}
use Rattle.columns.specs.Fields.{number_below}
use Rattle.columns.specs.Lines.{Fields, cue, log, parting, carts, cue_numbers, cue_says, event_from, kind_field, lines_of, read_line}
use Rattle.columns.specs.declared.line.Section.TheVariants.{Cues}
use Rattle.cue_lines.specs.Reading.{Step, more, next, parts, refused, Rest, lines_left, stopped, grown, numbered as numbered_step, read_cues, read_step, rest_of, step_from, step_of}
use Rattle.events.specs.declared.Refusal.{Refusal}
use Rattle.script.proofs.Tiling.{length_events}
use Rattle.script.specs.Booking.{size}
use Rattle.script.specs.Listed.{behind_last}
use Rattle.sheet.specs.Report.{sheet_listing, sheet_report}
use Rattle.sheet.specs.Rows.{Sheet, events_after, goes_on, kind_from, kind_of, numbered, read_sheet, sheet_of, starts_after, starts_from, stop_of}

-- What a line is.
one_number : (n m : ℕ) (k : ℕ) (c : ℕ) (b : Bool) → numbered n (Some m) (cond b (Some (0, k, c)) None) ≡ numbered_step n (cond b (Some (m, k, c)) None)
one_number n m k c true = refl
one_number n m k c false = refl

numbers_same : (n : ℕ) (o : Option ℕ) (kind : List ℕ) (p : Option ℕ) → numbered n o (event_from (Some 0) kind p) ≡ numbered_step n (event_from o kind p)
numbers_same n None kind p = refl
numbers_same n (Some m) kind None = refl
numbers_same n (Some m) kind (Some c) = one_number n m _ c (kind_field kind)

kind_same : (n : ℕ) (r : Result Fields Refusal) → kind_from n r ≡ step_from n r
kind_same n (Ok (cue number kind cart)) = numbers_same n (number_below cue_numbers number) kind (number_below carts cart)
kind_same n (Ok (log s k c)) = refl
kind_same n (Ok parting) = refl
kind_same n (Err r) = refl

-- A line with one event more of the last cue stands behind some cue.
abbrev Behind : ℕ → Step → Type 0
Behind n (more e) = 0 < n
Behind n (next e) = Unit {0}
Behind n parts = Unit {0}
Behind n (refused r) = Unit {0}

numbered_behind : (n : ℕ) (o : Option Values) → Behind n (numbered_step n o)
numbered_behind n None = tt
numbered_behind n (Some q) =
    cond_both (eqb (suc q.0) n) _ _ (Behind n) (λ y. let is = eqb-true (suc q.0) n y in omega arith)
    (λ _. cond_both (eqb q.0 n) _ _ (Behind n) (λ _. tt) (λ _. tt))

line_behind : (n : ℕ) (r : Result Fields Refusal) → Behind n (step_from n r)
line_behind n (Ok (cue number kind cart)) = numbered_behind n (cue_says (cue number kind cart))
line_behind n (Ok (log s k c)) = tt
line_behind n (Ok parting) = tt
line_behind n (Err r) = tt

-- The events and starts of cues that grow.
events_behind : (cues : List (List Values)) (e : Values) → 0 < length cues → flat_map (λ c. c) (behind_last cues e) ≡ flat_map (λ c. c) cues ++ e ∷ []
events_behind [] e some = absurd (omega arith)
events_behind (c ∷ []) e some = append-nil (c ++ e ∷ []) ∙ ap (λ xs. xs ++ e ∷ []) (sym (append-nil c))
events_behind (c ∷ (d ∷ cs)) e some = ap (λ xs. c ++ xs) (events_behind (d ∷ cs) e (omega arith)) ∙ sym (append_assoc c (flat_map (λ x. x) (d ∷ cs)) (e ∷ []))

starts_behind : (p : ℕ) (cues : List (List Values)) (e : Values) → 0 < length cues → starts_from p (behind_last cues e) ≡ starts_from p cues
starts_behind p [] e some = absurd (omega arith)
starts_behind p (c ∷ []) e some = refl
starts_behind p (c ∷ (d ∷ cs)) e some = ap (λ xs. p ∷ xs) (starts_behind (p + length c) (d ∷ cs) e (omega arith))

events_begun : (cues : List (List Values)) (e : Values) → flat_map (λ c. c) (cues ++ (e ∷ []) ∷ []) ≡ flat_map (λ c. c) cues ++ e ∷ []
events_begun cues e = flat_map-append (λ c. c) cues ((e ∷ []) ∷ [])

starts_begun : (p : ℕ) (cues : List (List Values)) (c : List Values) → starts_from p (cues ++ c ∷ []) ≡ starts_from p cues ++ (p + size cues) ∷ []
starts_begun p [] c = let z : p ≡ p + 0 = omega arith in ap (λ k. k ∷ []) z
starts_begun p (d ∷ cues) c =
    let z : p + length d + size cues ≡ p + (length d + size cues) = omega arith in
    ap (λ xs. p ∷ xs) (starts_begun (p + length d) cues c ∙ ap (λ k. starts_from (p + length d) cues ++ k ∷ []) z)

length_starts : (p : ℕ) (cues : List (List Values)) → length (starts_from p cues) ≡ length cues
length_starts p [] = refl
length_starts p (c ∷ cues) = ap suc (length_starts (p + length c) cues)

-- What is read, as a sheet.
abbrev told : List (List Values) → Rest → Sheet
told cues (lines_left ls) = record { events = flat_map (λ c. c) cues; starts = starts_from 0 cues; stop = None }
told cues (stopped r) = record { events = flat_map (λ c. c) cues; starts = starts_from 0 cues; stop = Some r }

-- A line behind events and starts.
abbrev stepped : Step → List Values → List ℕ → List (List ℕ) → Sheet
stepped s events starts ls =
    cond (goes_on s) (read_sheet (events_after s events) (starts_after s events starts) ls) (record { events = events; starts = starts; stop = stop_of s })

step_told : (s : Step) (cues : List (List Values)) (ls : List (List ℕ)) → Behind (length cues) s →
    read_sheet (flat_map (λ c. c) (grown s cues)) (starts_from 0 (grown s cues)) ls ≡ told (read_cues (grown s cues) ls).0 (read_cues (grown s cues) ls).1 →
    stepped s (flat_map (λ c. c) cues) (starts_from 0 cues) ls ≡ told (read_step s cues ls (read_cues (grown s cues) ls)).0 (read_step s cues ls (read_cues (grown s cues) ls)).1
step_told (more e) cues ls some h =
    ap (λ xs. read_sheet xs (starts_from 0 cues) ls) (sym (events_behind cues e some)) ∙
    (ap (λ xs. read_sheet (flat_map (λ c. c) (behind_last cues e)) xs ls) (sym (starts_behind 0 cues e some)) ∙ h)
step_told (next e) cues ls some h =
    let n : length (flat_map (λ c. c) cues) ≡ 0 + size cues = omega (arith, length_events cues) in
    let starts : starts_from 0 cues ++ length (flat_map (λ c. c) cues) ∷ [] ≡ starts_from 0 (cues ++ (e ∷ []) ∷ []) = ap (λ k. starts_from 0 cues ++ k ∷ []) n ∙ sym (starts_begun 0 cues (e ∷ [])) in
    ap (λ xs. read_sheet xs (starts_from 0 cues ++ length (flat_map (λ c. c) cues) ∷ []) ls) (sym (events_begun cues e)) ∙
    (ap (λ xs. read_sheet (flat_map (λ c. c) (cues ++ (e ∷ []) ∷ [])) xs ls) starts ∙ h)
step_told parts cues ls some h = refl
step_told (refused r) cues ls some h = refl

read_told : (cues : List (List Values)) (ls : List (List ℕ)) → read_sheet (flat_map (λ c. c) cues) (starts_from 0 cues) ls ≡ told (read_cues cues ls).0 (read_cues cues ls).1
read_told cues [] = refl
read_told cues (l ∷ ls) =
    let s = step_of (length cues) l in
    let is : kind_of (length (starts_from 0 cues)) l ≡ step_of (length cues) l = ap (λ n. kind_of n l) (length_starts 0 cues) ∙ kind_same (length cues) (read_line Cues l) in
    ap (λ k. stepped k (flat_map (λ c. c) cues) (starts_from 0 cues) ls) is ∙
    step_told s cues ls (line_behind (length cues) (read_line Cues l)) (read_told (grown s cues) ls)

as_told : {A : Type 0} (cues : List (List Values)) (behind : Result (Bor (List ℕ)) Refusal) (x : A) → sheet_of cues (result_and behind (Ok x)) ≡ told cues (rest_of behind)
as_told cues (Ok bytes) x = refl
as_told cues (Err r) x = refl

-- What is listed of the cues that are read is what is written for the input.
pub report_is : {A : Type 0} (xs : List ℕ) (begun : List (List AsRun)) (cues : List (List Values)) (behind : Result (Bor (List ℕ)) Refusal) (x : A) (end : Result A Refusal) →
    begun ≡ [] → ◌≡◌ {A = List (List Values) × Rest} (cues, rest_of behind) (read_cues (map (map values_of) begun) (lines_of xs)) → end ≡ result_and behind (Ok x) →
    ltb 32768 (length xs) ≡ false → sheet_listing (sheet_of cues end) ≡ sheet_report xs
report_is xs begun cues behind x end none read is short =
    ap (λ e. sheet_listing (sheet_of cues e)) is ∙
    (ap sheet_listing (as_told cues behind x ∙
    (ap (λ q. told q.0 q.1) (read ∙ ap (λ b. read_cues (map (map values_of) b) (lines_of xs)) none) ∙ sym (read_told [] (lines_of xs)))) ∙
    sym (cond-false (ltb 32768 (length xs)) _ _ short))
