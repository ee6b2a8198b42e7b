-- What the code read is what the input says, and how long its text is.
use Rattle.std.proofs.Common.{◌≡◌, ℕ, ◌+◌, ◌≤◌, List, [], ◌∷◌, ◌++◌, map, length, Ok, Err, Result, sym, ap, ◌∙◌, arith}
use Rattle.std.proofs.lemmas.List.{length-map}
use Rattle.events.specs.declared.Refusal.{Refusal}
use Rattle.std.specs.Borrow.{Bor}
use Rattle.cue_lines.specs.Reading.{rest_of}
use Rattle.columns.specs.AsRuns.{Values, values_of}
use Rattle.columns.specs.Lines.{in_front, lines_of}
use Rattle.columns.specs.declared.asrun.AsRun.{AsRun}
use Rattle.script.specs.Report.{Contents}
use Rattle.airing_report.specs.Reading.{Step, more, next, parts, refused, Rest, contents_from, read_airings, step_of, grown, read_step, read_cues, logged, text_of, text_from}

-- there are no more lines than bytes, and no more events than lines
front_le : (b : ℕ) (ls : List (List ℕ)) → length (in_front b ls) ≤ length ls + 1
front_le b [] = omega arith
front_le b (l ∷ ls) = omega arith

lines_le : (xs : List ℕ) → length (lines_of xs) ≤ length xs
lines_le [] = omega arith
lines_le (b ∷ bs) = grind (arith, lines_le bs, front_le b (lines_of bs))

text_from_le : (r : Result Values Refusal) (ts : List Values) → length (text_from r ts) ≤ length ts + 1
text_from_le (Ok e) ts = omega arith
text_from_le (Err r) ts = omega arith

text_le : (ls : List (List ℕ)) → length (text_of ls) ≤ length ls
text_le [] = omega arith
text_le (l ∷ ls) = omega (arith, text_le ls, text_from_le (logged l) (text_of ls))

step_le : (s : Step) (cues cs : List (List Values)) (ls : List (List ℕ)) (q : List (List Values) × Rest) → length (contents_from cs q.1).text ≤ length ls →
    length (contents_from cs (read_step s cues ls q).1).text ≤ length ls
step_le (more e) cues cs ls q h = h
step_le (next e) cues cs ls q h = h
step_le parts cues cs ls q h = text_le ls
step_le (refused r) cues cs ls q h = omega arith

behind_le : (cues cs : List (List Values)) (ls : List (List ℕ)) → length (contents_from cs (read_cues cues ls).1).text ≤ length ls
behind_le cues cs [] = omega arith
behind_le cues cs (l ∷ ls) =
    let s = step_of (length cues) l in
    omega (arith, step_le s cues cs ls (read_cues (grown s cues) ls) (behind_le (grown s cues) cs ls))

-- what is read is what the input says
pub said_is : (xs : List ℕ) (begun : List (List AsRun)) (cues : List (List Values)) (behind is : Result (Bor (List ℕ)) Refusal) → begun ≡ [] → behind ≡ is →
    ◌≡◌ {A = List (List Values) × Rest} (cues, rest_of behind) (read_cues (map (map values_of) begun) (lines_of xs)) → contents_from cues (rest_of is) ≡ read_airings xs
unfolding read_airings
said_is xs begun cues behind is none same h =
    ap (λ b. contents_from cues (rest_of b)) (sym same) ∙ ap (λ p. contents_from p.0 p.1) (h ∙ ap (λ b. read_cues (map (map values_of) b) (lines_of xs)) none)

-- events behind none are all
pub first_text : (old now : List AsRun) (text : List Values) → old ≡ [] → map values_of now ≡ map values_of old ++ text → map values_of now ≡ text
first_text old now text none is = is ∙ ap (λ xs. map values_of xs ++ text) none

-- a text that is read is no longer than the input
pub said_short : (xs : List ℕ) (s : Contents Values) (text : List AsRun) → s ≡ read_airings xs → map values_of text ≡ s.text → length text ≤ length xs
unfolding read_airings
said_short xs s text is same =
    let long : length text ≡ length (read_airings xs).text = sym (length-map text values_of) ∙ (ap length same ∙ ap (λ t. length t.text) is) in
    omega (arith, behind_le [] (read_cues [] (lines_of xs)).0 (lines_of xs), lines_le xs)
