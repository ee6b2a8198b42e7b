-- Each input says exactly one thing.
use Rattle.std.proofs.Common.{◌≡◌, ℕ, true, false, eqb, List, [], ◌∷◌, ◌++◌, length, sym, refl, ap, ◌∙◌, append_assoc, arith}
use Rattle.std.proofs.ByRecursion.{All-push}
use Rattle.std.proofs.lemmas.List.{append-nil}
use Rattle.std.proofs.lemmas.Bool.{cond_both, eqb-true, eqb-false}
use Rattle.std.specs.List.{AllByRecursion}
use Rattle.script.specs.Report.{Contents}
use Rattle.note_report.specs.Inputs.{Unbroken, Sayable, note_lines, Reads, parted, unparted, ReadsOnce}
use Rattle.note_report.specs.Reading.{read_behind, read_notes, with_text, without_text}
use Rattle.note_report.proofs.Steps.{read_lines, read_open}

lines_push : (cues : List (List ℕ)) (c rest : List ℕ) → note_lines (cues ++ c ∷ []) ++ rest ≡ note_lines cues ++ (c ++ (10 ∷ rest))
lines_push [] c rest = append_assoc c (10 ∷ []) rest
lines_push (a ∷ cues) c rest = rw (append_assoc a (10 ∷ note_lines (cues ++ c ∷ [])) rest, append_assoc a (10 ∷ note_lines cues) (c ++ (10 ∷ rest))) (ap (λ ys. a ++ (10 ∷ ys)) (lines_push cues c rest))

-- byte 10 behind an open line: with no byte it is the parting line, else it ends a cue
text_parting : (cues : List (List ℕ)) (line bs : List ℕ) (b : ℕ) → length line ≡ 0 → b ≡ 10 → note_lines cues ++ (line ++ (b ∷ bs)) ≡ note_lines cues ++ (10 ∷ bs)
text_parting cues [] bs b z e = ap (λ a. note_lines cues ++ (a ∷ bs)) e
text_parting cues (a ∷ line) bs b z e = absurd (omega arith)

text_line : (cues : List (List ℕ)) (line bs : List ℕ) (b : ℕ) → b ≡ 10 → note_lines (cues ++ line ∷ []) ++ bs ≡ note_lines cues ++ (line ++ (b ∷ bs))
text_line cues line bs b e = lines_push cues line bs ∙ ap (λ a. note_lines cues ++ (line ++ (a ∷ bs))) (sym e)

-- what is read is what the input is the text of
reads_behind : (cues : List (List ℕ)) (line xs : List ℕ) → AllByRecursion Sayable cues → Unbroken line → Reads (note_lines cues ++ (line ++ xs)) (read_behind cues line xs)
reads_behind cues line [] says u = unparted line says u (ap (λ t. note_lines cues ++ t) (append-nil line)) refl refl refl
reads_behind cues line (b ∷ bs) says u =
    let P : Contents ℕ → Type 0 = Reads (note_lines cues ++ (line ++ (b ∷ bs))) in
    let parting : eqb b 10 ≡ true → eqb (length line) 0 ≡ true → P (with_text cues bs) = λ e z. parted says (text_parting cues line bs b (eqb-true _ _ z) (eqb-true b 10 e)) refl refl in
    let ended : eqb b 10 ≡ true → eqb (length line) 0 ≡ false → P (read_behind (cues ++ line ∷ []) [] bs) =
    λ e z. rw (← text_line cues line bs b (eqb-true b 10 e)) (reads_behind (cues ++ line ∷ []) [] bs (All-push Sayable cues line says (omega (arith, eqb-false _ _ z), u)) tt) in
    let more : eqb b 10 ≡ false → P (read_behind cues (line ++ b ∷ []) bs) =
    λ e. rw (← append_assoc line (b ∷ []) bs) (reads_behind cues (line ++ b ∷ []) bs says (All-push (λ a. (a ≡ 10) → ⊥) line b u (eqb-false b 10 e))) in
    cond_both (eqb b 10) _ _ P (λ e. cond_both (eqb (length line) 0) _ _ P (parting e) (ended e)) more

-- what the input is the text of is read
reads_only : (xs : List ℕ) (s : Contents ℕ) → Reads xs s → s ≡ read_notes xs
reads_only xs s (parted says e stop end) =
    let whole : s ≡ with_text s.cues s.text = λ i. record { cues = s.cues; stop = stop i; text = s.text; end = end i } in
    whole ∙ (sym (read_lines [] s.cues (10 ∷ s.text) says) ∙ ap read_notes (sym e))
reads_only xs s (unparted rest says u e stop text end) =
    let whole : s ≡ without_text s.cues = λ i. record { cues = s.cues; stop = stop i; text = text i; end = end i } in
    whole ∙ (sym (read_open s.cues [] rest u) ∙ (sym (read_lines [] s.cues rest says) ∙ ap read_notes (sym e)))

pub reads_once : (xs : List ℕ) → ReadsOnce xs
reads_once xs = (reads_behind [] [] xs tt tt, reads_only xs)
