-- What is read, line by line.
use Rattle.std.proofs.Common.{◌≡◌, ℕ, ◌<◌, List, [], ◌∷◌, ◌++◌, length, refl, ap, ◌∙◌, append_assoc, arith}
use Rattle.std.proofs.lemmas.List.{append-nil, length-append}
use Rattle.std.proofs.lemmas.Bool.{ne_eqb}
use Rattle.std.specs.List.{AllByRecursion}
use Rattle.note_report.specs.Inputs.{Unbroken, Sayable, note_lines}
use Rattle.note_report.specs.Reading.{read_behind, with_text, without_text}

-- an open line and no byte 10
pub read_open : (cues : List (List ℕ)) (line xs : List ℕ) → Unbroken xs → read_behind cues line xs ≡ without_text cues
read_open cues line [] u = refl
read_open cues line (b ∷ bs) u = rw (ne_eqb b 10 u.0) (read_open cues (line ++ b ∷ []) bs u.1)

-- an open line up to its byte 10
pub read_ended : (cues : List (List ℕ)) (line t rest : List ℕ) → 0 < length (line ++ t) → Unbroken t →
    read_behind cues line (t ++ (10 ∷ rest)) ≡ read_behind (cues ++ (line ++ t) ∷ []) [] rest
read_ended cues line [] rest some u = let n = append-nil line in grind (arith, n)
read_ended cues line (b ∷ bs) rest some u = let a = append_assoc line (b ∷ []) bs in rw (ne_eqb b 10 u.0, ← a) (read_ended cues (line ++ b ∷ []) bs rest (rw a some) u.1)

-- a line without a byte, and a line with some
pub read_parting : (cues : List (List ℕ)) (t behind rest : List ℕ) → rest ≡ t ++ (10 ∷ behind) → length t ≡ 0 → read_behind cues [] rest ≡ with_text cues behind
read_parting cues [] behind rest e z = ap (read_behind cues []) e
read_parting cues (b ∷ bs) behind rest e z = absurd (omega arith)

pub read_line_lem : (cues : List (List ℕ)) (t behind rest : List ℕ) → rest ≡ t ++ (10 ∷ behind) → Sayable t → read_behind cues [] rest ≡ read_behind (cues ++ t ∷ []) [] behind
read_line_lem cues t behind rest e says = ap (read_behind cues []) e ∙ read_ended cues [] t behind says.0 says.1

pub shorter : (t behind rest : List ℕ) → rest ≡ t ++ (10 ∷ behind) → length behind < length rest
shorter t behind rest e = omega (arith, ap length e, length-append t (10 ∷ behind))

-- the lines of some cues
pub read_lines : (before cues : List (List ℕ)) (rest : List ℕ) → AllByRecursion Sayable cues → read_behind before [] (note_lines cues ++ rest) ≡ read_behind (before ++ cues) [] rest
read_lines before [] rest says = rw append-nil
read_lines before (c ∷ cues) rest says =
    rw (append_assoc c (10 ∷ note_lines cues) rest, ← append_assoc before (c ∷ []) cues) (read_line_lem before c (note_lines cues ++ rest) _ refl says.0 ∙ read_lines (before ++ c ∷ []) cues rest says.1)
