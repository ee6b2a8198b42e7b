-- The lines of cues that grow, and the cues that such lines say.
use Rattle.std.proofs.Common.{◌≡◌, ℕ, suc, ◌+◌, ◌<◌, ◌≤◌, List, [], ◌∷◌, ◌++◌, length, sym, refl, ap, ◌∙◌, arith}
use Rattle.std.proofs.ByRecursion.{All-push}
use Rattle.std.proofs.lemmas.List.{append_assoc, append-nil, flat_map_more, length-append}
use Rattle.std.specs.List.{flat_map, AllByRecursion}
use Rattle.columns.specs.Lines.{cue_numbers}
use Rattle.columns.specs.Written.{cue_line}
use Rattle.script.specs.Listed.{behind_last}
use Rattle.airing_report.specs.Inputs.{CueEvent, Readable, cue_texts}
use Rattle.columns.specs.AsRuns.{Values}

abbrev pub line_of : ℕ → Values → List ℕ
line_of n e = cue_line n e.1 e.2

abbrev pub SaidCue : List Values → Type 0
SaidCue c = (1 ≤ length c) × AllByRecursion CueEvent c

-- one event more of the last cue, whose number is m
pub texts_behind : (n m : ℕ) (cues : List (List Values)) (e : Values) → 0 < length cues → n + length cues ≡ suc m → cue_texts n (behind_last cues e) ≡ cue_texts n cues ++ line_of m e
texts_behind n m [] e some h = absurd (omega arith)
texts_behind n m (c ∷ []) e some h =
    let is : m ≡ n = omega arith in
    append-nil (flat_map (line_of n) (c ++ e ∷ [])) ∙ (sym (flat_map_more (line_of n) [] c e) ∙ (ap (λ xs. xs ++ line_of n e) (sym (append-nil (flat_map (line_of n) c))) ∙ ap (λ k. (flat_map (line_of n) c ++ []) ++ line_of k e) (sym is)))
texts_behind n m (c ∷ (d ∷ cs)) e some h =
    ap (λ xs. flat_map (line_of n) c ++ xs) (texts_behind (suc n) m (d ∷ cs) e (omega arith) (omega arith))
    ∙ sym (append_assoc (flat_map (line_of n) c) (cue_texts (suc n) (d ∷ cs)) (line_of m e))

-- the first event of cue m
pub texts_begun : (n m : ℕ) (cues : List (List Values)) (e : Values) → n + length cues ≡ m → cue_texts n (cues ++ (e ∷ []) ∷ []) ≡ cue_texts n cues ++ line_of m e
texts_begun n m [] e h =
    let is : n ≡ m = omega arith in
    append-nil (line_of n e ++ []) ∙ (append-nil (line_of n e) ∙ ap (λ k. line_of k e) is)
texts_begun n m (c ∷ cs) e h =
    ap (λ xs. flat_map (line_of n) c ++ xs) (texts_begun (suc n) m cs e (omega arith)) ∙ sym (append_assoc (flat_map (line_of n) c) (cue_texts (suc n) cs) (line_of m e))

all_behind : (cues : List (List Values)) (e : Values) → AllByRecursion SaidCue cues → CueEvent e → AllByRecursion SaidCue (behind_last cues e)
all_behind [] e h p = ((omega arith, (p, tt)), tt)
all_behind (c ∷ []) e h p = ((omega (arith, length-append c (e ∷ [])), All-push CueEvent c e h.0.1 p), tt)
all_behind (c ∷ (d ∷ cs)) e h p = (h.0, all_behind (d ∷ cs) e h.1 p)

length_behind : (cues : List (List Values)) (e : Values) → 0 < length cues → length (behind_last cues e) ≡ length cues
length_behind [] e some = absurd (omega arith)
length_behind (c ∷ []) e some = refl
length_behind (c ∷ (d ∷ cs)) e some = ap suc (length_behind (d ∷ cs) e (omega arith))

pub readable_behind : (cues : List (List Values)) (e : Values) → 0 < length cues → Readable cues → CueEvent e → Readable (behind_last cues e)
readable_behind cues e some h p = record { each = all_behind cues e h.each p; few = omega (arith, length_behind cues e some, h.few) }

pub readable_begun : (cues : List (List Values)) (e : Values) → length cues < cue_numbers → Readable cues → CueEvent e → Readable (cues ++ (e ∷ []) ∷ [])
readable_begun cues e room h p =
    record { each = All-push SaidCue cues (e ∷ []) h.each (omega arith, (p, tt)); few = omega (arith, length-append cues ((e ∷ []) ∷ [])) }

-- a cue's last event, at the end of all
pub behind_push : (before : List (List Values)) (c : List Values) (e : Values) → behind_last (before ++ c ∷ []) e ≡ before ++ (c ++ e ∷ []) ∷ []
behind_push [] c e = refl
behind_push (b ∷ []) c e = refl
behind_push (b ∷ (d ∷ before)) c e = ap (λ xs. b ∷ xs) (behind_push (d ∷ before) c e)
