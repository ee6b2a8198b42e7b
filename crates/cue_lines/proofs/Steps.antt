-- Reading one cue line more, as the code does.
use Rattle.std.proofs.Common.{◌≡◌, ℕ, List, [], ◌∷◌, map, length, sym, refl, ap, ◌∙◌}
use Rattle.std.proofs.lemmas.List.{length-map, map-append}
use Rattle.columns.specs.AsRuns.{Values, values_of}
use Rattle.columns.specs.declared.asrun.AsRun.{AsRun}
use Rattle.script.specs.Listed.{behind_last}
use Rattle.cue_lines.specs.Reading.{Step, more, step_of, grown, read_step, read_cues}

-- one line in front of the parting line
pub read_line_lem : (cues : List (List Values)) (n : ℕ) (ls after : List (List ℕ)) (line : List ℕ) (s : Step) →
    ls ≡ line ∷ after → n ≡ length cues → s ≡ step_of n line → read_cues cues ls ≡ read_step s cues after (read_cues (grown s cues) after)
read_line_lem cues n ls after line s split count step =
    let is : step_of (length cues) line ≡ s = ap (λ m. step_of m line) (sym count) ∙ sym step in
    ap (read_cues cues) split ∙ ap (λ x. read_step x cues after (read_cues (grown x cues) after)) is

-- the cues with one event more of the last one, told by other values
map_behind : {E F : Type 0} (f : E → F) (cues : List (List E)) (e : E) → map (map f) (behind_last cues e) ≡ behind_last (map (map f) cues) (f e)
map_behind f [] e = refl
map_behind f (c ∷ []) e = ap (λ d. d ∷ []) (map-append f c (e ∷ []))
map_behind f (c ∷ (d ∷ cs)) e = ap (λ ds. map f c ∷ ds) (map_behind f (d ∷ cs) e)

-- one line with an event of the last cue, behind the cues that the code holds
pub read_more : (cues now : List (List AsRun)) (n : ℕ) (ls after : List (List ℕ)) (line : List ℕ) (e : AsRun) →
    ls ≡ line ∷ after → n ≡ length cues → more (values_of e) ≡ step_of n line → now ≡ behind_last cues e → read_cues (map (map values_of) now) after ≡ read_cues (map (map values_of) cues) ls
read_more cues now n ls after line e split count step grew =
    ap (λ x. read_cues x after) (ap (map (map values_of)) grew ∙ map_behind values_of cues e) ∙
    sym (read_line_lem (map (map values_of) cues) n ls after line (more (values_of e)) split (count ∙ sym (length-map cues (map values_of))) step)
