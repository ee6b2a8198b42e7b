-- What is written in an input is read of it.
use Rattle.std.proofs.Common.{◌≡◌, ℕ, suc, ◌+◌, ◌^◌, ◌<◌, ◌≤◌, List, [], ◌∷◌, ◌++◌, length, drop, Some, Ok, Err, Option, sym, refl, ap, ◌∙◌, arith}
use Rattle.std.proofs.lemmas.List.{append_assoc, append-nil, length_push}
use Rattle.std.proofs.lemmas.Bool.{cond-true, cond-false, eq-eqb, ne_eqb}
use Rattle.std.specs.List.{flat_map, AllByRecursion}
use Rattle.events.specs.declared.Refusal.{Refusal}
use Rattle.events.specs.declared.Refusal.TheVariants.{Misnumbered}
use Rattle.columns.proofs.Splits.{lines_split}
use Rattle.columns.proofs.Texts.{cue_lines, cue_written, log_lines}
use Rattle.columns.specs.Lines.{CueText, cue_numbers, cue_says, first_line, lines_of, read_line, said}
use Rattle.columns.specs.Written.{log_line}
use Rattle.columns.specs.declared.line.Section.TheVariants.{Cues}
use Rattle.script.specs.Report.{Contents}
use Rattle.airing_report.specs.Inputs.{CueEvent, LogEvent, Readable, Stops, none_left, unreadable, misnumbered, Ends, whole, cut_short, Reads, parted, unparted, cue_texts, log_text}
use Rattle.columns.specs.AsRuns.{Values}
use Rattle.airing_report.specs.Reading.{Step, more, next, parts, refused, Rest, lines_left, stopped, numbered, step_from, step_of, grown, read_step, read_cues, logged, logged_from, text_of, text_from, end_of, end_from, contents_from, read_airings}
use Rattle.airing_report.proofs.Growth.{SaidCue, line_of, behind_push}
use Rattle.airing_report.proofs.Said.{step_cue, step_parting, log_text_lem}
use Rattle.cue_lines.proofs.Steps.{read_line_lem}

-- One cue line.
read_one : (cues : List (List Values)) (m : ℕ) (e : Values) (rest : List ℕ) (s : Step) → m < cue_numbers → CueEvent e →
    numbered (length cues) (Some (m, e.1, e.2)) ≡ s → read_cues cues (lines_of (line_of m e ++ rest)) ≡ read_step s cues (lines_of rest) (read_cues (grown s cues) (lines_of rest))
read_one cues m e rest s room p is =
    let step : s ≡ step_of (length cues) (line_of m e) = sym is ∙ sym (step_cue (length cues) m e.1 e.2 (line_of m e) (room, p.1, p.2, refl)) in
    let small : e.2 < 2 ^ 64 = omega (arith, p.2) in
    read_line_lem cues (length cues) _ (lines_of rest) (line_of m e) s (cue_lines m e.1 e.2 rest (omega arith) p.1 small) refl step

is_more : (n m : ℕ) (e : Values) → CueEvent e → suc m ≡ n → numbered n (Some (m, e.1, e.2)) ≡ more e
is_more n m e p last = cond-true _ _ _ (eq-eqb (suc m) n last) ∙ ap (λ z. more (z, e.1, e.2)) (sym p.0)

is_next : (n : ℕ) (e : Values) → CueEvent e → numbered n (Some (n, e.1, e.2)) ≡ next e
is_next n e p =
    cond-false _ _ _ (ne_eqb (suc n) n (λ h. omega (arith, h)))
    ∙ (cond-true _ _ _ (eq-eqb n n refl) ∙ ap (λ z. next (z, e.1, e.2)) (sym p.0))

-- More lines of the last cue.
read_more : (before : List (List Values)) (c es : List Values) (rest : List ℕ) → length before < cue_numbers → AllByRecursion CueEvent es →
    read_cues (before ++ c ∷ []) (lines_of (flat_map (line_of (length before)) es ++ rest)) ≡ read_cues (before ++ (c ++ es) ∷ []) (lines_of rest)
read_more before c [] rest room h = ap (λ x. read_cues (before ++ x ∷ []) (lines_of rest)) (sym (append-nil c))
read_more before c (e ∷ es) rest room h =
    let n = length before in
    let later : List ℕ = flat_map (line_of n) es ++ rest in
    let number : suc n ≡ length (before ++ c ∷ []) = omega (arith, length_push before c) in
    ap (λ x. read_cues (before ++ c ∷ []) (lines_of x)) (append_assoc (line_of n e) (flat_map (line_of n) es) rest)
    ∙ (read_one (before ++ c ∷ []) n e later (more e) room h.0 (is_more _ n e h.0 number)
    ∙ (ap (λ x. read_cues x (lines_of later)) (behind_push before c e)
    ∙ (read_more before (c ++ e ∷ []) es rest room h.1
    ∙ ap (λ x. read_cues (before ++ x ∷ []) (lines_of rest)) (append_assoc c (e ∷ []) es))))

-- All lines of some cues, behind those before.
read_texts : (before cues : List (List Values)) (rest : List ℕ) → length before + length cues ≤ cue_numbers → AllByRecursion SaidCue cues →
    read_cues before (lines_of (cue_texts (length before) cues ++ rest)) ≡ read_cues (before ++ cues) (lines_of rest)
read_texts before [] rest few h = ap (λ x. read_cues x (lines_of rest)) (sym (append-nil before))
read_texts before ([] ∷ cues) rest few h = absurd (omega (arith, h.0.0))
read_texts before ((e ∷ es) ∷ cues) rest few h =
    let n = length before in
    let c : List Values = e ∷ es in
    let now : List (List Values) = before ++ c ∷ [] in
    let more-lines = flat_map (line_of n) es in
    let later : List ℕ = cue_texts (suc n) cues ++ rest in
    let p = h.0.1.0 in
    let count : length now ≡ suc n = omega (arith, length_push before c) in
    let room : n < cue_numbers = omega arith in
    let few' : length now + length cues ≤ cue_numbers = omega arith in
    let parts-of : cue_texts n (c ∷ cues) ++ rest ≡ line_of n e ++ (more-lines ++ later) =
    append_assoc (line_of n e ++ more-lines) (cue_texts (suc n) cues) rest ∙ append_assoc (line_of n e) more-lines later in
    ap (λ x. read_cues before (lines_of x)) parts-of
    ∙ (read_one before n e (more-lines ++ later) (next e) room p (is_next n e p)
    ∙ (read_more before (e ∷ []) es later room h.0.1.1
    ∙ (ap (λ k. read_cues now (lines_of (cue_texts k cues ++ rest))) (sym count)
    ∙ (read_texts now cues rest few' h.1
    ∙ ap (λ x. read_cues x (lines_of rest)) (append_assoc before (c ∷ []) cues)))))

read_all : (cues : List (List Values)) (rest : List ℕ) → Readable cues → read_cues [] (lines_of (cue_texts 0 cues ++ rest)) ≡ read_cues cues (lines_of rest)
read_all cues rest ok = read_texts [] cues rest (omega (arith, ok.few)) ok.each

-- What stands behind the cue lines.
read_parting : (cues : List (List Values)) (log : List ℕ) → ◌≡◌ {A = List (List Values) × Rest} (read_cues cues (lines_of (10 ∷ log))) (cues, lines_left (lines_of log))
read_parting cues log = read_line_lem cues (length cues) _ (lines_of log) (10 ∷ []) parts refl refl (sym (step_parting (length cues)))

text_some : (m k c : ℕ) (rest : List ℕ) → CueText m k c (first_line rest) → 0 < length rest
unfolding read_line
text_some m k c [] text = let e : said cue_says (read_line Cues []) ≡ Some (m, k, c) = (cue_written [] m k c).1 text in absurd (grind arith)
text_some m k c (b ∷ bs) text = omega arith

read_stops : (cues : List (List Values)) (rest : List ℕ) (r : Refusal) → Stops (length cues) rest r → ◌≡◌ {A = List (List Values) × Rest} (read_cues cues (lines_of rest)) (cues, stopped r)
read_stops cues rest r (none_left none is) = ap (λ x. read_cues cues (lines_of x)) none ∙ ap (λ x. (cues, stopped x)) (sym is)
read_stops cues rest r (unreadable some err) =
    read_line_lem cues (length cues) _ _ (first_line rest) (refused r) (lines_split rest some) refl (ap (step_from (length cues)) (sym err))
read_stops cues rest r (misnumbered m k c text last one is) =
    let n = length cues in
    let wrong : numbered n (Some (m, k, c)) ≡ refused Misnumbered = cond-false _ _ _ (ne_eqb (suc m) n last) ∙ cond-false _ _ _ (ne_eqb m n one) in
    let step : refused r ≡ step_of n (first_line rest) = ap refused is ∙ (sym wrong ∙ sym (step_cue n m k c (first_line rest) text)) in
    read_line_lem cues n _ _ (first_line rest) (refused r) (lines_split rest (text_some m k c rest text)) refl step

-- Log lines.
read_ends : (rest : List ℕ) (end : Option Refusal) → Ends rest end → (text_of (lines_of rest) ≡ []) × (end_of (lines_of rest) ≡ end)
read_ends rest end (whole none is) = (ap (λ x. text_of (lines_of x)) none, ap (λ x. end_of (lines_of x)) none ∙ sym is)
read_ends rest end (cut_short r some err is) =
    let bad : logged (first_line rest) ≡ Err r = ap logged_from err in
    let lines = lines_split rest some in
    let later = lines_of (drop (length (first_line rest)) rest) in
    (ap text_of lines ∙ ap (λ x. text_from x (text_of later)) bad, ap end_of lines ∙ (ap (λ x. end_from x (end_of later)) bad ∙ sym is))

read_logs : (text : List Values) (rest : List ℕ) (end : Option Refusal) → AllByRecursion LogEvent text → Ends rest end →
    (text_of (lines_of (log_text text ++ rest)) ≡ text) × (end_of (lines_of (log_text text ++ rest)) ≡ end)
read_logs [] rest end h ends = read_ends rest end ends
read_logs (e ∷ es) rest end h ends =
    let line = log_line e.0 e.1 e.2 in
    let later : List ℕ = log_text es ++ rest in
    let p = h.0 in
    let second : e.0 < 2 ^ 64 = omega (arith, p.0) in
    let cart : e.2 < 2 ^ 64 = omega (arith, p.2) in
    let lines : lines_of ((line ++ log_text es) ++ rest) ≡ line ∷ lines_of later = ap lines_of (append_assoc line (log_text es) rest) ∙ log_lines e.0 e.1 e.2 later second p.1 cart in
    let good : logged line ≡ Ok e = log_text_lem e line (p.0, p.1, p.2, refl) in
    let ih = read_logs es rest end h.1 ends in
    (ap text_of lines ∙ (ap (λ x. text_from x (text_of (lines_of later))) good ∙ ap (λ x. e ∷ x) ih.0), ap end_of lines ∙ (ap (λ x. end_from x (end_of (lines_of later))) good ∙ ih.1))

contents_same : (s t : Contents Values) → s.cues ≡ t.cues → s.stop ≡ t.stop → s.text ≡ t.text → s.end ≡ t.end → s ≡ t
contents_same s t a b c d = λ i. record { cues = a i; stop = b i; text = c i; end = d i }

said_once : (xs : List ℕ) (s : Contents Values) (r : Rest) → ◌≡◌ {A = List (List Values) × Rest} (read_cues [] (lines_of xs)) (s.cues, r) →
    s.stop ≡ (contents_from s.cues r).stop → s.text ≡ (contents_from s.cues r).text → s.end ≡ (contents_from s.cues r).end → s ≡ read_airings xs
unfolding read_airings
said_once xs s (lines_left ls) e stop text end = contents_same s _ refl stop text end ∙ ap (λ q. contents_from q.0 q.1) (sym e)
said_once xs s (stopped r) e stop text end = contents_same s _ refl stop text end ∙ ap (λ q. contents_from q.0 q.1) (sym e)

pub unique : (xs : List ℕ) (s : Contents Values) → Reads xs s → s ≡ read_airings xs
unique xs s (parted rest ok each is stop ends) =
    let log : List ℕ = log_text s.text ++ rest in
    let read = read_logs s.text rest s.end each ends in
    said_once xs s (lines_left (lines_of log))
    (ap (λ x. read_cues [] (lines_of x)) is ∙ (read_all s.cues (10 ∷ log) ok ∙ read_parting s.cues log))
    stop (sym read.0) (sym read.1)
unique xs s (unparted rest r ok is stops stop text end) =
    said_once xs s (stopped r)
    (ap (λ x. read_cues [] (lines_of x)) is ∙ (read_all s.cues rest ok ∙ read_stops s.cues rest r stops))
    stop text end
