-- What is read of an input is written in it.
use Rattle.std.proofs.Common.{◌≡◌, ℕ, suc, ◌<◌, List, [], ◌∷◌, ◌++◌, length, drop, Ok, Err, Option, Result, sym, refl, ap, ◌∙◌, subst, ⊎_elim, arith}
use Rattle.std.proofs.lemmas.List.{append_assoc}
use Rattle.std.specs.List.{AllByRecursion}
use Rattle.events.specs.declared.Refusal.{Refusal}
use Rattle.columns.proofs.Splits.{lines_split, first_rest}
use Rattle.columns.specs.Lines.{CueText, first_line, lines_of, read_line}
use Rattle.columns.specs.Written.{log_line}
use Rattle.columns.specs.declared.line.Section.TheVariants.{Cues, Log as LogSection}
use Rattle.airing_report.specs.Inputs.{LogEvent, Readable, Stops, none_left, unreadable, misnumbered, Ends, whole, cut_short, Reads, parted, unparted, cue_texts, log_text}
use Rattle.columns.specs.AsRuns.{Values}
use Rattle.airing_report.specs.Reading.{Step, more, next, parts, refused, Rest, lines_left, stopped, grown, step_of, read_step, read_cues, logged, text_of, text_from, end_of, end_from, contents_from, read_airings}
use Rattle.airing_report.proofs.Growth.{readable_begun, readable_behind, texts_begun, texts_behind}
use Rattle.airing_report.proofs.Said.{Said, Refuses, LogSaid, step_said, log_said}

-- A line and the lines behind it, in an input.
record Split (xs l : List ℕ) (ls : List (List ℕ)) : Type 0 where
  pub some : 0 < length xs
  pub first : l ≡ first_line xs
  pub lines : lines_of (drop (length l) xs) ≡ ls
  pub text : l ++ drop (length l) xs ≡ xs

split : (xs l : List ℕ) (ls : List (List ℕ)) → lines_of xs ≡ l ∷ ls → Split xs l ls
split [] l ls h = absurd (grind arith)
split (b ∷ bs) l ls h =
    let xs : List ℕ = b ∷ bs in
    let e : l ∷ ls ≡ first_line xs ∷ lines_of (drop (length (first_line xs)) xs) = sym h ∙ lines_split xs (omega arith) in
    let first : l ≡ first_line xs = cc in
    let lines : ls ≡ lines_of (drop (length (first_line xs)) xs) = cc in
    record {
      some = omega arith;
      first = first;
      lines = ap (λ x. lines_of (drop (length x) xs)) first ∙ sym lines;
      text = ap (λ x. x ++ drop (length x) xs) first ∙ first_rest xs;
    }

no_lines : (xs : List ℕ) → lines_of xs ≡ [] → xs ≡ []
no_lines [] h = refl
no_lines (b ∷ bs) h = let e = sym h ∙ lines_split (b ∷ bs) (omega arith) in absurd (grind (arith, e))

-- Cue lines.
abbrev Stands : ℕ → List ℕ → Rest → Type 0
Stands n rest (lines_left ls) = (log : List ℕ) × (rest ≡ 10 ∷ log) × (lines_of log ≡ ls)
Stands n rest (stopped r) = Stops n rest r

record Fronted (all : List ℕ) (cues : List (List Values)) (r : Rest) : Type 0 where
  pub rest : List ℕ
  pub text : all ≡ cue_texts 0 cues ++ rest
  pub readable : Readable cues
  pub stands : Stands (length cues) rest r

fronted_from : {all all' : List ℕ} {cues : List (List Values)} {r : Rest} → all ≡ all' → Fronted all' cues r → Fronted all cues r
fronted_from e f = record { rest = f.rest; text = e ∙ f.text; readable = f.readable; stands = f.stands }

-- a line that is refused
stops_at : (n : ℕ) (xs l : List ℕ) (ls : List (List ℕ)) (r : Refusal) → Split xs l ls → Refuses n l r → Stops n xs r
stops_at n xs l ls r p h =
    ⊎_elim (λ e. unreadable p.some (ap (read_line Cues) (sym p.first) ∙ e))
    (λ q. misnumbered q.0 q.1 q.2 (subst (CueText q.0 q.1 q.2) p.first q.3) q.4 q.5 q.6)
    h

-- one line
readable_grown : (before : List (List Values)) (l : List ℕ) (s : Step) → Said (length before) l s → Readable before → Readable (grown s before)
readable_grown before l (more e) h ok = let last : suc h.1.0 ≡ length before = h.1.1 in readable_behind before e (omega arith) ok h.0
readable_grown before l (next e) h ok = readable_begun before e h.1 ok h.0
readable_grown before l parts h ok = ok
readable_grown before l (refused r) h ok = ok

regrouped : (t t' l after xs : List ℕ) → l ++ after ≡ xs → t' ≡ t ++ l → t ++ xs ≡ t' ++ after
regrouped t t' l after xs e grew = ap (λ x. t ++ x) (sym e) ∙ (sym (append_assoc t l after) ∙ ap (λ x. x ++ after) (sym grew))

step_front : (before : List (List Values)) (xs l : List ℕ) (ls : List (List ℕ)) (s : Step) (q : List (List Values) × Rest) →
    Split xs l ls → Readable before → Said (length before) l s → Fronted (cue_texts 0 (grown s before) ++ drop (length l) xs) q.0 q.1 →
    Fronted (cue_texts 0 before ++ xs) (read_step s before ls q).0 (read_step s before ls q).1
step_front before xs l ls (more e) q p ok h further =
    let m = h.1.0 in
    let last : suc m ≡ length before = h.1.1 in
    let grew = texts_behind 0 m before e (omega arith) (omega arith) ∙ ap (λ x. cue_texts 0 before ++ x) (sym h.1.3) in
    fronted_from (regrouped (cue_texts 0 before) _ l _ xs p.text grew) further
step_front before xs l ls (next e) q p ok h further =
    let grew = texts_begun 0 (length before) before e (omega arith) ∙ ap (λ x. cue_texts 0 before ++ x) (sym h.2) in
    fronted_from (regrouped (cue_texts 0 before) _ l _ xs p.text grew) further
step_front before xs l ls parts q p ok h further =
    record { rest = xs; text = refl; readable = ok; stands = (drop (length l) xs, sym p.text ∙ ap (λ x. x ++ drop (length l) xs) h, p.lines) }
step_front before xs l ls (refused r) q p ok h further = record { rest = xs; text = refl; readable = ok; stands = stops_at (length before) xs l ls r p h }

front : (ls : List (List ℕ)) (xs : List ℕ) (before : List (List Values)) → lines_of xs ≡ ls → Readable before → Fronted (cue_texts 0 before ++ xs) (read_cues before ls).0 (read_cues before ls).1
front [] xs before h ok = record { rest = xs; text = refl; readable = ok; stands = none_left (no_lines xs h) refl }
front (l ∷ ls) xs before h ok =
    let p = split xs l ls h in
    let s = step_of (length before) l in
    let is = step_said (length before) l in
    step_front before xs l ls s (read_cues (grown s before) ls) p ok is (front ls (drop (length l) xs) (grown s before) p.lines (readable_grown before l s is ok))

-- Log lines.
record Logged (xs : List ℕ) (text : List Values) (end : Option Refusal) : Type 0 where
  pub rest : List ℕ
  pub is : xs ≡ log_text text ++ rest
  pub each : AllByRecursion LogEvent text
  pub ends : Ends rest end

log_step : (r : Result Values Refusal) (xs l : List ℕ) (ls : List (List ℕ)) → Split xs l ls → LogSaid l r → Logged (drop (length l) xs) (text_of ls) (end_of ls) → Logged xs (text_from r (text_of ls)) (end_from r (end_of ls))
log_step (Ok e) xs l ls p h later =
    let line = log_line e.0 e.1 e.2 in
    let is : xs ≡ line ++ (log_text (text_of ls) ++ later.rest) = sym p.text ∙ (ap (λ x. x ++ drop (length l) xs) h.3 ∙ ap (λ x. line ++ x) later.is) in
    record {
      rest = later.rest;
      is = is ∙ sym (append_assoc line (log_text (text_of ls)) later.rest);
      each = ((h.0, h.1, h.2), later.each);
      ends = later.ends;
    }
log_step (Err r) xs l ls p h later =
    record { rest = xs; is = refl; each = tt; ends = cut_short r p.some (ap (read_line LogSection) (sym p.first) ∙ h) refl }

logs : (ls : List (List ℕ)) (xs : List ℕ) → lines_of xs ≡ ls → Logged xs (text_of ls) (end_of ls)
logs [] xs h = record { rest = []; is = no_lines xs h; each = tt; ends = whole refl refl }
logs (l ∷ ls) xs h =
    let p = split xs l ls h in
    log_step (logged l) xs l ls p (log_said l) (logs ls (drop (length l) xs) p.lines)

reads_from : (xs : List ℕ) (cues : List (List Values)) (r : Rest) → Fronted xs cues r → Reads xs (contents_from cues r)
reads_from xs cues (lines_left ls) f =
    let log = f.stands.0 in
    let g = logs ls log f.stands.2 in
    parted g.rest f.readable g.each (f.text ∙ ap (λ x. cue_texts 0 cues ++ x) (f.stands.1 ∙ ap (λ x. 10 ∷ x) g.is)) refl g.ends
reads_from xs cues (stopped r) f = unparted f.rest r f.readable f.text f.stands refl refl refl

pub reads : (xs : List ℕ) → Reads xs (read_airings xs)
unfolding read_airings
reads xs = reads_from xs _ _ (front (lines_of xs) xs [] refl (record { each = tt; few = omega arith }))
