-- A cue or log line is read as its numbers exactly when it is the text of them.
use Rattle.std.proofs.Common.{◌≡◌, ℕ, ◌+◌, ◌^◌, ◌<◌, ◌≤◌, true, List, [], ◌∷◌, ◌++◌, length, get_or, take, drop, is_some, Some, None, Ok, decimal, Option, Result, sym, refl, ap, ◌∙◌, subst, arith}
use Rattle.std.proofs.lemmas.Fmt.{length-decimal-le}
use Rattle.std.proofs.lemmas.List.{append_assoc, length-append, length-drop, length-take-le, take-append-drop, take_at, drop_at, drop_all, drop-drop, drop_more, get_or_at, get_or-drop}
use Rattle.std.proofs.lemmas.Bool.{and_parts, and_from, eqb-true, eq-eqb, ne_eqb, and_left}
use Rattle.events.specs.declared.Refusal.{Refusal}
use Rattle.columns.specs.declared.line.Section.{Section}
use Rattle.columns.specs.declared.line.Section.TheVariants.{Cues, Log as LogSection}
use Rattle.columns.specs.Fields.{number_below}
use Rattle.columns.specs.Kinds.{kind_letter}
use Rattle.columns.specs.Lines.{Fields, cue, log, parting, columns, blank_field, kind_field, seconds, carts, cue_numbers, bad_column, ended, read_line, event_from, lines_of, cue_number_of, event_of, cue_says, log_says, said, CueWritten, LogWritten, PartingWritten, LineWritten}
use Rattle.columns.specs.Written.{number_field, cue_line, log_line}
use Rattle.columns.proofs.Numbers.{number_below_lem, read_is_written, written_is_read}
use Rattle.columns.proofs.Readings.{none_bad, good_fields, read_by, cues_by, log_by, by_both, cues_both}
use Rattle.columns.proofs.Splits.{unbroken, unbroken_append, unbroken_number, lines_text}
use Rattle.columns.proofs.Writing.{length_number}

blank_is : (f : List ℕ) → blank_field f ≡ true → f ≡ 32 ∷ []
blank_is [] h = grind arith
blank_is (b ∷ []) h = grind arith
blank_is (b ∷ (c ∷ bs)) h = grind arith

letter_is : (f : List ℕ) → kind_field f ≡ true → f ≡ get_or f 0 0 ∷ []
letter_is [] h = grind arith
letter_is (b ∷ []) h = refl
letter_is (b ∷ (c ∷ bs)) h = grind arith

event_parts : (s : Option ℕ) (kind : List ℕ) (o : Option ℕ) (n k c : ℕ) → event_from s kind o ≡ Some (n, k, c) → (s ≡ Some n) × (kind_field kind ≡ true) × (get_or kind 0 0 ≡ k) × (o ≡ Some c)
event_parts None kind o n k c e = grind arith
event_parts (Some s) kind None n k c e = grind arith
event_parts (Some s) kind (Some d) n k c e = grind arith

-- a number in a field that is wide enough is read again
field_read : (limit width n : ℕ) → limit ≤ 2 ^ 64 → n < limit → length (decimal n) ≤ width → number_below limit (number_field width n) ≡ Some n
field_read limit width n small h fits =
    let long = length_number width n in
    written_is_read limit (number_field width n) n small h (omega arith) (ap (λ m. number_field m n) long)

-- Both lines: a number of some width, blank, letter, blank, a cart of six columns, byte 10.
record Parts (w k : ℕ) (xs number cart : List ℕ) : Type 0 where
  pub first : take w xs ≡ number
  pub second : take 1 (drop w xs) ≡ 32 ∷ []
  pub third : take 1 (drop (w + 1) xs) ≡ k ∷ []
  pub fourth : take 1 (drop (w + 2) xs) ≡ 32 ∷ []
  pub fifth : take 6 (drop (w + 3) xs) ≡ cart
  pub long : length xs ≡ w + 10
  pub last : get_or xs (w + 9) 0 ≡ 10

text_parts : (w k : ℕ) (number cart : List ℕ) → length number ≡ w → length cart ≡ 6 → Parts w k (number ++ (32 ∷ (k ∷ (32 ∷ (cart ++ (10 ∷ [])))))) number cart
text_parts w k number cart hn hc =
    let xs : List ℕ = number ++ (32 ∷ (k ∷ (32 ∷ (cart ++ (10 ∷ []))))) in
    let d : drop w xs ≡ 32 ∷ (k ∷ (32 ∷ (cart ++ (10 ∷ [])))) = drop_at number _ w hn in
    let d3 : drop (w + 3) xs ≡ cart ++ (10 ∷ []) = sym (drop-drop 3 w xs) ∙ ap (drop 3) d in
    let i : w + 9 ≡ w + 3 + 6 = omega arith in
    record {
      first = take_at number _ w hn;
      second = ap (take 1) d;
      third = ap (take 1) (sym (drop-drop 1 w xs) ∙ ap (drop 1) d);
      fourth = ap (take 1) (sym (drop-drop 2 w xs) ∙ ap (drop 2) d);
      fifth = ap (take 6) d3 ∙ take_at cart (10 ∷ []) 6 hc;
      long = simp length-append (omega arith);
      last = ap (λ m. get_or xs m 0) i ∙ (sym (get_or-drop (w + 3) xs 6 0) ∙ (ap (λ ys. get_or ys 6 0) d3 ∙ get_or_at cart 10 [] 0 6 hc));
    }

cut : (a m b : ℕ) (l : List ℕ) → a + m ≡ b → take m (drop a l) ++ drop b l ≡ drop a l
cut a m b l e = ap (λ j. take m (drop a l) ++ drop j l) (sym e) ∙ (ap (λ ys. take m (drop a l) ++ ys) (sym (drop-drop m a l)) ∙ take-append-drop m (drop a l))

parts_text : (w k : ℕ) (l number cart : List ℕ) → Parts w k l number cart → l ≡ number ++ (32 ∷ (k ∷ (32 ∷ (cart ++ (10 ∷ [])))))
parts_text w k l number cart p =
    let end : drop (w + 9) l ≡ 10 ∷ [] = drop_more l (w + 9) 0 (omega arith) ∙ (ap (λ b. b ∷ drop (w + 9 + 1) l) p.last ∙ ap (λ ys. 10 ∷ ys) (drop_all (w + 9 + 1) l (omega arith))) in
    let d3 : drop (w + 3) l ≡ cart ++ (10 ∷ []) = sym (cut (w + 3) 6 (w + 9) l (omega arith)) ∙ (ap (λ ys. ys ++ drop (w + 9) l) p.fifth ∙ ap (λ ys. cart ++ ys) end) in
    let d2 : drop (w + 2) l ≡ 32 ∷ (cart ++ (10 ∷ [])) = sym (cut (w + 2) 1 (w + 3) l (omega arith)) ∙ (ap (λ ys. ys ++ drop (w + 3) l) p.fourth ∙ ap (λ ys. 32 ∷ ys) d3) in
    let d1 : drop (w + 1) l ≡ k ∷ (32 ∷ (cart ++ (10 ∷ []))) = sym (cut (w + 1) 1 (w + 2) l (omega arith)) ∙ (ap (λ ys. ys ++ drop (w + 2) l) p.third ∙ ap (λ ys. k ∷ ys) d2) in
    let d0 : drop w l ≡ 32 ∷ (k ∷ (32 ∷ (cart ++ (10 ∷ [])))) = sym (cut w 1 (w + 1) l refl) ∙ (ap (λ ys. ys ++ drop (w + 1) l) p.second ∙ ap (λ ys. 32 ∷ ys) d1) in
    sym (take-append-drop w l) ∙ (ap (λ ys. ys ++ drop w l) p.first ∙ ap (λ ys. number ++ ys) d0)

-- what reading finds in such a text
record Found (limit w n k c : ℕ) (xs : List ℕ) : Type 0 where
  pub number : number_below limit (take w xs) ≡ Some n
  pub blank : blank_field (take 1 (drop w xs)) ≡ true
  pub kind : kind_field (take 1 (drop (w + 1) xs)) ≡ true
  pub letter : get_or (take 1 (drop (w + 1) xs)) 0 0 ≡ k
  pub blank_2 : blank_field (take 1 (drop (w + 2) xs)) ≡ true
  pub cart : number_below carts (take 6 (drop (w + 3) xs)) ≡ Some c
  pub long : length xs ≡ w + 10
  pub last : get_or xs (w + 9) 0 ≡ 10

text_found : (limit w n k c : ℕ) → limit ≤ 2 ^ 64 → n < limit → length (decimal n) ≤ w → kind_letter k ≡ true → c < carts → Found limit w n k c (number_field w n ++ (32 ∷ (k ∷ (32 ∷ (number_field 6 c ++ (10 ∷ []))))))
text_found limit w n k c small hn fits hk hc =
    let p = text_parts w k (number_field w n) (number_field 6 c) (length_number w n) (length_number 6 c) in
    record {
      number = ap (number_below limit) p.first ∙ field_read limit w n small hn fits;
      blank = ap blank_field p.second;
      kind = ap kind_field p.third ∙ hk;
      letter = ap (λ f. get_or f 0 0) p.third;
      blank_2 = ap blank_field p.fourth;
      cart = ap (number_below carts) p.fifth ∙ field_read carts 6 c (omega arith) hc (length-decimal-le 6 c (omega arith) (omega arith) (omega arith));
      long = p.long;
      last = p.last;
    }

found_limits : (limit w n k c : ℕ) (l : List ℕ) → Found limit w n k c l → (n < limit) × (kind_letter k ≡ true) × (c < carts)
found_limits limit w n k c l f = (
  number_below_lem limit (take w l) (Some n) (sym f.number),
  ap kind_letter (sym f.letter) ∙ (and_parts _ (kind_letter (get_or (take 1 (drop (w + 1) l)) 0 0)) f.kind).1,
  number_below_lem carts (take 6 (drop (w + 3) l)) (Some c) (sym f.cart),
)

found_text : (limit w n k c : ℕ) (l : List ℕ) → limit ≤ 2 ^ 64 → Found limit w n k c l → l ≡ number_field w n ++ (32 ∷ (k ∷ (32 ∷ (number_field 6 c ++ (10 ∷ [])))))
found_text limit w n k c l small f =
    let long = f.long in
    let limits = found_limits limit w n k c l f in
    let wide : length (take w l) ≡ w = length-take-le w l (omega arith) in
    let six : length (take 6 (drop (w + 3) l)) ≡ 6 = length-take-le 6 (drop (w + 3) l) (omega (arith, length-drop (w + 3) l)) in
    parts_text w k l (number_field w n) (number_field 6 c)
    (record {
      first = sym (read_is_written limit (take w l) n small limits.0 f.number) ∙ ap (λ m. number_field m n) wide;
      second = blank_is (take 1 (drop w l)) f.blank;
      third = letter_is (take 1 (drop (w + 1) l)) f.kind ∙ ap (λ b. b ∷ []) f.letter;
      fourth = blank_is (take 1 (drop (w + 2) l)) f.blank_2;
      fifth = sym (read_is_written carts (take 6 (drop (w + 3) l)) c (omega arith) limits.2 f.cart) ∙ ap (λ m. number_field m c) six;
      long = f.long;
      last = f.last;
    })

event_made : (s : Option ℕ) (kind : List ℕ) (o : Option ℕ) (n k c : ℕ) → s ≡ Some n → kind_field kind ≡ true → get_or kind 0 0 ≡ k → o ≡ Some c → event_from s kind o ≡ Some (n, k, c)
event_made None kind o n k c es ek el eo = grind arith
event_made (Some s) kind None n k c es ek el eo = grind arith
event_made (Some s) kind (Some d) n k c es ek el eo = grind arith

-- the end of a line
ended_parts : (n : ℕ) (l : List ℕ) → ended n l ≡ true → (length l ≡ n + 1) × (get_or l n 0 ≡ 10)
ended_parts n l h = let p = and_parts _ _ h in (eqb-true _ _ p.0, eqb-true _ _ p.1)

ended_from : (n : ℕ) (l : List ℕ) → length l ≡ n + 1 → get_or l n 0 ≡ 10 → ended n l ≡ true
ended_from n l e f = and_from _ _ (eq-eqb _ _ e) (eq-eqb _ _ f)

none_some : (v : ℕ × ℕ × ℕ) → ◌≡◌ {A = Option (ℕ × ℕ × ℕ)} None (Some v) → ⊥
none_some v e = grind arith

-- cue lines
cue_found : (l : List ℕ) (n k c : ℕ) → said cue_says (read_line Cues l) ≡ Some (n, k, c) → Found cue_numbers 4 n k c l
cue_found l n k c =
    let P : Result Fields Refusal → Type 0 = λ r. said cue_says r ≡ Some (n, k, c) → Found cue_numbers 4 n k c l in
    cues_both l P (λ _ q. absurd (none_some _ q))
    (by_both _ _ P
    (λ e q.
    let good = good_fields 4 cue_numbers l e in
    let event = event_parts _ (columns 6 6 l) _ n k c q in
    let end = ended_parts 13 l good.0 in
    record { number = event.0; blank = good.2; kind = event.1; letter = event.2; blank_2 = good.4; cart = event.3; long = end.0; last = end.1 })
    (λ _ q. absurd (none_some _ q)))

cue_said : (l : List ℕ) (n k c : ℕ) → Found cue_numbers 4 n k c l → said cue_says (read_line Cues l) ≡ Some (n, k, c)
cue_said l n k c f =
    let bad : bad_column 4 cue_numbers l ≡ None = none_bad 4 cue_numbers l (ended_from 13 l f.long f.last) (ap is_some f.number) f.blank f.kind f.blank_2 (ap is_some f.cart) in
    let longer : length l ≡ 1 → ⊥ = λ e. omega (arith, f.long) in
    let answer = cues_by l (and_left _ _ (ne_eqb _ _ longer)) ∙ ap (λ b. read_by b (cue (columns 1 4 l) (columns 6 6 l) (columns 8 13 l))) bad in
    ap (said cue_says) answer ∙ event_made _ (columns 6 6 l) _ n k c f.number f.kind f.letter f.cart

pub cue_written : (l : List ℕ) → CueWritten l
unfolding cue_line
cue_written l n k c = (
  λ e.
      let f = cue_found l n k c e in
      let limits = found_limits cue_numbers 4 n k c l f in
      (limits.0, limits.1, limits.2, found_text cue_numbers 4 n k c l (omega arith) f),
  λ t.
      let n-fits : n < cue_numbers = t.0 in
      cue_said l n k c (subst (Found cue_numbers 4 n k c) (sym t.3) (text_found cue_numbers 4 n k c (omega arith) n-fits (length-decimal-le 4 n (omega arith) (omega arith) (omega arith)) t.1 t.2)),
)

-- log lines
log_found : (l : List ℕ) (n k c : ℕ) → said log_says (read_line LogSection l) ≡ Some (n, k, c) → Found seconds 5 n k c l
log_found l n k c =
    let P : Result Fields Refusal → Type 0 = λ r. said log_says r ≡ Some (n, k, c) → Found seconds 5 n k c l in
    subst P (sym (log_by l))
    (by_both _ _ P
    (λ e q.
    let good = good_fields 5 seconds l e in
    let event = event_parts _ (columns 7 7 l) _ n k c q in
    let end = ended_parts 14 l good.0 in
    record { number = event.0; blank = good.2; kind = event.1; letter = event.2; blank_2 = good.4; cart = event.3; long = end.0; last = end.1 })
    (λ _ q. absurd (none_some _ q)))

log_said : (l : List ℕ) (n k c : ℕ) → Found seconds 5 n k c l → said log_says (read_line LogSection l) ≡ Some (n, k, c)
log_said l n k c f =
    let bad : bad_column 5 seconds l ≡ None = none_bad 5 seconds l (ended_from 14 l f.long f.last) (ap is_some f.number) f.blank f.kind f.blank_2 (ap is_some f.cart) in
    let answer = log_by l ∙ ap (λ b. read_by b (log (columns 1 5 l) (columns 7 7 l) (columns 9 14 l))) bad in
    ap (said log_says) answer ∙ event_made _ (columns 7 7 l) _ n k c f.number f.kind f.letter f.cart

pub log_written : (l : List ℕ) → LogWritten l
unfolding log_line
log_written l n k c = (
  λ e.
      let f = log_found l n k c e in
      let limits = found_limits seconds 5 n k c l f in
      (limits.0, limits.1, limits.2, found_text seconds 5 n k c l (omega arith) f),
  λ t.
      let n-fits : n < seconds = t.0 in
      log_said l n k c (subst (Found seconds 5 n k c) (sym t.3) (text_found seconds 5 n k c (omega arith) n-fits (length-decimal-le 5 n (omega arith) (omega arith) (omega arith)) t.1 t.2)),
)

-- the parting line
one_byte : (l : List ℕ) → length l ≡ 1 → get_or l 0 0 ≡ 10 → l ≡ 10 ∷ []
one_byte [] h e = grind arith
one_byte (b ∷ []) h e = ap (λ x. x ∷ []) e
one_byte (b ∷ (c ∷ bs)) h e = grind arith

parting_from : (l : List ℕ) → read_line Cues l ≡ Ok parting → l ≡ 10 ∷ []
parting_from l =
    let P : Result Fields Refusal → Type 0 = λ r. r ≡ Ok parting → l ≡ 10 ∷ [] in
    cues_both l P (λ h _. let end = ended_parts 0 l h in one_byte l end.0 end.1) (by_both _ _ P (λ _ q. absurd (cc)) (λ _ q. absurd (cc)))

pub parting_written : (l : List ℕ) → PartingWritten l
unfolding read_line
parting_written l = (parting_from l, λ e. rw e refl)

pub line_written : (section : Section) (l : List ℕ) → LineWritten section l
line_written Cues l = (cue_written l, parting_written l)
line_written LogSection l = log_written l

-- what a cue line says is its number and its event, and what a log line says is its event
pub cue_says_lem : (fields : Fields) (n k c : ℕ) → cue_number_of fields ≡ Some n → event_of fields ≡ Some (0, k, c) → cue_says fields ≡ Some (n, k, c)
cue_says_lem (cue number kind cart) n k c e q =
    let p = event_parts (Some 0) kind (number_below carts cart) 0 k c q in
    event_made (number_below cue_numbers number) kind (number_below carts cart) n k c e p.1 p.2 p.3
cue_says_lem (log second kind cart) n k c e q = grind arith
cue_says_lem parting n k c e q = grind arith

pub says_cue : (fields : Fields) (n k c : ℕ) → cue_says fields ≡ Some (n, k, c) → (cue_number_of fields ≡ Some n) × (event_of fields ≡ Some (0, k, c))
says_cue (cue number kind cart) n k c e =
    let p = event_parts (number_below cue_numbers number) kind (number_below carts cart) n k c e in
    (p.0, event_made (Some 0) kind (number_below carts cart) 0 k c refl p.1 p.2 p.3)
says_cue (log second kind cart) n k c e = absurd (none_some _ e)
says_cue parting n k c e = absurd (none_some _ e)

pub says_log : (fields : Fields) (n k c : ℕ) → log_says fields ≡ Some (n, k, c) → event_of fields ≡ Some (n, k, c)
says_log (cue number kind cart) n k c e = absurd (none_some _ e)
says_log (log second kind cart) n k c e = e
says_log parting n k c e = absurd (none_some _ e)

-- The text of a line, in front of any input, is the input's first line.
letter_unbroken : (k : ℕ) → kind_letter k ≡ true → unbroken (k ∷ []) ≡ true
letter_unbroken k h = grind arith

text_lines : (w n k c : ℕ) (rest : List ℕ) → n < 2 ^ 64 → kind_letter k ≡ true → c < 2 ^ 64 → lines_of ((number_field w n ++ (32 ∷ (k ∷ (32 ∷ (number_field 6 c ++ (10 ∷ [])))))) ++ rest) ≡ (number_field w n ++ (32 ∷ (k ∷ (32 ∷ (number_field 6 c ++ (10 ∷ [])))))) ∷ lines_of rest
text_lines w n k c rest hn hk hc =
    let body : List ℕ = number_field w n ++ (32 ∷ (k ∷ (32 ∷ number_field 6 c))) in
    let cart : unbroken (32 ∷ number_field 6 c) ≡ true = unbroken_number 6 c hc in
    let whole : unbroken body ≡ true = unbroken_append (number_field w n) (32 ∷ (k ∷ (32 ∷ number_field 6 c))) (unbroken_number w n hn) (unbroken_append (k ∷ []) (32 ∷ number_field 6 c) (letter_unbroken k hk) cart) in
    let text : number_field w n ++ (32 ∷ (k ∷ (32 ∷ (number_field 6 c ++ (10 ∷ []))))) ≡ body ++ (10 ∷ []) = sym (append_assoc (number_field w n) (32 ∷ (k ∷ (32 ∷ number_field 6 c))) (10 ∷ [])) in
    ap (λ l. lines_of (l ++ rest)) text ∙ (ap lines_of (append_assoc body (10 ∷ []) rest) ∙ (lines_text body rest whole ∙ ap (λ l. l ∷ lines_of rest) (sym text)))

pub cue_lines : (n k c : ℕ) (rest : List ℕ) → n < 2 ^ 64 → kind_letter k ≡ true → c < 2 ^ 64 → lines_of (cue_line n k c ++ rest) ≡ cue_line n k c ∷ lines_of rest
unfolding cue_line
cue_lines n k c rest hn hk hc = text_lines 4 n k c rest hn hk hc

pub log_lines : (n k c : ℕ) (rest : List ℕ) → n < 2 ^ 64 → kind_letter k ≡ true → c < 2 ^ 64 → lines_of (log_line n k c ++ rest) ≡ log_line n k c ∷ lines_of rest
unfolding log_line
log_lines n k c rest hn hk hc = text_lines 5 n k c rest hn hk hc
