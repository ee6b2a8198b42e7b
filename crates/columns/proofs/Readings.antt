-- What a line that is read has: its number and its event.
use Rattle.std.proofs.Common.{◌≡◌, ℕ, ◌+◌, true, false, List, is_some, IfOk, Some, None, Ok, Err, Option, Result, sym, refl, ◌∙◌, subst, arith}
use Rattle.std.specs.Option.{option_map}
use Rattle.std.specs.Result.{IsErrAnd}
use Rattle.std.proofs.lemmas.Bool.{cond_both, cond-false}
use Rattle.events.specs.declared.Refusal.{Refusal}
use Rattle.events.specs.declared.Refusal.TheVariants.{Unreadable}
use Rattle.columns.specs.declared.line.Section.{Section}
use Rattle.columns.specs.declared.line.Section.TheVariants.{Cues, Log as LogSection}
use Rattle.columns.specs.declared.line.Line.{Line}
use Rattle.columns.specs.Fields.{number_below}
use Rattle.columns.specs.Kinds.{kind_in}
use Rattle.columns.specs.Lines.{Fields, cue, log, parting, columns, blank_field, kind_field, cue_numbers, seconds, carts, ended, bad_column, read_cue, read_log, read_line, seen, event_from, Whole}

pub kind_found : (f : List ℕ) → is_some (kind_in f) ≡ kind_field f
kind_found f = grind arith

-- no field of a line is bad
pub none_bad : (w limit : ℕ) (l : List ℕ) → ended (w + 9) l ≡ true → is_some (number_below limit (columns 1 w l)) ≡ true → blank_field (columns (w + 1) (w + 1) l) ≡ true → kind_field (columns (w + 2) (w + 2) l) ≡ true → blank_field (columns (w + 3) (w + 3) l) ≡ true → is_some (number_below carts (columns (w + 4) (w + 9) l)) ≡ true → bad_column w limit l ≡ None
none_bad w limit l e n b k d c = grind arith

-- these fields where no column is bad, else the refusal
abbrev pub read_by : Option ℕ → Fields → Result Fields Refusal
read_by None fields = Ok fields
read_by (Some column) fields = Err (Unreadable column)

pub read_err : (bad : Option ℕ) (fields : Fields) (e : Refusal) → option_map Unreadable bad ≡ Some e → read_by bad fields ≡ Err e
read_err None fields e h = cc
read_err (Some column) fields e h = cc

pub seen_err : (r : Result Line Refusal) (e : Refusal) → IsErrAnd r (λ x. x ≡ e) → seen r ≡ Err e
seen_err (Ok line) e h = absurd h
seen_err (Err refusal) e h = grind arith

pub cues_by : (l : List ℕ) → ended 0 l ≡ false → read_line Cues l ≡ read_by (bad_column 4 cue_numbers l) (cue (columns 1 4 l) (columns 6 6 l) (columns 8 13 l))
unfolding read_line read_cue
cues_by l h = grind arith

pub log_by : (l : List ℕ) → read_line LogSection l ≡ read_by (bad_column 5 seconds l) (log (columns 1 5 l) (columns 7 7 l) (columns 9 14 l))
unfolding read_line read_log
log_by l = grind arith

event_from_some : (s : Option ℕ) (kind : List ℕ) (c : Option ℕ) → is_some s ≡ true → kind_field kind ≡ true → is_some c ≡ true → is_some (event_from s kind c) ≡ true
event_from_some None kind c hs hk hc = grind arith
event_from_some (Some s) kind None hs hk hc = grind arith
event_from_some (Some s) kind (Some c) hs hk hc = rw hk refl

-- where no column is bad, every field is good
pub good_fields : (w limit : ℕ) (l : List ℕ) → bad_column w limit l ≡ None → (ended (w + 9) l ≡ true) × (is_some (number_below limit (columns 1 w l)) ≡ true) × (blank_field (columns (w + 1) (w + 1) l) ≡ true) × (kind_field (columns (w + 2) (w + 2) l) ≡ true) × (blank_field (columns (w + 3) (w + 3) l) ≡ true) × (is_some (number_below carts (columns (w + 4) (w + 9) l)) ≡ true)
good_fields w limit l e = grind arith

-- what holds of both answers holds of the reader's
pub by_both : (bad : Option ℕ) (fields : Fields) (P : Result Fields Refusal → Type 0) → (bad ≡ None → P (Ok fields)) → ((column : ℕ) → P (Err (Unreadable column))) → P (read_by bad fields)
by_both None fields P good refused = good refl
by_both (Some column) fields P good refused = refused column

pub cues_both : (l : List ℕ) (P : Result Fields Refusal → Type 0) → (ended 0 l ≡ true → P (Ok parting)) → P (read_by (bad_column 4 cue_numbers l) (cue (columns 1 4 l) (columns 6 6 l) (columns 8 13 l))) → P (read_line Cues l)
unfolding read_line
cues_both l P parted read =
    cond_both (ended 0 l) (Ok parting) _ P parted (λ e. subst P (sym (sym (cond-false (ended 0 l) _ _ e) ∙ cues_by l e)) read)

-- an answer that is no refusal has all that its kind of line says
abbrev AllThere : Result Fields Refusal → Type 0
AllThere r = IfOk r Whole

-- a line that is read has all that its kind of line says
pub line_whole : (section : Section) (l : List ℕ) → IfOk (read_line section l) Whole
line_whole Cues l =
    cues_both l AllThere (λ _. tt)
    (by_both _ _ AllThere
    (λ e. let good = good_fields 4 cue_numbers l e in (good.1, event_from_some (Some 0) (columns 6 6 l) (number_below carts (columns 8 13 l)) refl good.3 good.5))
    (λ _. tt))
line_whole LogSection l =
    subst AllThere (sym (log_by l))
    (by_both _ _ AllThere
    (λ e. let good = good_fields 5 seconds l e in event_from_some (number_below seconds (columns 1 5 l)) (columns 7 7 l) (number_below carts (columns 9 14 l)) good.1 good.3 good.5)
    (λ _. tt))

pub whole_from_ok : (section : Section) (l : List ℕ) (fields : Fields) → read_line section l ≡ Ok fields → Whole fields
whole_from_ok section l fields e = subst AllThere e (line_whole section l)
