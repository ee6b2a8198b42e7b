-- What a line is, and which text it then is.
use Rattle.std.proofs.Common.{◌≡◌, ℕ, suc, ◌<◌, true, eqb, ◌⊎◌, List, [], ◌∷◌, is_some, Some, None, Ok, Err, Option, Result, refl, ap, ◌∙◌, inl, inr, arith}
use Rattle.std.proofs.lemmas.Bool.{cond_both, eqb-true, eqb-false}
use Rattle.events.specs.declared.Refusal.{Refusal}
use Rattle.events.specs.declared.Refusal.TheVariants.{Misnumbered}
use Rattle.columns.proofs.Readings.{whole_from_ok}
use Rattle.columns.proofs.Texts.{cue_written, log_written, parting_written, says_log}
use Rattle.columns.specs.Fields.{number_below}
use Rattle.columns.specs.Lines.{CueText, LogText, Fields, cue, log, parting, carts, cue_numbers, cue_says, log_says, event_from, said, read_line, read_cue, read_log}
use Rattle.columns.specs.Written.{cue_line}
use Rattle.columns.specs.declared.line.Section.TheVariants.{Cues, Log as LogSection}
use Rattle.airing_report.specs.Inputs.{CueEvent}
use Rattle.columns.specs.AsRuns.{Values}
use Rattle.airing_report.specs.Reading.{Step, more, next, parts, refused, numbered, step_from, step_of, logged, logged_from, event_from as answered}

-- Why a line behind n cues is refused.
abbrev pub Refuses : ℕ → List ℕ → Refusal → Type 0
Refuses n l r =
    (read_line Cues l ≡ Err r) ⊎ ((m : ℕ) × (k : ℕ) × (c : ℕ) × CueText m k c l × (suc m ≡ n → ⊥) × (m ≡ n → ⊥) × (r ≡ Misnumbered))

-- Which text a line is.
abbrev pub Said : ℕ → List ℕ → Step → Type 0
Said n l (more e) = CueEvent e × ((m : ℕ) × (suc m ≡ n) × (m < cue_numbers) × (l ≡ cue_line m e.1 e.2))
Said n l (next e) = CueEvent e × (n < cue_numbers) × (l ≡ cue_line n e.1 e.2)
Said n l parts = l ≡ 10 ∷ []
Said n l (refused r) = Refuses n l r

no_log : (l s k c : List ℕ) → read_line Cues l ≡ Ok (log s k c) → ⊥
unfolding read_line read_cue
no_log l s k c e = grind arith

no_cue : (l n k c : List ℕ) → read_line LogSection l ≡ Ok (cue n k c) → ⊥
unfolding read_line read_log
no_cue l n k c e = grind arith

no_parting : (l : List ℕ) → read_line LogSection l ≡ Ok parting → ⊥
unfolding read_line read_log
no_parting l e = grind arith

says_some : (o : Option ℕ) (kind : List ℕ) (p : Option ℕ) → is_some o ≡ true → is_some (event_from (Some 0) kind p) ≡ true → is_some (event_from o kind p) ≡ true
says_some None kind p ho hp = grind arith
says_some (Some n) kind None ho hp = grind arith
says_some (Some n) kind (Some c) ho hp = grind arith

numbered_said : (n : ℕ) (l : List ℕ) (o : Option Values) → said cue_says (read_line Cues l) ≡ o → is_some o ≡ true → Said n l (numbered n o)
numbered_said n l None e h = absurd (grind arith)
numbered_said n l (Some q) e h =
    let text = (cue_written l q.0 q.1 q.2).0 e in
    cond_both (eqb (suc q.0) n) _ _ (Said n l) (λ y. ((refl, text.1, text.2), (q.0, eqb-true _ _ y, text.0, text.3)))
    (λ y. cond_both (eqb q.0 n) _ _ (Said n l)
    (λ z. let is = eqb-true q.0 n z in ((refl, text.1, text.2), omega (arith, text.0), text.3 ∙ ap (λ m. cue_line m q.1 q.2) is))
    (λ z. inr (q.0, q.1, q.2, text, eqb-false _ _ y, eqb-false _ _ z, refl)))

from_said : (n : ℕ) (l : List ℕ) (r : Result Fields Refusal) → read_line Cues l ≡ r → Said n l (step_from n r)
from_said n l (Ok (cue number kind cart)) e =
    let w = whole_from_ok Cues l (cue number kind cart) e in
    numbered_said n l (cue_says (cue number kind cart)) (ap (said cue_says) e) (says_some (number_below cue_numbers number) kind (number_below carts cart) w.0 w.1)
from_said n l (Ok (log s k c)) e = absurd (no_log l s k c e)
from_said n l (Ok parting) e = (parting_written l).0 e
from_said n l (Err r) e = inl e

pub step_said : (n : ℕ) (l : List ℕ) → Said n l (step_of n l)
step_said n l = from_said n l (read_line Cues l) refl

-- And back: what such a text is.
from_cue : (n : ℕ) (r : Result Fields Refusal) (q : Values) → said cue_says r ≡ Some q → step_from n r ≡ numbered n (Some q)
from_cue n (Ok (cue number kind cart)) q e = ap (numbered n) e
from_cue n (Ok (log s k c)) q e = absurd (grind arith)
from_cue n (Ok parting) q e = absurd (grind arith)
from_cue n (Err r) q e = absurd (grind arith)

pub step_cue : (n m k c : ℕ) (l : List ℕ) → CueText m k c l → step_of n l ≡ numbered n (Some (m, k, c))
step_cue n m k c l text = from_cue n (read_line Cues l) (m, k, c) ((cue_written l m k c).1 text)

pub step_parting : (n : ℕ) → step_of n (10 ∷ []) ≡ parts
step_parting n = ap (step_from n) ((parting_written (10 ∷ [])).1 refl)

-- The same of log lines.
abbrev pub LogSaid : List ℕ → Result Values Refusal → Type 0
LogSaid l (Ok e) = LogText e.0 e.1 e.2 l
LogSaid l (Err r) = read_line LogSection l ≡ Err r

answered_said : (l : List ℕ) (o : Option Values) → said log_says (read_line LogSection l) ≡ o → is_some o ≡ true → LogSaid l (answered o)
answered_said l None e h = absurd (grind arith)
answered_said l (Some q) e h = (log_written l q.0 q.1 q.2).0 e

from_log : (l : List ℕ) (r : Result Fields Refusal) → read_line LogSection l ≡ r → LogSaid l (logged_from r)
from_log l (Ok (cue n k c)) e = absurd (no_cue l n k c e)
from_log l (Ok (log s k c)) e = answered_said l (log_says (log s k c)) (ap (said log_says) e) (whole_from_ok LogSection l (log s k c) e)
from_log l (Ok parting) e = absurd (no_parting l e)
from_log l (Err r) e = e

pub log_said : (l : List ℕ) → LogSaid l (logged l)
log_said l = from_log l (read_line LogSection l) refl

from_text : (r : Result Fields Refusal) (e : Values) → said log_says r ≡ Some e → logged_from r ≡ Ok e
from_text (Ok fields) e h = ap answered (says_log fields e.0 e.1 e.2 h)
from_text (Err r) e h = absurd (grind arith)

pub log_text_lem : (e : Values) (l : List ℕ) → LogText e.0 e.1 e.2 l → logged l ≡ Ok e
log_text_lem e l text = from_text (read_line LogSection l) e ((log_written l e.0 e.1 e.2).1 text)
