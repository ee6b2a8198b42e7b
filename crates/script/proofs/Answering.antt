-- Each input has exactly one answer, where it says exactly one thing.
use Rattle.std.proofs.Common.{◌≡◌, ℕ, ◌<◌, ◌≤◌, Bool, ltb, List, length, sym, ap, ◌∙◌, subst, ⊎_elim}
use Rattle.std.proofs.lemmas.Bool.{cases_lt, cond-false, cond-true, le-ltb, lt-ltb}
use Rattle.events.specs.Sameness.{Lawful}
use Rattle.script.proofs.Once.{reported_once}
use Rattle.script.specs.Answered.{Answered, AnsweredOnce, input_report, longest_input, too_long, reported, too_long_report}
use Rattle.script.specs.Report.{Contents, report_of}
use Rattle.script.specs.Told.{Reported}
use Rattle.script.specs.declared.contents.Layout.{Layout}

module _ {E : Type 0} (same : E → E → Bool) (layout : Layout) (read : List ℕ → Contents E) (Reads : List ℕ → Contents E → Type 0) (xs : List ℕ) where
  long_report : longest_input < length xs → input_report same layout read xs ≡ too_long_report
  long_report h = cond-true (ltb longest_input (length xs)) too_long_report (report_of same layout (read xs)) (lt-ltb longest_input (length xs) h)

  pub short_report : length xs ≤ longest_input → input_report same layout read xs ≡ report_of same layout (read xs)
  short_report h = cond-false (ltb longest_input (length xs)) too_long_report (report_of same layout (read xs)) (le-ltb longest_input (length xs) h)

  only : Lawful same → ((s : Contents E) → Reads xs s → s ≡ read xs) → (out : List ℕ) → Answered same layout Reads xs out → out ≡ input_report same layout read xs
  only law unique out (too_long h e) = e ∙ sym (long_report h)
  only law unique out (reported h s r t) = (reported_once same law layout s).1 out t ∙ (ap (report_of same layout) (unique s r) ∙ sym (short_report h))

  pub answered_once : Lawful same → Reads xs (read xs) × ((s : Contents E) → Reads xs s → s ≡ read xs) → AnsweredOnce same layout read Reads xs
  answered_once law once = (
    ⊎_elim (λ (h : longest_input < length xs). too_long h (long_report h))
        (λ (h : length xs ≤ longest_input). reported h (read xs) once.0 (subst (Reported same layout (read xs)) (sym (short_report h)) (reported_once same law layout (read xs)).0))
        (cases_lt longest_input (length xs)),
    only law once.1,
  )
