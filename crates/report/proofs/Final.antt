-- From the steps to the whole report.
use Rattle.std.proofs.Common.{◌≡◌, ℕ, ◌+◌, ◌<◌, ◌≤◌, Bool, List, [], ◌++◌, map, length, Some, None, sum, Option, sym, ap, ◌∙◌, arith}
use Rattle.std.specs.List.{flat_map}
use Rattle.events.specs.Refused.{number_of}
use Rattle.events.specs.Sameness.{Lawful}
use Rattle.events.specs.declared.Refusal.{Refusal}
use Rattle.book.specs.Cues.{total}
use Rattle.book.specs.Held.{Held, begun, cue_signs, lookups}
use Rattle.columns.specs.Written.{refusal_line}
use Rattle.script.proofs.Booked.{sum_lengths}
use Rattle.script.proofs.Tiling.{length_events, runs_signs, total_at}
use Rattle.script.specs.Booking.{held_with, size}
use Rattle.script.specs.Report.{Contents, entry_lines, front_refused, last_line, line_count, or_later, refused_or, report_of, text_report}
use Rattle.script.specs.Runs.{sign_runs, runs}
use Rattle.script.specs.Steps.{Books, found, lines_of}
use Rattle.script.specs.declared.contents.Layout.{Layout}
use Rattle.script.specs.declared.contents.Layout.TheVariants.{PerEvent, PerCue}
use Rattle.report.specs.Reached.{Wrote}

pub lines_small : (layout : Layout) (cues events line most : ℕ) → line ≡ lines_of layout cues events → cues < most → events < most → line < most
lines_small PerEvent cues events line most e p q = omega arith
lines_small PerCue cues events line most e p q = omega arith

pub held_begun : {E : Type 0} (same : E → E → Bool) (cues : List (List E)) (events : List E) (h : Held E) → events ≡ flat_map (λ c. c) cues → h ≡ begun same events → h ≡ held_with same cues []
held_begun same cues events h e b = b ∙ ap (begun same) e

pub lens_small : {E : Type 0} (cues : List (List E)) (lens : List ℕ) (events : List E) (most : ℕ) → lens ≡ map length cues → events ≡ flat_map (λ c. c) cues → length events < most → sum lens < most
lens_small cues lens events most p q h = omega (arith, ap sum p, sum_lengths cues, ap length q, length_events cues)

module _ {E : Type 0} (same : E → E → Bool) (layout : Layout) (s : Contents E) where
  front : (r : Option (Refusal × ℕ)) (h : Held E) → Books same layout s.cues r h → front_refused same layout s ≡ found r (or_later s.stop (line_count layout s.cues + 1) None)
  front r h b = sym (b.value (or_later s.stop (line_count layout s.cues + 1) None))

  pub cue_is : (r : Option (Refusal × ℕ)) (refusal : Refusal) (line : ℕ) (h : Held E) → Books same layout s.cues r h → r ≡ Some (refusal, line) → refusal_line (number_of refusal) line ≡ report_of same layout s
  unfolding report_of
  cue_is r refusal line h b e =
      let f : front_refused same layout s ≡ Some (refusal, line) = front r h b ∙ ap (λ x. found x (or_later s.stop (line_count layout s.cues + 1) None)) e in
      ap (λ q. refused_or q (text_report same layout s)) (sym f)

  pub stop_is : (r : Option (Refusal × ℕ)) (refusal : Refusal) (line : ℕ) (h : Held E) → Books same layout s.cues r h → r ≡ None → s.stop ≡ Some refusal → line ≡ line_count layout s.cues → refusal_line (number_of refusal) (line + 1) ≡ report_of same layout s
  unfolding report_of
  stop_is r refusal line h b e stop at =
      let f : front_refused same layout s ≡ Some (refusal, line_count layout s.cues + 1) =
      front r h b ∙ (ap (λ x. found x (or_later s.stop (line_count layout s.cues + 1) None)) e ∙ ap (λ o. or_later o (line_count layout s.cues + 1) None) stop) in
      ap (λ n. refusal_line (number_of refusal) (n + 1)) at ∙ ap (λ q. refused_or q (text_report same layout s)) (sym f)

  pub text_out : Lawful same → (r : Option (Refusal × ℕ)) (h b : Held E) (old mid out : List ℕ) (line events count : ℕ) → Books same layout s.cues r h → r ≡ None → s.stop ≡ None → b ≡ h → total b.cues ≤ 1024 →
      line ≡ line_count layout s.cues → events ≡ length s.text → old ≡ [] → Wrote (cue_signs b) (lookups same b s.text) old mid count → out ≡ mid ++ last_line s.end (line + events + 2) events count → out ≡ report_of same layout s
  unfolding report_of
  text_out law r h b old mid out line events count books e stop sealed few at long none wrote last =
      let own : b ≡ held_with same s.cues s.cues = sealed ∙ books.held e in
      let small : size s.cues ≤ 2048 = let t = ap (λ x. total x.cues) own ∙ total_at 0 s.cues in omega arith in
      let seen : sign_runs (cue_signs b) [] (lookups same b s.text) ≡ runs same s.cues s.text = ap (λ x. sign_runs (cue_signs x) [] (lookups same x s.text)) own ∙ runs_signs same law s.cues s.text small in
      let f : front_refused same layout s ≡ None =
      front r h books ∙ (ap (λ x. found x (or_later s.stop (line_count layout s.cues + 1) None)) e ∙ ap (λ o. or_later o (line_count layout s.cues + 1) None) stop) in
      let mids : mid ≡ entry_lines (runs same s.cues s.text) = wrote.lines ∙ (ap (λ o. o ++ entry_lines (sign_runs (cue_signs b) [] (lookups same b s.text))) none ∙ ap entry_lines seen) in
      let counts : count ≡ length (runs same s.cues s.text) = wrote.count ∙ ap length seen in
      last ∙ (ap (λ m. m ++ last_line s.end (line + events + 2) events count) mids ∙
      (ap (λ n. entry_lines (runs same s.cues s.text) ++ last_line s.end (n + events + 2) events count) at ∙
      (ap (λ n. entry_lines (runs same s.cues s.text) ++ last_line s.end (line_count layout s.cues + n + 2) n count) long ∙
      (ap (λ n. entry_lines (runs same s.cues s.text) ++ last_line s.end (line_count layout s.cues + length s.text + 2) (length s.text) n) counts ∙
      ap (λ q. refused_or q (text_report same layout s)) (sym f)))))
