-- There is exactly one report of each contents.
use Rattle.std.proofs.Common.{◌≡◌, ℕ, ◌+◌, Bool, List, [], ◌∷◌, ◌++◌, length, Some, None, Option, sym, ap, ◌∙◌, ⊎_elim}
use Rattle.events.specs.Refused.{number_of}
use Rattle.events.specs.Sameness.{Lawful}
use Rattle.events.specs.declared.Refusal.{Refusal}
use Rattle.columns.specs.Written.{total_line, refusal_line}
use Rattle.script.specs.Booking.{Booked, book_refusal}
use Rattle.script.specs.Report.{Contents, entry_lines, first_refused, front_refused, last_line, line_count, or_later, refused_or, report_of, text_report}
use Rattle.script.specs.Runs.{runs}
use Rattle.script.specs.Told.{Reported, ReportedOnce, cue_refused, line_refused, cut_short, accepted}
use Rattle.script.specs.declared.contents.Layout.{Layout}
use Rattle.script.proofs.Bookings.{Refused, booked_none, booked_or_refused, cases_option, first_none, first_some}
use Rattle.script.proofs.Listing.{lists_only, runs_lists}

module _ {E : Type 0} (same : E → E → Bool) (layout : Layout) (s : Contents E) where
  -- What the report is in each of the four cases.
  report_cue : (before : List (List E)) (c : List E) (after : List (List E)) (refusal : Refusal) → s.cues ≡ before ++ c ∷ after → Booked same before → book_refusal same before c ≡ Some refusal → report_of same layout s ≡ refusal_line (number_of refusal) (line_count layout (before ++ c ∷ []))
  unfolding report_of
  report_cue before c after refusal e b h =
      let later = or_later s.stop (line_count layout s.cues + 1) None in
      let f : front_refused same layout s ≡ Some (refusal, line_count layout (before ++ c ∷ [])) = ap (λ x. first_refused same layout [] x later) e ∙ first_some same layout [] before c after refusal later b h in
      ap (λ r. refused_or r (text_report same layout s)) f

  report_front : Booked same s.cues → report_of same layout s ≡ refused_or (or_later s.stop (line_count layout s.cues + 1) None) (text_report same layout s)
  unfolding report_of
  report_front b =
      ap (λ r. refused_or r (text_report same layout s)) (first_none same layout [] s.cues (or_later s.stop (line_count layout s.cues + 1) None) b)

  report_line : (refusal : Refusal) → Booked same s.cues → s.stop ≡ Some refusal → report_of same layout s ≡ refusal_line (number_of refusal) (line_count layout s.cues + 1)
  report_line refusal b e =
      report_front b ∙ ap (λ r. refused_or (or_later r (line_count layout s.cues + 1) None) (text_report same layout s)) e

  report_text : Booked same s.cues → s.stop ≡ None → report_of same layout s ≡ text_report same layout s
  report_text b e =
      report_front b ∙ ap (λ r. refused_or (or_later r (line_count layout s.cues + 1) None) (text_report same layout s)) e

  -- The text's report with its last line.
  text_end : (last : Option Refusal) → s.end ≡ last → text_report same layout s ≡ entry_lines (runs same s.cues s.text) ++ last_line last (line_count layout s.cues + length s.text + 2) (length s.text) (length (runs same s.cues s.text))
  text_end last e =
      ap (λ r. entry_lines (runs same s.cues s.text) ++ last_line r (line_count layout s.cues + length s.text + 2) (length s.text) (length (runs same s.cues s.text))) e

  -- The report is one.
  report_told : Lawful same → Reported same layout s (report_of same layout s)
  report_told lawful =
      ⊎_elim
      (λ (b : Booked same s.cues).
      let listed = runs_lists same lawful s.cues s.text b in
      ⊎_elim
      (λ (n : s.stop ≡ None).
      ⊎_elim
      (λ (m : s.end ≡ None). accepted (runs same s.cues s.text) b n m listed (report_text b n ∙ text_end None m))
      (λ (m : (a : Refusal) × (s.end ≡ Some a)). cut_short m.0 (runs same s.cues s.text) b n m.1 listed (report_text b n ∙ text_end (Some m.0) m.1))
      (cases_option s.end))
      (λ (n : (a : Refusal) × (s.stop ≡ Some a)). line_refused n.0 b n.1 (report_line n.0 b n.1))
      (cases_option s.stop))
      (λ (r : Refused same s.cues).
      cue_refused r.before r.cue r.after r.refusal r.parts r.booked r.refused
      (report_cue r.before r.cue r.after r.refusal r.parts r.booked r.refused))
      (booked_or_refused same [] s.cues (booked_none same))

  -- There is no other.
  report_only : Lawful same → (out : List ℕ) → Reported same layout s out → out ≡ report_of same layout s
  report_only lawful out (cue_refused before c after refusal e b h o) = o ∙ sym (report_cue before c after refusal e b h)
  report_only lawful out (line_refused refusal b e o) = o ∙ sym (report_line refusal b e)
  report_only lawful out (cut_short refusal es b n m l o) =
      let k = lists_only same lawful s.cues s.text es b l in
      o ∙ ap (λ x. entry_lines x ++ refusal_line (number_of refusal) (line_count layout s.cues + length s.text + 2)) k ∙ sym (report_text b n ∙ text_end (Some refusal) m)
  report_only lawful out (accepted es b n m l o) =
      let k = lists_only same lawful s.cues s.text es b l in
      o ∙ ap (λ x. entry_lines x ++ total_line (length s.text) (length x)) k ∙ sym (report_text b n ∙ text_end None m)

pub reported_once : {E : Type 0} (same : E → E → Bool) → Lawful same → (layout : Layout) (s : Contents E) → ReportedOnce same layout s
reported_once same lawful layout s = (report_told same layout s lawful, report_only same layout s lawful)
