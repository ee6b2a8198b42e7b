-- From what is read to what is written.
use Rattle.std.proofs.Common.{◌≡◌, ℕ, ◌<◌, ◌≤◌, List, [], ◌∷◌, ◌++◌, length, Some, None, sym, refl, ap, ◌∙◌, append-nil, IfOk, Result, arith, length-append}
use Rattle.std.proofs.lemmas.Bool.{cond-true, cond-false}
use Rattle.events.specs.Sameness.{Lawful}
use Rattle.columns.specs.AsRuns.{same_as_run, same_values, values_of}
use Rattle.columns.specs.declared.asrun.AsRun.{AsRun}
use Rattle.script.proofs.Answering.{answered_once}
use Rattle.script.proofs.Listing.{runs_lists}
use Rattle.script.proofs.Mapped.{report_map}
use Rattle.script.specs.Answered.{longest_input, reported, too_long_report}
use Rattle.script.specs.Report.{Contents, map_contents, report_of}
use Rattle.script.specs.Runs.{runs}
use Rattle.script.specs.Told.{accepted, cut_short}
use Rattle.script.specs.declared.contents.Layout.TheVariants.{PerEvent}
use Rattle.airing_report.proofs.Once.{reads_once}
use Rattle.airing_report.specs.Inputs.{Reads, cue_texts, log_text, parted, whole, cut_short as cut}
use Rattle.airing_report.specs.Reading.{read_airings}
use Rattle.airing_report.specs.Reported.{airings_report, AiringsOnce, Shorter}

lawful : Lawful same_values
lawful = record { reflexive = λ x. grind arith; symmetric = λ x y. grind arith; transitive = λ x y z p q. grind arith }

-- What is answered for a long input and for a short one is the report of each input.
pub airings_out : {V X : Type 0} (r : Result V X) (items : V → List ℕ) (xs : List ℕ) →
    (longest_input < length xs → IfOk r (λ v. items v ≡ too_long_report)) → (length xs ≤ longest_input → IfOk r (λ v. items v ≡ report_of same_values PerEvent (read_airings xs))) →
    IfOk r (λ v. items v ≡ airings_report xs)
airings_out r items xs long short = grind (arith, cond-true, cond-false)

-- The same report, over the events as the code has them.
pub said_report : (xs : List ℕ) (s : Contents AsRun) → map_contents values_of s ≡ read_airings xs → report_of same_as_run PerEvent s ≡ report_of same_values PerEvent (read_airings xs)
said_report xs s says = sym (report_map same_as_run same_values values_of (λ x y. refl) PerEvent s) ∙ ap (report_of same_values PerEvent) says

pub airings_once : (xs : List ℕ) → AiringsOnce xs
airings_once xs = answered_once same_values PerEvent read_airings Reads xs lawful (reads_once xs)

pub shorter : (xs : List ℕ) → Shorter xs
shorter xs cues log rest refusal readable proper booked short split some bad =
    let es = runs same_values cues log in
    let list = runs_lists same_values lawful cues log booked in
    let front = cue_texts 0 cues ++ (10 ∷ log_text log) in
    let nothing : cue_texts 0 cues ++ (10 ∷ log_text log) ≡ cue_texts 0 cues ++ (10 ∷ (log_text log ++ [])) = ap (λ z. cue_texts 0 cues ++ (10 ∷ z)) (sym (append-nil (log_text log))) in
    let fits : length (cue_texts 0 cues ++ (10 ∷ log_text log)) ≤ longest_input =
    omega (arith, ap length split, length-append (cue_texts 0 cues) (10 ∷ (log_text log ++ rest)), length-append (log_text log) rest, length-append (cue_texts 0 cues) (10 ∷ log_text log)) in (
      es,
      sym ((airings_once (cue_texts 0 cues ++ (10 ∷ log_text log))).1 _
          (reported fits (record { cues = cues; stop = None; text = log; end = None }) (parted [] readable proper nothing refl (whole refl refl)) (accepted es booked refl refl list refl))),
      sym ((airings_once xs).1 _
          (reported short (record { cues = cues; stop = None; text = log; end = Some refusal }) (parted rest readable proper split refl (cut refusal some bad refl)) (cut_short refusal es booked refl refl list refl))),
    )
