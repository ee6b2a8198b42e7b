-- From what is read to what is written.
use Rattle.std.proofs.Common.{◌≡◌, ℕ, ◌+◌, true, cond, List, ◌∙◌, arith}
use Rattle.events.specs.Sameness.{Lawful, capital, same_bytes}
use Rattle.script.proofs.Answering.{answered_once}
use Rattle.script.specs.declared.contents.Layout.TheVariants.{PerCue}
use Rattle.note_report.proofs.Once.{reads_once}
use Rattle.note_report.specs.Inputs.{Reads}
use Rattle.note_report.specs.Reading.{read_notes}
use Rattle.note_report.specs.Reported.{NotesOnce}

-- A letter as its small letter; bytes are the same where these are equal.
small : ℕ → ℕ
small b = cond (capital b) (b + 32) b

same_small : (x y : ℕ) → same_bytes x y ≡ true → small x ≡ small y
unfolding small
same_small x y h = grind arith

small_same : (x y : ℕ) → small x ≡ small y → same_bytes x y ≡ true
unfolding small
small_same x y h = grind arith

lawful : Lawful same_bytes
lawful =
    record {
      reflexive = λ x. grind arith;
      symmetric = λ x y. grind arith;
      transitive = λ x y z p q. small_same x z (same_small x y p ∙ same_small y z q);
    }

pub notes_once : (xs : List ℕ) → NotesOnce xs
notes_once xs = answered_once same_bytes PerCue read_notes Reads xs lawful (reads_once xs)
