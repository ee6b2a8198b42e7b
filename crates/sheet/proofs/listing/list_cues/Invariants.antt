use Rattle.std.proofs.Common.{◌≡◌, ℕ, ◌++◌, take, drop, vec_items, sum, Option}
use Rattle.events.specs.declared.Refusal.{Refusal}
use Rattle.book.specs.Held.{draft_held, Signed}
use Rattle.columns.specs.AsRuns.{same_as_run}
use Rattle.script.specs.Booking.{cues_at}
use Rattle.sheet.specs.Report.{listing}
use Rattle.sheet.proofs.listing.list_cues.Given as goal

abbrev pub invariant-loop-len : goal.invariant-loop-len
invariant-loop-len l =
    (l.place ≡ sum (take l.len-index l.lens)) ×
    ((lines : ℕ) (stop : Option Refusal) →
    vec_items l.out ++ listing same_as_run (draft_held l.draft) (cues_at l.place (drop l.len-index l.lens)) lines stop ≡
    vec_items l.initial.out ++ listing same_as_run (draft_held l.initial.draft) (cues_at 0 l.lens) lines stop) ×
    Signed same_as_run (draft_held l.draft)
