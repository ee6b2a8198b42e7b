-- What the cue lines of an input say: the lines up to the parting line.
use Rattle.std.specs.Prelude.{ℕ, suc, cond, List, [], ◌∷◌, ◌++◌, map, length, Some, None, Ok, Err, Option, Result, ◌==◌}
use Rattle.std.specs.Borrow.{Bor}
use Rattle.events.specs.declared.Refusal.{Refusal}
use Rattle.events.specs.declared.Refusal.TheVariants.{Unreadable, Misnumbered}
use Rattle.columns.specs.AsRuns.{Values, values_of}
use Rattle.columns.specs.Lines.{Fields, cue, log, parting, lines_of, read_line, cue_says}
use Rattle.columns.specs.declared.asrun.AsRun.{AsRun}
use Rattle.columns.specs.declared.line.Section.TheVariants.{Cues}
use Rattle.script.specs.Listed.{behind_last, cues_of}
use Rattle.script.specs.declared.cues.Cues.{Cues as CuesOf}
use Rattle.cue_lines.specs.declared.row.Row.{Row}
use Rattle.cue_lines.specs.declared.row.Row.TheVariants.{More, Next, Parting}

-- What a line in front of the parting line is, where so many cues have begun before it: an event of the
-- last of these cues or of the next one, the parting line, or refused.
pub data Step : Type 0 where
  more : Values → Step
  next : Values → Step
  parts : Step
  refused : Refusal → Step

-- A cue line's number is the last cue's or one more; the first is 0. Its event has second 0.
abbrev pub numbered : ℕ → Option Values → Step
numbered cues None = refused (Unreadable 0)
numbered cues (Some q) =
    cond (suc q.0 == cues) (more (0, q.1, q.2)) (cond (q.0 == cues) (next (0, q.1, q.2)) (refused Misnumbered))

abbrev pub step_from : ℕ → Result Fields Refusal → Step
step_from cues (Ok (cue n k c)) = numbered cues (cue_says (cue n k c))
step_from cues (Ok (log s k c)) = refused (Unreadable 0)
step_from cues (Ok parting) = parts
step_from cues (Err refusal) = refused refusal

abbrev pub step_of : ℕ → List ℕ → Step
step_of cues line = step_from cues (read_line Cues line)

-- The cues with the event of such a line.
abbrev pub grown : Step → List (List Values) → List (List Values)
grown (more e) cues = behind_last cues e
grown (next e) cues = cues ++ (e ∷ []) ∷ []
grown parts cues = cues
grown (refused r) cues = cues

-- What stands behind the cue lines: the parting line and these lines behind it, or a line that is refused.
pub data Rest : Type 0 where
  lines_left : List (List ℕ) → Rest
  stopped : Refusal → Rest

-- Such a line behind these cues and in front of these lines: where it has an event, what is read goes on.
abbrev pub read_step : Step → List (List Values) → List (List ℕ) → List (List Values) × Rest → List (List Values) × Rest
read_step (more e) cues ls further = further
read_step (next e) cues ls further = further
read_step parts cues ls further = (cues, lines_left ls)
read_step (refused r) cues ls further = (cues, stopped r)

-- The cues that lines say, behind those read before, and what stands behind their lines. Where no line is
-- left, that is as a line that is not readable.
abbrev pub read_cues : List (List Values) → List (List ℕ) → List (List Values) × Rest
read_cues cues [] = (cues, stopped (Unreadable 0))
read_cues cues (l ∷ ls) = read_step (step_of (length cues) l) cues ls (read_cues (grown (step_of (length cues) l) cues) ls)

-- What the code's `Cues` says, and its answers for a line and for what stands behind the cue lines.
abbrev pub values_in : CuesOf AsRun → List (List Values)
values_in cues = map (map values_of) (cues_of cues)

abbrev pub step_of_row : Result Row Refusal → Step
step_of_row (Ok (More e)) = more (values_of e)
step_of_row (Ok (Next e)) = next (values_of e)
step_of_row (Ok Parting) = parts
step_of_row (Err refusal) = refused refusal

abbrev pub rest_of : Result (Bor (List ℕ)) Refusal → Rest
rest_of (Ok bytes) = lines_left (lines_of bytes.now)
rest_of (Err refusal) = stopped refusal
