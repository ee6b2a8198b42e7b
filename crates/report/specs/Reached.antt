-- A watch on its way through a text, and what is written of it.
use Rattle.std.specs.Prelude.{◌≡◌, ℕ, List, [], ◌++◌, length}
use Rattle.book.specs.declared.entry.Entry.{Entry}
use Rattle.columns.specs.Written.{entry_line}
use Rattle.engine.specs.declared.Engine.{Ghosts}
use Rattle.matching.specs.Calls.{Call, account}
use Rattle.script.specs.Report.{entry_lines}
use Rattle.script.specs.Runs.{sign_runs}
use Rattle.watch.specs.After.{After}
use Rattle.watch.specs.declared.watch.Watch.{Watch}

-- Some calls led to the watch; they come to these cues and this text.
pub record Reached {L : Type 0} (m : Ghosts L) (w : Watch L) (cues : List (List ℕ)) (text : List ℕ) : Type 0 where
  pub calls : List Call
  pub after : After m calls w
  pub same_cues : (account m.CAPACITY calls).cues ≡ cues
  pub same_text : (account m.CAPACITY calls).text ≡ text

-- The line of an entry.
abbrev pub entry_text : Entry → List ℕ
entry_text e = entry_line e.place e.cue e.len

-- A line for each sighting of these signs, behind what was written before; there are n.
pub record Wrote (cues : List (List ℕ)) (signs old new : List ℕ) (n : ℕ) : Type 0 where
  pub lines : new ≡ old ++ entry_lines (sign_runs cues [] signs)
  pub count : n ≡ length (sign_runs cues [] signs)
