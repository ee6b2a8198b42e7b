-- What a table means, and what holds while it is built.
use Rattle.std.specs.Prelude.{◌≡◌, ℕ, ◌+◌, ◌≤◌, true, List, length, vec_items, vec_capacity}
use Rattle.book.specs.Cues.{AllWithin, parts_of}
use Rattle.book.specs.declared.cue.Cue.{Cue}
use Rattle.matching.specs.Calls.{total}
use Rattle.matching.specs.Match.{distinct, sightings}
use Rattle.links_theory.specs.Entries.{path, Sound, Growing, done, Ready}
use Rattle.links.specs.declared.table.Table.{Table}

-- the cues of a table
abbrev pub cues_in : Table → List (List ℕ)
cues_in t = parts_of (vec_items t.signs) (vec_items t.cues)

-- the sightings of an entry
abbrev pub seen_at : Table → ℕ → List (ℕ × ℕ)
seen_at t at = sightings (cues_in t) (path (cues_in t) (vec_items t.nodes) at)

abbrev pub SoundIn : Table → Type 0
SoundIn t = Sound (cues_in t) (vec_items t.nodes) t.heads.value

abbrev pub GrowingIn : Table → ℕ → ℕ → Type 0
GrowingIn t k i = Growing (cues_in t) (vec_items t.nodes) t.heads.value (vec_items t.places) k i

-- the lists that a build leaves alone, and the memory
pub record Kept (t u : Table) : Type 0 where
  pub signs : u.signs ≡ t.signs
  pub cues : u.cues ≡ t.cues
  pub nodes : vec_capacity u.nodes ≡ vec_capacity t.nodes
  pub places : vec_capacity u.places ≡ vec_capacity t.places

-- the memory of each list stays as it is
pub record SameRoom (t u : Table) : Type 0 where
  pub signs : vec_capacity u.signs ≡ vec_capacity t.signs
  pub cues : vec_capacity u.cues ≡ vec_capacity t.cues
  pub nodes : vec_capacity u.nodes ≡ vec_capacity t.nodes
  pub places : vec_capacity u.places ≡ vec_capacity t.places

-- a build at level k and cue i
pub record Building (t : Table) (k i : ℕ) : Type 0 where
  pub growing : GrowingIn t k i
  pub few : length (vec_items t.nodes) ≤ 1 + done k i (cues_in t)
  pub fits : total (cues_in t) ≤ 1024
  pub within : AllWithin (length (vec_items t.signs)) (vec_items t.cues)
  pub numbers : length (vec_items t.cues) ≤ 128

abbrev pub ReadyIn : Table → ℕ → Type 0
ReadyIn t at = Ready (cues_in t) (vec_items t.nodes) t.heads.value at

-- what a book promises of its cues
pub record Bookable (signs : List ℕ) (cues : List Cue) : Type 0 where
  pub fits : total (parts_of signs cues) ≤ 1024
  pub within : AllWithin (length signs) cues
  pub numbers : length cues ≤ 128
  pub short : length signs ≤ 2048
  pub apart : distinct (parts_of signs cues) ≡ true
