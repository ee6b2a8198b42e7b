-- The worked log, told by events alone.
use Rattle.std.specs.Prelude.{◌≡◌, List, [], ◌∷◌}
use Rattle.columns.specs.AsRuns.{Values, same_values}
use Rattle.script.specs.Runs.{runs}

-- The log J10 S20 J10 S20 M5: second, kind letter, cart.
abbrev pub log_events : List Values
log_events = (100, 74, 10) ∷ (130, 83, 20) ∷ (160, 74, 10) ∷ (190, 83, 20) ∷ (220, 77, 5) ∷ []

-- The five runs of the cues J10 S20; S20; S20 J10 in it.
abbrev pub LogRuns : Type 0
LogRuns = runs same_values (((0, 74, 10) ∷ (0, 83, 20) ∷ []) ∷ ((0, 83, 20) ∷ []) ∷ ((0, 83, 20) ∷ (0, 74, 10) ∷ []) ∷ []) log_events ≡ (1, 0, 2) ∷ (1, 1, 1) ∷ (2, 2, 2) ∷ (3, 0, 2) ∷ (3, 1, 1) ∷ []
