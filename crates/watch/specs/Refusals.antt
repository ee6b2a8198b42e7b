-- When the watch refuses.
use Rattle.std.specs.Prelude.{ℕ, cond, List, Some, None, Option, nat_lt}
use Rattle.events.specs.declared.Refusal.{Refusal}
use Rattle.events.specs.declared.Refusal.TheVariants.{OverCapacity, ManyEndings, FullText}
use Rattle.matching.specs.Calls.{total, few_endings}
use Rattle.matching.specs.Follow.{longest_text}

-- A load: where the cues have more signs in all than the engine has room for, or else some cue has
-- more than 32 cues as endings, itself counted.
abbrev pub load_refused : ℕ → List (List ℕ) → Option Refusal
load_refused room cues = cond (nat_lt room (total cues)) (Some OverCapacity) (cond (few_endings cues cues) None (Some ManyEndings))

-- A sign behind a text of so many signs.
abbrev pub take_refused : ℕ → Option Refusal
take_refused len = cond (nat_lt len longest_text) None (Some FullText)
