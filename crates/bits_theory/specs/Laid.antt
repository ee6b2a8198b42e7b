-- Cues laid end to end, with one bit for each place (Shift-And, also known as bitap).
use Rattle.std.specs.Prelude.{◌≡◌, ℕ, zero, suc, ◌+◌, ◌*◌, ◌%◌, ◌^◌, ◌<◌, ◌≤◌, true, false, cond, List, [], ◌∷◌, ◌++◌, length, take, ◌==◌, bit_and, bit_or, nat_lt, slice_index_or}
use Rattle.book.specs.Cues.{cue_at, part_of, parts_of}
use Rattle.book.specs.declared.cue.Cue.{Cue}
use Rattle.matching.specs.Match.{ends, live}
use Rattle.bits_theory.specs.Words.{bit}

-- The span of a cue; an empty one where there is no such cue.
abbrev pub span_at : List Cue → ℕ → Cue
span_at spans c = slice_index_or spans c (cue_at 0 0)

-- Each cue has a sign, and lies within the signs.
abbrev pub Spanned : ℕ → List Cue → Type 0
Spanned signs spans = (c : ℕ) → c < length spans → (1 ≤ (span_at spans c).len) × ((span_at spans c).place + (span_at spans c).len ≤ signs)

-- The places where a cue starts, and no other place of a cue.
abbrev pub Starts : ℕ → List Cue → Type 0
Starts firsts spans = (c k : ℕ) → k < (span_at spans c).len → bit firsts ((span_at spans c).place + k) ≡ (k == 0)

-- The places where a cue stops.
abbrev pub Stops : ℕ → List Cue → Type 0
Stops lasts spans = (c k : ℕ) → suc k ≡ (span_at spans c).len → bit lasts ((span_at spans c).place + k) ≡ true

-- No bit is set from a place on.
abbrev pub Clear : ℕ → ℕ → Type 0
Clear word n = (p : ℕ) → n ≤ p → bit word p ≡ false

-- The bit of a cue's first k + 1 signs is set exactly when they end the text.
abbrev pub Exact : ℕ → List ℕ → List Cue → List ℕ → Type 0
Exact state signs spans t = (c k : ℕ) → k < (span_at spans c).len → bit state ((span_at spans c).place + k) ≡ ends (take (suc k) (part_of signs (span_at spans c))) t

-- The length of a cue's longest front whose bit is set, 0 where none is.
abbrev pub top : ℕ → ℕ → ℕ → ℕ
top state place zero = 0
top state place (suc k) = cond (bit state (place + k)) (suc k) (top state place k)

-- That front.
abbrev pub top_front : ℕ → List ℕ → Cue → List ℕ
top_front state signs c = take (top state c.place c.len) (part_of signs c)

abbrev pub longer : List ℕ → List ℕ → List ℕ
longer a b = cond (nat_lt (length a) (length b)) b a

-- The longest front of all cues whose bit is set.
abbrev pub reach : ℕ → List ℕ → List Cue → List ℕ
reach state signs [] = []
reach state signs (c ∷ spans) = longer (reach state signs spans) (top_front state signs c)

-- One step: the bits moved up by one place, with the first place of each cue, as far as the mask has them.
abbrev pub stepped : ℕ → ℕ → ℕ → ℕ
stepped state firsts mask = bit_and (bit_or (state * 2 % 2 ^ 64) firsts) mask

-- The next state is the state of the next live beginning.
pub record Stepped (state next s : ℕ) (signs : List ℕ) (spans : List Cue) : Type 0 where
  pub live : reach next signs spans ≡ live (parts_of signs spans) (reach state signs spans ++ s ∷ [])
  pub exact : Exact next signs spans (reach next signs spans)
