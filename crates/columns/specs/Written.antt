-- The lines of the input and of what the programs write, as lists of bytes.
use Rattle.std.specs.Prelude.{ℕ, ◌-◌, cond, List, [], ◌∷◌, ◌++◌, length, replicate, decimal, nat_le}

-- A number in a field: its decimal digits with blanks in front; one too wide fills the field with `*`.
unfoldable pub number_field : ℕ → ℕ → List ℕ
number_field width n =
    cond (nat_le (length (decimal n)) width) (replicate (width - length (decimal n)) 32 ++ decimal n) (replicate width 42)

-- A cue line of the input: cue number 1 to 4, blank, kind letter 6, blank, cart 8 to 13.
unfoldable pub cue_line : ℕ → ℕ → ℕ → List ℕ
cue_line number letter cart = number_field 4 number ++ (32 ∷ (letter ∷ (32 ∷ (number_field 6 cart ++ (10 ∷ [])))))

-- A log line of the input: second 1 to 5, blank, kind letter 7, blank, cart 9 to 14.
unfoldable pub log_line : ℕ → ℕ → ℕ → List ℕ
log_line second letter cart = number_field 5 second ++ (32 ∷ (letter ∷ (32 ∷ (number_field 6 cart ++ (10 ∷ [])))))

-- A sighting: place 1 to 7, blank, cue 9 to 12, blank, length 14 to 15.
unfoldable pub entry_line : ℕ → ℕ → ℕ → List ℕ
entry_line place cue len = number_field 7 place ++ (32 ∷ (number_field 4 cue ++ (32 ∷ (number_field 2 len ++ (10 ∷ [])))))

-- The totals: events 1 to 7, blank, sightings 9 to 15.
unfoldable pub total_line : ℕ → ℕ → List ℕ
total_line events sightings = number_field 7 events ++ (32 ∷ (number_field 7 sightings ++ (10 ∷ [])))

-- A refusal: number 1 to 2, blank, line number 4 to 10.
unfoldable pub refusal_line : ℕ → ℕ → List ℕ
refusal_line number line = number_field 2 number ++ (32 ∷ (number_field 7 line ++ (10 ∷ [])))
