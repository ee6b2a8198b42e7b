-- Fields of a line, as lists of bytes: 32 is a blank, 48 to 57 are the decimal digits.
use Rattle.std.specs.Prelude.{◌≡◌, ℕ, ◌+◌, ◌-◌, ◌*◌, ◌<◌, ◌≤◌, Bool, true, false, cond, not, ◌&&◌, List, [], ◌∷◌, length, Some, None, decimal, Option, ◌==◌, nat_le, nat_lt}
use Rattle.columns.specs.Written.{number_field}

-- What is left of a field behind its leading blanks.
abbrev pub unblanked : List ℕ → List ℕ
unblanked [] = []
unblanked (b ∷ bs) = cond (b == 32) (unblanked bs) (b ∷ bs)

abbrev pub all_digits : List ℕ → Bool
all_digits [] = true
all_digits (b ∷ bs) = (nat_le 48 b && nat_le b 57) && all_digits bs

-- One or more decimal digits; a first digit 0 stands only alone.
abbrev pub numeral : List ℕ → Bool
numeral [] = false
numeral (b ∷ []) = all_digits (b ∷ [])
numeral (b ∷ (c ∷ bs)) = not (b == 48) && all_digits (b ∷ (c ∷ bs))

-- The number that digits say, behind the number n said so far.
abbrev pub value_from : ℕ → List ℕ → ℕ
value_from n [] = n
value_from n (b ∷ bs) = value_from (n * 10 + (b - 48)) bs

-- The number that digits say, where it is below the limit.
abbrev pub digits_below : ℕ → List ℕ → Option ℕ
digits_below limit ds = cond (all_digits ds && nat_lt (value_from 0 ds) limit) (Some (value_from 0 ds)) None

-- A number field is blanks and then a numeral that ends in the field's last column.
-- Its value where that is below the limit.
unfoldable pub number_below : ℕ → List ℕ → Option ℕ
number_below limit field =
    cond (numeral (unblanked field) && nat_lt (value_from 0 (unblanked field)) limit) (Some (value_from 0 (unblanked field))) None

-- A field is read as a number below the limit exactly when it is what is written of that number in the field's width.
abbrev pub ReadsWritten : ℕ → List ℕ → Type 0
ReadsWritten limit field =
    (n : ℕ) →
    n < limit →
    (number_below limit field ≡ Some n → number_field (length field) n ≡ field) ×
    (length (decimal n) ≤ length field → number_field (length field) n ≡ field → number_below limit field ≡ Some n)
