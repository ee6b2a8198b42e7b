-- The number that the digits among the bytes of a word say.
use Rattle.std.specs.Prelude.{ℕ, Bool, ◌&&◌, List, filter, nat_le}
use Rattle.columns.specs.Fields.{value_from}

abbrev pub is_digit : ℕ → Bool
is_digit b = nat_le 48 b && nat_le b 57

abbrev pub digits_value : List ℕ → ℕ
digits_value word = value_from 0 (filter is_digit word)
