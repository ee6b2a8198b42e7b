-- The bits of a word.
use Rattle.std.specs.Prelude.{◌≡◌, ℕ, ◌/◌, ◌%◌, ◌^◌, ◌<◌, Bool, ◌&&◌, List, length, ◌==◌, nat_lt, slice_index}

-- The bit at a place is set; the lowest has place 0.
unfoldable pub bit : ℕ → ℕ → Bool
bit word p = word / 2 ^ p % 2 == 1

-- A table of words by the key of a sign (one half of it): the bits of a key's word are the places of
-- the signs that have the key.
abbrev pub Marked : (ℕ → ℕ) → List ℕ → List ℕ → Type 0
Marked key signs table = (v p : ℕ) → v < 256 → bit (slice_index table v) p ≡ (nat_lt p (length signs) && key (slice_index signs p) == v)

abbrev pub low_key : ℕ → ℕ
low_key sign = sign % 256

abbrev pub high_key : ℕ → ℕ
high_key sign = sign / 256
