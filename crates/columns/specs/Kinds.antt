-- The kinds of as-run event by their letters.
use Rattle.std.specs.Prelude.{◌≡◌, ℕ, Bool, false, cond, ◌||◌, List, length, Some, None, Option, Result, MatchResult, ◌==◌, slice_index}
use Rattle.columns.specs.declared.kind.Kind.{Kind}
use Rattle.columns.specs.declared.kind.Kind.TheVariants.{Spot, Jingle, Music, News, Voice}
use Rattle.columns.specs.declared.kind.UnknownLetter.{UnknownLetter}

-- The letter of a kind: S, J, M, N, V.
abbrev pub letter_of : Kind → ℕ
letter_of Spot = 83
letter_of Jingle = 74
letter_of Music = 77
letter_of News = 78
letter_of Voice = 86

-- The bytes that are letters of a kind.
abbrev pub kind_letter : ℕ → Bool
kind_letter b = b == 83 || (b == 74 || (b == 77 || (b == 78 || b == 86)))

-- The kind with this letter.
abbrev pub kind_of : ℕ → Option Kind
kind_of b =
    cond (b == 83) (Some Spot)
    (cond (b == 74) (Some Jingle)
    (cond (b == 77) (Some Music)
    (cond (b == 78) (Some News)
    (cond (b == 86) (Some Voice) None))))

-- The kind in a field of one letter.
abbrev pub kind_in : List ℕ → Option Kind
kind_in f = cond (length f == 1) (kind_of (slice_index f 0)) None

-- The kind with this letter, or an error with this byte where no kind has it.
abbrev pub HasLetter : ℕ → Result Kind UnknownLetter → Type 0
HasLetter letter r = MatchResult r (λ kind. letter_of kind ≡ letter) (λ e. (e.0 ≡ letter) × (kind_letter letter ≡ false))
