-- How the first line lies in an input, and the lines behind it.
use Rattle.std.proofs.Common.{◌≡◌, ℕ, zero, suc, ◌+◌, ◌-◌, ◌^◌, ◌<◌, ◌≤◌, Bool, true, cond, not, ◌&&◌, eqb, ltb, leb, List, [], ◌∷◌, ◌++◌, length, take, drop, replicate, decimal, sym, refl, ap, ◌∙◌, arith}
use Rattle.std.specs.List.{position_or_len}
use Rattle.std.proofs.lemmas.List.{take-append-drop}
use Rattle.std.proofs.lemmas.Bool.{cond_both}
use Rattle.std.proofs.lemmas.Fmt.{digits_decimal}
use Rattle.columns.specs.Fields.{all_digits}
use Rattle.columns.specs.Written.{number_field}
use Rattle.columns.proofs.Numbers.{own}
use Rattle.columns.specs.Lines.{first_line, lines_of}

-- the first line ends behind the first byte 10
pub first_length : (xs : List ℕ) → length (first_line xs) ≡ cond (ltb (position_or_len (λ b. eqb b 10) xs) (length xs)) (position_or_len (λ b. eqb b 10) xs + 1) (length xs)
first_length [] = refl
first_length (b ∷ bs) = let ih = first_length bs in grind (arith, ih)

-- the first line is the front of the input
pub first_front : (xs : List ℕ) → take (length (first_line xs)) xs ≡ first_line xs
first_front [] = refl
first_front (b ∷ bs) =
    cond_both (eqb b 10) (b ∷ []) (b ∷ first_line bs) (λ l. take (length l) (b ∷ bs) ≡ l) (λ e. refl) (λ e. ap (λ l. b ∷ l) (first_front bs))

pub first_le : (xs : List ℕ) → length (first_line xs) ≤ length xs
first_le [] = omega arith
first_le (b ∷ bs) = grind (arith, first_le bs)

pub first_some : (xs : List ℕ) → 0 < length xs → 0 < length (first_line xs)
first_some [] h = h
first_some (b ∷ bs) h = grind arith

-- the lines of an input that is not empty are its first line and the lines of the rest
lines_on : (b : ℕ) (bs : List ℕ) → lines_of (b ∷ bs) ≡ first_line (b ∷ bs) ∷ lines_of (drop (length (first_line (b ∷ bs))) (b ∷ bs))
lines_on b [] = grind arith
lines_on b (c ∷ cs) = let ih = lines_on c cs in grind (arith, ih)

pub lines_split : (xs : List ℕ) → 0 < length xs → lines_of xs ≡ first_line xs ∷ lines_of (drop (length (first_line xs)) xs)
lines_split [] h = grind arith
lines_split (b ∷ bs) h = lines_on b bs

pub lines_none : (xs : List ℕ) → length xs ≡ 0 → lines_of xs ≡ []
lines_none [] h = refl
lines_none (b ∷ bs) h = grind arith

pub first_rest : (xs : List ℕ) → first_line xs ++ drop (length (first_line xs)) xs ≡ xs
first_rest xs = ap (λ ys. ys ++ drop (length (first_line xs)) xs) (sym (first_front xs)) ∙ take-append-drop (length (first_line xs)) xs

-- a text with no byte 10 in it
abbrev pub unbroken : List ℕ → Bool
unbroken [] = true
unbroken (b ∷ bs) = not (eqb b 10) && unbroken bs

pub first_text : (t rest : List ℕ) → unbroken t ≡ true → first_line (t ++ (10 ∷ rest)) ≡ t ++ (10 ∷ [])
first_text [] rest h = refl
first_text (b ∷ bs) rest h = grind (arith, first_text bs rest)

pub lines_text : (t rest : List ℕ) → unbroken t ≡ true → lines_of (t ++ (10 ∷ rest)) ≡ (t ++ (10 ∷ [])) ∷ lines_of rest
lines_text [] rest h = refl
lines_text (b ∷ bs) rest h = grind (arith, lines_text bs rest)

pub unbroken_append : (s t : List ℕ) → unbroken s ≡ true → unbroken t ≡ true → unbroken (s ++ t) ≡ true
unbroken_append [] t hs ht = ht
unbroken_append (b ∷ bs) t hs ht = grind (arith, unbroken_append bs t)

unbroken_replicate : (n b : ℕ) → (b ≡ 10 → ⊥) → unbroken (replicate n b) ≡ true
unbroken_replicate zero b h = refl
unbroken_replicate (suc n) b h = grind (arith, unbroken_replicate n b h)

unbroken_digits : (ds : List ℕ) → all_digits ds ≡ true → unbroken ds ≡ true
unbroken_digits [] h = refl
unbroken_digits (b ∷ bs) h = grind (arith, unbroken_digits bs)

pub unbroken_number : (width n : ℕ) → n < 2 ^ 64 → unbroken (number_field width n) ≡ true
unfolding number_field
unbroken_number width n h =
    cond_both (leb (length (decimal n)) width) _ _ (λ (ys : List ℕ). unbroken ys ≡ true)
    (λ _. unbroken_append (replicate (width - length (decimal n)) 32) (decimal n) (unbroken_replicate (width - length (decimal n)) 32 (omega arith)) (unbroken_digits (decimal n) (digits_decimal own n h)))
    (λ _. unbroken_replicate width 42 (omega arith))
