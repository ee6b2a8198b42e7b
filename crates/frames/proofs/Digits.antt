-- One byte more in a word whose digits are read modulo m.
use Rattle.std.proofs.Common.{◌≡◌, ◌%◌, ℕ, ◌+◌, ◌-◌, ◌*◌, ◌∙◌, true, false, cond, List, [], ◌∷◌, ◌++◌, refl, ap, sym}
use Rattle.std.specs.List.{filter}
use Rattle.std.proofs.lemmas.List.Elements.{filter-append}
use Rattle.std.proofs.lemmas.Nat.{mul-mod}
use Rattle.std.proofs.Math.Nat.{mod-mod, mod-add-mod}
use Rattle.columns.specs.Fields.{value_from}
use Rattle.frames.specs.Words.{digits_value, is_digit}

value_from-append : (n : ℕ) (xs ys : List ℕ) → value_from n (xs ++ ys) ≡ value_from (value_from n xs) ys
value_from-append n [] ys = refl
value_from-append n (x ∷ xs) ys = value_from-append (n * 10 + (x - 48)) xs ys

-- what the digits say with one byte more
digits_value-append : (xs : List ℕ) (x : ℕ) → digits_value (xs ++ x ∷ []) ≡ value_from (digits_value xs) (filter is_digit (x ∷ []))
digits_value-append xs x = ap (value_from 0) (filter-append is_digit xs (x ∷ [])) ∙ value_from-append 0 (filter is_digit xs) _

pub digit_more : (m : ℕ) (xs : List ℕ) (x : ℕ) → is_digit x ≡ true → ((digits_value xs % m) * 10 % m + (x - 48)) % m ≡ digits_value (xs ++ x ∷ []) % m
digit_more m xs x d =
    ap (λ t. (t + (x - 48)) % m) (mul-mod (digits_value xs % m) 10 m ∙ ap (λ t. (t * (10 % m)) % m) (mod-mod (digits_value xs) m) ∙ sym (mul-mod (digits_value xs) 10 m)) ∙
    mod-add-mod (digits_value xs * 10) m (x - 48) ∙
    sym (ap (λ v. v % m) (digits_value-append xs x ∙ ap (λ t. value_from (digits_value xs) (cond t (x ∷ []) [])) d))

pub other_more : (m : ℕ) (xs : List ℕ) (x : ℕ) → is_digit x ≡ false → digits_value xs % m ≡ digits_value (xs ++ x ∷ []) % m
other_more m xs x d = sym (ap (λ v. v % m) (digits_value-append xs x ∙ ap (λ t. value_from (digits_value xs) (cond t (x ∷ []) [])) d))
