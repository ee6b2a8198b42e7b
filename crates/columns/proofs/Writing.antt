-- Writing a number from its last digit: a field of one digit, and a field with one digit more.
use Rattle.std.proofs.Common.{◌≡◌, ℕ, ◌+◌, ◌-◌, ◌/◌, ◌%◌, ◌^◌, ◌<◌, ◌≤◌, leb, List, [], ◌∷◌, ◌++◌, length, replicate, decimal, sym, ap, ◌∙◌, arith}
use Rattle.std.proofs.lemmas.Fmt.{decimal_step, decimal_digit}
use Rattle.std.proofs.lemmas.List.{append_assoc, length_push, length-append, length-replicate}
use Rattle.std.proofs.lemmas.Bool.{cond_both, cond-true, le-leb}
use Rattle.columns.specs.Written.{number_field}

pub digit_length : (n : ℕ) → n < 10 → length (decimal n) ≡ 1
digit_length n h = ap length (decimal_digit n h)

pub digits_length : (n : ℕ) → 10 ≤ n → n < 2 ^ 64 → length (decimal n) ≡ length (decimal (n / 10)) + 1
digits_length n ten small = ap length (decimal_step n ten small) ∙ length_push (decimal (n / 10)) (48 + n % 10)

pub digit_written : (w n : ℕ) → n < 10 → replicate w 32 ++ ((48 + n % 10) ∷ []) ≡ number_field (w + 1) n
unfolding number_field
digit_written w n h =
    let fits : length (decimal n) ≤ w + 1 = omega (arith, digit_length n h) in
    let k : w ≡ w + 1 - length (decimal n) = omega (arith, digit_length n h) in
    let d : n % 10 ≡ n = omega arith in
    ap (λ m. replicate w 32 ++ ((48 + m) ∷ [])) d
    ∙ (ap (λ ds. replicate w 32 ++ ds) (sym (decimal_digit n h)) ∙ (ap (λ m. replicate m 32 ++ decimal n) k ∙ sym (cond-true _ _ _ (le-leb _ _ fits))))

pub digits_written : (w n : ℕ) → 10 ≤ n → n < 2 ^ 64 → length (decimal (n / 10)) ≤ w → number_field w (n / 10) ++ ((48 + n % 10) ∷ []) ≡ number_field (w + 1) n
unfolding number_field
digits_written w n ten small le =
    let m : ℕ = n / 10 in
    let d : List ℕ = (48 + n % 10) ∷ [] in
    let fits : length (decimal n) ≤ w + 1 = omega (arith, digits_length n ten small) in
    let k : w - length (decimal m) ≡ w + 1 - length (decimal n) = omega (arith, digits_length n ten small) in
    ap (λ ys. ys ++ d) (cond-true _ _ _ (le-leb _ _ le))
    ∙ (append_assoc (replicate (w - length (decimal m)) 32) (decimal m) d
    ∙ (ap (λ ys. replicate (w - length (decimal m)) 32 ++ ys) (sym (decimal_step n ten small))
    ∙ (ap (λ j. replicate j 32 ++ decimal n) k ∙ sym (cond-true _ _ _ (le-leb _ _ fits)))))

pub length_number : (width n : ℕ) → length (number_field width n) ≡ width
unfolding number_field
length_number width n =
    cond_both (leb (length (decimal n)) width) _ _ (λ (ys : List ℕ). length ys ≡ width)
    (λ e. simp (length-append, length-replicate) (grind arith))
    (λ e. length-replicate width 42)
