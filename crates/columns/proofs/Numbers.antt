-- Number fields: steps of the loops that read one, and that reading undoes writing.
use Rattle.std.proofs.Common.{◌≡◌, ℕ, zero, suc, ◌+◌, ◌-◌, ◌*◌, ◌^◌, ◌<◌, ◌≤◌, true, false, cond, ◌&&◌, eqb, ltb, leb, List, [], ◌∷◌, ◌++◌, length, get_or, drop, replicate, IfSome, Some, None, decimal, Option, sym, refl, ap, ◌∙◌, subst, ⊎_elim, arith, rules}
use Rattle.std.specs.List.{prefix_len}
use Rattle.std.proofs.lemmas.Fmt.{decimal-digits_value, digits_value-decimal, digits_decimal, first_decimal, decimal_digit, decimal_nonempty}
use Rattle.std.proofs.lemmas.Str.Parse.{IsNumeralModel, numerals_by_fold}
use Rattle.std.proofs.lemmas.Bool.{cond_both, cond-true, le-leb, cases_lt}
use Rattle.columns.specs.Fields.{unblanked, all_digits, numeral, value_from, digits_below, number_below, ReadsWritten}
use Rattle.columns.specs.Written.{number_field}

-- the blanks in front are as many as stand before the first other byte
pub unblanked_rest : (f : List ℕ) → drop (prefix_len (λ b. eqb b 32) f) f ≡ unblanked f
unblanked_rest [] = refl
unblanked_rest (b ∷ bs) =
    let n = prefix_len (λ x. eqb x 32) bs in
    elim (eqb b 32) as (λ v. drop (cond v (1 + n) 0) (b ∷ bs) ≡ cond v (unblanked bs) (b ∷ bs)) [
      | true ↦ let k : 1 + n ≡ suc n = omega arith in ap (λ m. drop m (b ∷ bs)) k ∙ unblanked_rest bs
      | false ↦ refl
    ]

pub value_grows : (n : ℕ) (ds : List ℕ) → n ≤ value_from n ds
value_grows n [] = omega arith
value_grows n (b ∷ bs) = omega (arith, value_grows (n * 10 + (b - 48)) bs)

pub own : IsNumeralModel (λ ds. all_digits ds ≡ true) (value_from 0)
own = numerals_by_fold _ (search rules) value_from (search rules)

unblanked_le : (f : List ℕ) → length (unblanked f) ≤ length f
unblanked_le [] = omega arith
unblanked_le (b ∷ bs) = grind (arith, unblanked_le bs)

-- a field is blanks and what stands behind them
unblanked_is : (f : List ℕ) → replicate (length f - length (unblanked f)) 32 ++ unblanked f ≡ f
unblanked_is [] = refl
unblanked_is (b ∷ bs) =
    cond_both (eqb b 32) (unblanked bs) (b ∷ bs) (λ u. replicate (suc (length bs) - length u) 32 ++ u ≡ b ∷ bs)
    (λ e. let le = unblanked_le bs in let k : suc (length bs) - length (unblanked bs) ≡ suc (length bs - length (unblanked bs)) = omega arith in rw k (let ih = unblanked_is bs in grind (arith, ih)))
    (λ e. let k : suc (length bs) - suc (length bs) ≡ 0 = omega arith in rw k refl)

-- digits have no blank in front
unblanked_digits : (k : ℕ) (ds : List ℕ) → all_digits ds ≡ true → unblanked (replicate k 32 ++ ds) ≡ ds
unblanked_digits zero [] h = refl
unblanked_digits zero (b ∷ bs) h = grind arith
unblanked_digits (suc k) ds h = unblanked_digits k ds h

numeral_parts : (ds : List ℕ) → numeral ds ≡ true → (all_digits ds ≡ true) × (0 < length ds) × (get_or ds 0 0 ≡ 48 → length ds ≡ 1)
numeral_parts [] h = grind arith
numeral_parts (b ∷ []) h = grind arith
numeral_parts (b ∷ (c ∷ bs)) h = grind arith

numeral_from : (ds : List ℕ) → 0 < length ds → (get_or ds 0 0 ≡ 48 → length ds ≡ 1) → numeral ds ≡ all_digits ds
numeral_from [] h first = grind arith
numeral_from (b ∷ []) h first = refl
numeral_from (b ∷ (c ∷ bs)) h first = grind arith

numeral_decimal : (n : ℕ) → n < 2 ^ 64 → numeral (decimal n) ≡ true
numeral_decimal n h =
    let first : get_or (decimal n) 0 0 ≡ 48 → length (decimal n) ≡ 1 = λ e. ⊎_elim (λ (z : n < 1). ap length (decimal_digit n (omega arith))) (λ (p : 1 ≤ n). omega (arith, first_decimal n (omega arith) h)) (cases_lt n 1) in
    numeral_from (decimal n) (decimal_nonempty n h) first ∙ digits_decimal own n h

-- what is read of a field, by its digits
pub number_none : (limit : ℕ) (f : List ℕ) → numeral (unblanked f) ≡ false → number_below limit f ≡ None
unfolding number_below
number_none limit f e = grind arith

pub number_below_lem : (limit : ℕ) (f : List ℕ) (r : Option ℕ) → r ≡ number_below limit f → IfSome r (λ n. n < limit)
unfolding number_below
number_below_lem limit f None e = tt
number_below_lem limit f (Some n) e = grind arith

pub number_value : (limit : ℕ) (f ds : List ℕ) → ds ≡ unblanked f → 0 < length ds → (get_or ds 0 0 ≡ 48 → length ds ≡ 1) → digits_below limit ds ≡ number_below limit f
unfolding number_below
number_value limit f ds e some first = rw (← e, numeral_from ds some first) refl

pub numeral_empty : (ds : List ℕ) → length ds ≡ 0 → numeral ds ≡ false
numeral_empty [] h = refl
numeral_empty (b ∷ bs) h = grind arith

pub numeral_zero : (ds : List ℕ) → 1 < length ds → get_or ds 0 0 ≡ 48 → numeral ds ≡ false
numeral_zero [] h e = refl
numeral_zero (b ∷ []) h e = grind arith
numeral_zero (b ∷ (c ∷ bs)) h e = grind arith

-- a field that is read as n is what is written of n
pub read_is_written : (limit : ℕ) (f : List ℕ) (n : ℕ) → limit ≤ 2 ^ 64 → n < limit → number_below limit f ≡ Some n → number_field (length f) n ≡ f
unfolding number_below number_field
read_is_written limit f n small h e =
    let good : (numeral (unblanked f) ≡ true) × (value_from 0 (unblanked f) ≡ n) = grind arith in
    let parts = numeral_parts (unblanked f) good.0 in
    let d : decimal n ≡ unblanked f = ap decimal (sym good.1) ∙ decimal-digits_value own (unblanked f) parts.0 parts.1 parts.2 (omega arith) in
    let P : List ℕ → Type 0 = λ ds. cond (leb (length ds) (length f)) (replicate (length f - length ds) 32 ++ ds) (replicate (length f) 42) ≡ f in
    subst P (sym d) (cond-true _ _ _ (le-leb _ _ (unblanked_le f)) ∙ unblanked_is f)

-- and the other way round
pub written_is_read : (limit : ℕ) (f : List ℕ) (n : ℕ) → limit ≤ 2 ^ 64 → n < limit → length (decimal n) ≤ length f → number_field (length f) n ≡ f → number_below limit f ≡ Some n
unfolding number_below number_field
written_is_read limit f n small h le e =
    let k = length f - length (decimal n) in
    let g : replicate k 32 ++ decimal n ≡ f = sym (cond-true _ _ _ (le-leb _ _ le)) ∙ e in
    let u : unblanked f ≡ decimal n = ap unblanked (sym g) ∙ unblanked_digits k (decimal n) (digits_decimal own n (omega arith)) in
    let P : List ℕ → Type 0 = λ ds. cond (numeral ds && ltb (value_from 0 ds) limit) (Some (value_from 0 ds)) None ≡ Some n in
    subst P (sym u) (let good = numeral_decimal n (omega arith) in let v = digits_value-decimal own n (omega arith) in grind (arith, good, v))

pub reads_written : (limit : ℕ) (f : List ℕ) → limit ≤ 2 ^ 64 → ReadsWritten limit f
reads_written limit f small n h = (read_is_written limit f n small h, written_is_read limit f n small h)
