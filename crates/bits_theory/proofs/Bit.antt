-- The bits of `and`, `or`, a shift and a single bit.
use Rattle.std.proofs.Common.{◌≡◌, ℕ, zero, suc, ◌+◌, ◌-◌, ◌*◌, ◌/◌, ◌%◌, ◌^◌, ◌<◌, false, ◌&&◌, ◌||◌, eqb, List, [], ◌∷◌, ◌++◌, length, get_or, set, sym, refl, ap, ◌∙◌, ap₂, ⊎_elim, mod-lt, pow-suc, div-add-mod', mul-div_cancel, arith, pow_pos, pow-add}
use native.Mathlib.Nat.{mul-mod_left, div-div-eq-div-mul, div-eq_of_lt, div_self, pow-succ'}
use lib.Bits.{bit_and, bit_or, and_shr, and_mod, or_shr, or_mod, and_mask}
use lib.Pow.{pow-lt, mod-mod-pow}
use Rattle.std.proofs.lemmas.List.{get_or-set_same, get_or-set_other, get_or_append_left, get_or_push, length_push}
use Rattle.std.proofs.lemmas.Bool.{cases_eq, cases_order, eq-eqb, ne_eqb}
use Rattle.std.proofs.lemmas.Nat.{shl-shr, one_shl, field_of, div_below}
use Rattle.bits_theory.specs.Words.{bit, low_key, high_key, Marked}

small_and : (a b : ℕ) → a < 2 → b < 2 → eqb (bit_and a b) 1 ≡ (eqb a 1 && eqb b 1)
small_and zero zero h l = refl
small_and zero (suc zero) h l = refl
small_and (suc zero) zero h l = refl
small_and (suc zero) (suc zero) h l = refl
small_and zero (suc (suc b)) h l = absurd (omega arith)
small_and (suc zero) (suc (suc b)) h l = absurd (omega arith)
small_and (suc (suc a)) b h l = absurd (omega arith)

small_or : (a b : ℕ) → a < 2 → b < 2 → eqb (bit_or a b) 1 ≡ (eqb a 1 || eqb b 1)
small_or zero zero h l = refl
small_or zero (suc zero) h l = refl
small_or (suc zero) zero h l = refl
small_or (suc zero) (suc zero) h l = refl
small_or zero (suc (suc b)) h l = absurd (omega arith)
small_or (suc zero) (suc (suc b)) h l = absurd (omega arith)
small_or (suc (suc a)) b h l = absurd (omega arith)

below_two : (n : ℕ) → n % 2 < 2
below_two n = mod-lt n (omega arith)

pub bit_and_lem : (a b p : ℕ) → bit (bit_and a b) p ≡ (bit a p && bit b p)
unfolding bit
bit_and_lem a b p =
    ap (λ x. eqb (x % 2) 1) (and_shr a b p) ∙ (ap (λ x. eqb x 1) (and_mod (a / 2 ^ p) (b / 2 ^ p) 1) ∙ small_and _ _ (below_two (a / 2 ^ p)) (below_two (b / 2 ^ p)))

pub bit_or_lem : (a b p : ℕ) → bit (bit_or a b) p ≡ (bit a p || bit b p)
unfolding bit
bit_or_lem a b p =
    ap (λ x. eqb (x % 2) 1) (or_shr a b p) ∙ (ap (λ x. eqb x 1) (or_mod (a / 2 ^ p) (b / 2 ^ p) 1) ∙ small_or _ _ (below_two (a / 2 ^ p)) (below_two (b / 2 ^ p)))

pub bit_zero : (p : ℕ) → bit 0 p ≡ false
unfolding bit
bit_zero p = ap (λ x. eqb (x % 2) 1) (div-eq_of_lt (pow_pos p))

-- A shift by one moves each bit up by a place.
pub bit_shift : (a p : ℕ) → suc p < 64 → bit (a * 2 % 2 ^ 64) (suc p) ≡ bit a p
unfolding bit
bit_shift a p h =
    let i : ℕ = 62 - p in
    let width : 64 ≡ (i + 1) + suc p = omega arith in
    let part : a * 2 % 2 ^ 64 / 2 ^ suc p ≡ a * 2 / 2 ^ suc p % 2 ^ (i + 1) = ap (λ n. a * 2 % 2 ^ n / 2 ^ suc p) width ∙ field_of (a * 2) (i + 1) (suc p) in
    let half : a * 2 / 2 ^ suc p ≡ a / 2 ^ p = ap (λ n. a * 2 / n) (pow-succ' 2 p) ∙ (sym (div-div-eq-div-mul (a * 2) 2 (2 ^ p)) ∙ ap (λ n. n / 2 ^ p) (mul-div_cancel a (pow_pos 1))) in
    ap (λ n. eqb (n % 2) 1) part ∙ (ap (λ n. eqb n 1) (mod-mod-pow (a * 2 / 2 ^ suc p) i 1) ∙ ap (λ n. eqb (n % 2) 1) half)

-- A power of two has one bit.
power_above : (k p : ℕ) → p < k → 2 ^ k / 2 ^ p % 2 ≡ 0
power_above k p h =
    let j : ℕ = k - p - 1 in
    let sum : k ≡ suc j + p = omega arith in
    ap (λ n. 2 ^ n / 2 ^ p % 2) sum ∙ (ap (λ n. n / 2 ^ p % 2) (pow-add 2 (suc j) p) ∙ (ap (λ n. n % 2) (shl-shr (2 ^ suc j) p) ∙ (ap (λ n. n % 2) (pow-suc 2 j) ∙ mul-mod_left (2 ^ j) 2)))

pub bit_power : (k p : ℕ) → bit (2 ^ k) p ≡ eqb k p
unfolding bit
bit_power k p =
    ⊎_elim (λ (e : k ≡ p). ap (λ n. eqb (2 ^ k / 2 ^ n % 2) 1) (sym e) ∙ (ap (λ n. eqb (n % 2) 1) (div_self (pow_pos k)) ∙ sym (eq-eqb k p e)))
    (⊎_elim
    (λ (l : k < p). ap (λ n. eqb (n % 2) 1) (div-eq_of_lt (pow-lt l)) ∙ sym (ne_eqb k p (λ e. omega arith)))
    (λ (l : p < k). ap (λ n. eqb n 1) (power_above k p l) ∙ sym (ne_eqb k p (λ e. omega arith))))
    (cases_order k p)

pub bit_flag : (k p : ℕ) → k < 64 → bit (1 * 2 ^ k % 2 ^ 64) p ≡ eqb k p
bit_flag k p h = ap (λ n. bit n p) (one_shl k 64 h) ∙ bit_power k p

-- How code reads a bit.
pub bit_read : (word p : ℕ) → bit word p ≡ eqb (bit_and (word / 2 ^ p) 1) 1
unfolding bit
bit_read word p = ap (λ n. eqb n 1) (sym (and_mask (word / 2 ^ p) 1))

-- No bit of a word is set where none was written.
pub marked_none : (key : ℕ → ℕ) (table : List ℕ) → ((v : ℕ) → v < 256 → get_or table v 0 ≡ 0) → Marked key [] table
marked_none key table empty v p h = ap (λ n. bit n p) (empty v h) ∙ (bit_zero p ∙ sym (grind (arith)))

-- One sign more: its place is marked in the word of its key.
pub marked_push : (key : ℕ → ℕ) (signs table : List ℕ) (x : ℕ) → length table ≡ 256 → key x < 256 → length signs < 64 → Marked key signs table →
    Marked key (signs ++ x ∷ []) (set table (key x) (bit_or (get_or table (key x) 0) (1 * 2 ^ length signs % 2 ^ 64)))
marked_push key signs table x len small short marks v p h =
    let old = marks v p h in
    let n = length_push signs x in
    let same : key x ≡ v → bit (get_or (set table (key x) (bit_or (get_or table (key x) 0) (1 * 2 ^ length signs % 2 ^ 64))) v 0) p ≡ (bit (get_or table v 0) p || eqb (length signs) p) = λ e.
    ap (λ i. bit (get_or (set table (key x) (bit_or (get_or table (key x) 0) (1 * 2 ^ length signs % 2 ^ 64))) i 0) p) (sym e) ∙
    (ap (λ w. bit w p) (get_or-set_same table (key x) _ 0 (omega arith)) ∙
    (bit_or_lem _ _ p ∙ ap₂ (λ a b. a || b) (ap (λ i. bit (get_or table i 0) p) e) (bit_flag (length signs) p short))) in
    let other : (key x ≡ v → ⊥) → bit (get_or (set table (key x) (bit_or (get_or table (key x) 0) (1 * 2 ^ length signs % 2 ^ 64))) v 0) p ≡ bit (get_or table v 0) p = λ e.
    ap (λ w. bit w p) (get_or-set_other table (key x) v _ 0 (λ q. e (sym q))) in
    ⊎_elim
    (λ (e : key x ≡ v).
    ⊎_elim (λ (l : p ≡ length signs). grind (arith, same e, old, n, get_or_push signs x 0 p (sym l)))
    (⊎_elim (λ (l : p < length signs). grind (arith, same e, old, n, get_or_append_left signs (x ∷ []) 0 p l))
    (λ (l : length signs < p). grind (arith, same e, old, n))) (cases_order p (length signs)))
    (λ (e : key x ≡ v → ⊥).
    ⊎_elim (λ (l : p ≡ length signs). grind (arith, other e, old, n, get_or_push signs x 0 p (sym l), ne_eqb (key x) v e))
    (⊎_elim (λ (l : p < length signs). grind (arith, other e, old, n, get_or_append_left signs (x ∷ []) 0 p l))
    (λ (l : length signs < p). grind (arith, other e, old, n))) (cases_order p (length signs)))
    (cases_eq (key x) v)

-- A sign is the pair of its keys.
keys_same : (x s : ℕ) → (eqb (x % 256) (s % 256) && eqb (x / 256) (s / 256)) ≡ eqb x s
keys_same x s =
    let a = div-add-mod' x 256 in
    let b = div-add-mod' s 256 in
    ⊎_elim (λ (e : x ≡ s). grind (arith, e)) (λ (e : x ≡ s → ⊥). grind (arith, a, b, ne_eqb x s e)) (cases_eq x s)

-- The mask of a sign has the places where it stands.
pub mask_right : (signs low high : List ℕ) (s p : ℕ) → Marked low_key signs low → Marked high_key signs high → s < 65536 → p < length signs →
    bit (bit_and (get_or low (s % 256) 0) (get_or high (s / 256) 0)) p ≡ eqb (get_or signs p 0) s
mask_right signs low high s p a b small l =
    let c = a (s % 256) p (mod-lt s (omega arith)) in
    let d = b (s / 256) p (div_below s 256 256 (omega arith) small) in
    bit_and_lem _ _ p ∙ grind (arith, c, d, keys_same (get_or signs p 0) s)
