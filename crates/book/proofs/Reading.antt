-- What the specifications say by recursion on a list, in the library's words for what iterators find.
use Rattle.std.proofs.Common.{◌≡◌, ℕ, ◌+◌, ◌%◌, ◌≤◌, Bool, true, false, cond, ◌&&◌, ◌||◌, eqb, ltb, List, [], ◌∷◌, length, sym, refl, ap, ◌∙◌, ⊎_elim, arith}
use Rattle.std.specs.List.{sum_by, position, position_or_len, list_any, enumerate_from, zip}
use Rattle.std.specs.Option.{MatchOption}
use Rattle.std.proofs.lemmas.List.Recursion.{is_sum_by, is_position_or_len}
use Rattle.std.proofs.lemmas.Bool.{cases_Bool}
use Rattle.matching.specs.Match.{listed, same as equal}
use Rattle.book.specs.Held.{look_from}
use Rattle.book.specs.Signs.{first_place, sign_of}
use Rattle.book.specs.Cues.{total, part_of, parts_of}
use Rattle.book.specs.declared.cue.Cue.{Cue}

pub total_sum : (cues : List Cue) → total cues ≡ sum_by (λ (c : Cue). c.len) cues
total_sum cues = is_sum_by total (λ (c : Cue). c.len) refl (λ _ _. refl) cues

pub listed_any : (signs : List ℕ) (cues : List Cue) (t : List ℕ) → listed (parts_of signs cues) t ≡ list_any (λ (c : Cue). equal (part_of signs c) t) cues
listed_any signs [] t = refl
listed_any signs (c ∷ cues) t = ap (λ b. equal (part_of signs c) t || b) (listed_any signs cues t)

-- What a search for a place came to, where n stands for none.
place_found : {X : Type 0} (p : X → Bool) (xs : List X) (n r : ℕ) → MatchOption (position p xs) (r ≡ n) (λ i. r ≡ i) → r ≡ cond (ltb (position_or_len p xs) (length xs)) (position_or_len p xs) n
place_found p xs n r h =
    ⊎_elim (λ (b : ltb (position_or_len p xs) (length xs) ≡ true). grind (arith, b, h)) (λ (b : ltb (position_or_len p xs) (length xs) ≡ false). grind (arith, b, h))
    (cases_Bool (ltb (position_or_len p xs) (length xs)))

first_place_position : {E : Type 0} (same : E → E → Bool) (ms : List E) (e : E) → first_place same ms e ≡ position_or_len (λ m. same m e) ms
first_place_position same ms e = is_position_or_len (λ xs. first_place same xs e) (λ m. same m e) refl (λ m xs. grind arith) ms

-- The sign of an event is the first place with a same event.
pub sign_found : {E : Type 0} (same : E → E → Bool) (ms : List E) (e : E) (r : ℕ) → MatchOption (position (λ m. same m e) ms) (r ≡ 2048) (λ i. r ≡ i) → r ≡ sign_of same ms e
sign_found same ms e r h = place_found (λ m. same m e) ms 2048 r h ∙ ap (λ k. cond (ltb k (length ms)) k 2048) (sym (first_place_position same ms e))

-- Of a place, its event and its sign: the place is its own sign, and the event is the same as e.
abbrev pub is_own : {E : Type 0} → (E → E → Bool) → E → ℕ × (E × ℕ) → Bool
is_own same e q = eqb q.1.1 q.0 && same q.1.0 e

-- The places from i on, each with its event and its sign.
abbrev pub places : {E : Type 0} → ℕ → List E → List ℕ → List (ℕ × (E × ℕ))
places i ms signs = enumerate_from i (zip ms signs)

-- The same, told by 16 bits of the place.
abbrev pub is_own_low : {E : Type 0} → (E → E → Bool) → E → ℕ × (E × ℕ) → Bool
is_own_low same e q = eqb q.1.1 (q.0 % 65536) && same q.1.0 e

low_or_len : {E : Type 0} (same : E → E → Bool) (e : E) (ms : List E) (signs : List ℕ) (i : ℕ) → i + length ms ≤ 65536 →
    position_or_len (is_own_low same e) (places i ms signs) ≡ position_or_len (is_own same e) (places i ms signs)
low_or_len same e [] signs i few = refl
low_or_len same e (m ∷ ms) [] i few = refl
low_or_len same e (m ∷ ms) (s ∷ signs) i few =
    let low : i % 65536 ≡ i = omega arith in
    let next = low_or_len same e ms signs (i + 1) (omega arith) in
    grind (arith, low, next)

-- Of few places 16 bits tell.
pub low_position : {E : Type 0} (same : E → E → Bool) (e : E) (ms : List E) (signs : List ℕ) → length ms ≤ 65536 →
    position (is_own_low same e) (places 0 ms signs) ≡ position (is_own same e) (places 0 ms signs)
low_position same e ms signs few = let l = low_or_len same e ms signs 0 (omega (arith, few)) in grind (arith, l)

look_position : {E : Type 0} (same : E → E → Bool) (e : E) (ms : List E) (signs : List ℕ) (i : ℕ) →
    look_from same i ms signs e ≡ cond (ltb (position_or_len (is_own same e) (places i ms signs)) (length (places i ms signs))) (position_or_len (is_own same e) (places i ms signs) + i) 2048
look_position same e [] signs i = refl
look_position same e (m ∷ ms) [] i = refl
look_position same e (m ∷ ms) (s ∷ signs) i = grind (arith, look_position same e ms signs (i + 1))

-- The sign that is looked up is the first place of its own.
pub look_found : {E : Type 0} (same : E → E → Bool) (ms : List E) (signs : List ℕ) (e : E) (r : ℕ) → MatchOption (position (is_own same e) (places 0 ms signs)) (r ≡ 2048) (λ i. r ≡ i) → r ≡ look_from same 0 ms signs e
look_found same ms signs e r h = let p = place_found (is_own same e) (places 0 ms signs) 2048 r h in let l = look_position same e ms signs 0 in grind (arith, p, l)
