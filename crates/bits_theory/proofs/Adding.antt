-- One cue more, laid behind the others.
use Rattle.std.proofs.Common.{◌≡◌, ℕ, zero, suc, ◌+◌, ◌-◌, ◌*◌, ◌%◌, ◌^◌, ◌<◌, ◌≤◌, true, false, eqb, List, [], ◌∷◌, ◌++◌, length, get_or, take, drop, sym, refl, ap, ◌∙◌, subst, ap₂, ⊎_elim, arith}
use lib.Bits.{bit_or}
use Rattle.std.proofs.lemmas.List.{get_or_append_left, get_or_at, length_push, length-append, length-drop, drop_at, drop-append-le, take_all, take-append-le, map_push, at_drop_more}
use Rattle.std.proofs.lemmas.Bool.{cases_lt}
use Rattle.book.specs.Cues.{cue_at, part_of, parts_of, AllWithin}
use Rattle.book.specs.declared.cue.Cue.{Cue}
use Rattle.matching.specs.Calls.{total}
use Rattle.matching.specs.Match.{listed, distinct}
use Rattle.bits_theory.specs.Words.{bit}
use Rattle.bits_theory.specs.Laid.{span_at, Spanned, Starts, Stops, Clear, Exact, reach}
use Rattle.bits_theory.proofs.Bit.{bit_or_lem, bit_flag, bit_zero}
use Rattle.bits_theory.proofs.Reach.{length_part, part_at, in_spans, exact_zero, exact_reach}

part_more : (signs cue : List ℕ) (c : Cue) → c.place + c.len ≤ length signs → part_of (signs ++ cue) c ≡ part_of signs c
part_more signs cue c h =
    ap (take c.len) (drop-append-le c.place signs cue (omega arith)) ∙ take-append-le c.len (drop c.place signs) cue (omega (arith, length-drop c.place signs))

parts_more : (signs cue : List ℕ) (spans : List Cue) → Spanned (length signs) spans → parts_of (signs ++ cue) spans ≡ parts_of signs spans
parts_more signs cue [] all = refl
parts_more signs cue (c ∷ spans) all =
    ap₂ (λ x xs. x ∷ xs) (part_more signs cue c (all zero (omega arith)).1) (parts_more signs cue spans (λ i h. all (suc i) (omega arith)))

part_new : (signs cue : List ℕ) → part_of (signs ++ cue) (cue_at (length signs) (length cue)) ≡ cue
part_new signs cue = ap (take (length cue)) (drop_at signs cue (length signs) refl) ∙ take_all (length cue) cue (omega arith)

pub parts_push : (signs cue : List ℕ) (spans : List Cue) → Spanned (length signs) spans → parts_of (signs ++ cue) (spans ++ cue_at (length signs) (length cue) ∷ []) ≡ parts_of signs spans ++ cue ∷ []
parts_push signs cue spans all =
    map_push (part_of (signs ++ cue)) spans _ ∙ ap₂ (λ xs x. xs ++ x ∷ []) (parts_more signs cue spans all) (part_new signs cue)

-- What holds of each cue holds with one more.
each_push : (P : ℕ → Cue → Type 0) (spans : List Cue) (new : Cue) → ((c : ℕ) → c < length spans → P c (span_at spans c)) → P (length spans) new → (c : ℕ) → c < length (spans ++ new ∷ []) → P c (span_at (spans ++ new ∷ []) c)
each_push P spans new all one c h =
    let l = length_push spans new in
    ⊎_elim (λ (b : c < length spans). subst (P c) (sym (get_or_append_left spans (new ∷ []) (cue_at 0 0) c b)) (all c b))
    (λ (b : length spans ≤ c). let e : length spans ≡ c = omega arith in subst (P c) (sym (get_or_at spans new [] (cue_at 0 0) c e)) (subst (λ i. P i new) e one))
    (cases_lt c (length spans))

pub spanned_push : (signs cue : List ℕ) (spans : List Cue) → 1 ≤ length cue → Spanned (length signs) spans → Spanned (length (signs ++ cue)) (spans ++ cue_at (length signs) (length cue) ∷ [])
spanned_push signs cue spans some all =
    let n = length-append signs cue in
    each_push (λ c s. (1 ≤ s.len) × (s.place + s.len ≤ length (signs ++ cue))) spans _
    (λ c h. ((all c h).0, omega (arith, (all c h).1))) (some, omega arith)

-- A flag behind all cues changes no bit of theirs.
flag_other : (word n p : ℕ) → n < 64 → p < n → bit (bit_or word (1 * 2 ^ n % 2 ^ 64)) p ≡ bit word p
flag_other word n p h l = grind (arith, bit_or_lem word (1 * 2 ^ n % 2 ^ 64) p, bit_flag n p h)

pub starts_push : (firsts : ℕ) (signs cue : List ℕ) (spans : List Cue) → length signs < 64 → Spanned (length signs) spans → Starts firsts spans → Clear firsts (length signs) → Starts (bit_or firsts (1 * 2 ^ length signs % 2 ^ 64)) (spans ++ cue_at (length signs) (length cue) ∷ [])
starts_push firsts signs cue spans short all starts clear c k l =
    each_push (λ c s. (k : ℕ) → k < s.len → bit (bit_or firsts (1 * 2 ^ length signs % 2 ^ 64)) (s.place + k) ≡ eqb k 0) spans _
    (λ c h k l. flag_other firsts (length signs) _ short (omega (arith, (all c h).1)) ∙ starts c k l)
    (λ k l. grind (arith, bit_or_lem firsts (1 * 2 ^ length signs % 2 ^ 64) (length signs + k), bit_flag (length signs) (length signs + k) short, clear (length signs + k) (omega arith)))
    c (in_spans (spans ++ cue_at (length signs) (length cue) ∷ []) c k l) k l

pub clear_push : (word n m at : ℕ) → at < 64 → at < m → n ≤ m → Clear word n → Clear (bit_or word (1 * 2 ^ at % 2 ^ 64)) m
clear_push word n m at h l le clear p b = grind (arith, bit_or_lem word (1 * 2 ^ at % 2 ^ 64) p, bit_flag at p h, clear p (omega arith))

pub stops_push : (lasts at : ℕ) (signs cue : List ℕ) (spans : List Cue) → at < 64 → at + 1 ≡ length signs + length cue → length signs ≤ at → Spanned (length signs) spans → Stops lasts spans → Stops (bit_or lasts (1 * 2 ^ at % 2 ^ 64)) (spans ++ cue_at (length signs) (length cue) ∷ [])
stops_push lasts at signs cue spans short last behind all stops c k l =
    each_push (λ c s. (k : ℕ) → suc k ≡ s.len → bit (bit_or lasts (1 * 2 ^ at % 2 ^ 64)) (s.place + k) ≡ true) spans _
    (λ c h k l. grind (arith, bit_or_lem lasts (1 * 2 ^ at % 2 ^ 64) ((span_at spans c).place + k), stops c k l))
    (λ k l. grind (arith, bit_or_lem lasts (1 * 2 ^ at % 2 ^ 64) (length signs + k), bit_flag at (length signs + k) short))
    c (in_spans (spans ++ cue_at (length signs) (length cue) ∷ []) c k (omega arith)) k l

-- All that the engine keeps of its cues, with nothing live.
pub record Kept (signs : List ℕ) (spans : List Cue) (firsts lasts : ℕ) : Type 0 where
  pub spanned : Spanned (length signs) spans
  pub starts : Starts firsts spans
  pub free : Clear firsts (length signs)
  pub stops : Stops lasts spans
  pub exact : Exact 0 signs spans (reach 0 signs spans)

pub still : (signs : List ℕ) (spans : List Cue) → Spanned (length signs) spans → Exact 0 signs spans (reach 0 signs spans)
still signs spans all = exact_reach 0 signs spans [] all (exact_zero signs spans all) refl

pub kept_none : (signs : List ℕ) (spans : List Cue) → spans ≡ [] → Kept signs spans 0 0
kept_none signs spans e = subst (λ s. Kept signs s 0 0) (sym e) none
  where
    none : Kept signs [] 0 0
    none =
        record {
          spanned = λ c h. absurd (omega arith);
          starts = λ c k h. absurd (omega arith);
          free = λ p h. bit_zero p;
          stops = λ c k h. absurd (omega arith);
          exact = λ c k h. absurd (omega arith);
        }

pub kept_push : (signs cue : List ℕ) (spans : List Cue) (firsts lasts : ℕ) → 1 ≤ length cue → length signs + length cue ≤ 64 → Spanned (length signs) spans → Starts firsts spans → Clear firsts (length signs) → Stops lasts spans →
    Kept (signs ++ cue) (spans ++ cue_at (length signs) (length cue) ∷ []) (bit_or firsts (1 * 2 ^ length signs % 2 ^ 64)) (bit_or lasts (1 * 2 ^ (length signs + length cue - 1) % 2 ^ 64))
kept_push signs cue spans firsts lasts some room spanned starts free stops =
    let n = length-append signs cue in
    let all = spanned_push signs cue spans some spanned in
    record {
      spanned = all;
      starts = starts_push firsts signs cue spans (omega arith) spanned starts free;
      free = clear_push firsts (length signs) (length (signs ++ cue)) (length signs) (omega arith) (omega arith) (omega arith) free;
      stops = stops_push lasts (length signs + length cue - 1) signs cue spans (omega arith) (omega arith) (omega arith) spanned stops;
      exact = still (signs ++ cue) (spans ++ cue_at (length signs) (length cue) ∷ []) all;
    }

-- Fewer cues are distinct too.
listed_take : (n : ℕ) (cues : List (List ℕ)) (c : List ℕ) → listed cues c ≡ false → listed (take n cues) c ≡ false
listed_take zero cues c h = refl
listed_take (suc n) [] c h = refl
listed_take (suc n) (b ∷ cues) c h = grind (arith, h, listed_take n cues c)

pub distinct_take : (n : ℕ) (cues : List (List ℕ)) → distinct cues ≡ true → distinct (take n cues) ≡ true
distinct_take zero cues h = refl
distinct_take (suc n) [] h = refl
distinct_take (suc n) (b ∷ cues) h = grind (arith, h, distinct_take n cues, listed_take n cues b)

-- The signs of the cues yet to come.
pub total_more : (cues : List (List ℕ)) (i : ℕ) → i < length cues → total (drop i cues) ≡ length (get_or cues i []) + total (drop (i + 1) cues)
total_more cues i h = at_drop_more total cues i [] h

-- The same, as code lays a cue.
pub kept_laid : (signs cue after : List ℕ) (spans more : List Cue) (firsts lasts place : ℕ) → place ≡ length signs → after ≡ signs ++ cue → more ≡ spans ++ cue_at place (length cue) ∷ [] → 1 ≤ length cue → length signs + length cue ≤ 64 → Spanned (length signs) spans → Starts firsts spans → Clear firsts (length signs) → Stops lasts spans →
    Kept after more (bit_or firsts (1 * 2 ^ place % 2 ^ 64)) (bit_or lasts (1 * 2 ^ (place + length cue - 1) % 2 ^ 64))
kept_laid signs cue after spans more firsts lasts place at s m some room spanned starts free stops =
    let k = kept_push signs cue spans firsts lasts some room spanned starts free stops in
    let l = subst (λ n. Kept (signs ++ cue) (spans ++ cue_at n (length cue) ∷ []) (bit_or firsts (1 * 2 ^ n % 2 ^ 64)) (bit_or lasts (1 * 2 ^ (n + length cue - 1) % 2 ^ 64))) (sym at) k in
    let o = subst (λ x. Kept (signs ++ cue) x (bit_or firsts (1 * 2 ^ place % 2 ^ 64)) (bit_or lasts (1 * 2 ^ (place + length cue - 1) % 2 ^ 64))) (sym m) l in
    subst (λ x. Kept x more (bit_or firsts (1 * 2 ^ place % 2 ^ 64)) (bit_or lasts (1 * 2 ^ (place + length cue - 1) % 2 ^ 64))) (sym s) o

pub parts_laid : (signs cue after : List ℕ) (spans more : List Cue) (place : ℕ) → place ≡ length signs → after ≡ signs ++ cue → more ≡ spans ++ cue_at place (length cue) ∷ [] → Spanned (length signs) spans → parts_of after more ≡ parts_of signs spans ++ cue ∷ []
parts_laid signs cue after spans more place at s m all =
    ap₂ parts_of s (m ∙ ap (λ n. spans ++ cue_at n (length cue) ∷ []) at) ∙ parts_push signs cue spans all

-- The cues of a book have signs.
pub book_cue : (signs : List ℕ) (cues : List Cue) (n i : ℕ) → n ≡ length signs → AllWithin n cues → i < length cues → 1 ≤ length (get_or (parts_of signs cues) i [])
book_cue signs cues n i e within h =
    let one = within i (cue_at 0 0) h in
    omega (arith, one.0, one.2, ap length (part_at signs cues i h), length_part signs (span_at cues i) (omega (arith, one.2)))
