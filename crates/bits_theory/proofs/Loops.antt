-- What the engine's searches over its cues find.
use Rattle.std.proofs.Common.{◌≡◌, ℕ, suc, ◌+◌, ◌-◌, ◌<◌, ◌≤◌, Bool, true, false, cond, ◌&&◌, List, [], ◌∷◌, length, get_or, count_by, None, Some, sym, refl, ap, ap₂, ◌∙◌, arith}
use lib.Bits.{bit_and}
use Rattle.std.specs.List.{All}
use Rattle.std.proofs.lemmas.List.Sums.{sum_by-cons}
use Rattle.std.proofs.lemmas.List.Elements.{All-from_get_or}
use Rattle.std.proofs.lemmas.List.{length-map}
use Rattle.book.specs.Cues.{cue_at, part_of, parts_of}
use Rattle.book.specs.declared.cue.Cue.{Cue}
use Rattle.matching.specs.Match.{ends, distinct, sightings}
use Rattle.bits_theory.specs.Words.{bit}
use Rattle.bits_theory.specs.Laid.{span_at, Spanned, Stops, Exact}
use Rattle.bits_theory.specs.Below.{Next, endings}
use Rattle.bits_theory.proofs.Bit.{bit_and_lem, bit_zero}
use Rattle.bits_theory.proofs.Reach.{length_part, part_at, whole_bit}
use Rattle.bits_theory.proofs.Longest.{sightings_count, no_endings, pass_over, first_below, shorter_one}

pub parts_some : (signs : List ℕ) (spans : List Cue) → Spanned (length signs) spans → (n : ℕ) → n < length (parts_of signs spans) → 0 < length (get_or (parts_of signs spans) n [])
parts_some signs [] all n h = absurd (omega arith)
parts_some signs (s ∷ spans) all n h =
    let there : n < length (s ∷ spans) = omega (arith, length-map (s ∷ spans) (part_of signs)) in
    let a = all n there in
    omega (arith, ap length (part_at signs (s ∷ spans) n there), length_part signs (span_at (s ∷ spans) n) a.1, a.0)

-- The same of each cue in turn, in numbers of a word's places.
pub spans_lie : (signs : List ℕ) (spans : List Cue) → length signs ≤ 64 → Spanned (length signs) spans → All (λ s. (1 ≤ s.len) × (s.place + s.len ≤ 64)) spans
spans_lie signs spans short all =
    All-from_get_or (λ (s : Cue). (1 ≤ s.len) × (s.place + s.len ≤ 64)) spans (cue_at 0 0) (λ i h. ((all i h).0, omega (arith, (all i h).1)))

cond_suc : (b : Bool) (n : ℕ) → cond b (suc n) n ≡ cond b 1 0 + n
cond_suc true n = omega arith
cond_suc false n = omega arith

-- The cues that end the text are those whose last bit is set.
pub endings_set : (state : ℕ) (signs : List ℕ) (spans : List Cue) (t : List ℕ) → Spanned (length signs) spans → Exact state signs spans t → endings (parts_of signs spans) t ≡ count_by (λ s. bit state (s.place + s.len - 1)) spans
endings_set state signs [] t all exact = refl
endings_set state signs (s ∷ spans) t all exact =
    let more = sum_by-cons (λ (c : Cue). cond (bit state (c.place + c.len - 1)) 1 0) s spans in
    let rest = endings_set state signs spans t (λ i h. all (suc i) (omega arith)) (λ i k h. exact (suc i) k h) in
    let here : bit state (s.place + s.len - 1) ≡ ends (part_of signs s) t = whole_bit state signs (s ∷ spans) t 0 all exact (omega arith) in
    ap₂ (λ b n. cond b (suc n) n) (sym here) rest ∙ (cond_suc _ _ ∙ sym more)

-- No bit of a whole cue is set: none ends the text.
pub count_none : (state lasts : ℕ) (signs : List ℕ) (spans : List Cue) (t : List ℕ) → Spanned (length signs) spans → Stops lasts spans → Exact state signs spans t → bit_and state lasts ≡ 0 → length (sightings (parts_of signs spans) t) ≡ 0
count_none state lasts signs [] t all stops exact z = sightings_count [] t (λ n h. absurd (omega arith))
count_none state lasts signs (s ∷ spans) t all stops exact z =
    sightings_count (parts_of signs (s ∷ spans)) t (parts_some signs (s ∷ spans) all) ∙ no_endings (parts_of signs (s ∷ spans)) t none
  where
    none : (n : ℕ) → n < length (parts_of signs (s ∷ spans)) → ends (get_or (parts_of signs (s ∷ spans)) n []) t ≡ false
    none n h =
        let there : n < length (s ∷ spans) = omega (arith, length-map (s ∷ spans) (part_of signs)) in
        let c : Cue = span_at (s ∷ spans) n in
        let some : 1 ≤ c.len = (all n there).0 in
        let k : ℕ = c.len - 1 in
        let at : c.place + c.len - 1 ≡ c.place + k = omega arith in
        let w : bit state (c.place + k) ≡ ends (part_of signs c) t = ap (bit state) (sym at) ∙ whole_bit state signs (s ∷ spans) t n all exact there in
        let l : bit lasts (c.place + k) ≡ true = stops n k (omega arith) in
        let both : (bit state (c.place + k) && bit lasts (c.place + k)) ≡ false = sym (bit_and_lem state lasts (c.place + k)) ∙ (ap (λ v. bit v (c.place + k)) z ∙ bit_zero (c.place + k)) in
        ap (λ v. ends v t) (part_at signs (s ∷ spans) n there) ∙ (sym w ∙ grind (arith, both, l))

-- The last bit of a cue, and its length.
whole_at : (state : ℕ) (signs : List ℕ) (spans : List Cue) (t : List ℕ) (i : ℕ) (s : Cue) → Spanned (length signs) spans → Exact state signs spans t → i < length spans → s ≡ span_at spans i →
    (bit state (s.place + s.len - 1) ≡ ends (get_or (parts_of signs spans) i []) t) × (length (get_or (parts_of signs spans) i []) ≡ s.len)
whole_at state signs spans t i s all exact h e = (
  ap (λ (c : Cue). bit state (c.place + c.len - 1)) e ∙ (whole_bit state signs spans t i all exact h ∙ ap (λ c. ends c t) (sym (part_at signs spans i h))),
  ap length (part_at signs spans i h) ∙ (length_part signs (span_at spans i) (all i h).1 ∙ ap (λ (c : Cue). c.len) (sym e)),
)

-- No cue below a length has its last bit set: no sighting is shorter.
pub next_none : (state : ℕ) (signs : List ℕ) (spans : List Cue) (t : List ℕ) (below : ℕ) → Spanned (length signs) spans → Exact state signs spans t → 0 < below →
    ((c : ℕ) → c < length spans → (span_at spans c).len < below → bit state ((span_at spans c).place + (span_at spans c).len - 1) ≡ true → ⊥) → Next (parts_of signs spans) t below None
next_none state signs spans t below all exact some none =
    pass_over (parts_of signs spans) t below 0 some
    (λ n l e b. let h : n < length spans = omega (arith, length-map spans (part_of signs)) in let w = whole_at state signs spans t n (span_at spans n) all exact h refl in absurd (none n h (omega (arith, w.1)) (w.0 ∙ e))) ∙
    ap (sightings (parts_of signs spans)) (shorter_one t)

-- The longest cue below a length whose last bit is set is the first sighting there.
pub next_some : (state : ℕ) (signs : List ℕ) (spans : List Cue) (t : List ℕ) (below number : ℕ) (s : Cue) → Spanned (length signs) spans → Exact state signs spans t → distinct (parts_of signs spans) ≡ true → number < length spans → s ≡ span_at spans number →
    s.len < below → bit state (s.place + s.len - 1) ≡ true → ((c : ℕ) → c < length spans → (span_at spans c).len < below → bit state ((span_at spans c).place + (span_at spans c).len - 1) ≡ true → (span_at spans c).len ≤ s.len) → Next (parts_of signs spans) t below (Some (number, s.len))
next_some state signs spans t below number s all exact apart there is short set most =
    let w = whole_at state signs spans t number s all exact there is in
    let some : 0 < s.len = omega (arith, ap (λ (c : Cue). c.len) is, (all number there).0) in (
      pass_over (parts_of signs spans) t below s.len short
          (λ n l e b. let h : n < length spans = omega (arith, length-map spans (part_of signs)) in let v = whole_at state signs spans t n (span_at spans n) all exact h refl in omega (arith, v.1, most n h (omega (arith, v.1)) (v.0 ∙ e))) ∙
          first_below (parts_of signs spans) t number s.len apart (omega (arith, length-map spans (part_of signs))) w.1 some (sym w.0 ∙ set),
      some,
    )
