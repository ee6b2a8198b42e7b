-- The standing, read off the bits: the lowest cue with the longest front whose bit is set.
use Rattle.std.proofs.Common.{◌≡◌, ℕ, zero, suc, ◌<◌, ◌≤◌, true, false, List, [], ◌∷◌, length, get_or, take, sym, refl, ◌∙◌, subst, ap₂, ⊎_elim, arith}
use Rattle.std.proofs.lemmas.List.{length-map, length-take}
use Rattle.std.proofs.lemmas.Bool.{cases_Bool}
use Rattle.book.specs.Cues.{part_of, parts_of}
use Rattle.book.specs.declared.cue.Cue.{Cue}
use Rattle.matching.specs.Match.{begins, beginning, lowest, ends, standing}
use Rattle.matching.proofs.Live.{lowest_begins, lowest_is, ends_same}
use Rattle.matching.proofs.Endings.{ends_true}
use Rattle.bits_theory.specs.Laid.{span_at, Spanned, Exact, top}
use Rattle.bits_theory.proofs.Reach.{length_part, part_at, top_within, top_most, top_set, front_set, begins_front_of}
use Rattle.bits_theory.proofs.Longest.{ends_length}

-- The best so far, of the first cues: cue `number` is the lowest with a front of length `len` whose
-- bit is set, where `len` is not 0, and no front that is set is longer.
pub record Lead (state : ℕ) (spans : List Cue) (done number len : ℕ) : Type 0 where
  pub none : len ≡ 0 → number ≡ 0
  pub found : 0 < len → (number < done) × (top state (span_at spans number).place (span_at spans number).len ≡ len)
  pub lower : (n : ℕ) → n < number → top state (span_at spans n).place (span_at spans n).len < len
  pub most : (n : ℕ) → n < done → top state (span_at spans n).place (span_at spans n).len ≤ len

pub lead_small : (state : ℕ) (signs : List ℕ) (spans : List Cue) (done number len : ℕ) → Spanned (length signs) spans → done ≤ length spans → Lead state spans done number len → (len ≤ length signs) × (number ≤ length spans)
lead_small state signs spans done number zero all h lead = (omega arith, omega (arith, lead.none refl))
lead_small state signs spans done number (suc k) all h lead =
    let f = lead.found (omega arith) in
    (omega (arith, f.1, top_within state (span_at spans number).place (span_at spans number).len, (all number (omega (arith, f.0))).1), omega (arith, f.0))

-- The front that leads ends the text.
lead_ends : (state : ℕ) (signs : List ℕ) (spans : List Cue) (t : List ℕ) (number k : ℕ) → Spanned (length signs) spans → Exact state signs spans t → number < length spans → top state (span_at spans number).place (span_at spans number).len ≡ suc k →
    (ends (take (suc k) (part_of signs (span_at spans number))) t ≡ true) × (length (take (suc k) (part_of signs (span_at spans number))) ≡ suc k)
lead_ends state signs spans t number k all exact h e =
    let s : Cue = span_at spans number in
    let short : k < s.len = omega (arith, top_within state s.place s.len) in
    (sym (exact number k short) ∙ top_set state s.place s.len k e, omega (arith, length-take (suc k) (part_of signs s), length_part signs s (all number h).1))

lead_none : (state : ℕ) (signs : List ℕ) (spans : List Cue) (number len : ℕ) → Spanned (length signs) spans → Exact state signs spans [] → Lead state spans (length spans) number len → len ≡ 0
lead_none state signs spans number zero all exact lead = refl
lead_none state signs spans number (suc k) all exact lead =
    let f = lead.found (omega arith) in
    let e = lead_ends state signs spans [] number k all exact f.0 f.1 in
    absurd (omega (arith, ends_length _ [] e.0, e.1))

lead_some : (state : ℕ) (signs : List ℕ) (spans : List Cue) (x : ℕ) (b : List ℕ) (number len : ℕ) → Spanned (length signs) spans → Exact state signs spans (x ∷ b) → beginning (parts_of signs spans) (x ∷ b) ≡ true → Lead state spans (length spans) number len →
    (lowest (parts_of signs spans) (x ∷ b) ≡ number) × (length (x ∷ b) ≡ len)
lead_some state signs spans x b number zero all exact h lead =
    let l = lowest_begins (parts_of signs spans) (x ∷ b) h in
    let n : ℕ = lowest (parts_of signs spans) (x ∷ b) in
    let there : n < length spans = omega (arith, l.0, length-map spans (part_of signs)) in
    let front = front_set state signs spans (x ∷ b) n (length b) all exact there refl (subst (λ c. begins (x ∷ b) c ≡ true) (part_at signs spans n there) l.1) in
    absurd (omega (arith, top_most state _ _ (length b) front.0 front.1, lead.most n there))
lead_some state signs spans x b number (suc k) all exact h lead =
    let cues : List (List ℕ) = parts_of signs spans in
    let l = lowest_begins cues (x ∷ b) h in
    let n : ℕ = lowest cues (x ∷ b) in
    let there : n < length spans = omega (arith, l.0, length-map spans (part_of signs)) in
    let front = front_set state signs spans (x ∷ b) n (length b) all exact there refl (subst (λ c. begins (x ∷ b) c ≡ true) (part_at signs spans n there) l.1) in
    let f = lead.found (omega arith) in
    let cue : List ℕ = part_of signs (span_at spans number) in
    let e = lead_ends state signs spans (x ∷ b) number k all exact f.0 f.1 in
    let long : suc (length b) ≤ suc k = omega (arith, top_most state _ _ (length b) front.0 front.1, lead.most n there) in
    let len : length (x ∷ b) ≡ suc k = omega (arith, long, ends_length _ (x ∷ b) e.0, e.1) in
    let is : take (suc k) cue ≡ x ∷ b = ends_same (take (suc k) cue) (x ∷ b) (x ∷ b) (ends_true _ _ e.0) ([], refl) (omega (arith, len, e.1)) in
    let begun : begins (x ∷ b) (get_or cues number []) ≡ true = subst (λ v. begins v (get_or cues number []) ≡ true) is (subst (λ v. begins (take (suc k) cue) v ≡ true) (sym (part_at signs spans number f.0)) (begins_front_of (suc k) cue)) in
    let none : (m : ℕ) → m < number → begins (x ∷ b) (get_or cues m []) ≡ false = λ m q.
    ⊎_elim
    (λ (v : begins (x ∷ b) (get_or cues m []) ≡ true).
    let g = front_set state signs spans (x ∷ b) m (length b) all exact (omega (arith, f.0)) refl (subst (λ c. begins (x ∷ b) c ≡ true) (part_at signs spans m (omega (arith, f.0))) v) in
    absurd (omega (arith, len, top_most state _ _ (length b) g.0 g.1, lead.lower m q)))
    (λ (v : begins (x ∷ b) (get_or cues m []) ≡ false). v)
    (cases_Bool (begins (x ∷ b) (get_or cues m []))) in
    (lowest_is cues (x ∷ b) number (omega (arith, f.0, length-map spans (part_of signs))) begun none, len)

pub lead_standing : (state : ℕ) (signs : List ℕ) (spans : List Cue) (t : List ℕ) (number len : ℕ) → Spanned (length signs) spans → Exact state signs spans t → beginning (parts_of signs spans) t ≡ true → Lead state spans (length spans) number len →
    standing (parts_of signs spans) t ≡ (number, len)
lead_standing state signs spans [] number len all exact h lead =
    let z = lead_none state signs spans number len all exact lead in
    ap₂ (λ a b. (a, b)) (sym (lead.none z)) (sym z)
lead_standing state signs spans (x ∷ b) number len all exact h lead =
    let f = lead_some state signs spans x b number len all exact h lead in
    ap₂ (λ a b. (a, b)) f.0 f.1
