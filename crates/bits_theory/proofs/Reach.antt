-- The longest front whose bit is set is the live beginning, and one step of Shift-And keeps that.
use Rattle.std.proofs.Common.{◌≡◌, ℕ, zero, suc, ◌+◌, ◌-◌, ◌*◌, ◌%◌, ◌^◌, ◌<◌, ◌≤◌, min, true, false, cond, ◌&&◌, eqb, ltb, List, [], ◌∷◌, ◌++◌, length, get_or, take, drop, sym, refl, ap, ◌∙◌, subst, ⊎_elim, append-nil, add-suc, arith, take-suc}
use lib.Bits.{bit_or}
use Rattle.std.proofs.lemmas.List.{get_or-map, get_or_past, get_or-take, get_or-drop, length-take, length-drop, length-map, length-append, take_all}
use Rattle.std.proofs.lemmas.Bool.{cases_Bool, cases_lt, cond_both, or_left}
use Rattle.book.specs.Cues.{cue_at, part_of, parts_of}
use Rattle.book.specs.declared.cue.Cue.{Cue}
use Rattle.matching.specs.Match.{begins, some_begins, beginning, live, lowest, same, ends}
use Rattle.matching.proofs.Live.{begins_take, lowest_begins, some_from_cue, live_begins, ends_same}
use Rattle.matching.proofs.Sightings.{same_is}
use Rattle.matching.proofs.Endings.{ends_true, ends_from, ends_itself, ends_live, ends_push}
use Rattle.bits_theory.specs.Words.{bit}
use Rattle.bits_theory.specs.Laid.{span_at, Spanned, Starts, Exact, top, top_front, reach, stepped}
use Rattle.bits_theory.specs.Laws.{ReachRight, StepRight}
use Rattle.bits_theory.proofs.Bit.{bit_and_lem, bit_or_lem, bit_zero, bit_shift}

pub length_part : (signs : List ℕ) (c : Cue) → c.place + c.len ≤ length signs → length (part_of signs c) ≡ c.len
length_part signs c h = length-take c.len (drop c.place signs) ∙ (ap (min c.len) (length-drop c.place signs) ∙ omega arith)

-- The sign at a place of a cue.
pub part_sign : (signs : List ℕ) (c : Cue) (k : ℕ) → k < c.len → get_or (part_of signs c) k 0 ≡ get_or signs (c.place + k) 0
part_sign signs c k h = get_or-take c.len (drop c.place signs) k 0 h ∙ get_or-drop c.place signs k 0

-- A cue by its number.
pub part_at : (signs : List ℕ) (spans : List Cue) (c : ℕ) → c < length spans → get_or (parts_of signs spans) c [] ≡ part_of signs (span_at spans c)
part_at signs spans c h = get_or-map (part_of signs) spans c (cue_at 0 0) [] h

-- A place of a cue is one of a cue that is there.
pub in_spans : (spans : List Cue) (c k : ℕ) → k < (span_at spans c).len → c < length spans
in_spans spans c k h =
    ⊎_elim (λ (l : c < length spans). l) (λ (l : length spans ≤ c). absurd (omega (arith, ap (λ (s : Cue). s.len) (get_or_past spans c (cue_at 0 0) l)))) (cases_lt c (length spans))

-- The longest front of one cue whose bit is set.
pub top_within : (state place len : ℕ) → top state place len ≤ len
top_within state place zero = omega arith
top_within state place (suc len) = grind (arith, top_within state place len)

pub top_step : (state place k : ℕ) → 0 < k → top state place k ≡ cond (bit state (place + (k - 1))) k (top state place (k - 1))
top_step state place zero h = absurd (omega arith)
top_step state place (suc k) h = let e : suc k - 1 ≡ k = omega arith in rw e refl

pub top_most : (state place len k : ℕ) → k < len → bit state (place + k) ≡ true → suc k ≤ top state place len
top_most state place zero k h b = absurd (omega arith)
top_most state place (suc len) k h b =
    ⊎_elim (λ (s : bit state (place + len) ≡ true). rw s (omega arith))
    (λ (s : bit state (place + len) ≡ false). rw s (top_most state place len k (grind (arith, b, s)) b))
    (cases_Bool (bit state (place + len)))

pub top_set : (state place len k : ℕ) → top state place len ≡ suc k → bit state (place + k) ≡ true
top_set state place zero k e = absurd (omega arith)
top_set state place (suc len) k e = grind (arith, e, top_set state place len k)

ends_none : (t : List ℕ) → ends [] t ≡ true
ends_none t = ends_from [] t (t, append-nil t)

top_ends : (state place : ℕ) (xs t : List ℕ) (n : ℕ) → ((k : ℕ) → k < n → bit state (place + k) ≡ ends (take (suc k) xs) t) → ends (take (top state place n) xs) t ≡ true
top_ends state place xs t zero h = ends_none t
top_ends state place xs t (suc n) h =
    cond_both (bit state (place + n)) (suc n) (top state place n) (λ v. ends (take v xs) t ≡ true) (λ e. sym (h n (omega arith)) ∙ e)
    (λ e. top_ends state place xs t n (λ k l. h k (omega arith)))

pub length_top : (state : ℕ) (signs : List ℕ) (c : Cue) → c.place + c.len ≤ length signs → length (top_front state signs c) ≡ top state c.place c.len
length_top state signs c h =
    length-take _ (part_of signs c) ∙ (ap (min (top state c.place c.len)) (length_part signs c h) ∙ omega (arith, top_within state c.place c.len))

-- The longest front of all whose bit is set ends the text.
reach_ends : (state : ℕ) (signs : List ℕ) (spans : List Cue) (t : List ℕ) → Exact state signs spans t → ends (reach state signs spans) t ≡ true
reach_ends state signs [] t h = ends_none t
reach_ends state signs (c ∷ spans) t h =
    cond_both (ltb (length (reach state signs spans)) (length (top_front state signs c))) (top_front state signs c) (reach state signs spans) (λ v. ends v t ≡ true)
    (λ e. top_ends state c.place (part_of signs c) t c.len (λ k l. h zero k l))
    (λ e. reach_ends state signs spans t (λ i k m. h (suc i) k m))

pub reach_long : (state : ℕ) (signs : List ℕ) (spans : List Cue) → Spanned (length signs) spans → (c k : ℕ) → c < length spans → k < (span_at spans c).len → bit state ((span_at spans c).place + k) ≡ true → suc k ≤ length (reach state signs spans)
reach_long state signs [] all c k l m b = absurd (omega arith)
reach_long state signs (s ∷ spans) all zero k l m b =
    let len = length_top state signs s (all zero (omega arith)).1 in
    let most = top_most state s.place s.len k m b in
    grind (arith, len, most)
reach_long state signs (s ∷ spans) all (suc c) k l m b =
    let rest = reach_long state signs spans (λ i h. all (suc i) (omega arith)) c k (omega arith) m b in
    grind (arith, rest)

pub reach_short : (state : ℕ) (signs : List ℕ) (spans : List Cue) → Spanned (length signs) spans → length (reach state signs spans) ≤ length signs
reach_short state signs [] all = omega arith
reach_short state signs (c ∷ spans) all =
    let here = (all zero (omega arith)).1 in
    grind (arith, length_top state signs c here, top_within state c.place c.len, here, reach_short state signs spans (λ i h. all (suc i) (omega arith)))

-- It is a beginning.
pub begins_front_of : (k : ℕ) (c : List ℕ) → begins (take k c) c ≡ true
begins_front_of zero c = refl
begins_front_of (suc k) [] = refl
begins_front_of (suc k) (x ∷ c) = grind (arith, begins_front_of k c)

pub beginning_some : (cues : List (List ℕ)) (b : List ℕ) → some_begins cues b ≡ true → beginning cues b ≡ true
beginning_some cues [] h = refl
beginning_some cues (x ∷ b) h = h

beginning_more : (cues : List (List ℕ)) (c b : List ℕ) → beginning cues b ≡ true → beginning (c ∷ cues) b ≡ true
beginning_more cues c [] h = refl
beginning_more cues c (x ∷ b) h = grind (arith, h)

pub reach_begins : (state : ℕ) (signs : List ℕ) (spans : List Cue) → beginning (parts_of signs spans) (reach state signs spans) ≡ true
reach_begins state signs [] = refl
reach_begins state signs (c ∷ spans) =
    cond_both (ltb (length (reach state signs spans)) (length (top_front state signs c))) (top_front state signs c) (reach state signs spans) (λ v. beginning (part_of signs c ∷ parts_of signs spans) v ≡ true)
    (λ e. beginning_some (part_of signs c ∷ parts_of signs spans) (top_front state signs c) (or_left _ _ (begins_front_of (top state c.place c.len) (part_of signs c))))
    (λ e. beginning_more (parts_of signs spans) (part_of signs c) (reach state signs spans) (reach_begins state signs spans))

pub front_begins : (signs : List ℕ) (spans : List Cue) (c k : ℕ) → c < length spans → beginning (parts_of signs spans) (take k (part_of signs (span_at spans c))) ≡ true
front_begins signs spans c k h =
    beginning_some (parts_of signs spans) _ (some_from_cue (parts_of signs spans) (take k (part_of signs (span_at spans c))) c (omega (arith, length-map spans (part_of signs)))
    (rw (part_at signs spans c h) (begins_front_of k (part_of signs (span_at spans c))))).0

-- The cue that a non-empty beginning is a front of, with its bit.
pub front_set : (state : ℕ) (signs : List ℕ) (spans : List Cue) (t : List ℕ) (c k : ℕ) → Spanned (length signs) spans → Exact state signs spans t → c < length spans → length t ≡ suc k → begins t (part_of signs (span_at spans c)) ≡ true →
    (k < (span_at spans c).len) × (bit state ((span_at spans c).place + k) ≡ true)
front_set state signs spans t c k all exact h len b =
    let cut : take (length t) (part_of signs (span_at spans c)) ≡ t = begins_take t _ b in
    let whole = length_part signs (span_at spans c) (all c h).1 in
    let short : k < (span_at spans c).len = omega (arith, ap length cut, length-take (length t) (part_of signs (span_at spans c))) in
    let same-cut : take (suc k) (part_of signs (span_at spans c)) ≡ t = ap (λ n. take n (part_of signs (span_at spans c))) (sym len) ∙ cut in
    (short, exact c k short ∙ (ap (λ b. ends b t) same-cut ∙ ends_itself t))

pub reach_is : ReachRight
reach_is state signs spans [] all exact h = same_is _ [] (reach_ends state signs spans [] exact)
reach_is state signs [] (x ∷ b) all exact h = grind (arith, h)
reach_is state signs (s ∷ spans) (x ∷ b) all exact h =
    let cues : List (List ℕ) = parts_of signs (s ∷ spans) in
    let l = lowest_begins cues (x ∷ b) h in
    let n : ℕ = lowest cues (x ∷ b) in
    let there : n < length (s ∷ spans) = omega (arith, l.0, length-map (s ∷ spans) (part_of signs)) in
    let front = front_set state signs (s ∷ spans) (x ∷ b) n (length b) all exact there refl (subst (λ c. begins (x ∷ b) c ≡ true) (part_at signs (s ∷ spans) n there) l.1) in
    let long = reach_long state signs (s ∷ spans) all n (length b) there front.0 front.1 in
    let end = ends_true (reach state signs (s ∷ spans)) (x ∷ b) (reach_ends state signs (s ∷ spans) (x ∷ b) exact) in
    ends_same (reach state signs (s ∷ spans)) (x ∷ b) (x ∷ b) end ([], refl) (omega (arith, long, ap length end.1, length-append end.0 (reach state signs (s ∷ spans))))

-- With no bit set nothing is live.
pub take_some : (k : ℕ) (xs : List ℕ) → 0 < length xs → same (take (suc k) xs) [] ≡ false
take_some k [] h = absurd (omega arith)
take_some k (x ∷ xs) h = refl

pub exact_zero : (signs : List ℕ) (spans : List Cue) → Spanned (length signs) spans → Exact 0 signs spans []
exact_zero signs spans all c k l =
    let h = in_spans spans c k l in
    bit_zero _ ∙ sym (take_some k (part_of signs (span_at spans c)) (omega (arith, length_part signs (span_at spans c) (all c h).1, (all c h).0)))

pub reach_zero : (signs : List ℕ) (spans : List Cue) → Spanned (length signs) spans → reach 0 signs spans ≡ []
reach_zero signs spans all = reach_is 0 signs spans [] all (exact_zero signs spans all) refl

-- What stood before a place: the place before it, or the start of a cue.
before_right : (state firsts : ℕ) (signs : List ℕ) (spans : List Cue) (t : List ℕ) (c k : ℕ) → Spanned (length signs) spans → Starts firsts spans → Exact state signs spans t → length signs ≤ 64 →
    c < length spans → k < (span_at spans c).len → bit (bit_or (state * 2 % 2 ^ 64) firsts) ((span_at spans c).place + k) ≡ ends (take k (part_of signs (span_at spans c))) t
before_right state firsts signs spans t c zero all starts exact short h l =
    grind (arith, bit_or_lem (state * 2 % 2 ^ 64) firsts ((span_at spans c).place + zero), starts c zero l, ends_none t)
before_right state firsts signs spans t c (suc k) all starts exact short h l =
    let p : ℕ = (span_at spans c).place + k in
    let next : (span_at spans c).place + suc k ≡ suc p = add-suc _ k in
    let moved : bit (state * 2 % 2 ^ 64) ((span_at spans c).place + suc k) ≡ ends (take (suc k) (part_of signs (span_at spans c))) t =
    ap (bit (state * 2 % 2 ^ 64)) next ∙ (bit_shift state p (omega (arith, (all c h).1)) ∙ exact c k (omega arith)) in
    grind (arith, bit_or_lem (state * 2 % 2 ^ 64) firsts ((span_at spans c).place + suc k), moved, starts c (suc k) l)

step_exact : (state firsts mask s : ℕ) (signs : List ℕ) (spans : List Cue) (t : List ℕ) → Spanned (length signs) spans → Starts firsts spans → Exact state signs spans t → length signs ≤ 64 →
    ((p : ℕ) → p < length signs → bit mask p ≡ eqb (get_or signs p 0) s) → Exact (stepped state firsts mask) signs spans (t ++ s ∷ [])
step_exact state firsts mask s signs spans t all starts exact short masked c k l =
    let h = in_spans spans c k l in
    let cue : List ℕ = part_of signs (span_at spans c) in
    let here : ℕ = (span_at spans c).place + k in
    let hit : bit mask here ≡ eqb (get_or signs here 0) s = masked here (omega (arith, (all c h).1)) in
    let x : get_or cue k 0 ≡ get_or signs here 0 = part_sign signs (span_at spans c) k l in
    let old : bit (bit_or (state * 2 % 2 ^ 64) firsts) here ≡ ends (take k cue) t = before_right state firsts signs spans t c k all starts exact short h l in
    let more : take (suc k) cue ≡ take k cue ++ get_or cue k 0 ∷ [] = take-suc cue k 0 (omega (arith, length_part signs (span_at spans c) (all c h).1)) in
    let push : ends (take (suc k) cue) (t ++ s ∷ []) ≡ (eqb (get_or cue k 0) s && ends (take k cue) t) = ap (λ b. ends b (t ++ s ∷ [])) more ∙ ends_push (take k cue) t (get_or cue k 0) s in
    grind (arith, bit_and_lem (bit_or (state * 2 % 2 ^ 64) firsts) mask here, hit, x, old, push)

-- The bits of a text are the bits of its live beginning.
exact_live : (state : ℕ) (signs : List ℕ) (spans : List Cue) (t : List ℕ) → Exact state signs spans t → Exact state signs spans (live (parts_of signs spans) t)
exact_live state signs spans t exact c k l =
    let h = in_spans spans c k l in
    exact c k l ∙ sym (ends_live (parts_of signs spans) _ t (front_begins signs spans c (suc k) h))

pub exact_reach : (state : ℕ) (signs : List ℕ) (spans : List Cue) (t : List ℕ) → Spanned (length signs) spans → Exact state signs spans t → beginning (parts_of signs spans) t ≡ true → Exact state signs spans (reach state signs spans)
exact_reach state signs spans t all exact h = subst (Exact state signs spans) (sym (reach_is state signs spans t all exact h)) exact

-- Shift-And steps from the live beginning to the live beginning.
pub step_right : StepRight
step_right state firsts mask s signs spans all starts exact short masked =
    let t : List ℕ = reach state signs spans ++ s ∷ [] in
    let next = exact_live (stepped state firsts mask) signs spans t (step_exact state firsts mask s signs spans _ all starts exact short masked) in
    let b = live_begins (parts_of signs spans) t in
    record { live = reach_is _ signs spans _ all next b; exact = exact_reach _ signs spans _ all next b }

-- The bit of a whole cue.
pub whole_bit : (state : ℕ) (signs : List ℕ) (spans : List Cue) (t : List ℕ) (c : ℕ) → Spanned (length signs) spans → Exact state signs spans t → c < length spans →
    bit state ((span_at spans c).place + (span_at spans c).len - 1) ≡ ends (part_of signs (span_at spans c)) t
whole_bit state signs spans t c all exact h =
    let s : Cue = span_at spans c in
    let some : 1 ≤ s.len = (all c h).0 in
    let k : ℕ = s.len - 1 in
    let at : s.place + s.len - 1 ≡ s.place + k = omega arith in
    let n : suc k ≡ s.len = omega arith in
    ap (bit state) at ∙ (exact c k (omega arith) ∙ ap (λ b. ends b t) (take_all (suc k) (part_of signs s) (omega (arith, length_part signs s (all c h).1))))
