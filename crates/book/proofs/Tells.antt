-- From the three laws alone: equal signs are sameness, and so for lists.
use Rattle.std.proofs.Common.{◌≡◌, ℕ, zero, suc, ◌+◌, ◌<◌, ◌≤◌, Bool, true, false, ◌&&◌, eqb, ltb, List, [], ◌∷◌, ◌++◌, length, get_or, take, drop, sym, refl, ap, ◌∙◌, ⊎_elim, append_assoc, append-nil, arith, length-append, rules}
use lib.Seq.{drop-length}
use Rattle.std.proofs.lemmas.Slice.Eq.{compares_Decides}
use Rattle.std.proofs.lemmas.List.{map-append, take-map, drop-map, drop-append-le, get_or_at, take-append-drop}
use Rattle.std.proofs.ByRecursion.{All-take, All-drop, All-from_get_or}
use Rattle.std.proofs.lemmas.Bool.{cases_Bool, lt-ltb, le-ltb, eq-eqb, ne_eqb, cases_lt, both_ways, and_right, cases_eq, cond-true, cond-false}
use Rattle.std.specs.List.{AllByRecursion}
use Rattle.matching.specs.Match.{listed, same as equal}
use Rattle.events.specs.Sameness.{Lawful, same_lists}
use Rattle.book.specs.Signs.{first_place, sign_of, signs_of}
use Rattle.book.specs.Cues.{part, part_of, parts_of, has_same}
use Rattle.book.specs.Held.{Held, Signed, look_from, lookup, lookups}
use Rattle.book.specs.Bridge.{SignTells, CuesEnd}
use Rattle.book.specs.declared.cue.Cue.{Cue}

-- Events that are the same are the same as the same events.
alike : {E : Type 0} (same : E → E → Bool) → Lawful same → (m a b : E) → same a b ≡ true → same m a ≡ same m b
alike same law m a b h =
    ⊎_elim (λ (p : same m a ≡ true). p ∙ sym (law.transitive m a b p h))
    (λ (p : same m a ≡ false). ⊎_elim (λ (q : same m b ≡ true). law.transitive m b a q (law.symmetric b a ∙ h) ∙ sym q) (λ (q : same m b ≡ false). p ∙ sym q) (cases_Bool (same m b)))
    (cases_Bool (same m a))

first_place_same : {E : Type 0} (same : E → E → Bool) → Lawful same → (ms : List E) (a b : E) → same a b ≡ true → first_place same ms a ≡ first_place same ms b
first_place_same same law [] a b h = refl
first_place_same same law (m ∷ ms) a b h = grind (arith, alike same law m a b h, first_place_same same law ms a b h)

-- At its first place an event has one that is the same.
same_at_first : {E : Type 0} (same : E → E → Bool) (ms : List E) (e d : E) → first_place same ms e < length ms → same (get_or ms (first_place same ms e) d) e ≡ true
same_at_first same [] e d h = absurd (omega arith)
same_at_first same (m ∷ ms) e d h =
    ⊎_elim (λ (t : same m e ≡ true). rw t (t)) (λ (t : same m e ≡ false). rw t (same_at_first same ms e d (omega (arith, rw t at h)))) (cases_Bool (same m e))

-- No same event stands before the first place.
first_is_least : {E : Type 0} (same : E → E → Bool) (ms : List E) (e d : E) (i : ℕ) → i < length ms → same (get_or ms i d) e ≡ true → first_place same ms e ≤ i
first_is_least same [] e d i h s = absurd (omega arith)
first_is_least same (m ∷ ms) e d zero h s = grind (arith, s)
first_is_least same (m ∷ ms) e d (suc i) h s = grind (arith, first_is_least same ms e d i (omega arith) s)

-- An event of the material by what its sign tells: equal signs exactly where events are the same.
abbrev pub Telling : {E : Type 0} → (E → E → Bool) → List E → E → Type 0
Telling {E = E} same material m = (e : E) → eqb (sign_of same material m) (sign_of same material e) ≡ same m e

sign_found : {E : Type 0} (same : E → E → Bool) (material : List E) (e : E) → first_place same material e < length material → sign_of same material e ≡ first_place same material e
sign_found same material e h = grind (arith, lt-ltb _ _ h)

telling_same : {E : Type 0} (same : E → E → Bool) → Lawful same → (material : List E) (m e : E) → same m e ≡ true → eqb (sign_of same material m) (sign_of same material e) ≡ true
telling_same same law material m e s = let f = first_place_same same law material m e s in grind (arith, f)

telling_other : {E : Type 0} (same : E → E → Bool) → Lawful same → (material : List E) → length material ≤ 2048 → (m e d : E) → first_place same material m < length material → same m e ≡ false → sign_of same material m ≡ sign_of same material e → ⊥
telling_other same law material short m e d found s q =
    ⊎_elim
    (λ (l : first_place same material e < length material).
    let p : first_place same material m ≡ first_place same material e = sym (sign_found same material m found) ∙ q ∙ sign_found same material e l in
    let at = same_at_first same material m d found in
    let at' = same_at_first same material e d l in
    let m' = law.symmetric (get_or material (first_place same material m) d) m in
    let a : same (get_or material (first_place same material e) d) m ≡ true = rw (← p) at in
    let b = law.transitive m (get_or material (first_place same material e) d) e (law.symmetric m _ ∙ a) at' in
    both_ways (same m e) s b)
    (λ (l : length material ≤ first_place same material e).
    let lim : sign_of same material e ≡ 2048 = grind (arith, le-ltb _ _ l) in
    let own = sign_found same material m found in
    omega arith)
    (cases_lt (first_place same material e) (length material))

pub sign_tells : {E : Type 0} (same : E → E → Bool) → Lawful same → (material : List E) → length material ≤ 2048 → (e : E) → SignTells same material e
sign_tells same law material short e i d h =
    let m = get_or material i d in
    let found = first_is_least same material m d i h (law.reflexive m) in
    ⊎_elim
    (λ (s : same m e ≡ true). telling_same same law material m e s ∙ sym s)
    (λ (s : same m e ≡ false). ne_eqb _ _ (telling_other same law material short m e d (omega arith) s) ∙ sym s)
    (cases_Bool (same m e))

all_telling : {E : Type 0} (same : E → E → Bool) → Lawful same → (material : List E) → length material ≤ 2048 → AllByRecursion (Telling same material) material
all_telling same law [] short = tt
all_telling same law (m ∷ ms) short = All-from_get_or (Telling same (m ∷ ms)) (m ∷ ms) m (λ i h e. sign_tells same law (m ∷ ms) short e i m h)

-- Lists of material events are the same as others exactly where their signs are equal.
pub signs_same : {E : Type 0} (same : E → E → Bool) (material xs ys : List E) → AllByRecursion (Telling same material) xs → equal (signs_of same material xs) (signs_of same material ys) ≡ same_lists same xs ys
signs_same same material [] [] a = refl
signs_same same material [] (y ∷ ys) a = refl
signs_same same material (x ∷ xs) [] a = refl
signs_same same material (x ∷ xs) (y ∷ ys) a = let h = a.0 y in let t = signs_same same material xs ys a.1 in cc

-- The signs of a part are the part of the signs.
pub part_signs : {E : Type 0} (same : E → E → Bool) (material : List E) (signs : List ℕ) → signs ≡ signs_of same material material → (place len : ℕ) → part place len signs ≡ signs_of same material (part place len material)
part_signs same material signs signed place len =
    ap (part place len) signed ∙ (ap (take len) (drop-map (sign_of same material) place material) ∙ take-map (sign_of same material) len (drop place material))

pub part_telling : {E : Type 0} (same : E → E → Bool) → Lawful same → (material : List E) → length material ≤ 2048 → (place len : ℕ) → AllByRecursion (Telling same material) (part place len material)
part_telling same law material short place len = All-take _ len _ (All-drop _ place _ (all_telling same law material short))

-- Two parts have equal signs exactly where their events are the same.
pub parts_same : {E : Type 0} (same : E → E → Bool) → Lawful same → (material : List E) (signs : List ℕ) → length material ≤ 2048 → signs ≡ signs_of same material material → (c d : Cue) →
    equal (part_of signs c) (part_of signs d) ≡ same_lists same (part_of material c) (part_of material d)
parts_same same law material signs short signed c d =
    let p = part_signs same material signs signed c.place c.len in
    let q = part_signs same material signs signed d.place d.len in
    let s = signs_same same material (part_of material c) (part_of material d) (part_telling same law material short c.place c.len) in
    cc

pub has_same_signs : {E : Type 0} (same : E → E → Bool) → Lawful same → (material : List E) (signs : List ℕ) → length material ≤ 2048 → signs ≡ signs_of same material material → (cues : List Cue) (given : Cue) →
    listed (parts_of signs cues) (part_of signs given) ≡ has_same same material cues given
has_same_signs same law material signs short signed [] given = refl
has_same_signs same law material signs short signed (c ∷ cues) given =
    let h = parts_same same law material signs short signed c given in
    let t = has_same_signs same law material signs short signed cues given in
    cc

same_lists_equal : (xs ys : List ℕ) → (equal xs ys ≡ true → xs ≡ ys) × (xs ≡ ys → equal xs ys ≡ true)
same_lists_equal xs ys = compares_Decides equal (search rules) xs ys

pub cues_end : {E : Type 0} (same : E → E → Bool) → Lawful same → (h : Held E) → length h.material ≤ 2048 → Signed same h → CuesEnd same h
cues_end same law h short signed c text =
    let own = part_of h.material c in
    let p = part_signs same h.material h.signs signed c.place c.len in
    let told = part_telling same law h.material short c.place c.len in
    let f = signs_of same h.material in (
      λ ends.
          let u = ends.0 in
          let v = ends.1 in
          let s = signs_same same h.material own v told in
          let e : f own ≡ f v = (same_lists_equal (f own) (f v)).0 (s ∙ ends.3) in
          (f u, rw (p, e) (sym (map-append (sign_of same h.material) u v) ∙ ap f ends.2)),
      λ ends.
          let w = ends.0 in
          let v = drop (length w) text in
          let x : drop (length w) (w ++ part_of h.signs c) ≡ part_of h.signs c =
          drop-append-le (length w) w (part_of h.signs c) (omega arith) ∙ ap (λ z. z ++ part_of h.signs c) (drop-length w) in
          let y : part_of h.signs c ≡ f v = sym x ∙ (ap (drop (length w)) ends.1 ∙ drop-map (sign_of same h.material) (length w) text) in
          let s = signs_same same h.material own v told in
          (take (length w) text, v, take-append-drop (length w) text, sym s ∙ (same_lists_equal (f own) (f v)).1 (sym p ∙ y)),
    )

-- A sign is at most 2,048.
pub signs_small : {E : Type 0} (same : E → E → Bool) (material : List E) → length material ≤ 2048 → (es : List E) (k : ℕ) → get_or (signs_of same material es) k 0 ≤ 2048
signs_small same material short [] k = omega arith
signs_small same material short (e ∷ es) zero = grind arith
signs_small same material short (e ∷ es) (suc k) = signs_small same material short es k

-- Looking up from a place on, where the signs are right: the first place from there on that is its own
-- sign and has a same event is the first place of the event, unless that lies before.
look_sign : {E : Type 0} (same : E → E → Bool) → Lawful same → (material : List E) (e : E) (front ms : List E) (i : ℕ) → front ++ ms ≡ material → length front ≡ i → i ≤ first_place same material e →
    look_from same i ms (signs_of same material ms) e ≡ sign_of same material e
look_sign same law material e front [] i split long before =
    let all : length material ≡ i = sym (ap length split) ∙ (ap length (append-nil front) ∙ long) in
    sym (cond-false (ltb (first_place same material e) (length material)) (first_place same material e) 2048 (le-ltb (first_place same material e) (length material) (omega arith)))
look_sign same law material e front (m ∷ ms) i split long before =
    let size : length material ≡ length front + length (m ∷ ms) = sym (ap length split) ∙ length-append front (m ∷ ms) in
    let inside : i < length material = omega arith in
    let here : get_or material i m ≡ m = ap (λ xs. get_or xs i m) (sym split) ∙ get_or_at front m ms m i long in
    ⊎_elim
    (λ (s : same m e ≡ true).
    let at : first_place same material e ≤ i = first_is_least same material e m i inside (ap (λ x. same x e) here ∙ s) in
    let own : first_place same material e ≡ i = omega arith in
    let its : first_place same material m ≡ i = first_place_same same law material m e s ∙ own in
    let its-sign : sign_of same material m ≡ i = sign_found same material m (omega arith) ∙ its in
    let test : (eqb (sign_of same material m) i && same m e) ≡ true = ap (λ t. t && same m e) (eq-eqb (sign_of same material m) i its-sign) ∙ s in
    cond-true (eqb (sign_of same material m) i && same m e) i _ test ∙ sym (sign_found same material e (omega arith) ∙ own))
    (λ (s : same m e ≡ false).
    let test : (eqb (sign_of same material m) i && same m e) ≡ false = and_right (eqb (sign_of same material m) i) (same m e) s in
    let later : i + 1 ≤ first_place same material e =
    ⊎_elim
    (λ (q : first_place same material e ≡ i).
    let t = same_at_first same material e m (omega arith) in
    let u : same m e ≡ true = ap (λ x. same x e) (sym (ap (λ k. get_or material k m) q ∙ here)) ∙ t in
    absurd (both_ways (same m e) s u))
    (λ (q : first_place same material e ≡ i → ⊥). omega arith)
    (cases_eq (first_place same material e) i) in
    cond-false (eqb (sign_of same material m) i && same m e) i _ test ∙
    look_sign same law material e (front ++ m ∷ []) ms (i + 1) (append_assoc front (m ∷ []) ms ∙ split) (length-append front (m ∷ []) ∙ omega arith) later)
    (cases_Bool (same m e))

pub lookup_sign : {E : Type 0} (same : E → E → Bool) → Lawful same → (h : Held E) → Signed same h → (e : E) → lookup same h e ≡ sign_of same h.material e
lookup_sign same law h signed e = ap (λ signs. look_from same 0 h.material signs e) signed ∙ look_sign same law h.material e [] h.material 0 refl refl (omega arith)

pub lookups_signs : {E : Type 0} (same : E → E → Bool) → Lawful same → (h : Held E) → Signed same h → (events : List E) → lookups same h events ≡ signs_of same h.material events
lookups_signs same law h signed [] = refl
lookups_signs same law h signed (e ∷ events) = let one = lookup_sign same law h signed e in let rest = lookups_signs same law h signed events in cc
