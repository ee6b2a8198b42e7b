-- Runs in their order: a list in this order is told by what stands in it.
use Rattle.std.proofs.Common.{◌≡◌, ℕ, zero, suc, ◌<◌, List, [], ◌∷◌, ◌++◌, length, get_or, sym, refl, ap, ◌∙◌, subst, inl, inr, ⊎_elim, arith}
use Rattle.matching.specs.Match.{Among}
use Rattle.matching.proofs.Sightings.{among_cases, among_get_d}
use Rattle.script.specs.Runs.{Before}

-- No run is listed before itself, and of two only one before the other.
before_not : (p q : ℕ × ℕ × ℕ) → Before p q → p ≡ q → ⊥
before_not p q h e = grind (arith, ap (λ r. r.0) e, ap (λ r. r.2) e)

before_once : (p q : ℕ × ℕ × ℕ) → Before p q → Before q p → ⊥
before_once p q h k = grind arith

-- Each run is listed before all that follow it.
abbrev pub Rising : List (ℕ × ℕ × ℕ) → Type 0
Rising [] = Unit {0}
Rising (p ∷ ps) = ((q : ℕ × ℕ × ℕ) → Among q ps → Before p q) × Rising ps

-- The same by places in the list.
abbrev pub Ordered : List (ℕ × ℕ × ℕ) → Type 0
Ordered es = (i j : ℕ) → i < j → j < length es → Before (get_or es i (0, 0, 0)) (get_or es j (0, 0, 0))

pub rising_ordered : (es : List (ℕ × ℕ × ℕ)) → Rising es → Ordered es
rising_ordered [] r i j l m = grind arith
rising_ordered (p ∷ ps) r zero zero l m = grind arith
rising_ordered (p ∷ ps) r (suc i) zero l m = grind arith
rising_ordered (p ∷ ps) r zero (suc j) l m = r.0 (get_or ps j (0, 0, 0)) (among_get_d ps j (0, 0, 0) (omega arith))
rising_ordered (p ∷ ps) r (suc i) (suc j) l m = rising_ordered ps r.1 i j (omega arith) (omega arith)

-- The place of what stands in a list.
among_place : (es : List (ℕ × ℕ × ℕ)) (q : ℕ × ℕ × ℕ) → Among q es → (i : ℕ) × (i < length es) × (get_or es i (0, 0, 0) ≡ q)
among_place [] q a = absurd a
among_place (p ∷ ps) q a =
    ⊎_elim (λ (e : p ≡ q). (0, omega arith, e)) (λ b. let f = among_place ps q b in (suc f.0, omega (arith, f.1), f.2)) a

pub ordered_rising : (es : List (ℕ × ℕ × ℕ)) → Ordered es → Rising es
ordered_rising [] o = tt
ordered_rising (p ∷ ps) o = (
  λ q a. let f = among_place ps q a in subst (λ r. Before p r) f.2 (o 0 (suc f.0) (omega arith) (omega (arith, f.1))),
  ordered_rising ps (λ i j l m. o (suc i) (suc j) (omega arith) (omega arith)),
)

pub rising_append : (ps qs : List (ℕ × ℕ × ℕ)) → Rising ps → Rising qs → ((p q : ℕ × ℕ × ℕ) → Among p ps → Among q qs → Before p q) → Rising (ps ++ qs)
rising_append [] qs r s b = s
rising_append (p ∷ ps) qs r s b = (
  λ q a. ⊎_elim (λ (k : Among q ps). r.0 q k) (λ (k : Among q qs). b p q (inl refl) k) (among_cases q ps qs a),
  rising_append ps qs r.1 s (λ x y k l. b x y (inr k) l),
)

-- Two lists in this order with the same runs are equal.
pub rising_same : (ps qs : List (ℕ × ℕ × ℕ)) → Rising ps → Rising qs → ((r : ℕ × ℕ × ℕ) → Among r ps → Among r qs) → ((r : ℕ × ℕ × ℕ) → Among r qs → Among r ps) → ps ≡ qs
rising_same [] [] f g there back = refl
rising_same [] (q ∷ qs) f g there back = absurd (back q (inl refl))
rising_same (p ∷ ps) [] f g there back = absurd (there p (inl refl))
rising_same (p ∷ ps) (q ∷ qs) f g there back =
    let e : p ≡ q = ⊎_elim (λ (h : q ≡ p). sym h) (λ (a : Among p qs). ⊎_elim (λ (h : p ≡ q). h) (λ (b : Among q ps). absurd (before_once p q (f.0 q b) (g.0 p a))) (back q (inl refl))) (there p (inl refl)) in
    let tails : ps ≡ qs = rising_same ps qs f.1 g.1
    (λ r a. ⊎_elim (λ (h : q ≡ r). absurd (before_not p r (f.0 r a) (e ∙ h))) (λ b. b) (there r (inr a)))
    (λ r a. ⊎_elim (λ (h : p ≡ r). absurd (before_not q r (g.0 r a) (sym e ∙ h))) (λ b. b) (back r (inr a))) in
    cc
