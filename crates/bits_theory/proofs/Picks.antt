-- What `max_by_key` picks, where the key is a number.
use Rattle.std.proofs.Common.{◌≡◌, ℕ, zero, suc, ◌<◌, ◌≤◌, Bool, true, false, List, [], ◌∷◌, length, get_or, Option, Some, None, MatchOption, sym, refl, ap, ap₂, ◌∙◌, subst, ⊎_elim, arith}
use Rattle.std.proofs.lemmas.Bool.{cases_Bool}
use Rattle.std.proofs.lemmas.Cmp.{ranked}
use Rattle.std.proofs.lemmas.Iterator.{YieldsList}
use Rattle.std.proofs.lemmas.Iterator.Consumers.{reduce_by_from_yields_List}
use Rattle.std.specs.Fn.{CalledAt}
use Rattle.std.specs.Iterator.{Drains, KeyTurn, PicksMaxByKey}
use Rattle.std.specs.List.{All, filter, fold, FoldsTo, reduce}
use Rattle.std.specs.Option.{option_map}
use Rattle.std.specs.Ordering.{nat_cmp, max_by_ordering}
use Rattle.std.specs.declared.cmp.Ordering.{Ordering}
use Rattle.std.specs.declared.cmp.Ordering.TheVariants.{Less, Equal, Greater}
use denote.Param.Members.{Mut}
use denote.Ref.{Bor}

-- The one with the greater key, and the second where they are equal.
abbrev pick : {B : Type 0} → (B → ℕ) → B → B → B
pick key b c = max_by_ordering (nat_cmp (key b) (key c)) b c

through : {A B : Type 0} (h : A → B) (o : Ordering) (b c : A) → h (max_by_ordering o b c) ≡ max_by_ordering o (h b) (h c)
through h Less b c = refl
through h Equal b c = refl
through h Greater b c = refl

no_less : {B : Type 0} (key : B → ℕ) (b c : B) (o : Ordering) → nat_cmp (key b) (key c) ≡ o → (key b ≤ key (max_by_ordering o b c)) × (key c ≤ key (max_by_ordering o b c))
no_less key b c Less e = (omega (arith, ranked (key b) (key c) Less (sym e)), omega arith)
no_less key b c Equal e = (omega (arith, ranked (key b) (key c) Equal (sym e)), omega arith)
no_less key b c Greater e = (omega arith, omega (arith, ranked (key b) (key c) Greater (sym e)))

all_none : {B : Type 0} (P : B → Type 0) → All P []
all_none P k d h = absurd (omega arith)

all_one : {B : Type 0} (P : B → Type 0) (x : B) (xs : List B) → P x → All P xs → All P (x ∷ xs)
all_one P x xs one all zero d h = one
all_one P x xs one all (suc k) d h = all k d (omega arith)

fold_most : {B : Type 0} (key : B → ℕ) (x : B) (xs : List B) → (key x ≤ key (fold (pick key) x xs)) × All (λ z. key z ≤ key (fold (pick key) x xs)) xs
fold_most key x [] = (omega arith, all_none _)
fold_most key x (y ∷ xs) =
    let here = no_less key x y (nat_cmp (key x) (key y)) refl in
    let rest = fold_most key (pick key x y) xs in
    (omega (arith, here.0, rest.0), all_one (λ z. key z ≤ key (fold (pick key) (pick key x y) xs)) y xs (omega (arith, here.1, rest.0)) rest.1)

turns : {A F : Type 0} (g : Mut F (Bor A × Unit {0}) ℕ) (key : A → ℕ) (f : F) → ((x : A) (k : ℕ) (q : F) → CalledAt g f x k q → (q ≡ f) × (k ≡ key x)) →
    (xs : List A) (p q : (F × ℕ) × A) → p.0.0 ≡ f → p.0.1 ≡ key p.1 → FoldsTo {P = (F × ℕ) × A} (KeyTurn max_by_ordering max_by_ordering g nat_cmp) p xs q → FoldsTo (λ a z c. c ≡ pick key a z) p.1 xs q.1
turns g key f computes [] p q a b h = ap (λ w. w.1) h
turns g key f computes (x ∷ xs) p q a b h =
    let m = h.0 in
    let t = h.1 in
    let told = computes x t.0 m.0.0 (subst (λ w. CalledAt g w x t.0 m.0.0) a t.2) in
    let order : t.1 ≡ nat_cmp (key p.1) (key x) = sym t.3 ∙ ap₂ nat_cmp b told.1 in
    let keyed : m.0.1 ≡ key m.1 = t.4 ∙ (ap₂ (max_by_ordering t.1) b told.1 ∙ (sym (through key t.1 p.1 x) ∙ ap key (sym t.5))) in
    (m.1, t.5 ∙ ap (λ o. max_by_ordering o p.1 x) order, turns g key f computes xs m q told.0 keyed h.2)

picked : {S A F : Type 0} (steps : S → Option A → S → Type 0) (g : Mut F (Bor A × Unit {0}) ℕ) (key : A → ℕ) (s : S) (f : F) → ((x : A) (k : ℕ) (q : F) → CalledAt g f x k q → (q ≡ f) × (k ≡ key x)) →
    (r : Option A) → PicksMaxByKey steps g nat_cmp s f r → MatchOption r (Drains steps s []) (λ y. (x : A) × (xs : List A) × Drains steps s (x ∷ xs) × FoldsTo (λ p z c. c ≡ pick key p z) x xs y)
picked steps g key s f computes None h = h
picked steps g key s f computes (Some y) h =
    let told = computes h.0 h.2 h.3 h.6 in
    (h.0, h.1, h.5, turns g key f computes h.1 ((h.3, h.2), h.0) (h.4, y) told.0 told.1 h.7)

reduced : {B : Type 0} (key : B → ℕ) (all : List B) (r : Option B) → r ≡ reduce (pick key) all → MatchOption r (all ≡ []) (λ m. All (λ z. key z ≤ key m) all)
reduced key [] None e = refl
reduced key [] (Some m) e = all_none _
reduced key (x ∷ xs) None e = absurd (cc)
reduced key (x ∷ xs) (Some m) e =
    let most = fold_most key x xs in
    let is : m ≡ fold (pick key) x xs = cc in
    subst (λ w. All (λ z. key z ≤ key w) (x ∷ xs)) (sym is) (all_one (λ z. key z ≤ key (fold (pick key) x xs)) x xs most.0 most.1)

-- No item has a greater key than the one that is picked, and none is picked only where there is no item.
pub picks_most : {S A B F : Type 0} {steps : S → Option A → S → Type 0} {v : A → B} {all : List B} (g : Mut F (Bor A × Unit {0}) ℕ) (key : B → ℕ) (s : S) (f : F) (r : Option A) → PicksMaxByKey steps g nat_cmp s f r → YieldsList steps v s all →
    ((x : A) (k : ℕ) (q : F) → CalledAt g f x k q → (q ≡ f) × (k ≡ key (v x))) → MatchOption (option_map v r) (all ≡ []) (λ m. All (λ z. key z ≤ key m) all)
picks_most {steps = steps} {v} {all} g key s f r ran yields computes =
    reduced key all (option_map v r) (reduce_by_from_yields_List (pick (λ x. key (v x))) (pick key) s r (λ p z. through v (nat_cmp (key (v p)) (key (v z))) p z) (picked steps g (λ x. key (v x)) s f computes r ran) yields)

-- What holds of each item that passes a test holds of an item of the list that passes.
pub of_passing : {B : Type 0} (test : B → Bool) (P : B → Type 0) (xs : List B) (i : ℕ) (d : B) → All P (filter test xs) → i < length xs → test (get_or xs i d) ≡ true → P (get_or xs i d)
of_passing test P [] i d all h e = absurd (omega arith)
of_passing test P (x ∷ xs) zero d all h e = (rw e at all) zero d (omega arith)
of_passing test P (x ∷ xs) (suc i) d all h e =
    ⊎_elim (λ (b : test x ≡ true). of_passing test P xs i d (λ k z l. (rw b at all) (suc k) z (omega arith)) (omega arith) e) (λ (b : test x ≡ false). of_passing test P xs i d (rw b at all) (omega arith) e) (cases_Bool (test x))
