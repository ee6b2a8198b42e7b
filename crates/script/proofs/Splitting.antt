-- Lists cut into parts of given lengths.
use Rattle.std.proofs.Common.{◌≡◌, ℕ, zero, suc, ◌+◌, ◌≤◌, List, [], ◌∷◌, ◌++◌, map, length, get_or, take, drop, set, sum, sym, refl, ap, ◌∙◌, arith}
use Rattle.std.proofs.lemmas.List.{take-append-le, drop-append-le, length-drop, length-append, length-take-le, take-append-drop, take_all, nil_from_length}
use Rattle.std.proofs.lemmas.List.Sums.{sum_by-cons}
use Rattle.std.specs.List.{flat_map}
use Rattle.script.specs.Listed.{split, behind_last}

sum_cons : (n : ℕ) (ns : List ℕ) → sum (n ∷ ns) ≡ n + sum ns
sum_cons n ns = sum_by-cons (λ x. x) n ns

rest_long : {E : Type 0} (n : ℕ) (ns : List ℕ) (xs : List E) → sum (n ∷ ns) ≡ length xs → sum ns ≡ length (drop n xs)
rest_long n ns xs h = let l = length-drop n xs in let s = sum_cons n ns in omega arith

first_within : {E : Type 0} (n : ℕ) (ns : List ℕ) (xs : List E) → sum (n ∷ ns) ≡ length xs → n ≤ length xs
first_within n ns xs h = let s = sum_cons n ns in omega arith

pub split_append : {E : Type 0} (ns ms : List ℕ) (xs ys : List E) → sum ns ≡ length xs → split (ns ++ ms) (xs ++ ys) ≡ split ns xs ++ split ms ys
split_append [] ms xs ys h = let e = nil_from_length xs (sym h) in ap (λ zs. split ms (zs ++ ys)) e
split_append (n ∷ ns) ms xs ys h =
    let w = first_within n ns xs h in
    let t = take-append-le n xs ys w in
    let d = drop-append-le n xs ys w in
    let r = split_append ns ms (drop n xs) ys (rest_long n ns xs h) in
    cc

pub joined_split : {E : Type 0} (ns : List ℕ) (xs : List E) → sum ns ≡ length xs → flat_map (λ (c : List E). c) (split ns xs) ≡ xs
joined_split [] xs h = sym (nil_from_length xs (sym h))
joined_split (n ∷ ns) xs h =
    ap (λ zs. take n xs ++ zs) (joined_split ns (drop n xs) (rest_long n ns xs h)) ∙ take-append-drop n xs

pub lengths_split : {E : Type 0} (ns : List ℕ) (xs : List E) → sum ns ≡ length xs → map length (split ns xs) ≡ ns
lengths_split [] xs h = refl
lengths_split (n ∷ ns) xs h =
    let a = length-take-le n xs (first_within n ns xs h) in
    let b = lengths_split ns (drop n xs) (rest_long n ns xs h) in
    cc

pub length_split : {E : Type 0} (ns : List ℕ) (xs : List E) → length (split ns xs) ≡ length ns
length_split [] xs = refl
length_split (n ∷ ns) xs = ap suc (length_split ns (drop n xs))

pub split_last : {E : Type 0} (k : ℕ) (ns : List ℕ) (xs : List E) (e : E) → k + 1 ≡ length ns → sum ns ≡ length xs →
    split (set ns k (get_or ns k 0 + 1)) (xs ++ e ∷ []) ≡ behind_last (split ns xs) e
split_last k [] xs e h s = absurd (omega arith)
split_last zero (n ∷ []) xs e h s =
    let z = sum_cons n [] in
    let all : length xs ≤ n = omega arith in
    let a : take n xs ≡ xs = take_all n xs all in
    let b : take (n + 1) (xs ++ e ∷ []) ≡ xs ++ e ∷ [] = take_all (n + 1) (xs ++ e ∷ []) (omega (arith, length-append xs (e ∷ []))) in
    cc
split_last (suc k) (n ∷ []) xs e h s = absurd (omega arith)
split_last zero (n ∷ (m ∷ ns)) xs e h s = absurd (omega arith)
split_last (suc k) (n ∷ (m ∷ ns)) xs e h s =
    let w = first_within n (m ∷ ns) xs s in
    let t = take-append-le n xs (e ∷ []) w in
    let d = drop-append-le n xs (e ∷ []) w in
    let r = split_last k (m ∷ ns) (drop n xs) e (omega arith) (rest_long n (m ∷ ns) xs s) in
    cc

-- The same, where the length is read first and the events are known by an equation.
pub bumped : {E : Type 0} (k : ℕ) (ns : List ℕ) (xs ys : List E) (e : E) (n : ℕ) → k + 1 ≡ length ns → sum ns ≡ length xs → n ≡ get_or ns k 0 → ys ≡ xs ++ e ∷ [] →
    split (set ns k (n + 1)) ys ≡ behind_last (split ns xs) e
bumped k ns xs ys e n h s value grown = let r = split_last k ns xs e h s in cc
