-- What `runs` lists: exactly the runs of the cues in the text, in their order.
use Rattle.std.proofs.Common.{◌≡◌, ℕ, zero, suc, ◌+◌, ◌<◌, ◌≤◌, Bool, true, false, ◌⊎◌, List, [], ◌∷◌, ◌++◌, length, get_or, take, sym, refl, ap, ◌∙◌, subst, inl, inr, ⊎_elim, append_assoc, arith, length-append}
use Rattle.std.proofs.ByRecursion.{All-get_or}
use Rattle.std.proofs.lemmas.List.{length_push}
use Rattle.std.proofs.lemmas.Bool.{cond_both, cases_Bool}
use Rattle.events.specs.Sameness.{Lawful, same_lists}
use Rattle.matching.specs.Follow.{placed}
use Rattle.matching.specs.Match.{Among}
use Rattle.matching.proofs.Sightings.{among_cases, among_left, among_right}
use Rattle.book.specs.Bridge.{EndsSame}
use Rattle.script.specs.Booking.{Booked}
use Rattle.script.specs.Runs.{Lists, RunAt, exact_runs, runs, runs_at, runs_behind}
use Rattle.script.proofs.Order.{Rising, ordered_rising, rising_append, rising_ordered, rising_same}

-- What stands in a list with a place put before each.
placed_found : (p : ℕ) (seen : List (ℕ × ℕ)) (q : ℕ × ℕ × ℕ) → Among q (placed p seen) → (q.0 ≡ p) × Among (q.1, q.2) seen
placed_found p [] q a = absurd a
placed_found p (s ∷ seen) q a =
    ⊎_elim (λ (e : (p, s.0, s.1) ≡ q). (sym (ap (λ r. r.0) e), inl (ap (λ r. (r.1, r.2)) e)))
    (λ b. let f = placed_found p seen q b in (f.0, inr f.1)) a

placed_has : (p : ℕ) (seen : List (ℕ × ℕ)) (q : ℕ × ℕ × ℕ) → q.0 ≡ p → Among (q.1, q.2) seen → Among q (placed p seen)
placed_has p [] q e a = absurd a
placed_has p (s ∷ seen) q e a =
    ⊎_elim (λ (h : s ≡ (q.1, q.2)). inl (grind (arith, ap (λ r. r.0) h, ap (λ r. r.1) h)))
    (λ b. inr (placed_has p seen q e b)) a

module _ {E : Type 0} (same : E → E → Bool) where
  same_length : (c t : List E) → same_lists same c t ≡ true → length c ≡ length t
  same_length [] [] h = refl
  same_length [] (y ∷ t) h = grind arith
  same_length (x ∷ c) [] h = grind arith
  same_length (x ∷ c) (y ∷ t) h = grind (arith, same_length c t)

  -- What stands in `exact_runs`: a cue that is the same as the list.
  exact_found : (m : ℕ) (cues : List (List E)) (t : List E) (n k : ℕ) → Among (n, k) (exact_runs same m cues t) → (j : ℕ) × (n ≡ m + j) × (j < length cues) × (same_lists same (get_or cues j []) t ≡ true) × (k ≡ length t)
  exact_found m [] t n k = λ h. absurd h
  exact_found m (c ∷ cues) t n k =
      cond_both (same_lists same c t) ((m, length t) ∷ exact_runs same (suc m) cues t) (exact_runs same (suc m) cues t)
      (λ v. Among (n, k) v → (j : ℕ) × (n ≡ m + j) × (j < length (c ∷ cues)) × (same_lists same (get_or (c ∷ cues) j []) t ≡ true) × (k ≡ length t))
      (λ e h.
      ⊎_elim (λ (q : (m, length t) ≡ (n, k)). (0, grind arith, grind arith, e, grind arith))
      (λ a. let f = exact_found (suc m) cues t n k a in (suc f.0, grind arith, grind arith, f.3, f.4)) h)
      (λ e h. let f = exact_found (suc m) cues t n k h in (suc f.0, grind arith, grind arith, f.3, f.4))

  exact_has : (m : ℕ) (cues : List (List E)) (t : List E) (n j : ℕ) → n ≡ m + j → j < length cues → same_lists same (get_or cues j []) t ≡ true → Among (n, length t) (exact_runs same m cues t)
  exact_has m [] t n j e l h = grind arith
  exact_has m (c ∷ cues) t n zero e l h = grind arith
  exact_has m (c ∷ cues) t n (suc j) e l h = grind (arith, exact_has (suc m) cues t n j)

  -- What stands in `runs_at`: a cue that is the same as the end of the list.
  at_found : (cues : List (List E)) (t : List E) (n k : ℕ) → Among (n, k) (runs_at same cues t) → (n < length cues) × (length (get_or cues n []) ≡ k) × EndsSame same (get_or cues n []) t
  at_found cues [] n k h = absurd h
  at_found cues (x ∷ t) n k h =
      ⊎_elim
      (λ (a : Among (n, k) (exact_runs same 0 cues (x ∷ t))).
      let f = exact_found 0 cues (x ∷ t) n k a in
      let e : f.0 ≡ n = omega (arith, f.1) in
      let s : same_lists same (get_or cues n []) (x ∷ t) ≡ true = subst (λ i. same_lists same (get_or cues i []) (x ∷ t) ≡ true) e f.3 in
      (omega (arith, f.2), same_length (get_or cues n []) (x ∷ t) s ∙ sym f.4, ([], x ∷ t, refl, s)))
      (λ (a : Among (n, k) (runs_at same cues t)).
      let f = at_found cues t n k a in
      (f.0, f.1, (x ∷ f.2.0, f.2.1, ap (λ v. x ∷ v) f.2.2, f.2.3)))
      (among_cases (n, k) (exact_runs same 0 cues (x ∷ t)) (runs_at same cues t) h)

  at_has : (cues : List (List E)) (u v : List E) (n : ℕ) → n < length cues → same_lists same (get_or cues n []) v ≡ true → 0 < length v → Among (n, length v) (runs_at same cues (u ++ v))
  at_has cues [] [] n l s p = grind arith
  at_has cues [] (x ∷ v) n l s p =
      among_left (n, length (x ∷ v)) (exact_runs same 0 cues (x ∷ v)) (runs_at same cues v) (exact_has 0 cues (x ∷ v) n n (omega arith) l s)
  at_has cues (x ∷ u) v n l s p =
      among_right (n, length v) (exact_runs same 0 cues (x ∷ (u ++ v))) (runs_at same cues (u ++ v)) (at_has cues u v n l s p)

  -- What stands in `runs_behind`: what stands in `runs_at` behind each of the events.
  behind_found : (cues : List (List E)) (before es : List E) (q : ℕ × ℕ × ℕ) → Among q (runs_behind same cues before es) → (i : ℕ) × (q.0 ≡ length before + i) × (i < length es) × Among (q.1, q.2) (runs_at same cues (before ++ take (suc i) es))
  behind_found cues before [] q h = absurd h
  behind_found cues before (e ∷ es) q h =
      ⊎_elim
      (λ (a : Among q (placed (length before) (runs_at same cues (before ++ e ∷ [])))).
      let f = placed_found (length before) (runs_at same cues (before ++ e ∷ [])) q a in
      (0, omega (arith, f.0), omega arith, f.1))
      (λ (a : Among q (runs_behind same cues (before ++ e ∷ []) es)).
      let f = behind_found cues (before ++ e ∷ []) es q a in (
        suc f.0,
        omega (arith, f.1, length_push before e),
        omega (arith, f.2),
        subst (λ t. Among (q.1, q.2) (runs_at same cues t)) (append_assoc before (e ∷ []) (take (suc f.0) es)) f.3,
      ))
      (among_cases q (placed (length before) (runs_at same cues (before ++ e ∷ []))) (runs_behind same cues (before ++ e ∷ []) es) h)

  behind_has : (cues : List (List E)) (before es : List E) (q : ℕ × ℕ × ℕ) (i : ℕ) → q.0 ≡ length before + i → i < length es → Among (q.1, q.2) (runs_at same cues (before ++ take (suc i) es)) → Among q (runs_behind same cues before es)
  behind_has cues before [] q i e l a = grind arith
  behind_has cues before (x ∷ es) q zero e l a =
      among_left q (placed (length before) (runs_at same cues (before ++ x ∷ []))) (runs_behind same cues (before ++ x ∷ []) es)
      (placed_has (length before) (runs_at same cues (before ++ x ∷ [])) q (omega arith) a)
  behind_has cues before (x ∷ es) q (suc i) e l a =
      among_right q (placed (length before) (runs_at same cues (before ++ x ∷ []))) (runs_behind same cues (before ++ x ∷ []) es)
      (behind_has cues (before ++ x ∷ []) es q i (omega (arith, length_push before x)) (omega arith)
      (subst (λ t. Among (q.1, q.2) (runs_at same cues t)) (sym (append_assoc before (x ∷ []) (take (suc i) es))) a))

  -- The runs are exactly those of the cues in the text, where no cue is empty.
  runs_found : (cues : List (List E)) (text : List E) (q : ℕ × ℕ × ℕ) → Among q (runs same cues text) → RunAt same cues text q
  runs_found cues text q a =
      let f = behind_found cues [] text q a in
      let e : f.0 ≡ q.0 = omega (arith, f.1) in
      let g = at_found cues (take (suc f.0) text) q.1 q.2 f.3 in
      (omega (arith, f.2), g.0, g.1, subst (λ i. EndsSame same (get_or cues q.1 []) (take (suc i) text)) e g.2)

  runs_has : (cues : List (List E)) (text : List E) → ((n : ℕ) → n < length cues → 1 ≤ length (get_or cues n [])) → (q : ℕ × ℕ × ℕ) → RunAt same cues text q → Among q (runs same cues text)
  runs_has cues text filled q r =
      let s = r.3 in
      let l : length (get_or cues q.1 []) ≡ length s.1 = same_length (get_or cues q.1 []) s.1 s.3 in
      let k : length s.1 ≡ q.2 = sym l ∙ r.2 in
      let a : Among (q.1, length s.1) (runs_at same cues (s.0 ++ s.1)) = at_has cues s.0 s.1 q.1 r.1 s.3 (omega (arith, l, filled q.1 r.1)) in
      let b : Among (q.1, q.2) (runs_at same cues (s.0 ++ s.1)) = subst (λ n. Among (q.1, n) (runs_at same cues (s.0 ++ s.1))) k a in
      behind_has cues [] text q q.0 (omega arith) r.0 (subst (λ t. Among (q.1, q.2) (runs_at same cues t)) s.2 b)

-- No two cues are the same.
abbrev Apart : {E : Type 0} → (E → E → Bool) → List (List E) → Type 0
Apart same cues = (i j : ℕ) → i < j → j < length cues → same_lists same (get_or cues i []) (get_or cues j []) ≡ false

module _ {E : Type 0} (same : E → E → Bool) (lawful : Lawful same) where
  lists_symmetric : (a b : List E) → same_lists same a b ≡ same_lists same b a
  lists_symmetric [] [] = refl
  lists_symmetric [] (y ∷ b) = refl
  lists_symmetric (x ∷ a) [] = refl
  lists_symmetric (x ∷ a) (y ∷ b) = let h = lawful.symmetric x y in let t = lists_symmetric a b in cc

  lists_transitive : (a b c : List E) → same_lists same a b ≡ true → same_lists same b c ≡ true → same_lists same a c ≡ true
  lists_transitive [] [] c h k = k
  lists_transitive [] (y ∷ b) c h k = grind arith
  lists_transitive (x ∷ a) [] c h k = grind arith
  lists_transitive (x ∷ a) (y ∷ b) [] h k = grind arith
  lists_transitive (x ∷ a) (y ∷ b) (z ∷ c) h k = grind (arith, lawful.transitive x y z, lists_transitive a b c)

  -- A list that no cue is the same as.
  exact_none : (m : ℕ) (cues : List (List E)) (t : List E) → ((j : ℕ) → j < length cues → same_lists same (get_or cues j []) t ≡ false) → exact_runs same m cues t ≡ []
  exact_none m [] t h = refl
  exact_none m (c ∷ cues) t h =
      let e : same_lists same c t ≡ false = h 0 (omega arith) in
      let r = exact_none (suc m) cues t (λ j l. h (suc j) (omega arith)) in
      grind arith

  -- Of two cues that are not the same, at most one is the same as a list.
  other_not : (c d t : List E) → same_lists same c d ≡ false → same_lists same c t ≡ true → same_lists same d t ≡ false
  other_not c d t h k =
      ⊎_elim (λ e. grind (arith, lists_symmetric d t, lists_transitive c t d k)) (λ e. e) (cases_Bool (same_lists same d t))

  -- Of cues apart at most one is the same as the list.
  exact_one : (m : ℕ) (cues : List (List E)) (t : List E) → Apart same cues → (exact_runs same m cues t ≡ []) ⊎ ((j : ℕ) × (exact_runs same m cues t ≡ (j, length t) ∷ []))
  exact_one m [] t h = inl refl
  exact_one m (c ∷ cues) t h =
      cond_both (same_lists same c t) ((m, length t) ∷ exact_runs same (suc m) cues t) (exact_runs same (suc m) cues t)
      (λ v. (v ≡ []) ⊎ ((j : ℕ) × (v ≡ (j, length t) ∷ [])))
      (λ e. inr (m, ap (λ r. (m, length t) ∷ r) (exact_none (suc m) cues t (λ j l. other_not c (get_or cues j []) t (h 0 (suc j) (omega arith) (omega arith)) e))))
      (λ e. exact_one (suc m) cues t (λ i j l k. h (suc i) (suc j) (omega arith) (omega arith)))

  -- At one place the lengths fall.
  at_short : (cues : List (List E)) (t : List E) (n k : ℕ) → Among (n, k) (runs_at same cues t) → k ≤ length t
  at_short cues t n k a =
      let f = at_found same cues t n k a in
      let e = f.2 in
      omega (arith, f.1, same_length same (get_or cues n []) e.1 e.3, ap length e.2, length-append e.0 e.1)

  at_rising : (cues : List (List E)) (p : ℕ) (t : List E) → Apart same cues → Rising (placed p (runs_at same cues t))
  at_rising cues p [] h = tt
  at_rising cues p (x ∷ t) h =
      let f = at_rising cues p t h in
      ⊎_elim
      (λ (e : exact_runs same 0 cues (x ∷ t) ≡ []). rw e f)
      (λ (e : (j : ℕ) × (exact_runs same 0 cues (x ∷ t) ≡ (j, length (x ∷ t)) ∷ [])).
      rw e.1 (
        (λ q a.
            let g = placed_found p (runs_at same cues t) q a in
            inr (sym g.0, omega (arith, at_short cues t q.1 q.2 g.1))),
        f,
      ))
      (exact_one 0 cues (x ∷ t) h)

  behind_rising : (cues : List (List E)) (before es : List E) → Apart same cues → Rising (runs_behind same cues before es)
  behind_rising cues before [] h = tt
  behind_rising cues before (e ∷ es) h =
      rising_append (placed (length before) (runs_at same cues (before ++ e ∷ []))) (runs_behind same cues (before ++ e ∷ []) es)
      (at_rising cues (length before) (before ++ e ∷ []) h)
      (behind_rising cues (before ++ e ∷ []) es h)
      (λ p q a b.
      let f = placed_found (length before) (runs_at same cues (before ++ e ∷ [])) p a in
      let g = behind_found same cues (before ++ e ∷ []) es q b in
      inl (omega (arith, f.0, g.1, length_push before e)))

  booked_filled : (cues : List (List E)) → Booked same cues → (n : ℕ) → n < length cues → 1 ≤ length (get_or cues n [])
  booked_filled cues b n l = (All-get_or (λ c. (1 ≤ length c) × (length c ≤ 32)) cues n [] l b.sizes).0

  -- `runs` lists the runs of a book's cues.
  pub runs_lists : (cues : List (List E)) (text : List E) → Booked same cues → Lists same cues text (runs same cues text)
  runs_lists cues text b = record {
    exactly = λ q. (runs_found same cues text q, runs_has same cues text (booked_filled cues b) q);
    ordered = rising_ordered (runs same cues text) (behind_rising cues [] text b.apart);
  }

  -- No other list does.
  pub lists_only : (cues : List (List E)) (text : List E) (es : List (ℕ × ℕ × ℕ)) → Booked same cues → Lists same cues text es → es ≡ runs same cues text
  lists_only cues text es b l =
      let k = runs_lists cues text b in
      rising_same es (runs same cues text) (ordered_rising es l.ordered) (ordered_rising (runs same cues text) k.ordered)
      (λ q a. (k.exactly q).1 ((l.exactly q).0 a))
      (λ q a. (l.exactly q).1 ((k.exactly q).0 a))
