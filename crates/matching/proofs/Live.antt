-- Fronts, beginnings and the live beginning.
-- Assumes nothing.
use Rattle.std.proofs.Common.{◌≡◌, ℕ, zero, suc, ◌+◌, ◌*◌, ◌<◌, ◌≤◌, true, false, List, [], ◌∷◌, ◌++◌, length, get_or, take, drop, sym, refl, ap, ◌∙◌, inl, inr, ⊎_elim, append_assoc, append-nil, arith, length-append}
use Rattle.std.proofs.lemmas.Bool.{cond_both}
use Rattle.matching.specs.Match.{begins, some_begins, beginning, live, lowest, tries, trials, Ends}
use Rattle.matching.specs.Laws.{BeginningRead, FrontsBegin, LiveRight, LiveOnly, LiveEnough, StandingBack, StandingOne, LinkRight, WalkRight, TriesWalk, TriesFew}

-- a front of a front is a front
pub begins_front : (b s c : List ℕ) → begins (b ++ s) c ≡ true → begins b c ≡ true
begins_front [] s c h = refl
begins_front (x ∷ b) s [] h = grind arith
begins_front (x ∷ b) s (y ∷ c) h = grind (arith, begins_front b s c)

pub begins_append : (b s : List ℕ) → begins b (b ++ s) ≡ true
begins_append [] s = refl
begins_append (x ∷ b) s = grind (arith, begins_append b s)

-- what a front leaves of a list
pub begins_rest : (b c : List ℕ) → begins b c ≡ true → b ++ drop (length b) c ≡ c
begins_rest [] c h = refl
begins_rest (x ∷ b) [] h = grind arith
begins_rest (x ∷ b) (y ∷ c) h = grind (arith, begins_rest b c)

pub begins_take : (b c : List ℕ) → begins b c ≡ true → take (length b) c ≡ b
begins_take [] c h = refl
begins_take (x ∷ b) [] h = grind arith
begins_take (x ∷ b) (y ∷ c) h = grind (arith, begins_take b c)

pub some_front : (cues : List (List ℕ)) (b s : List ℕ) → some_begins cues (b ++ s) ≡ true → some_begins cues b ≡ true
some_front [] b s h = h
some_front (c ∷ cues) b s h = grind (arith, begins_front b s c, some_front cues b s)

pub beginning_front : FrontsBegin
beginning_front cues [] s h = refl
beginning_front cues (x ∷ b) s h = some_front cues (x ∷ b) s h

-- the lowest cue that begins so is a cue that begins so
pub lowest_begins : (cues : List (List ℕ)) (b : List ℕ) → some_begins cues b ≡ true → (lowest cues b < length cues) × (begins b (get_or cues (lowest cues b) []) ≡ true)
lowest_begins [] b h = grind arith
lowest_begins (c ∷ cues) b h = grind (arith, lowest_begins cues b)

-- and no lower cue does
pub lowest_least : (cues : List (List ℕ)) (b : List ℕ) (n : ℕ) → n < lowest cues b → begins b (get_or cues n []) ≡ false
lowest_least [] b n h = grind arith
lowest_least (c ∷ cues) b zero h = grind arith
lowest_least (c ∷ cues) b (suc n) h = grind (arith, lowest_least cues b n)

-- a cue that begins so shows a beginning, and the lowest is no higher
pub some_from_cue : (cues : List (List ℕ)) (b : List ℕ) (n : ℕ) → n < length cues → begins b (get_or cues n []) ≡ true → (some_begins cues b ≡ true) × (lowest cues b ≤ n)
some_from_cue [] b n l h = grind arith
some_from_cue (c ∷ cues) b zero l h = grind arith
some_from_cue (c ∷ cues) b (suc n) l h = grind (arith, some_from_cue cues b n)

-- a cue that begins so, with none lower that does, is the lowest
pub lowest_is : (cues : List (List ℕ)) (b : List ℕ) (n : ℕ) → n < length cues → begins b (get_or cues n []) ≡ true → ((m : ℕ) → m < n → begins b (get_or cues m []) ≡ false) → lowest cues b ≡ n
lowest_is cues b n l h none =
    let f = some_from_cue cues b n l h in
    let g = lowest_begins cues b f.0 in
    grind (arith, f.1, g.1, none (lowest cues b))

-- the live beginning after more signs depends on the live beginning alone
pub live_enough : LiveEnough
live_enough cues [] s = refl
live_enough cues (x ∷ t) s = grind (arith, live_enough cues t s, some_front cues (x ∷ t) s)

pub live_begins : (cues : List (List ℕ)) (t : List ℕ) → beginning cues (live cues t) ≡ true
live_begins cues [] = refl
live_begins cues (x ∷ t) = grind (arith, live_begins cues t)

pub live_ends : (cues : List (List ℕ)) (t : List ℕ) → Ends (live cues t) t
live_ends cues [] = ([], refl)
live_ends cues (x ∷ t) =
    cond_both (beginning cues (x ∷ t)) (x ∷ t) (live cues t) (λ v. Ends v (x ∷ t)) (λ e. ([], refl))
    (λ e. let h = live_ends cues t in (x ∷ h.0, ap (λ v. x ∷ v) h.1))

-- a beginning is its own live beginning
pub live_itself : (cues : List (List ℕ)) (b : List ℕ) → beginning cues b ≡ true → live cues b ≡ b
live_itself cues [] h = refl
live_itself cues (x ∷ b) h = grind arith

pub live_short : (cues : List (List ℕ)) (t : List ℕ) → length (live cues t) ≤ length t
live_short cues [] = grind arith
live_short cues (x ∷ t) = grind (arith, live_short cues t)

-- no beginning that ends a text is longer than the live one
pub live_longest : (cues : List (List ℕ)) (u b : List ℕ) → beginning cues b ≡ true → length b ≤ length (live cues (u ++ b))
live_longest cues [] b h = grind (arith, live_itself cues b)
live_longest cues (x ∷ u) b h = grind (arith, live_longest cues u b, length-append u b)

pub live_right : LiveRight
live_right cues t =
    (live_begins cues t, live_ends cues t, λ b h e. grind (arith, live_longest cues e.0 b, e.1))

-- two lists of one length that end one text are equal
pub ends_same : (a b t : List ℕ) → Ends a t → Ends b t → length a ≡ length b → a ≡ b
ends_same a b t ([], e) ([], f) l = e ∙ sym f
ends_same a b t ([], e) (y ∷ v, f) l = grind (arith, ap length e, ap length f, length-append v b)
ends_same a b t (x ∷ u, e) ([], f) l = grind (arith, ap length e, ap length f, length-append u a)
ends_same a b [] (x ∷ u, e) (y ∷ v, f) l = grind arith
ends_same a b (z ∷ t) (x ∷ u, e) (y ∷ v, f) l = ends_same a b t (u, grind arith) (v, grind arith) l

pub live_only : LiveOnly
live_only cues t b h e most =
    ends_same b (live cues t) t e (live_ends cues t)
    (omega (arith, most (live cues t) (live_begins cues t) (live_ends cues t), (live_right cues t).2 b h e))

pub beginning_read : BeginningRead
beginning_read cues [] = (λ h. inl refl, λ h. refl)
beginning_read cues (x ∷ b) = (
  λ h.
      let l = lowest_begins cues (x ∷ b) h in
      inr (lowest cues (x ∷ b), l.0, (drop (length (x ∷ b)) (get_or cues (lowest cues (x ∷ b)) []), begins_rest (x ∷ b) _ l.1)),
  ⊎_elim (λ e. grind arith)
      (λ h. (some_from_cue cues (x ∷ b) h.0 h.1 (rw (sym h.2.1) (begins_append (x ∷ b) h.2.0))).0),
)

pub standing_back : StandingBack
standing_back cues [] h = (refl, refl, λ n l. grind arith)
standing_back cues (x ∷ b) h =
    (begins_take (x ∷ b) _ (lowest_begins cues (x ∷ b) h).1, refl, λ n l. lowest_least cues (x ∷ b) n l)

pub standing_one : StandingOne
standing_one cues a b ha hb e =
    sym (standing_back cues a ha).0 ∙ ap (λ (p : ℕ × ℕ). take p.1 (get_or cues p.0 [])) e ∙ (standing_back cues b hb).0

-- of two lists that end a text, the shorter ends the longer; here for one that leaves out the first sign
pub ends_tail : (a : List ℕ) (x : ℕ) (b : List ℕ) → length a < length (x ∷ b) → Ends a (x ∷ b) → Ends a b
ends_tail a x b l ([], e) = grind (arith, ap length e)
ends_tail a x b l (y ∷ u, e) = (u, grind arith)

pub link_right : LinkRight
link_right cues x b =
    let e = live_ends cues b in (
      live_begins cues b,
      (x ∷ e.0, ap (λ v. x ∷ v) e.1),
      grind (arith, live_short cues b),
      λ a h f l. (live_right cues b).2 a h (ends_tail a x b l f),
    )

pub walk_right : WalkRight
walk_right cues [] s = (λ e. live_itself cues (s ∷ []) e, λ e. refl)
walk_right cues (x ∷ b) s =
    (λ e. live_itself cues (x ∷ (b ++ s ∷ [])) e, λ e. grind (arith, live_enough cues b (s ∷ [])))

-- a list that is no beginning costs no trial of its own: the trials are those of the live beginning
pub tries_live : (cues : List (List ℕ)) (b : List ℕ) (s : ℕ) → tries cues (live cues b) s ≡ tries cues b s
tries_live cues [] s = refl
tries_live cues (x ∷ b) s = grind (arith, tries_live cues b s)

pub tries_walk : TriesWalk
tries_walk cues s =
    (refl, λ x b h. (λ e. grind arith, λ e. grind (arith, tries_live cues b s)))

-- trials and live length, of any list
pub tries_bound : (cues : List (List ℕ)) (b : List ℕ) (s : ℕ) → tries cues b s + length (live cues (b ++ s ∷ [])) ≤ length b + 2
tries_bound cues [] s = grind arith
tries_bound cues (x ∷ b) s = grind (arith, tries_bound cues b s, length-append b (s ∷ []), some_front cues (x ∷ b) (s ∷ []))

pub trials_bound : (cues : List (List ℕ)) (b t : List ℕ) → trials cues b t + length (live cues (b ++ t)) ≤ length b + 2 * length t
trials_bound cues b [] = grind (arith, append-nil b, live_short cues b)
trials_bound cues b (s ∷ t) =
    grind (arith, tries_bound cues b s, trials_bound cues (live cues (b ++ s ∷ [])) t, live_enough cues (b ++ s ∷ []) t, append_assoc b (s ∷ []) t)

pub tries_few : TriesFew
tries_few cues b = (tries_bound cues b, trials_bound cues b)
