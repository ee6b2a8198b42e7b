-- Adding the cues one by one: what is held after some of them, and how it ends.
use Rattle.std.proofs.Common.{◌≡◌, ℕ, ◌+◌, ◌<◌, ◌≤◌, Bool, List, [], ◌∷◌, ◌++◌, map, length, get_or, take, drop, Some, None, sum, Option, sym, refl, ap, ◌∙◌, arith}
use Rattle.std.proofs.lemmas.List.{at_drop_more, length-append, length-take-le, map-append, take-append-drop, drop_more, take-map, take_more}
use Rattle.std.proofs.lemmas.List.Sums.{sum_by-cons}
use Rattle.events.specs.declared.Refusal.{Refusal}
use Rattle.book.specs.Cues.{cue_at, total}
use Rattle.book.specs.Held.{Held, add_refused, with_cue}
use Rattle.script.proofs.Tiling.{add_refused_lem, size_append, total_at}
use Rattle.script.specs.Booking.{size, book_refusal, cues_at, held_with}
use Rattle.script.specs.Report.{first_refused, line_count, or_later}
use Rattle.script.specs.Steps.{Books, lines_of}
use Rattle.script.specs.declared.contents.Layout.{Layout}
use Rattle.script.specs.declared.contents.Layout.TheVariants.{PerEvent, PerCue}

pub sum_lengths : {E : Type 0} (cues : List (List E)) → sum (map length cues) ≡ size cues
sum_lengths [] = refl
sum_lengths (c ∷ cues) = sum_by-cons (λ x. x) (length c) (map length cues) ∙ ap (λ n. length c + n) (sum_lengths cues)

cues_at_push : (p : ℕ) (ns : List ℕ) (n : ℕ) → cues_at p (ns ++ n ∷ []) ≡ cues_at p ns ++ cue_at (p + sum ns) n ∷ []
cues_at_push p [] n = let z : p + 0 ≡ p = omega arith in ap (λ k. cue_at k n ∷ []) (sym z)
cues_at_push p (m ∷ ns) n =
    let s = sum_by-cons (λ x. x) m ns in
    let e : p + m + sum ns ≡ p + sum (m ∷ ns) = omega arith in
    ap (λ z. cue_at p m ∷ z) (cues_at_push (p + m) ns n ∙ ap (λ k. cues_at (p + m) ns ++ cue_at k n ∷ []) e)

held_more : {E : Type 0} (same : E → E → Bool) (cues before : List (List E)) (c : List E) → with_cue (held_with same cues before) (cue_at (size before) (length c)) ≡ held_with same cues (before ++ c ∷ [])
held_more same cues before c =
    let s = sum_lengths before in
    let z : 0 + sum (map length before) ≡ size before = omega arith in
    let e : cues_at 0 (map length before) ++ cue_at (size before) (length c) ∷ [] ≡ cues_at 0 (map length (before ++ c ∷ [])) =
    ap (λ k. cues_at 0 (map length before) ++ cue_at k (length c) ∷ []) (sym z) ∙ (sym (cues_at_push 0 (map length before) (length c)) ∙ ap (cues_at 0) (sym (map-append length before (c ∷ [])))) in
    ap (λ cs. record { material = (held_with same cues before).material; signs = (held_with same cues before).signs; cues = cs }) e

line_count_lem : {E : Type 0} (layout : Layout) (cues : List (List E)) → line_count layout cues ≡ lines_of layout (length cues) (size cues)
line_count_lem PerEvent cues = refl
line_count_lem PerCue cues = refl

pub lines_are : {E : Type 0} (layout : Layout) (cues : List (List E)) (n k line : ℕ) → n ≡ length cues → k ≡ size cues → line ≡ lines_of layout n k → line ≡ line_count layout cues
lines_are layout cues n k line p q r = let l = line_count_lem layout cues in cc

module _ {E : Type 0} (same : E → E → Bool) (layout : Layout) (cues : List (List E)) where
  -- The first i cues were added, and none was refused.
  pub record SoFar (i : ℕ) (h : Held E) : Type 0 where
    pub rest : (later : Option (Refusal × ℕ)) → first_refused same layout (take i cues) (drop i cues) later ≡ first_refused same layout [] cues later
    pub held : h ≡ held_with same cues (take i cues)

  split_at : (i : ℕ) → i < length cues → cues ≡ take i cues ++ get_or cues i [] ∷ drop (i + 1) cues
  split_at i h = sym (take-append-drop i cues) ∙ ap (λ z. take i cues ++ z) (drop_more cues i [] h)

  small_so_far : (i : ℕ) (h : Held E) → SoFar i h → total h.cues ≤ 1024 → size (take i cues) ≤ 1024
  small_so_far i h s few =
      let e : total h.cues ≡ size (take i cues) = ap (λ x. total x.cues) s.held ∙ total_at 0 (take i cues) in
      omega arith

  pub so_far_refusal : (i : ℕ) (h : Held E) → SoFar i h → total h.cues ≤ 1024 → i < length cues → (place len : ℕ) → place ≡ size (take i cues) → len ≡ length (get_or cues i []) →
      add_refused same h place len ≡ book_refusal same (take i cues) (get_or cues i [])
  so_far_refusal i h s few lt place len at long =
      let c = get_or cues i [] in
      let all : held_with same cues (take i cues) ≡ held_with same (take i cues ++ get_or cues i [] ∷ drop (i + 1) cues) (take i cues) = ap (λ z. held_with same z (take i cues)) (split_at i lt) in
      ap (λ x. add_refused same x place len) (s.held ∙ all) ∙
      (ap (λ p. add_refused same (held_with same (take i cues ++ get_or cues i [] ∷ drop (i + 1) cues) (take i cues)) p len) at ∙
      (ap (λ n. add_refused same (held_with same (take i cues ++ get_or cues i [] ∷ drop (i + 1) cues) (take i cues)) (size (take i cues)) n) long ∙
      add_refused_lem same (take i cues) (get_or cues i []) (drop (i + 1) cues) (small_so_far i h s few)))

  one_more : (i : ℕ) → i < length cues → (later : Option (Refusal × ℕ)) →
      first_refused same layout (take i cues) (drop i cues) later ≡
      or_later (book_refusal same (take i cues) (get_or cues i [])) (line_count layout (take i cues ++ get_or cues i [] ∷ [])) (first_refused same layout (take i cues ++ get_or cues i [] ∷ []) (drop (i + 1) cues) later)
  one_more i lt later = at_drop_more (λ cs. first_refused same layout (take i cues) cs later) cues i [] lt

  pub so_far_more : (i : ℕ) (h h' : Held E) → SoFar i h → i < length cues → (place len : ℕ) → place ≡ size (take i cues) → len ≡ length (get_or cues i []) →
      book_refusal same (take i cues) (get_or cues i []) ≡ None → h' ≡ with_cue h (cue_at place len) → SoFar (i + 1) h'
  so_far_more i h h' s lt place len at long granted grown =
      let c = get_or cues i [] in
      let t = take_more cues i [] lt in
      record {
        rest = λ later.
            ap (λ z. first_refused same layout z (drop (i + 1) cues) later) t ∙
            (ap (λ o. or_later o (line_count layout (take i cues ++ get_or cues i [] ∷ [])) (first_refused same layout (take i cues ++ get_or cues i [] ∷ []) (drop (i + 1) cues) later)) (sym granted) ∙
            (sym (one_more i lt later) ∙ s.rest later));
        held =
            grown ∙
            (ap (λ x. with_cue x (cue_at place len)) s.held ∙
            (ap (λ p. with_cue (held_with same cues (take i cues)) (cue_at p len)) at ∙
            (ap (λ n. with_cue (held_with same cues (take i cues)) (cue_at (size (take i cues)) n)) long ∙
            (held_more same cues (take i cues) (get_or cues i []) ∙ ap (held_with same cues) (sym t)))));
      }

  pub so_far_stop : (i : ℕ) (h h' : Held E) → SoFar i h → i < length cues → (refusal : Refusal) (line : ℕ) →
      book_refusal same (take i cues) (get_or cues i []) ≡ Some refusal → line ≡ line_count layout (take i cues ++ get_or cues i [] ∷ []) → Books same layout cues (Some (refusal, line)) h'
  so_far_stop i h h' s lt refusal line why at =
      record {
        value = λ later.
            ap (λ n. Some (refusal, n)) at ∙
            (ap (λ o. or_later o (line_count layout (take i cues ++ get_or cues i [] ∷ [])) (first_refused same layout (take i cues ++ get_or cues i [] ∷ []) (drop (i + 1) cues) later)) (sym why) ∙
            (sym (one_more i lt later) ∙ s.rest later));
        held = λ e. absurd (grind arith);
      }

  -- The places and lengths that the loop counts.
  pub place_is : (i : ℕ) (lens : List ℕ) → lens ≡ map length cues → sum (take i lens) ≡ size (take i cues)
  place_is i lens e = ap (λ ns. sum (take i ns)) e ∙ (ap sum (take-map length i cues) ∙ sum_lengths (take i cues))

  pub count_is : (i : ℕ) → i < length cues → i + 1 ≡ length (take i cues ++ get_or cues i [] ∷ [])
  count_is i lt = let a = length-append (take i cues) (get_or cues i [] ∷ []) in let b = length-take-le i cues (omega arith) in omega arith

  pub size_is : (i place len : ℕ) → place ≡ size (take i cues) → len ≡ length (get_or cues i []) → place + len ≡ size (take i cues ++ get_or cues i [] ∷ [])
  size_is i place len p q = let a = size_append (take i cues) (get_or cues i [] ∷ []) in omega arith
