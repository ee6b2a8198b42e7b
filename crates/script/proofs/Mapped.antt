-- A report depends on the events by their sameness alone.
use Rattle.std.proofs.Common.{◌≡◌, ℕ, suc, ◌+◌, Bool, List, [], ◌∷◌, ◌++◌, map, None, Option, refl}
use Rattle.std.proofs.lemmas.List.{length-map, map_push}
use Rattle.events.specs.Sameness.{same_lists}
use Rattle.events.specs.declared.Refusal.{Refusal}
use Rattle.script.specs.Booking.{book_refusal, has_cue, size}
use Rattle.script.specs.Report.{Contents, first_refused, line_count, map_contents, or_later, report_of}
use Rattle.script.specs.Runs.{exact_runs, runs_at, runs_behind}
use Rattle.script.specs.declared.contents.Layout.{Layout}
use Rattle.script.specs.declared.contents.Layout.TheVariants.{PerEvent, PerCue}

module _ {E F : Type 0} (same : E → E → Bool) (same' : F → F → Bool) (f : E → F) (agree : (x y : E) → same' (f x) (f y) ≡ same x y) where
  lists_map : (xs ys : List E) → same_lists same' (map f xs) (map f ys) ≡ same_lists same xs ys
  lists_map [] [] = refl
  lists_map [] (y ∷ ys) = refl
  lists_map (x ∷ xs) [] = refl
  lists_map (x ∷ xs) (y ∷ ys) = let h = agree x y in let t = lists_map xs ys in cc

  size_map : (cues : List (List E)) → size (map (map f) cues) ≡ size cues
  size_map [] = refl
  size_map (c ∷ cues) = let h = length-map c f in let t = size_map cues in cc

  has_map : (cues : List (List E)) (given : List E) → has_cue same' (map (map f) cues) (map f given) ≡ has_cue same cues given
  has_map [] given = refl
  has_map (c ∷ cues) given = let h = lists_map c given in let t = has_map cues given in cc

  refusal_map : (before : List (List E)) (c : List E) → book_refusal same' (map (map f) before) (map f c) ≡ book_refusal same before c
  refusal_map before c =
      let l = length-map c f in
      let n = length-map before (map f) in
      let z = size_map before in
      let h = has_map before c in
      cc

  lines_map : (layout : Layout) (cues : List (List E)) → line_count layout (map (map f) cues) ≡ line_count layout cues
  lines_map PerEvent cues = size_map cues
  lines_map PerCue cues = length-map cues (map f)

  first_map : (layout : Layout) (before cues : List (List E)) (later : Option (Refusal × ℕ)) → first_refused same' layout (map (map f) before) (map (map f) cues) later ≡ first_refused same layout before cues later
  first_map layout before [] later = refl
  first_map layout before (c ∷ cues) later =
      let r = refusal_map before c in
      let p = map_push (map f) before c in
      let n = lines_map layout (before ++ c ∷ []) in
      let t = first_map layout (before ++ c ∷ []) cues later in
      cc

  exact_map : (n : ℕ) (cues : List (List E)) (t : List E) → exact_runs same' n (map (map f) cues) (map f t) ≡ exact_runs same n cues t
  exact_map n [] t = refl
  exact_map n (c ∷ cues) t =
      let h = lists_map c t in
      let l = length-map t f in
      let r = exact_map (suc n) cues t in
      cc

  at_map : (cues : List (List E)) (t : List E) → runs_at same' (map (map f) cues) (map f t) ≡ runs_at same cues t
  at_map cues [] = refl
  at_map cues (x ∷ t) = let h = exact_map 0 cues (x ∷ t) in let r = at_map cues t in cc

  behind_map : (cues : List (List E)) (before es : List E) → runs_behind same' (map (map f) cues) (map f before) (map f es) ≡ runs_behind same cues before es
  behind_map cues before [] = refl
  behind_map cues before (e ∷ es) =
      let l = length-map before f in
      let p = map_push f before e in
      let h = at_map cues (before ++ e ∷ []) in
      let r = behind_map cues (before ++ e ∷ []) es in
      cc

  pub report_map : (layout : Layout) (s : Contents E) → report_of same' layout (map_contents f s) ≡ report_of same layout s
  unfolding report_of
  report_map layout s =
      let n = lines_map layout s.cues in
      let r = first_map layout [] s.cues (or_later s.stop (line_count layout s.cues + 1) None) in
      let t = length-map s.text f in
      let w = behind_map s.cues [] s.text in
      cc
