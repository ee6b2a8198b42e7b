-- A listing depends on the events by their sameness alone.
use Rattle.std.proofs.Common.{◌≡◌, ℕ, Bool, List, [], ◌∷◌, ◌++◌, map, take, drop, Some, None, Option, refl, ap, ◌∙◌}
use Rattle.std.proofs.lemmas.List.{take-map, drop-map, length-map}
use Rattle.events.specs.Sameness.{same_lists}
use Rattle.events.specs.declared.Refusal.{Refusal}
use Rattle.book.specs.Cues.{cue_at, has_same, part_of}
use Rattle.book.specs.Held.{Held, add_refused, with_cue}
use Rattle.book.specs.declared.cue.Cue.{Cue}
use Rattle.sheet.specs.Report.{listing}

module _ {E F : Type 0} (same : E → E → Bool) (same' : F → F → Bool) (f : E → F) (agree : (x y : E) → same' (f x) (f y) ≡ same x y) where
  lists_map : (xs ys : List E) → same_lists same' (map f xs) (map f ys) ≡ same_lists same xs ys
  lists_map [] [] = refl
  lists_map [] (y ∷ ys) = refl
  lists_map (x ∷ xs) [] = refl
  lists_map (x ∷ xs) (y ∷ ys) = let h = agree x y in let t = lists_map xs ys in cc

  part_map : (xs : List E) (c : Cue) → part_of (map f xs) c ≡ map f (part_of xs c)
  part_map xs c = ap (take c.len) (drop-map f c.place xs) ∙ take-map f c.len (drop c.place xs)

  has_map : (xs : List E) (cues : List Cue) (c : Cue) → has_same same' (map f xs) cues c ≡ has_same same xs cues c
  has_map xs [] c = refl
  has_map xs (d ∷ cues) c =
      let p = part_map xs d in
      let q = part_map xs c in
      let h = lists_map (part_of xs d) (part_of xs c) in
      let t = has_map xs cues c in
      cc

  refused_map : (h : Held E) (h' : Held F) → h'.material ≡ map f h.material → h'.cues ≡ h.cues → (place len : ℕ) → add_refused same' h' place len ≡ add_refused same h place len
  refused_map h h' m q place len =
      let l = length-map h.material f in
      let s = has_map h.material h.cues (cue_at place len) in
      cc

  pub listing_map : (h : Held E) (h' : Held F) → h'.material ≡ map f h.material → h'.cues ≡ h.cues → (cs : List Cue) (n : ℕ) (stop : Option Refusal) → listing same' h' cs n stop ≡ listing same h cs n stop
  listing_map h h' m q [] n None = let l = length-map h.material f in cc
  listing_map h h' m q [] n (Some refusal) = refl
  listing_map h h' m q (c ∷ cs) n stop =
      let r = refused_map h h' m q c.place c.len in
      let t = listing_map (with_cue h c) (with_cue h' c) m (ap (λ x. x ++ c ∷ []) q) cs n stop in
      cc
