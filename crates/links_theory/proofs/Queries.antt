-- Questions to a table that is ready.
use Rattle.std.proofs.Common.{◌≡◌, ℕ, zero, suc, ◌+◌, ◌<◌, ◌≤◌, List, [], ◌∷◌, ◌++◌, length, get_or, take, Some, None, Option, sym, ap, ◌∙◌, arith}
use Rattle.std.proofs.lemmas.List.{length-append, take_more}
use Rattle.std.proofs.lemmas.Bool.{both_ways}
use Rattle.matching.specs.Match.{beginning, sightings}
use Rattle.matching.proofs.Calls.{cue_front}
use Rattle.links_theory.specs.declared.Node.{Node}
use Rattle.links_theory.specs.Entries.{node_at, path, Found, exact_of, Ready}
use Rattle.links_theory.proofs.Paths.{child_path, child_none}
use Rattle.links_theory.proofs.Walks.{link_path, sightings_entry, sightings_root}

exact_few : (o : Option ℕ) (k : ℕ) → length (exact_of o k) ≤ 1
exact_few None k = omega arith
exact_few (Some c) k = omega arith

module _ (cues : List (List ℕ)) (nodes : List Node) (heads : List ℕ) (from : ℕ) (r : Ready cues nodes heads from) where
  -- an entry has at most as many sightings as signs
  pub sightings_few : (k at : ℕ) → at < length nodes → (node_at nodes at).len ≤ k → length (sightings cues (path cues nodes at)) ≤ k
  sightings_few k zero h l = omega (arith, ap length (sightings_root cues nodes heads from r))
  sightings_few zero (suc i) h l = absurd (omega (arith, l, (r.sound.entries (suc i) (omega arith) h).some))
  sightings_few (suc k) (suc i) h l =
      let to = link_path cues nodes heads r.sound (suc i) (omega arith) h in
      let own = exact_of (node_at nodes (suc i)).whole (node_at nodes (suc i)).len in
      let rest = sightings cues (path cues nodes (node_at nodes (suc i)).link) in
      omega (arith, ap length (sightings_entry cues nodes heads from r (suc i) (omega arith) h) ∙ length-append own rest, exact_few (node_at nodes (suc i)).whole (node_at nodes (suc i)).len, sightings_few k (node_at nodes (suc i)).link to.0 (omega (arith, to.2, l)))

  -- one sign further down a cue: there is a child, and it is the entry of one sign more
  module _ (c at i sign : ℕ) (h : c < length cues) (w : at < length nodes) (e : path cues nodes at ≡ take i (get_or cues c [])) (l : i < length (get_or cues c [])) (s : sign ≡ get_or (get_or cues c []) i 0) where
    next : path cues nodes at ++ sign ∷ [] ≡ take (i + 1) (get_or cues c [])
    next = ap (λ b. b ++ sign ∷ []) e ∙ ap (λ x. take i (get_or cues c []) ++ x ∷ []) s ∙ sym (take_more (get_or cues c []) i 0 l)

    pub descend_child : Found nodes at sign 0 → ⊥
    descend_child f =
        both_ways (beginning cues (path cues nodes at ++ sign ∷ []))
        (child_none cues nodes heads r.sound at sign ((node_at nodes at).len + 1) w f (r.complete ((node_at nodes at).len + 1)) (omega arith))
        (ap (beginning cues) next ∙ cue_front cues c (i + 1) h)

    pub descend_more : (child : ℕ) → Found nodes at sign child → 0 < child → path cues nodes child ≡ take (i + 1) (get_or cues c [])
    descend_more child f p = child_path cues nodes heads r.sound at sign child f p ∙ next
