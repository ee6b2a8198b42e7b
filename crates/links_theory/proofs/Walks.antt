-- The walk along the links until one sign more fits.
use Rattle.std.proofs.Common.{◌≡◌, ℕ, zero, suc, ◌+◌, ◌<◌, ◌≤◌, true, false, ◌⊎◌, List, [], ◌∷◌, ◌++◌, length, sym, refl, ap, ◌∙◌, inl, inr, ⊎_elim, arith}
use Rattle.matching.specs.Match.{beginning, live, link as link_of, standing as standing_of, tries, sightings}
use Rattle.matching.proofs.Live.{live_itself, walk_right}
use Rattle.links_theory.specs.declared.Node.{Node}
use Rattle.links_theory.specs.Entries.{node_at, path, Sound, Complete, Found, Walked, Ready, exact_of}
use Rattle.links_theory.proofs.Paths.{path_root, path_length, path_begins, child_path, child_none, tries_one, tries_more, link_shorter, link_push, standing_some, sightings_some}

-- the walk from `from` has come to `at`
pub record Walking (cues : List (List ℕ)) (nodes : List Node) (from sign at trials : ℕ) : Type 0 where
  pub within : at < length nodes
  pub lives : live cues (path cues nodes from ++ sign ∷ []) ≡ live cues (path cues nodes at ++ sign ∷ [])
  pub counts : trials + tries cues (path cues nodes at) sign ≡ tries cues (path cues nodes from) sign
  pub falls : trials + (node_at nodes at).len ≤ (node_at nodes from).len

module _ (cues : List (List ℕ)) (nodes : List Node) (heads : List ℕ) (s : Sound cues nodes heads) where
  -- what an entry's link says
  pub link_path : (i : ℕ) → 0 < i → i < length nodes → ((node_at nodes i).link < length nodes) × (path cues nodes (node_at nodes i).link ≡ link_of cues (path cues nodes i)) × ((node_at nodes (node_at nodes i).link).len < (node_at nodes i).len)
  link_path i p h =
      let e = s.entries i p h in
      let older = e.link in
      let w : (node_at nodes i).link < length nodes = omega arith in
      let own = path_length cues nodes heads s i h in
      let some = e.some in
      (w, e.linked, omega (arith, own, some, path_length cues nodes heads s (node_at nodes i).link w, ap length e.linked, link_shorter cues (path cues nodes i) (omega (arith, own, some))))

  module _ (from sign at trials : ℕ) (w : Walking cues nodes from sign at trials) where
    pub walking_hit : (r : ℕ) → Found nodes at sign r → 0 < r → Walked cues nodes from sign r (trials + 1)
    walking_hit r f p =
        let e = child_path cues nodes heads s at sign r f p in
        let b : beginning cues (path cues nodes at ++ sign ∷ []) ≡ true = ap (beginning cues) (sym e) ∙ path_begins cues nodes heads s r f.within in
        let one = tries_one cues (path cues nodes at) sign (path_begins cues nodes heads s at w.within) b in
        record {
          within = f.within;
          lives = e ∙ sym (live_itself cues (path cues nodes at ++ sign ∷ []) b) ∙ sym w.lives;
          counts = omega (arith, w.counts, one);
        }

    pub walking_end : Found nodes at sign 0 → at ≡ 0 → (k : ℕ) → Complete cues nodes k → (node_at nodes from).len < k → Walked cues nodes from sign 0 (trials + 1)
    walking_end f z k full short =
        let none = child_none cues nodes heads s at sign k w.within f full (omega (arith, w.falls)) in
        let empty : path cues nodes at ≡ [] = ap (path cues nodes) z ∙ path_root cues nodes heads s in
        let step = (walk_right cues (path cues nodes at) sign).1 none in
        let tail : live cues (link_of cues (path cues nodes at) ++ sign ∷ []) ≡ [] = ap (λ b. live cues (link_of cues b ++ sign ∷ [])) empty ∙ (sym (ap (λ b. live cues (link_of cues b ++ sign ∷ [])) empty) ∙ sym step ∙ ap (λ b. live cues (b ++ sign ∷ [])) empty ∙ last none empty) in
        record {
          within = s.some;
          lives = path_root cues nodes heads s ∙ sym (w.lives ∙ step ∙ tail);
          counts = omega (arith, w.counts, ap (λ b. tries cues b sign) empty);
        }
      where
        last : beginning cues (path cues nodes at ++ sign ∷ []) ≡ false → path cues nodes at ≡ [] → live cues (sign ∷ []) ≡ []
        last none empty = grind (arith, sym (ap (λ b. beginning cues (b ++ sign ∷ [])) empty) ∙ none)

    pub walking_more : Found nodes at sign 0 → 0 < at → (k : ℕ) → Complete cues nodes k → (node_at nodes from).len < k → Walking cues nodes from sign (node_at nodes at).link (trials + 1)
    walking_more f p k full short =
        let none = child_none cues nodes heads s at sign k w.within f full (omega (arith, w.falls)) in
        let l = link_path at p w.within in
        let own = path_length cues nodes heads s at w.within in
        let some = (s.entries at p w.within).some in
        let more = tries_more cues (path cues nodes at) sign (omega (arith, own, some)) (path_begins cues nodes heads s at w.within) none in
        record {
          within = l.0;
          lives = w.lives ∙ (walk_right cues (path cues nodes at) sign).1 none ∙ ap (λ b. live cues (b ++ sign ∷ [])) (sym l.1);
          counts = omega (arith, w.counts, more, ap (λ b. tries cues b sign) l.1);
          falls = omega (arith, w.falls, l.2);
        }

  -- the link of a child that is to be: at the root nothing is shorter
  pub link_root : (parent sign : ℕ) → parent ≡ 0 → path cues nodes 0 ≡ link_of cues (path cues nodes parent ++ sign ∷ [])
  link_root parent sign z =
      path_root cues nodes heads s ∙ ap (λ b. link_of cues (b ++ sign ∷ [])) (sym (ap (path cues nodes) z ∙ path_root cues nodes heads s))

  pub link_walked : (parent sign at trials : ℕ) → 0 < parent → parent < length nodes → Walked cues nodes (node_at nodes parent).link sign at trials → path cues nodes at ≡ link_of cues (path cues nodes parent ++ sign ∷ [])
  link_walked parent sign at trials p h w =
      let own = path_length cues nodes heads s parent h in
      let some = (s.entries parent p h).some in
      w.lives ∙ ap (λ b. live cues (b ++ sign ∷ [])) (link_path parent p h).1 ∙ sym (link_push cues (path cues nodes parent) sign (omega (arith, own, some)))

  -- the standing of an entry
  pub standing_entry : (at : ℕ) → at < length nodes → ((node_at nodes at).cue, (node_at nodes at).len) ≡ standing_of cues (path cues nodes at)
  standing_entry at h =
      ⊎_elim
      (λ (z : at ≡ 0). rw z (grind (arith, s.root_cue, s.root_len, ap (standing_of cues) (path_root cues nodes heads s))))
      (λ (p : 0 < at).
      let own = path_length cues nodes heads s at h in
      let some = (s.entries at p h).some in
      let low = (s.entries at p h).low in
      let st = standing_some cues (path cues nodes at) (omega (arith, own, some)) in
      grind (arith, own, low, st))
      (either at)
    where
      either : (i : ℕ) → (i ≡ 0) ⊎ (0 < i)
      either zero = inl refl
      either (suc i) = inr (omega arith)

-- the sightings along the links
module _ (cues : List (List ℕ)) (nodes : List Node) (heads : List ℕ) (now : ℕ) (r : Ready cues nodes heads now) where
  pub sightings_entry : (at : ℕ) → 0 < at → at < length nodes → sightings cues (path cues nodes at) ≡ exact_of (node_at nodes at).whole (node_at nodes at).len ++ sightings cues (path cues nodes (node_at nodes at).link)
  sightings_entry at p h =
      let s = r.sound in
      let own = path_length cues nodes heads s at h in
      let some = (s.entries at p h).some in
      sightings_some cues (path cues nodes at) (omega (arith, own, some)) ∙ ap (λ xs. xs ++ sightings cues (link_of cues (path cues nodes at))) (r.whole at p h) ∙ ap (λ b. exact_of (node_at nodes at).whole (node_at nodes at).len ++ sightings cues b) (sym (link_path cues nodes heads s at p h).1)

  pub sightings_root : sightings cues (path cues nodes 0) ≡ []
  sightings_root = ap (sightings cues) (path_root cues nodes heads r.sound)

-- completeness to fewer signs
pub complete_less : (cues : List (List ℕ)) (nodes : List Node) (j k : ℕ) → j ≤ k → Complete cues nodes k → Complete cues nodes j
complete_less cues nodes j k h full c m l b none = full c m l (omega arith) none
