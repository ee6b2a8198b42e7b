-- Entries and the beginnings that they stand for.
use Rattle.std.proofs.Common.{◌≡◌, ℕ, zero, suc, ◌<◌, ◌≤◌, true, false, ◌⊎◌, List, [], ◌∷◌, ◌++◌, length, get_or, take, sym, refl, ap, ◌∙◌, inl, inr, ⊎_elim, arith}
use Rattle.std.proofs.lemmas.List.{length-take-le, length_push, take_at, same_from_push}
use Rattle.std.proofs.lemmas.Bool.{cases_Bool}
use Rattle.matching.specs.Match.{beginning, live, link as link_of, lowest, standing, tries, exact, sightings}
use Rattle.matching.proofs.Live.{beginning_read, live_enough, live_short, tries_walk}
use Rattle.matching.proofs.Sightings.{sightings_walk}
use Rattle.matching.proofs.Calls.{cue_front}
use Rattle.links_theory.specs.declared.Node.{Node}
use Rattle.links_theory.specs.Entries.{node_at, path_of, path, Sound, Complete, Found}

pub path_empty : (cues : List (List ℕ)) (n : Node) → n.len ≡ 0 → path_of cues n ≡ []
unfolding path_of
path_empty cues n h = ap (λ k. take k (get_or cues n.cue [])) h

pub path_is : (cues : List (List ℕ)) (n : Node) → path_of cues n ≡ take n.len (get_or cues n.cue [])
unfolding path_of
path_is cues n = refl

pub length_path : (cues : List (List ℕ)) (n : Node) → n.len ≤ length (get_or cues n.cue []) → length (path_of cues n) ≡ n.len
length_path cues n h = ap length (path_is cues n) ∙ length-take-le n.len (get_or cues n.cue []) h

module _ (cues : List (List ℕ)) (nodes : List Node) (heads : List ℕ) (s : Sound cues nodes heads) where
  pub path_root : path cues nodes 0 ≡ []
  path_root = path_empty cues (node_at nodes 0) s.root_len

  -- an entry is the root or another
  pub root_or : (i : ℕ) → (i ≡ 0) ⊎ (0 < i)
  root_or zero = inl refl
  root_or (suc i) = inr (omega arith)

  pub path_length : (i : ℕ) → i < length nodes → length (path cues nodes i) ≡ (node_at nodes i).len
  path_length i h =
      ⊎_elim (λ (e : i ≡ 0). rw e (ap length path_root ∙ sym s.root_len))
      (λ (p : 0 < i). length_path cues (node_at nodes i) (s.entries i p h).long)
      (root_or i)

  pub len_short : (i : ℕ) → i < length nodes → (node_at nodes i).len ≤ 32
  len_short i h =
      ⊎_elim (λ (e : i ≡ 0). rw e (omega (arith, s.root_len))) (λ (p : 0 < i). (s.entries i p h).short) (root_or i)

  pub path_begins : (i : ℕ) → i < length nodes → beginning cues (path cues nodes i) ≡ true
  path_begins i h =
      ⊎_elim (λ (e : i ≡ 0). rw e (ap (beginning cues) path_root))
      (λ (p : 0 < i). ap (beginning cues) (path_is cues (node_at nodes i)) ∙ cue_front cues (node_at nodes i).cue (node_at nodes i).len (s.entries i p h).cue)
      (root_or i)

  -- a child's beginning is its parent's with the sign
  pub child_path : (at sign r : ℕ) → Found nodes at sign r → 0 < r → path cues nodes r ≡ path cues nodes at ++ sign ∷ []
  child_path at sign r f p =
      (s.entries r p f.within).grown ∙ ap (λ a. path cues nodes a ++ (node_at nodes r).sign ∷ []) (f.hit p).0 ∙ ap (λ x. path cues nodes at ++ x ∷ []) (f.hit p).1

  -- an entry with a beginning of one sign more is a child
  pub path_child : (at sign i : ℕ) → at < length nodes → i < length nodes → path cues nodes i ≡ path cues nodes at ++ sign ∷ [] →
      (0 < i) × ((node_at nodes i).parent ≡ at) × ((node_at nodes i).sign ≡ sign)
  path_child at sign i h l e =
      let long = ap length e ∙ length_push (path cues nodes at) sign in
      let p : 0 < i = ⊎_elim (λ (z : i ≡ 0). absurd (omega (arith, long, ap length path_root, ap (λ j. length (path cues nodes j)) z))) (λ (q : 0 < i). q) (root_or i) in
      let both = same_from_push _ _ _ _ (sym (s.entries i p l).grown ∙ e) in
      let older = (s.entries i p l).parent in
      (p, s.once (node_at nodes i).parent at (omega arith) h both.0, both.1)

  -- no entry has the beginning of one sign more where there is no such child
  pub child_fresh : (at sign : ℕ) → at < length nodes → Found nodes at sign 0 → (i : ℕ) → i < length nodes → path cues nodes i ≡ path cues nodes at ++ sign ∷ [] → ⊥
  child_fresh at sign h f i l e =
      let c = path_child at sign i h l e in
      f.miss refl i c.0 l c.1 c.2

  pub child_none : (at sign k : ℕ) → at < length nodes → Found nodes at sign 0 → Complete cues nodes k → (node_at nodes at).len < k → beginning cues (path cues nodes at ++ sign ∷ []) ≡ false
  child_none at sign k h f full short =
      ⊎_elim
      (λ (t : beginning cues (path cues nodes at ++ sign ∷ []) ≡ true).
      absurd (⊎_elim
      (λ (z : path cues nodes at ++ sign ∷ [] ≡ []). omega (arith, ap length z, length_push (path cues nodes at) sign))
      (λ (x : (n : ℕ) × (n < length cues) × ((r : List ℕ) × ((path cues nodes at ++ sign ∷ []) ++ r ≡ get_or cues n []))).
      full x.0 (length (path cues nodes at ++ sign ∷ [])) x.1 (omega (arith, length_push (path cues nodes at) sign, path_length at h))
      (λ i l e. child_fresh at sign h f i l (e ∙ ap (take (length (path cues nodes at ++ sign ∷ []))) (sym x.2.1) ∙ take_at (path cues nodes at ++ sign ∷ []) x.2.0 _ refl)))
      ((beginning_read cues (path cues nodes at ++ sign ∷ [])).0 t)))
      (λ (t : beginning cues (path cues nodes at ++ sign ∷ []) ≡ false). t)
      (cases_Bool (beginning cues (path cues nodes at ++ sign ∷ [])))

-- the trials, sightings and links of a list that is not empty
pub tries_one : (cues : List (List ℕ)) (b : List ℕ) (s : ℕ) → beginning cues b ≡ true → beginning cues (b ++ s ∷ []) ≡ true → tries cues b s ≡ 1
tries_one cues [] s h e = refl
tries_one cues (x ∷ b) s h e = ((tries_walk cues s).1 x b h).0 e

pub tries_more : (cues : List (List ℕ)) (b : List ℕ) (s : ℕ) → 0 < length b → beginning cues b ≡ true → beginning cues (b ++ s ∷ []) ≡ false → tries cues b s ≡ suc (tries cues (link_of cues b) s)
tries_more cues [] s p h e = absurd (omega arith)
tries_more cues (x ∷ b) s p h e = ((tries_walk cues s).1 x b h).1 e

pub sightings_some : (cues : List (List ℕ)) (b : List ℕ) → 0 < length b → sightings cues b ≡ exact 0 cues b ++ sightings cues (link_of cues b)
sightings_some cues [] p = absurd (omega arith)
sightings_some cues (x ∷ b) p = sightings_walk cues x b

pub link_shorter : (cues : List (List ℕ)) (b : List ℕ) → 0 < length b → length (link_of cues b) < length b
link_shorter cues [] p = absurd (omega arith)
link_shorter cues (x ∷ b) p = omega (arith, live_short cues b)

-- the link of one sign more is live behind the link
pub link_push : (cues : List (List ℕ)) (b : List ℕ) (s : ℕ) → 0 < length b → link_of cues (b ++ s ∷ []) ≡ live cues (link_of cues b ++ s ∷ [])
link_push cues [] s p = absurd (omega arith)
link_push cues (x ∷ b) s p = sym (live_enough cues b (s ∷ []))

pub standing_some : (cues : List (List ℕ)) (b : List ℕ) → 0 < length b → standing cues b ≡ (lowest cues b, length b)
standing_some cues [] p = absurd (omega arith)
standing_some cues (x ∷ b) p = refl
