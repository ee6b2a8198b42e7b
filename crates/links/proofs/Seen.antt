-- The sightings of an entry: its own, and those of the entry that its link names.
use Rattle.std.proofs.Common.{◌≡◌, ℕ, zero, suc, ◌+◌, ◌-◌, ◌<◌, ◌≤◌, Bool, List, [], ◌++◌, length, drop, is_some, Some, None, Option, vec_items, sym, refl, ap, ◌∙◌, arith}
use Rattle.std.proofs.lemmas.List.{length-append}
use Rattle.std.specs.Int.{from_bool}
use Rattle.engine.specs.Statements.{ith}
use Rattle.links_theory.specs.declared.Node.{Node}
use Rattle.links_theory.specs.Entries.{exact_of, node_at}
use Rattle.links_theory.proofs.Walks.{sightings_entry, sightings_root}
use Rattle.links.specs.declared.queries.Sightings.{Sightings}
use Rattle.links.specs.Tables.{cues_in, ReadyIn, seen_at}
use Rattle.links.proofs.Opened.{ready_table}

-- an entry's own sightings are counted by 1 or 0
own_count : (o : Option ℕ) (k : ℕ) → from_bool (is_some o) ≡ length (exact_of o k)
own_count None k = refl
own_count (Some c) k = refl

-- what is sought behind an entry's own sightings
behind : (o : Option ℕ) (k left : ℕ) (ys : List (ℕ × ℕ)) → length (exact_of o k) ≤ left → (ith (left - length (exact_of o k) + 1) ys ≡ ith (left + 1) (exact_of o k ++ ys)) × (drop (left - length (exact_of o k) + 1) ys ≡ drop (left + 1) (exact_of o k ++ ys))
behind None k left ys h =
    let e : left - 0 ≡ left = omega arith in
    (ap (λ n. ith (n + 1) ys) e, ap (λ n. drop (n + 1) ys) e)
behind (Some c) k zero ys h = absurd (omega arith)
behind (Some c) k (suc m) ys h =
    let e : suc m - 1 ≡ m = omega arith in
    grind (arith, e)

-- what is sought is the first here
foremost : (o : Option ℕ) (c k left : ℕ) (ys : List (ℕ × ℕ)) → o ≡ Some c → left < length (exact_of o k) → (Some (c, k) ≡ ith (left + 1) (exact_of o k ++ ys)) × (ys ≡ drop (left + 1) (exact_of o k ++ ys))
foremost None c k left ys is h = absurd (omega arith)
foremost (Some d) c k left ys is h =
    let e : left ≡ 0 = omega arith in
    grind (arith, e, is)

module _ (s : Sightings) where
  pub ready : ReadyIn s.table.now s.at
  ready = ready_table s.table.now s.at s.ready

  pub seen_root : seen_at s.table.now 0 ≡ []
  seen_root = sightings_root (cues_in s.table.now) (vec_items s.table.now.nodes) s.table.now.heads.value s.at ready

  -- an entry that is not the root, and the one that its link names
  module _ (at : ℕ) (n : Node) (p : 0 < at) (h : at < length (vec_items s.table.now.nodes)) (e : n ≡ node_at (vec_items s.table.now.nodes) at) (to : ℕ) (named : to ≡ n.link) where
    pub link_older : to < at
    link_older = omega (arith, named, ap (λ m. m.link) e, (ready.sound.entries at p h).link)

    seen_link : seen_at s.table.now at ≡ exact_of n.whole n.len ++ seen_at s.table.now to
    seen_link =
        sightings_entry (cues_in s.table.now) (vec_items s.table.now.nodes) s.table.now.heads.value s.at ready at p h ∙ ap (λ m. exact_of m.whole m.len ++ seen_at s.table.now m.link) (sym e) ∙ ap (λ l. exact_of n.whole n.len ++ seen_at s.table.now l) (sym named)

    -- what is added for it
    module _ (b : Bool) (some : b ≡ is_some n.whole) (here : ℕ) (one : here ≡ from_bool b) where
      own : here ≡ length (exact_of n.whole n.len)
      own = one ∙ ap from_bool some ∙ own_count n.whole n.len

      pub seen_count : here + length (seen_at s.table.now to) ≡ length (seen_at s.table.now at)
      seen_count = omega (arith, own, ap length seen_link ∙ length-append (exact_of n.whole n.len) (seen_at s.table.now to))

      -- counting goes on there
      pub counted : (count total : ℕ) → count + length (seen_at s.table.now at) ≡ total → (to < length (vec_items s.table.now.nodes)) × (count + here + length (seen_at s.table.now to) ≡ total)
      counted count total e = (omega (arith, link_older, h), omega (arith, seen_count, e))

      -- what is sought is behind it, and is sought there
      pub passed : (left : ℕ) (x : Option (ℕ × ℕ)) (ys : List (ℕ × ℕ)) → here ≤ left → ith (left + 1) (seen_at s.table.now at) ≡ x → drop (left + 1) (seen_at s.table.now at) ≡ ys → (to < length (vec_items s.table.now.nodes)) × (ith (left - here + 1) (seen_at s.table.now to) ≡ x) × (drop (left - here + 1) (seen_at s.table.now to) ≡ ys)
      passed left x ys l e f =
          let b = behind n.whole n.len left (seen_at s.table.now to) (omega (arith, own, l)) in (
            omega (arith, link_older, h),
            ap (λ k. ith (left - k + 1) (seen_at s.table.now to)) own ∙ b.0 ∙ ap (ith (left + 1)) (sym seen_link) ∙ e,
            ap (λ k. drop (left - k + 1) (seen_at s.table.now to)) own ∙ b.1 ∙ ap (drop (left + 1)) (sym seen_link) ∙ f,
          )

      -- or is the first here
      pub first : (c left : ℕ) → n.whole ≡ Some c → left < here → (Some (c, n.len) ≡ ith (left + 1) (seen_at s.table.now at)) × (seen_at s.table.now to ≡ drop (left + 1) (seen_at s.table.now at))
      first c left is l =
          let f = foremost n.whole c n.len left (seen_at s.table.now to) is (omega (arith, own, l)) in
          (f.0 ∙ ap (ith (left + 1)) (sym seen_link), f.1 ∙ ap (drop (left + 1)) (sym seen_link))
