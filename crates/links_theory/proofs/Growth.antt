-- One entry more, one cue further, one level further.
use Rattle.std.proofs.Common.{◌≡◌, ℕ, zero, suc, ◌+◌, ◌*◌, ◌<◌, ◌≤◌, true, false, ltb, List, [], ◌∷◌, ◌++◌, length, get_or, take, drop, set, replicate, sym, refl, ap, ◌∙◌, subst, ⊎_elim, mod-lt, arith}
use Rattle.std.proofs.lemmas.List.{get_or_append_left, get_or_push, length_push, set_at, length-set, get_or-set_same, get_or-set_other, length-replicate, get_or-replicate, get_or_past, take_more, take_all, take-append-drop, length-take-le}
use Rattle.std.proofs.lemmas.Bool.{cases_eq, cases_lt, cases_Bool, cond-true, cond-false, lt-ltb, le-ltb}
use Rattle.matching.specs.Match.{begins, link as link_of, lowest}
use Rattle.matching.specs.Calls.{total}
use Rattle.matching.proofs.Live.{begins_append, begins_take, lowest_is}
use Rattle.links_theory.specs.declared.Node.{Node}
use Rattle.links_theory.specs.Entries.{root_node, node_at, new_node, linked, path_of, path, slot_of, Entry, Sound, Found, Growing, reach, done}
use Rattle.links_theory.proofs.Paths.{path_is, path_empty, path_length, child_fresh}

pub slot_small : (parent sign : ℕ) → slot_of parent sign < 1024
unfolding slot_of
slot_small parent sign = mod-lt (parent * 397 + sign) (omega arith)

-- an entry behind the others leaves those as they were
pub node_old : (nodes : List Node) (m : Node) (j : ℕ) → j < length nodes → node_at (nodes ++ m ∷ []) j ≡ node_at nodes j
node_old nodes m j h = get_or_append_left nodes (m ∷ []) root_node j h

pub node_new : (nodes : List Node) (m : Node) → node_at (nodes ++ m ∷ []) (length nodes) ≡ m
node_new nodes m = get_or_push nodes m root_node (length nodes) refl

abbrev slot : Node → ℕ
slot n = slot_of n.parent n.sign

pub entry_more : (cues : List (List ℕ)) (nodes : List Node) (m : Node) (i : ℕ) (n : Node) → i ≤ length nodes → Entry cues nodes i n → Entry cues (nodes ++ m ∷ []) i n
entry_more cues nodes m i n h e =
    let a = e.parent in
    let b = e.link in
    let d = e.next in
    record {
      cue = e.cue;
      some = e.some;
      long = e.long;
      short = e.short;
      low = e.low;
      parent = a;
      grown = e.grown ∙ ap (λ x. path_of cues x ++ n.sign ∷ []) (sym (node_old nodes m n.parent (omega arith)));
      link = b;
      linked = ap (path_of cues) (node_old nodes m n.link (omega arith)) ∙ e.linked;
      next = d;
      chain = λ q. ap slot (node_old nodes m n.next (omega arith)) ∙ e.chain q;
      between = λ j l k t. e.between j l k (sym (ap slot (node_old nodes m j (omega arith))) ∙ t);
    }

-- one entry more, at the head of its chain
pub sound_more : (cues : List (List ℕ)) (nodes : List Node) (heads : List ℕ) (n : Node) → Sound cues nodes heads → Entry cues nodes (length nodes) n →
    ((i : ℕ) → i < length nodes → path cues nodes i ≡ path_of cues n → ⊥) → Sound cues (nodes ++ n ∷ []) (set heads (slot_of n.parent n.sign) (length nodes))
sound_more cues nodes heads n s e fresh =
    record {
      some = omega (arith, long);
      root_cue = ap (λ x. x.cue) (node_old nodes n 0 s.some) ∙ s.root_cue;
      root_len = ap (λ x. x.len) (node_old nodes n 0 s.some) ∙ s.root_len;
      entries = λ i p h.
          ⊎_elim
          (λ (l : i < length nodes). subst (Entry cues (nodes ++ n ∷ []) i) (sym (node_old nodes n i l)) (entry_more cues nodes n i (node_at nodes i) (omega arith) (s.entries i p l)))
          (λ (l : length nodes ≤ i).
          let z : length nodes ≡ i = omega (arith, long) in
          subst (λ j. Entry cues (nodes ++ n ∷ []) j (node_at (nodes ++ n ∷ []) j)) z (subst (Entry cues (nodes ++ n ∷ []) (length nodes)) (sym (node_new nodes n)) (entry_more cues nodes n (length nodes) n (omega arith) e)))
          (cases_lt i (length nodes));
      heads_long = length-set heads (slot n) (length nodes) ∙ s.heads_long;
      head = λ t.
          ⊎_elim (λ (z : t ≡ slot n). omega (arith, long, head_same t z)) (λ (z : t ≡ slot n → ⊥). omega (arith, long, head_other t z, s.head t)) (cases_eq t (slot n));
      chain = λ t p.
          ⊎_elim
          (λ (z : t ≡ slot n). ap (λ j. slot (node_at (nodes ++ n ∷ []) j)) (head_same t z) ∙ ap slot (node_new nodes n) ∙ sym z)
          (λ (z : t ≡ slot n → ⊥).
          let o = head_other t z in
          ap (λ j. slot (node_at (nodes ++ n ∷ []) j)) o ∙ ap slot (node_old nodes n (get_or heads t 0) (s.head t)) ∙ s.chain t (omega (arith, p, o)))
          (cases_eq t (slot n));
      newest = λ t j l h q.
          ⊎_elim
          (λ (z : t ≡ slot n). omega (arith, long, head_same t z, l, h))
          (λ (z : t ≡ slot n → ⊥).
          let o = head_other t z in
          ⊎_elim
          (λ (b : j < length nodes). s.newest t j (omega (arith, l, o)) b (sym (ap slot (node_old nodes n j b)) ∙ q))
          (λ (b : length nodes ≤ j). z (sym q ∙ ap (λ i. slot (node_at (nodes ++ n ∷ []) i)) (let y : j ≡ length nodes = omega (arith, long, h) in y) ∙ ap slot (node_new nodes n)))
          (cases_lt j (length nodes)))
          (cases_eq t (slot n));
      once = λ i j h l q.
          ⊎_elim
          (λ (a : i < length nodes).
          ⊎_elim
          (λ (b : j < length nodes). s.once i j a b (sym (old i a) ∙ q ∙ old j b))
          (λ (b : length nodes ≤ j). absurd (fresh i a (sym (old i a) ∙ q ∙ new j (omega (arith, long, l, b)))))
          (cases_lt j (length nodes)))
          (λ (a : length nodes ≤ i).
          ⊎_elim
          (λ (b : j < length nodes). absurd (fresh j b (sym (old j b) ∙ sym q ∙ new i (omega (arith, long, h, a)))))
          (λ (b : length nodes ≤ j). omega (arith, long, h, l))
          (cases_lt j (length nodes)))
          (cases_lt i (length nodes));
    }
  where
    long : length (nodes ++ n ∷ []) ≡ length nodes + 1
    long = length_push nodes n

    head_same : (t : ℕ) → t ≡ slot n → get_or (set heads (slot n) (length nodes)) t 0 ≡ length nodes
    head_same t z = ap (λ x. get_or (set heads (slot n) (length nodes)) x 0) z ∙ get_or-set_same heads (slot n) (length nodes) 0 (omega (arith, slot_small n.parent n.sign, s.heads_long))

    head_other : (t : ℕ) → (t ≡ slot n → ⊥) → get_or (set heads (slot n) (length nodes)) t 0 ≡ get_or heads t 0
    head_other t z = get_or-set_other heads (slot n) t (length nodes) 0 z

    old : (i : ℕ) → i < length nodes → path cues (nodes ++ n ∷ []) i ≡ path cues nodes i
    old i h = ap (path_of cues) (node_old nodes n i h)

    new : (i : ℕ) → i ≡ length nodes → path cues (nodes ++ n ∷ []) i ≡ path_of cues n
    new i z = ap (λ j. path cues (nodes ++ n ∷ []) j) z ∙ ap (path_of cues) (node_new nodes n)

-- where the first i cues are one sign further
pub reach_in : (k i c : ℕ) → c < i → reach k i c ≡ k + 1
reach_in k i c h = cond-true (ltb c i) (k + 1) k (lt-ltb c i h)

pub reach_out : (k i c : ℕ) → i ≤ c → reach k i c ≡ k
reach_out k i c h = cond-false (ltb c i) (k + 1) k (le-ltb c i h)

pub reach_other : (k i c : ℕ) → (c ≡ i → ⊥) → reach k (i + 1) c ≡ reach k i c
reach_other k i c h =
    ⊎_elim (λ (l : c < i). reach_in k (i + 1) c (omega arith) ∙ sym (reach_in k i c l)) (λ (l : i ≤ c). reach_out k (i + 1) c (different i c l h) ∙ sym (reach_out k i c l)) (cases_lt c i)
  where
    different : (i c : ℕ) → i ≤ c → (c ≡ i → ⊥) → i + 1 ≤ c
    different i c l h = omega arith

-- where the cue is at its end, it is so without a new entry
pub growing_short : (cues : List (List ℕ)) (nodes : List Node) (heads places : List ℕ) (k i : ℕ) → Growing cues nodes heads places k i → length (get_or cues i []) ≤ k → Growing cues nodes heads places k (i + 1)
growing_short cues nodes heads places k i g h =
    record {
      sound = g.sound;
      complete = g.complete;
      spots = g.spots;
      placed = g.placed;
      paths = λ c l.
          ⊎_elim
          (λ (z : c ≡ i).
          g.paths c l ∙ ap (λ m. take m (get_or cues c [])) (reach_out k i c (omega arith)) ∙ take_all k (get_or cues c []) (short c z) ∙ sym (take_all (k + 1) (get_or cues c []) (omega (arith, short c z))) ∙ ap (λ m. take m (get_or cues c [])) (sym (reach_in k (i + 1) c (omega arith))))
          (λ (z : c ≡ i → ⊥). g.paths c l ∙ ap (λ m. take m (get_or cues c [])) (sym (reach_other k i c z)))
          (cases_eq c i);
      plain = g.plain;
    }
  where
    short : (c : ℕ) → c ≡ i → length (get_or cues c []) ≤ k
    short c z = rw z h

-- the place of a cue moved one sign on
pub growing_placed : (cues : List (List ℕ)) (nodes : List Node) (heads places : List ℕ) (k i r : ℕ) → Growing cues nodes heads places k i → i < length cues → r < length nodes → path cues nodes r ≡ take (k + 1) (get_or cues i []) → Growing cues nodes heads (set places i r) k (i + 1)
growing_placed cues nodes heads places k i r g h w e =
    record {
      sound = g.sound;
      complete = g.complete;
      spots = length-set places i r ∙ g.spots;
      placed = λ c l.
          ⊎_elim (λ (z : c ≡ i). omega (arith, w, at c z)) (λ (z : c ≡ i → ⊥). omega (arith, g.placed c l, get_or-set_other places i c r 0 z)) (cases_eq c i);
      paths = λ c l.
          ⊎_elim
          (λ (z : c ≡ i). ap (path cues nodes) (at c z) ∙ e ∙ ap (λ x. take (k + 1) (get_or cues x [])) (sym z) ∙ ap (λ m. take m (get_or cues c [])) (sym (reach_in k (i + 1) c (omega arith))))
          (λ (z : c ≡ i → ⊥). ap (path cues nodes) (get_or-set_other places i c r 0 z) ∙ g.paths c l ∙ ap (λ m. take m (get_or cues c [])) (sym (reach_other k i c z)))
          (cases_eq c i);
      plain = g.plain;
    }
  where
    at : (c : ℕ) → c ≡ i → get_or (set places i r) c 0 ≡ r
    at c z = ap (λ x. get_or (set places i r) x 0) z ∙ get_or-set_same places i r 0 (omega (arith, g.spots, h))

-- a level done: all cues are one sign further
pub growing_level : (cues : List (List ℕ)) (nodes : List Node) (heads places : List ℕ) (k i : ℕ) → Growing cues nodes heads places k i → length cues ≤ i → Growing cues nodes heads places (k + 1) 0
growing_level cues nodes heads places k i g h =
    record {
      sound = g.sound;
      complete = λ c m l b none.
          ⊎_elim (λ (q : m < k + 1). g.complete c m l (omega arith) none)
          (λ (q : k + 1 ≤ m). none (get_or places c 0) (g.placed c l) (g.paths c l ∙ ap (λ n. take n (get_or cues c [])) (reach_in k i c (omega arith) ∙ (let y : k + 1 ≡ m = omega arith in y))))
          (cases_lt m (k + 1));
      spots = g.spots;
      placed = g.placed;
      paths = λ c l. g.paths c l ∙ ap (λ n. take n (get_or cues c [])) (reach_in k i c (omega arith) ∙ sym (reach_out (k + 1) 0 c (omega arith)));
      plain = g.plain;
    }

get_d_zeros : (n c : ℕ) → get_or (replicate n zero) c zero ≡ zero
get_d_zeros n c = ⊎_elim (λ (l : c < n). get_or-replicate n c zero zero l) (λ (l : n ≤ c). get_or_past (replicate n zero) c zero (omega (arith, length-replicate n zero))) (cases_lt c n)

-- the table with the root alone
pub growing_none : (cues : List (List ℕ)) → Growing cues (root_node ∷ []) (replicate 1024 0) (replicate (length cues) 0) 0 0
growing_none cues =
    record {
      sound =
          record {
            some = omega arith;
            root_cue = refl;
            root_len = refl;
            entries = λ i p h. absurd (omega arith);
            heads_long = length-replicate 1024 zero;
            head = λ s. omega (arith, get_d_zeros 1024 s);
            chain = λ s p. absurd (omega (arith, get_d_zeros 1024 s));
            newest = λ s j l h q. omega (arith, l, h);
            once = λ i j h l q. omega arith;
          };
      complete = λ c m l h none. none 0 (omega arith) (path_empty cues root_node refl ∙ ap (λ n. take n (get_or cues c [])) (let y : zero ≡ m = omega arith in y));
      spots = length-replicate (length cues) zero;
      placed = λ c l. omega (arith, get_d_zeros (length cues) c);
      paths = λ c l. ap (path cues (root_node ∷ [])) (get_d_zeros (length cues) c) ∙ path_empty cues root_node refl ∙ ap (λ n. take n (get_or cues c [])) (sym (reach_out 0 0 c (omega arith)));
      plain = λ j l. ap (λ i. (node_at (root_node ∷ []) i).whole) (let z : j ≡ 0 = omega arith in z);
    }

-- a new entry for the next sign of a cue
module _ (cues : List (List ℕ)) (nodes : List Node) (heads places : List ℕ) (k i : ℕ) (g : Growing cues nodes heads places k i) (l : i < length cues) (h : k < length (get_or cues i [])) (most : length (get_or cues i []) ≤ 32)
    (parent sign : ℕ) (is-parent : parent ≡ get_or places i 0) (is-sign : sign ≡ get_or (get_or cues i []) k 0) where
  pub parent_within : parent < length nodes
  parent_within = omega (arith, is-parent, g.placed i l)

  parent_path : path cues nodes parent ≡ take k (get_or cues i [])
  parent_path = ap (path cues nodes) is-parent ∙ g.paths i l ∙ ap (λ m. take m (get_or cues i [])) (reach_out k i i (omega arith))

  -- the parent's beginning has k signs
  pub parent_len : (node_at nodes parent).len ≡ k
  parent_len = sym (path_length cues nodes heads g.sound parent parent_within) ∙ ap length parent_path ∙ length-take-le k (get_or cues i []) (omega (arith, h))

  pub next_path : path cues nodes parent ++ sign ∷ [] ≡ take (k + 1) (get_or cues i [])
  next_path =
      ap (λ b. b ++ sign ∷ []) parent_path ∙ ap (λ x. take k (get_or cues i []) ++ x ∷ []) is-sign ∙ sym (take_more (get_or cues i []) k 0 h)

  module _ (f : Found nodes parent sign 0) (to : ℕ) (w : to < length nodes) (e : path cues nodes to ≡ link_of cues (path cues nodes parent ++ sign ∷ [])) where
    abbrev made : Node
    made = new_node parent sign (get_or heads (slot_of parent sign) 0) to i (k + 1)

    made_path : path_of cues made ≡ path cues nodes parent ++ sign ∷ []
    made_path = path_is cues made ∙ sym next_path

    made_fresh : (j : ℕ) → j < length nodes → path cues nodes j ≡ path_of cues made → ⊥
    made_fresh j b q = child_fresh cues nodes heads g.sound parent sign parent_within f j b (q ∙ made_path)

    made_low : i ≡ lowest cues (path_of cues made)
    made_low =
        sym (lowest_is cues (path_of cues made) i l
        (ap (λ b. begins b (get_or cues i [])) (path_is cues made) ∙ ap (begins (take (k + 1) (get_or cues i []))) (sym (take-append-drop (k + 1) (get_or cues i []))) ∙ begins_append (take (k + 1) (get_or cues i [])) (drop (k + 1) (get_or cues i [])))
        (λ m b.
        ⊎_elim
        (λ (t : begins (path_of cues made) (get_or cues m []) ≡ true).
        let long : length (path_of cues made) ≡ k + 1 = ap length (path_is cues made) ∙ length-take-le (k + 1) (get_or cues i []) (omega (arith, h)) in
        absurd (made_fresh (get_or places m 0) (g.placed m (omega arith))
        (g.paths m (omega arith) ∙ ap (λ n. take n (get_or cues m [])) (reach_in k i m b ∙ sym long) ∙ begins_take (path_of cues made) (get_or cues m []) t)))
        (λ (t : begins (path_of cues made) (get_or cues m []) ≡ false). t)
        (cases_Bool (begins (path_of cues made) (get_or cues m [])))))

    made_entry : Entry cues nodes (length nodes) made
    made_entry =
        record {
          cue = l;
          some = omega arith;
          long = omega (arith, h);
          short = omega (arith, h, most);
          low = made_low;
          parent = parent_within;
          grown = made_path;
          link = w;
          linked = e ∙ ap (link_of cues) (sym made_path);
          next = g.sound.head (slot_of parent sign);
          chain = g.sound.chain (slot_of parent sign);
          between = λ j a b q. g.sound.newest (slot_of parent sign) j a b q;
        }

    pub growing_more : Growing cues (nodes ++ made ∷ []) (set heads (slot_of parent sign) (length nodes)) places k i
    growing_more =
        let long = length_push nodes made in
        record {
          sound = sound_more cues nodes heads made g.sound made_entry made_fresh;
          complete = λ c m a b none. g.complete c m a b (λ j d q. none j (omega (arith, long, d)) (ap (path_of cues) (node_old nodes made j d) ∙ q));
          spots = g.spots;
          placed = λ c a. omega (arith, long, g.placed c a);
          paths = λ c a. ap (path_of cues) (node_old nodes made (get_or places c 0) (g.placed c a)) ∙ g.paths c a;
          plain = λ j a.
              ⊎_elim (λ (b : j < length nodes). ap (λ n. n.whole) (node_old nodes made j b) ∙ g.plain j b)
              (λ (b : length nodes ≤ j). ap (λ i. (node_at (nodes ++ made ∷ []) i).whole) (let z : j ≡ length nodes = omega (arith, long, a) in z) ∙ ap (λ n. n.whole) (node_new nodes made))
              (cases_lt j (length nodes));
        }

    pub made_last : path cues (nodes ++ made ∷ []) (length nodes) ≡ take (k + 1) (get_or cues i [])
    made_last = ap (path_of cues) (node_new nodes made) ∙ path_is cues made

-- how many signs are read
pub done_none : (cues : List (List ℕ)) → done 0 0 cues ≡ 0
done_none [] = refl
done_none (c ∷ cues) = omega (arith, done_none cues)

pub done_more : (k i : ℕ) (cues : List (List ℕ)) → i < length cues → k < length (get_or cues i []) → done k (suc i) cues ≡ done k i cues + 1
done_more k i [] h l = absurd (omega arith)
done_more k zero (c ∷ cues) h l = omega (arith, l)
done_more k (suc i) (c ∷ cues) h l = omega (arith, done_more k i cues (omega arith) l)

pub done_same : (k i : ℕ) (cues : List (List ℕ)) → length (get_or cues i []) ≤ k → done k (suc i) cues ≡ done k i cues
done_same k i [] l = refl
done_same k zero (c ∷ cues) l = omega (arith, l)
done_same k (suc i) (c ∷ cues) l = omega (arith, done_same k i cues l)

pub done_all : (k i : ℕ) (cues : List (List ℕ)) → length cues ≤ i → done k i cues ≡ done (k + 1) 0 cues
done_all k i [] h = refl
done_all k zero (c ∷ cues) h = absurd (omega arith)
done_all k (suc i) (c ∷ cues) h = omega (arith, done_all k i cues (omega arith))

pub done_most : (k i : ℕ) (cues : List (List ℕ)) → done k i cues ≤ total cues
done_most k i [] = omega arith
done_most k zero (c ∷ cues) = omega (arith, done_most k zero cues)
done_most k (suc i) (c ∷ cues) = omega (arith, done_most k i cues)

-- the link of the last entry is set
pub link_last : (nodes more after : List Node) (n : Node) (at to : ℕ) → more ≡ nodes ++ n ∷ [] → at ≡ length nodes → after ≡ set more at (linked (node_at more at) to) → after ≡ nodes ++ linked n to ∷ []
link_last nodes more after n at to e z f =
    f ∙ ap (λ xs. set xs at (linked (node_at xs at) to)) e ∙ ap (λ a. set (nodes ++ n ∷ []) a (linked (node_at (nodes ++ n ∷ []) a) to)) z ∙ ap (λ m. set (nodes ++ n ∷ []) (length nodes) (linked m to)) (node_new nodes n) ∙ set_at nodes n [] (linked n to) (length nodes) refl

-- equal tables grow alike
pub growing_moved : {cs ds : List (List ℕ)} {ns ms : List Node} {hs is ps qs : List ℕ} (k i : ℕ) → ds ≡ cs → ms ≡ ns → is ≡ hs → qs ≡ ps → Growing cs ns hs ps k i → Growing ds ms is qs k i
growing_moved {cs} {ds} {ns} {ms} {hs} {is} {ps} {qs} k i a b c d g =
    subst (λ x. Growing x ms is qs k i) (sym a) (subst (λ x. Growing cs x is qs k i) (sym b) (subst (λ x. Growing cs ns x qs k i) (sym c) (subst (λ x. Growing cs ns hs x k i) (sym d) g)))
