-- The marks of whole cues, and the table that is ready.
use Rattle.std.proofs.Common.{◌≡◌, ℕ, ◌+◌, ◌<◌, ◌≤◌, true, ◌⊎◌, List, [], ◌∷◌, ◌++◌, length, get_or, take, set, Some, None, Option, sym, refl, ap, ◌∙◌, subst, inl, inr, ⊎_elim, arith}
use Rattle.std.proofs.lemmas.List.{length-set, get_or-set_same, get_or-set_other, take_all}
use Rattle.std.proofs.lemmas.Bool.{cases_eq, cases_lt}
use Rattle.matching.specs.Match.{exact, distinct, link as link_of, lowest, Among}
use Rattle.matching.proofs.Sightings.{exact_one, exact_has, exact_found}
use Rattle.links_theory.specs.declared.Node.{Node}
use Rattle.links_theory.specs.Entries.{root_node, node_at, marked, path_of, path, slot_of, Entry, Sound, Complete, Growing, exact_of, Marked, Ready}
use Rattle.links_theory.proofs.Paths.{path_length}
use Rattle.links_theory.proofs.Growth.{reach_out}

some_none : {c : ℕ} → ◌≡◌ {A = Option ℕ} (Some c) None → ⊥
some_none e = let z : ◌≡◌ {A = ℕ} 0 1 = cc in omega arith

some_same : {b c : ℕ} → ◌≡◌ {A = Option ℕ} (Some b) (Some c) → b ≡ c
some_same e = cc

-- an entry without its mark
abbrev bare : Node → Node
bare n = record { parent = n.parent; sign = n.sign; next = n.next; link = n.link; cue = n.cue; len = n.len; whole = None }

path_bare : (cues : List (List ℕ)) (n : Node) → path_of cues (bare n) ≡ path_of cues n
unfolding path_of
path_bare cues n = refl

abbrev slot : Node → ℕ
slot n = slot_of n.parent n.sign

-- a table grown to the end: the place of a cue is its own entry
pub record Grown (cues : List (List ℕ)) (nodes : List Node) (heads places : List ℕ) : Type 0 where
  pub sound : Sound cues nodes heads
  pub complete : (k : ℕ) → Complete cues nodes k
  pub placed : (c : ℕ) → c < length cues → get_or places c 0 < length nodes
  pub paths : (c : ℕ) → c < length cues → path cues nodes (get_or places c 0) ≡ get_or cues c []

pub grown : (cues : List (List ℕ)) (nodes : List Node) (heads places : List ℕ) → Growing cues nodes heads places 32 0 → ((c : ℕ) → length (get_or cues c []) ≤ 32) → Grown cues nodes heads places
grown cues nodes heads places g short =
    record {
      sound = g.sound;
      complete = λ k c n h b none.
          ⊎_elim (λ (q : n < 33). g.complete c n h (omega arith) none)
          (λ (q : 33 ≤ n). g.complete c 32 h (omega arith) (λ j a e. none j a (e ∙ take_all 32 (get_or cues c []) (short c) ∙ sym (take_all n (get_or cues c []) (omega (arith, short c))))))
          (cases_lt n 33);
      placed = g.placed;
      paths = λ c h. g.paths c h ∙ ap (λ n. take n (get_or cues c [])) (reach_out 32 0 c (omega arith)) ∙ take_all 32 (get_or cues c []) (short c);
    }

-- before the first mark
pub marked_none : (cues : List (List ℕ)) (nodes : List Node) → ((j : ℕ) → j < length nodes → (node_at nodes j).whole ≡ None) → Marked cues nodes 0
marked_none cues nodes plain =
    record { right = λ j c h q. absurd (some_none (sym q ∙ plain j h)); all = λ j c h q l. absurd (omega arith) }

-- one mark more
module _ (cues : List (List ℕ)) (nodes : List Node) (p i : ℕ) (h : p < length nodes) where
  abbrev pub with_mark : List Node
  with_mark = set nodes p (marked (node_at nodes p) i)

  long : length with_mark ≡ length nodes
  long = length-set nodes p (marked (node_at nodes p) i)

  here : (j : ℕ) → j ≡ p → node_at with_mark j ≡ marked (node_at nodes p) i
  here j z = ap (node_at with_mark) z ∙ get_or-set_same nodes p (marked (node_at nodes p) i) root_node h

  other : (j : ℕ) → (j ≡ p → ⊥) → node_at with_mark j ≡ node_at nodes j
  other j z = get_or-set_other nodes p j (marked (node_at nodes p) i) root_node z

  same : (j : ℕ) → bare (node_at with_mark j) ≡ bare (node_at nodes j)
  same j =
      ⊎_elim (λ (z : j ≡ p). ap bare (here j z) ∙ ap (λ x. bare (node_at nodes x)) (sym z)) (λ (z : j ≡ p → ⊥). ap bare (other j z)) (cases_eq j p)

  path_same : (j : ℕ) → path cues with_mark j ≡ path cues nodes j
  path_same j =
      sym (path_bare cues (node_at with_mark j)) ∙ ap (path_of cues) (same j) ∙ path_bare cues (node_at nodes j)

  slot_same : (j : ℕ) → slot (node_at with_mark j) ≡ slot (node_at nodes j)
  slot_same j = ap slot (same j)

  entry_marked : (j : ℕ) → Entry cues nodes j (node_at nodes j) → Entry cues with_mark j (node_at with_mark j)
  entry_marked j e =
      let m = node_at with_mark j in
      let n = node_at nodes j in
      let cue : m.cue ≡ n.cue = ap (λ x. x.cue) (same j) in
      let len : m.len ≡ n.len = ap (λ x. x.len) (same j) in
      let parent : m.parent ≡ n.parent = ap (λ x. x.parent) (same j) in
      let sign : m.sign ≡ n.sign = ap (λ x. x.sign) (same j) in
      let link : m.link ≡ n.link = ap (λ x. x.link) (same j) in
      let next : m.next ≡ n.next = ap (λ x. x.next) (same j) in
      record {
        cue = omega (arith, e.cue, cue);
        some = omega (arith, e.some, len);
        long = omega (arith, e.long, len, ap (λ x. length (get_or cues x [])) cue);
        short = omega (arith, e.short, len);
        low = cue ∙ e.low ∙ ap (lowest cues) (sym (path_same j));
        parent = omega (arith, e.parent, parent);
        grown =
            path_same j ∙ e.grown ∙ ap (λ x. path cues nodes x ++ n.sign ∷ []) (sym parent) ∙ ap (λ x. path cues nodes m.parent ++ x ∷ []) (sym sign) ∙ ap (λ b. b ++ m.sign ∷ []) (sym (path_same m.parent));
        link = omega (arith, e.link, link);
        linked = path_same m.link ∙ ap (path cues nodes) link ∙ e.linked ∙ ap (link_of cues) (sym (path_same j));
        next = omega (arith, e.next, next);
        chain = λ q. slot_same m.next ∙ ap (λ x. slot (node_at nodes x)) next ∙ e.chain (omega (arith, q, next)) ∙ sym (slot_same j);
        between = λ x l k t. e.between x (omega (arith, l, next)) k (sym (slot_same x) ∙ t ∙ slot_same j);
      }

  pub sound_marked : (heads : List ℕ) → Sound cues nodes heads → Sound cues with_mark heads
  sound_marked heads s =
      record {
        some = omega (arith, s.some, long);
        root_cue = ap (λ x. x.cue) (same 0) ∙ s.root_cue;
        root_len = ap (λ x. x.len) (same 0) ∙ s.root_len;
        entries = λ j l b. entry_marked j (s.entries j l (omega (arith, b, long)));
        heads_long = s.heads_long;
        head = λ t. omega (arith, s.head t, long);
        chain = λ t q. slot_same (get_or heads t 0) ∙ s.chain t q;
        newest = λ t j l b q. s.newest t j l (omega (arith, b, long)) (sym (slot_same j) ∙ q);
        once = λ a b l k q. s.once a b (omega (arith, l, long)) (omega (arith, k, long)) (sym (path_same a) ∙ q ∙ path_same b);
      }

  pub grown_marked : (heads places : List ℕ) → Grown cues nodes heads places → Grown cues with_mark heads places
  grown_marked heads places g =
      record {
        sound = sound_marked heads g.sound;
        complete = λ k c m l b none. g.complete k c m l b (λ j a e. none j (omega (arith, a, long)) (path_same j ∙ e));
        placed = λ c l. omega (arith, g.placed c l, long);
        paths = λ c l. path_same (get_or places c 0) ∙ g.paths c l;
      }

  pub marked_more : (heads : List ℕ) → Sound cues nodes heads → Marked cues nodes i → i < length cues → path cues nodes p ≡ get_or cues i [] → Marked cues with_mark (i + 1)
  marked_more heads s m l e =
      record {
        right = λ j c b q.
            ⊎_elim
            (λ (z : j ≡ p).
            let is : i ≡ c = some_same (sym (ap (λ x. x.whole) (here j z)) ∙ q) in
            (omega arith, ap (λ x. get_or cues x []) (sym is) ∙ sym e ∙ ap (path cues nodes) (sym z) ∙ sym (path_same j)))
            (λ (z : j ≡ p → ⊥).
            let r = m.right j c (omega (arith, b, long)) (sym (ap (λ x. x.whole) (other j z)) ∙ q) in
            (r.0, r.1 ∙ sym (path_same j)))
            (cases_eq j p);
        all = λ j c b q d f.
            ⊎_elim (λ (z : j ≡ p). some_none (sym (ap (λ x. x.whole) (here j z)) ∙ q))
            (λ (z : j ≡ p → ⊥).
            ⊎_elim
            (λ (y : c < i). m.all j c (omega (arith, b, long)) (sym (ap (λ x. x.whole) (other j z)) ∙ q) y (f ∙ path_same j))
            (λ (y : i ≤ c). z (s.once j p (omega (arith, b, long)) h (sym (path_same j) ∙ sym f ∙ ap (λ x. get_or cues x []) (let w : c ≡ i = omega arith in w) ∙ sym e)))
            (cases_lt c i))
            (cases_eq j p);
      }

-- a cue that is the list is the only one
exact_cue : (cues : List (List ℕ)) (t : List ℕ) (c : ℕ) → distinct cues ≡ true → c < length cues → get_or cues c [] ≡ t → exact 0 cues t ≡ (c, length t) ∷ []
exact_cue cues t c d h e =
    let there : Among (c, length t) (exact 0 cues t) = exact_has 0 cues t c c (omega arith) h e in
    ⊎_elim
    (λ (z : exact 0 cues t ≡ []). absurd (subst (Among (c, length t)) z there))
    (λ (z : (j : ℕ) × (exact 0 cues t ≡ (j, length t) ∷ [])).
    ⊎_elim
    (λ (q : (z.0, length t) ≡ (c, length t)). z.1 ∙ ap (λ x. x ∷ []) q)
    (λ q. absurd q)
    (subst (Among (c, length t)) z.1 there))
    (exact_one 0 cues t d)

exact_no_cue : (cues : List (List ℕ)) (t : List ℕ) → distinct cues ≡ true → ((c : ℕ) → c < length cues → get_or cues c [] ≡ t → ⊥) → exact 0 cues t ≡ []
exact_no_cue cues t d none =
    ⊎_elim
    (λ (z : exact 0 cues t ≡ []). z)
    (λ (z : (j : ℕ) × (exact 0 cues t ≡ (j, length t) ∷ [])).
    let f = exact_found 0 cues t z.0 (length t) (subst (Among (z.0, length t)) (sym z.1) (inl refl)) in
    absurd (none f.0 f.2 f.3))
    (exact_one 0 cues t d)

cases_option : (o : Option ℕ) → (o ≡ None) ⊎ ((c : ℕ) × (o ≡ Some c))
cases_option None = inl refl
cases_option (Some c) = inr (c, refl)

-- a table grown to the end and marked is ready, with nothing live
pub ready : (cues : List (List ℕ)) (nodes : List Node) (heads places : List ℕ) (i : ℕ) → Grown cues nodes heads places → Marked cues nodes i → length cues ≤ i → distinct cues ≡ true → Ready cues nodes heads 0
ready cues nodes heads places i g m l d =
    record {
      sound = g.sound;
      complete = g.complete;
      whole = λ j p h.
          ⊎_elim
          (λ (q : (node_at nodes j).whole ≡ None). exact_no_cue cues (path cues nodes j) d (λ c b e. m.all j c h q (omega arith) e) ∙ ap (λ o. exact_of o (node_at nodes j).len) (sym q))
          (λ (q : (c : ℕ) × ((node_at nodes j).whole ≡ Some c)).
          let r = m.right j q.0 h q.1 in
          exact_cue cues (path cues nodes j) q.0 d r.0 r.1 ∙ ap (λ n. (q.0, n) ∷ []) (path_length cues nodes heads g.sound j h) ∙ ap (λ o. exact_of o (node_at nodes j).len) (sym q.1))
          (cases_option (node_at nodes j).whole);
      within = g.sound.some;
    }

-- the live entry may change
pub ready_at : (cues : List (List ℕ)) (nodes : List Node) (heads : List ℕ) (a b : ℕ) → Ready cues nodes heads a → b < length nodes → Ready cues nodes heads b
ready_at cues nodes heads a b r h =
    record { sound = r.sound; complete = r.complete; whole = r.whole; within = h }
