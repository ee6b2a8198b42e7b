-- The look-up of a child in its chain.
use Rattle.std.proofs.Common.{◌≡◌, ℕ, ◌<◌, true, false, ◌&&◌, eqb, List, length, get_or, sym, ap, ◌∙◌, ⊎_elim, arith}
use Rattle.std.proofs.lemmas.Bool.{cases_order, and_parts, eqb-true}
use Rattle.links_theory.specs.declared.Node.{Node}
use Rattle.links_theory.specs.Entries.{node_at, slot_of, Sound, Found}

-- a chain searched down to the entry `at`: it is of the chain, and no newer entry is the child
pub record Searched (nodes : List Node) (parent sign at : ℕ) : Type 0 where
  pub within : at < length nodes
  pub chain : 0 < at → slot_of (node_at nodes at).parent (node_at nodes at).sign ≡ slot_of parent sign
  pub newer : (j : ℕ) → at < j → j < length nodes → (node_at nodes j).parent ≡ parent → (node_at nodes j).sign ≡ sign → ⊥

pub slot_same : (n : Node) (parent sign : ℕ) → n.parent ≡ parent → n.sign ≡ sign → slot_of n.parent n.sign ≡ slot_of parent sign
slot_same n parent sign p q = ap (λ x. slot_of x n.sign) p ∙ ap (slot_of parent) q

module _ (cues : List (List ℕ)) (nodes : List Node) (heads : List ℕ) (s : Sound cues nodes heads) (parent sign : ℕ) where
  pub searched_none : Searched nodes parent sign (get_or heads (slot_of parent sign) 0)
  searched_none =
      record {
        within = s.head (slot_of parent sign);
        chain = s.chain (slot_of parent sign);
        newer = λ j l h p q. s.newest (slot_of parent sign) j l h (slot_same (node_at nodes j) parent sign p q);
      }

  pub searched_more : (at : ℕ) → Searched nodes parent sign at → 0 < at → (eqb (node_at nodes at).parent parent && eqb (node_at nodes at).sign sign) ≡ false → Searched nodes parent sign (node_at nodes at).next
  searched_more at d p t =
      let e = s.entries at p d.within in
      let next = e.next in
      let top = d.within in
      record {
        within = omega arith;
        chain = λ q. e.chain q ∙ d.chain p;
        newer = λ j l h a b.
            ⊎_elim (λ (z : j ≡ at). grind (arith, ap (λ i. (node_at nodes i).parent) z, ap (λ i. (node_at nodes i).sign) z, a, b, t))
            (⊎_elim (λ (z : j < at). e.between j l z (slot_same (node_at nodes j) parent sign a b ∙ sym (d.chain p)))
            (λ (z : at < j). d.newer j z h a b))
            (cases_order j at);
      }

  pub searched_hit : (at : ℕ) → Searched nodes parent sign at → 0 < at → (eqb (node_at nodes at).parent parent && eqb (node_at nodes at).sign sign) ≡ true → Found nodes parent sign at
  searched_hit at d p t =
      let b = and_parts (eqb (node_at nodes at).parent parent) (eqb (node_at nodes at).sign sign) t in
      record {
        within = d.within;
        hit = λ q. (eqb-true _ _ b.0, eqb-true _ _ b.1);
        miss = λ z. absurd (omega arith);
      }

  pub searched_all : Searched nodes parent sign 0 → Found nodes parent sign 0
  searched_all d = record { within = d.within; hit = λ q. absurd (omega arith); miss = λ z j l h a b. d.newer j l h a b }
