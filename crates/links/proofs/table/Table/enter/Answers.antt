use Rattle.std.proofs.Common.{◌≡◌, ℕ, suc, ◌+◌, ◌<◌, ◌≤◌, List, [], ◌∷◌, ◌++◌, length, get_or, take, vec_items, sym, ap, ◌∙◌, arith, rules}
use Rattle.std.proofs.lemmas.List.{get_or_read, length_push}
use Rattle.links_theory.specs.declared.Node.{Node}
use Rattle.links_theory.specs.Entries.{path}
use Rattle.links_theory.proofs.Walks.{complete_less}
use Rattle.links_theory.proofs.Growth.{parent_len, growing_more, made_last, link_last, growing_moved, done_most, done_more}
use Rattle.links_theory.proofs.Parts.{cue_short}
use Rattle.links.specs.declared.table.Table.{Table}
use Rattle.links.specs.Tables.{cues_in, Building}
use Rattle.links.proofs.Steps.{kept_more, kept_cues}
use Rattle.links.proofs.table.Table.enter.Goals as goal

-- the parent is the place of the cue
place_read : (t : Table) (k i x : ℕ) → Building t k i → i < length (cues_in t) → x ≡ get_or (vec_items t.places) i x → x ≡ get_or (vec_items t.places) i 0
place_read t k i x b h e = get_or_read (vec_items t.places) i x (omega (arith, h, b.growing.spots)) e 0

short : (t : Table) (k i : ℕ) → Building t k i → length (get_or (cues_in t) i []) ≤ 32
short t k i b = cue_short (vec_items t.signs) (vec_items t.cues) b.within i

pushed : (xs ys : List Node) (n : Node) → ys ≡ xs ++ n ∷ [] → length ys ≡ length xs + 1
pushed xs ys n e = ap length e ∙ length_push xs n

-- there is memory for one entry more
roomy : (t : Table) (k i : ℕ) → Building t k i → i < length (cues_in t) → k < length (get_or (cues_in t) i []) → length (vec_items t.nodes) ≤ 1024
roomy t k i b h l =
    omega (arith, b.few, b.fits, done_more k i (cues_in t) h l, done_most k (suc i) (cues_in t))

pub link_from-link-requires-clause-full : goal.link_from-link-requires-clause-full
link_from-link-requires-clause-full c =
    let t = c.args.self.now in
    let b = c.requires.building in
    let n = parent_len (cues_in t) (vec_items t.nodes) t.heads.value (vec_items t.places) c.args.k c.args.number b.growing c.requires.number c.requires.longer (short t c.args.k c.args.number b) c.index-parent.result.now c.args.sign (place_read t c.args.k c.args.number c.index-parent.result.now b c.requires.number c.index-parent.ensures) c.requires.sign in
    complete_less (cues_in t) (vec_items t.nodes) _ c.args.k (omega (arith, n)) b.growing.complete

pub overflow_cast-k : goal.overflow_cast-k
overflow_cast-k c =
    let t = c.args.self.now in
    let b = c.requires.building in
    let small : c.args.k < 32 = omega (arith, c.requires.longer, short t c.args.k c.args.number b) in
    search rules

pub overflow_add-k : goal.overflow_add-k
overflow_add-k c =
    let t = c.args.self.now in
    let b = c.requires.building in
    let small : c.args.k < 32 = omega (arith, c.requires.longer, short t c.args.k c.args.number b) in
    search rules

pub add-at-requires : goal.add-at-requires
add-at-requires c =
    let t = c.args.self.now in
    let b = c.requires.building in
    let few = roomy t c.args.k c.args.number b c.requires.number c.requires.longer in
    omega (arith, few, t.nodes.ok.0)

pub returns : goal.returns
returns c =
    let t = c.args.self.now in
    let b = c.requires.building in
    let u = c.add-at.new.self in
    let v = c.set_link.new.self in
    let told = c.add-at.ensures in
    let set = c.set_link.ensures in
    let kept = kept_more t u v told.kept set.kept in
    let f = c.in_default.ensures.none in
    let to = c.link_from-link.result in
    let w : to < length (vec_items t.nodes) = omega (arith, c.link_from-link.ensures.within, t.nodes.ok.0) in
    let nodes = link_last (vec_items t.nodes) (vec_items u.nodes) (vec_items v.nodes) _ c.add-at.result to told.nodes told.value set.nodes in
    let g = growing_more (cues_in t) (vec_items t.nodes) t.heads.value (vec_items t.places) c.args.k c.args.number b.growing c.requires.number c.requires.longer (short t c.args.k c.args.number b) c.index-parent.result.now c.args.sign (place_read t c.args.k c.args.number c.index-parent.result.now b c.requires.number c.index-parent.ensures) c.requires.sign f to w c.link_from-link.ensures.link in
    let last = made_last (cues_in t) (vec_items t.nodes) t.heads.value (vec_items t.places) c.args.k c.args.number b.growing c.requires.number c.requires.longer (short t c.args.k c.args.number b) c.index-parent.result.now c.args.sign (place_read t c.args.k c.args.number c.index-parent.result.now b c.requires.number c.index-parent.ensures) c.requires.sign f to w c.link_from-link.ensures.link in
    let long = pushed _ _ _ nodes in
    let cues = kept_cues t v kept in
    let heads = set.heads ∙ told.heads in
    let places = set.places ∙ told.places in
    record {
      growing = growing_moved c.args.k c.args.number cues nodes heads (ap vec_items places) g;
      few = omega (arith, long);
      within = omega (arith, long, told.value);
      path =
          ap (λ cs. path cs (vec_items v.nodes) c.add-at.result) cues ∙ ap (λ ns. path (cues_in t) ns c.add-at.result) nodes ∙ ap (path (cues_in t) _) told.value ∙ last ∙ ap (λ cs. take (c.args.k + 1) (get_or cs c.args.number [])) (sym cues);
      places = places;
      kept = kept;
    }
