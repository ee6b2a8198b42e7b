use Rattle.std.proofs.Common.{◌≡◌, ℕ, suc, ◌+◌, ◌<◌, ◌≤◌, [], length, get_or, vec_items, vec_len, sym, refl, ap, ◌∙◌, arith}
use Rattle.book.specs.declared.cue.Cue.{Cue}
use Rattle.links_theory.specs.Entries.{done}
use Rattle.links_theory.proofs.Growth.{growing_short, growing_placed, growing_moved, done_same, done_more}
use Rattle.links_theory.proofs.Parts.{cue_length, cues_length}
use Rattle.links.specs.declared.table.Table.{Table}
use Rattle.links.specs.Tables.{cues_in, Building}
use Rattle.links.proofs.Steps.{kept_same, kept_cues, building_kept}
use Rattle.links.proofs.table.Table.grow.Goals as goal

-- the number of a cue, and how long it is
numbered : (t : Table) (i : ℕ) → i < vec_len t.cues → i < length (vec_items t.cues)
numbered t i h = omega (arith, h, t.cues.ok.0)

length-read : (t : Table) (k i : ℕ) (d : Cue) → Building t k i → i < vec_len t.cues → d ≡ get_or (vec_items t.cues) i d → length (get_or (cues_in t) i []) ≡ d.len
length-read t k i d b h e = cue_length (vec_items t.signs) (vec_items t.cues) b.within i d (numbered t i h) ∙ ap (λ x. x.len) (sym e)

pub returns-then-k-cue-clause-building : goal.returns-then-k-cue-clause-building
returns-then-k-cue-clause-building c =
    let t = c.args.self.now in
    let u = c.enter-at.new.self in
    let b = c.requires.building in
    let told = c.enter-at.ensures in
    let cue = c.index-cue.result.now in
    let long = length-read t c.args.k c.args.number cue b c.requires.number c.index-cue.ensures in
    let in' : c.args.number < length (cues_in t) = omega (arith, numbered t c.args.number c.requires.number, cues_length (vec_items t.signs) (vec_items t.cues)) in
    let cues = kept_cues t u told.kept in
    let g = growing_placed (cues_in u) (vec_items u.nodes) u.heads.value (vec_items u.places) c.args.k c.args.number c.enter-at.result told.growing (omega (arith, in', ap length cues)) told.within told.path in
    building_kept t _ c.args.k c.args.number (c.args.number + 1) b (record { signs = told.kept.signs; cues = told.kept.cues; nodes = told.kept.nodes; places = told.kept.places }) (growing_moved c.args.k (c.args.number + 1) (sym cues) refl refl refl g)
    (omega (arith, b.few, told.few, done_next c.args.k c.args.number t in' (omega (arith, long, c.if-k-cue.true))))
  where
    done_next : (k i : ℕ) (t : Table) → i < length (cues_in t) → k < length (get_or (cues_in t) i []) → done k (i + 1) (cues_in t) ≡ done k i (cues_in t) + 1
    done_next k i t h l = ap (λ n. done k n (cues_in t)) (let e : i + 1 ≡ suc i = omega arith in e) ∙ done_more k i (cues_in t) h l

pub returns-else-k-cue-clause-building : goal.returns-else-k-cue-clause-building
returns-else-k-cue-clause-building c =
    let t = c.args.self.now in
    let b = c.requires.building in
    let long = length-read t c.args.k c.args.number c.index-cue.result.now b c.requires.number c.index-cue.ensures in
    let short : length (get_or (cues_in t) c.args.number []) ≤ c.args.k = omega (arith, long, c.if-k-cue.false) in
    building_kept t t c.args.k c.args.number (c.args.number + 1) b (kept_same t)
    (growing_short (cues_in t) (vec_items t.nodes) t.heads.value (vec_items t.places) c.args.k c.args.number b.growing short)
    (omega (arith, b.few, done_next c.args.k c.args.number t short))
  where
    done_next : (k i : ℕ) (t : Table) → length (get_or (cues_in t) i []) ≤ k → done k (i + 1) (cues_in t) ≡ done k i (cues_in t)
    done_next k i t h = ap (λ n. done k n (cues_in t)) (let e : i + 1 ≡ suc i = omega arith in e) ∙ done_same k i (cues_in t) h
