use Rattle.std.proofs.Common.{◌≡◌, ℕ, ◌+◌, ◌-◌, ◌<◌, ◌≤◌, [], List, length, get_or, take, drop, None, Some, Option, IfNone, IsSome, vec_items, refl, ap, ◌∙◌, subst, arith}
use Rattle.std.proofs.lemmas.List.{get_or-take, length-take-le}
use Rattle.std.proofs.lemmas.Option.{MatchOption-at_some}
use Rattle.book.specs.Cues.{AllWithin}
use Rattle.book.specs.declared.cue.Cue.{Cue}
use Rattle.links_theory.proofs.Paths.{path_root}
use Rattle.links_theory.proofs.Queries.{descend_child, descend_more}
use Rattle.links_theory.proofs.Parts.{front_of_cue, cues_length}
use Rattle.links.specs.declared.link_engine.LinkEngine.{LinkEngine}
use Rattle.links.specs.Engines.{engine_cues}
use Rattle.links.proofs.Opened.{opened}
use Rattle.links.proofs.link_engine.LinkEngine.descend.Goals as goal

-- the k-th sign that is read
read : (e : LinkEngine) (i n k : ℕ) (d : Cue) (signs : List ℕ) → i < length (engine_cues e) → n ≤ length (get_or (engine_cues e) i []) → d ≡ get_or (vec_items e.table.cues) i d → signs ≡ vec_items e.table.signs → k < length (take (d.place + n - d.place) (drop d.place signs)) → (k < n) × (get_or (take (d.place + n - d.place) (drop d.place signs)) k 0 ≡ get_or (get_or (engine_cues e) i []) k 0)
read e i n k d signs h l is s t =
    let all = subst (λ m. AllWithin m (vec_items e.table.cues)) e.table.signs.ok.0 e.within in
    let in' : i < length (vec_items e.table.cues) = omega (arith, h, cues_length (vec_items e.table.signs) (vec_items e.table.cues)) in
    let row = ap (λ m. take m (drop d.place signs)) (let z : d.place + n - d.place ≡ n = omega arith in z) ∙ ap (λ xs. take n (drop d.place xs)) s ∙ ap (λ x. take n (drop x.place (vec_items e.table.signs))) is ∙ front_of_cue (vec_items e.table.signs) (vec_items e.table.cues) all i n d in' l in
    let less : k < n = omega (arith, t, ap length row, length-take-le n (get_or (engine_cues e) i []) l) in
    (less, ap (λ xs. get_or xs k 0) row ∙ get_or-take n (get_or (engine_cues e) i []) k 0 less)

some_of : {X : Type 0} (o : Option X) (P : Type 0) → IfNone o P → (P → ⊥) → IsSome o
some_of None P h f = absurd (f h)
some_of (Some x) P h f = refl

pub loop-sign-init : goal.loop-sign-init
loop-sign-init c =
    let e = c.args.self.now in
    let s = (opened e).sound in
    (s.some, path_root (engine_cues e) (vec_items e.table.nodes) e.table.heads.value s)

pub child-requires : goal.child-requires
child-requires c = (opened c.args.self.now).sound

pub unwrap-at-requires : goal.unwrap-at-requires
unwrap-at-requires c =
    let e = c.args.self.now in
    let s = read e c.args.number c.args.len c.loop-sign.sign-index c.index.result.now c.deref.result.now c.requires.number c.requires.len c.index.ensures c.deref.ensures.value c.loop-sign-test.true in
    some_of c.child.result _ c.child.ensures.none (descend_child (engine_cues e) (vec_items e.table.nodes) e.table.heads.value e.at (opened e) c.args.number c.loop-sign.at c.loop-sign.sign-index _ c.requires.number c.loop-sign.invariant.0 c.loop-sign.invariant.1 (omega (arith, s.0, c.requires.len)) s.1)

pub loop-sign-preserved : goal.loop-sign-preserved
loop-sign-preserved c =
    let e = c.args.self.now in
    let s = read e c.args.number c.args.len c.loop-sign.sign-index c.index.result.now c.deref.result.now c.requires.number c.requires.len c.index.ensures c.deref.ensures.value c.loop-sign-test.true in
    let found = MatchOption-at_some _ _ c.unwrap-at.result c.unwrap-at.ensures c.child.ensures.some in
    (found.1.within, descend_more (engine_cues e) (vec_items e.table.nodes) e.table.heads.value e.at (opened e) c.args.number c.loop-sign.at c.loop-sign.sign-index _ c.requires.number c.loop-sign.invariant.0 c.loop-sign.invariant.1 (omega (arith, s.0, c.requires.len)) s.1 c.unwrap-at.result found.1 found.0)
