use Rattle.std.proofs.Common.{◌+◌, ◌<◌, length, set, vec_items, sym, refl, ap, ◌∙◌, subst, arith}
use Rattle.std.proofs.lemmas.List.{get_or_read}
use Rattle.links_theory.specs.Entries.{root_node, marked, path, Marked}
use Rattle.links_theory.proofs.Marks.{Grown, grown, grown_marked, marked_none, marked_more, ready}
use Rattle.links_theory.proofs.Parts.{cue_short}
use Rattle.links.specs.Tables.{cues_in}
use Rattle.links.proofs.table.Table.mark.Goals as goal

pub loop-number-init : goal.loop-number-init
loop-number-init c =
    let t = c.args.self.now in
    let b = c.requires.building in (
      subst (Grown (cues_in t) (vec_items t.nodes) t.heads.value) (sym c.deref-at-items.ensures.value) (grown (cues_in t) (vec_items t.nodes) t.heads.value (vec_items t.places) b.growing (cue_short (vec_items t.signs) (vec_items t.cues) b.within)),
      marked_none (cues_in t) (vec_items t.nodes) b.growing.plain,
      refl,
    )

pub loop-number-preserved : goal.loop-number-preserved
loop-number-preserved c =
    let t = c.args.self.now in
    let nodes = c.loop-number.self.1.1.1.0 in
    let inv = c.loop-number.invariant in
    let number = c.loop-number.number in
    let in' : number < length (cues_in t) = omega (arith, c.loop-number-test.true, ap length c.deref-at-items.ensures.value, c.requires.building.growing.spots) in
    let at : c.from.result < length (vec_items nodes) = omega (arith, c.from.ensures, inv.0.placed number in') in
    let same = ap (λ n. set (vec_items nodes) c.from.result (marked n number)) (sym (get_or_read (vec_items nodes) c.from.result c.index_mut.result.now at c.index_mut.ensures.value root_node)) in
    let own = ap (path (cues_in t) (vec_items nodes)) c.from.ensures ∙ inv.0.paths number in' in (
      subst (λ ns. Grown (cues_in t) ns t.heads.value c.deref-at-items.result.now) same (grown_marked (cues_in t) (vec_items nodes) c.from.result number at t.heads.value c.deref-at-items.result.now inv.0),
      subst (λ ns. Marked (cues_in t) ns (number + 1)) same (marked_more (cues_in t) (vec_items nodes) c.from.result number at t.heads.value inv.0.sound inv.1 in' own),
      inv.2,
    )

pub returns-clause-ready : goal.returns-clause-ready
returns-clause-ready c =
    let t = c.args.self.now in
    let inv = c.loop-number.invariant in
    ready (cues_in t) (vec_items c.loop-number.self.1.1.1.0) t.heads.value c.deref-at-items.result.now c.loop-number.number inv.0 inv.1 (omega (arith, c.loop-number-test.false, ap length c.deref-at-items.ensures.value, c.requires.building.growing.spots)) c.requires.apart
