use Rattle.std.proofs.Common.{◌≡◌, zero, ◌≤◌, length, replicate, vec_items, sym, refl, ap, ◌∙◌, subst, arith}
use Rattle.book.specs.Cues.{AllWithin, parts_of}
use Rattle.matching.specs.Calls.{total}
use Rattle.links_theory.specs.Entries.{Growing}
use Rattle.links_theory.proofs.Growth.{growing_none, growing_moved}
use Rattle.links_theory.proofs.Parts.{cues_length}
use Rattle.links.proofs.table.Table.begin.Goals as goal

pub returns-clause-building : goal.returns-clause-building
returns-clause-building c =
    let signs = c.refill.ensures.items in
    let cues = c.refill-2.ensures.items in
    let nodes = c.fill.ensures.items in
    let places = c.fill-2.ensures.items in
    let book = c.requires in
    let all = ap (λ xs. parts_of xs (vec_items c.refill-2.new.list)) signs ∙ ap (parts_of c.args.signs.now) cues in
    let none : length (vec_items c.fill.new.list) ≡ 1 = ap length nodes in
    record {
      growing = subst (λ cs. Growing cs (vec_items c.fill.new.list) (replicate 1024 zero) (vec_items c.fill-2.new.list) 0 0) (sym all) (growing_moved 0 0 refl nodes refl (places ∙ ap (λ n. replicate n zero) (sym (cues_length c.args.signs.now c.args.cues.now))) (growing_none (parts_of c.args.signs.now c.args.cues.now)));
      few = omega (arith, none);
      fits = subst (λ cs. total cs ≤ 1024) (sym all) book.fits;
      within = subst (λ xs. AllWithin (length xs) (vec_items c.refill-2.new.list)) (sym signs) (subst (AllWithin (length c.args.signs.now)) (sym cues) book.within);
      numbers = omega (arith, ap length cues, book.numbers);
    }
