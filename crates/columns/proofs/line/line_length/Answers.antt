use Rattle.std.proofs.Common.{◌≡◌, eqb, ltb, length, cond, Some, None, arith, rules, tests}
use Rattle.std.specs.List.{position_or_len}
use Rattle.std.proofs.lemmas.Iterator.{YieldsList-from_slice}
use Rattle.std.proofs.lemmas.Iterator.Search.{position_from_yields_List}
use Rattle.columns.proofs.Splits.{first_length}
use Rattle.columns.proofs.line.line_length.Goals as goal

pub returns : goal.returns
returns c =
    let s = c.args.input.now in
    let found : c.position.result ≡ cond (ltb (position_or_len (λ b. eqb b 10) s) (length s)) (Some (position_or_len (λ b. eqb b 10) s)) None =
    position_from_yields_List _ _ _ _ c.position.ensures.ran (YieldsList-from_slice s cc) (λ x b q k. search (rules, tests)) in
    grind (arith, found, first_length s, c.map_or.ensures)
