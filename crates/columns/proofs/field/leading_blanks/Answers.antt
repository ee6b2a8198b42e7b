use Rattle.std.proofs.Common.{◌≡◌, eqb, drop, ap, ◌∙◌, rules, tests}
use Rattle.std.specs.List.{prefix_len}
use Rattle.std.proofs.lemmas.Iterator.{YieldsList-from_slice}
use Rattle.std.proofs.lemmas.Iterator.Consumers.{count_from_yields_List}
use Rattle.std.proofs.lemmas.Iterator.Search.{YieldsList-from_take_while}
use Rattle.std.proofs.lemmas.List.Folds.{length-prefix_len}
use Rattle.columns.proofs.Numbers.{unblanked_rest}
use Rattle.columns.proofs.field.leading_blanks.Goals as goal

pub returns-clause-rest : goal.returns-clause-rest
returns-clause-rest c =
    let f = c.args.field.now in
    let count : c.count.result ≡ prefix_len (λ b. eqb b 32) f =
    count_from_yields_List c.take_while.result _ c.count.ensures.ran (YieldsList-from_take_while _ (λ b. eqb b 32) (YieldsList-from_slice f cc) c.take_while.ensures.closure c.take_while.ensures.done (λ x b q k. search (rules, tests))) ∙ length-prefix_len (λ b. eqb b 32) f in
    ap (λ n. drop n f) count ∙ unblanked_rest f
