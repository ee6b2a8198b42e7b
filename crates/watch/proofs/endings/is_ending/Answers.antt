use Rattle.std.proofs.Common.{◌≡◌, true, false, sym, ◌∙◌, ⊎_elim}
use Rattle.std.proofs.lemmas.Slice.Eq.{ends_is}
use Rattle.std.proofs.lemmas.Bool.{cases_Bool}
use Rattle.matching.specs.Match.{ends}
use Rattle.matching.proofs.Endings.{ends_true, ends_from}
use Rattle.watch.proofs.endings.is_ending.Goals as goal
use Rattle.std.proofs.lemmas.Bool.Decides.{Decides-eqb}

pub returns : goal.returns
returns c =
    let signs = c.args.signs.now in
    let text = c.args.text.now in
    let told = ends_is Decides-eqb text signs c.ends_with.result c.ends_with.ensures.value in
    ⊎_elim
    (λ (e : ends signs text ≡ true). let u = ends_true signs text e in told.1 u.0 (sym u.1) ∙ sym e)
    (λ (e : ends signs text ≡ false). ⊎_elim (λ (r : c.ends_with.result ≡ true). r ∙ sym (ends_from signs text (_, sym (told.0 r)))) (λ (r : c.ends_with.result ≡ false). r ∙ sym e) (cases_Bool c.ends_with.result))
    (cases_Bool (ends signs text))
