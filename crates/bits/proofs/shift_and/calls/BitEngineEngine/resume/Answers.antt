use Rattle.std.proofs.Common.{◌≡◌, ◌+◌, true, [], ◌∷◌, ◌++◌, take, get_or, sym, ap, ◌∙◌, subst}
use Rattle.book.specs.Cues.{parts_of}
use Rattle.matching.specs.Match.{beginning, live}
use Rattle.matching.proofs.Live.{live_itself}
use Rattle.std.proofs.lemmas.List.{take_more}
use Rattle.bits_theory.proofs.Adding.{still}
use Rattle.bits_theory.proofs.Reach.{reach_zero}
use Rattle.bits_theory.proofs.Resuming.{named_begins}
use Rattle.bits.proofs.shift_and.calls.BitEngineEngine.resume.Goals as goal

pub loop-sign-init : goal.loop-sign-init
loop-sign-init c =
    let e = c.args.self.now in
    record { live = reach_zero e.masks.signs.items e.spans.items e.spanned; exact = still e.masks.signs.items e.spans.items e.spanned }

pub loop-sign-preserved : goal.loop-sign-preserved
loop-sign-preserved c =
    let e = c.args.self.now in
    let cues = parts_of e.masks.signs.items e.spans.items in
    let b = c.in_ok-sign-items.sign-items.now in
    let i = c.loop-sign.sign-index in
    let told = c.next-state.ensures in
    let begins : beginning cues (take (i + 1) b) ≡ true = subst (λ x. beginning cues (take (i + 1) x) ≡ true) (sym c.in_ok-sign-items.ensures.1) (named_begins cues c.args.standing (i + 1)) in
    record {
      live = told.live ∙ (ap (λ x. live cues (x ++ get_or b i 0 ∷ [])) c.loop-sign.invariant.live ∙ (ap (live cues) (sym (take_more b i 0 c.loop-sign-test.true)) ∙ live_itself cues (take (i + 1) b) begins));
      exact = told.exact;
    }
