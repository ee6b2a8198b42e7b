use Rattle.std.proofs.Common.{◌≡◌, length, sym, ap, subst, arith}
use Rattle.bits_theory.proofs.Leading.{Lead, lead_small, lead_standing}
use Rattle.bits_theory.proofs.Reach.{reach_begins}
use Rattle.bits.proofs.shift_and.calls.BitEngineEngine.standing.Goals as goal

pub overflow_cast-result-2 : goal.overflow_cast-result-2
overflow_cast-result-2 c =
    let e = c.args.self.now in
    omega (arith, (lead_small e.state e.masks.signs.items e.spans.items _ _ _ e.spanned (omega (arith, ap length c.deref-c-items.ensures.value)) c.loop-i.invariant).0, e.masks.short, e.masks.signs.ok.0)

pub returns : goal.returns
returns c =
    let e = c.args.self.now in
    let signs = e.masks.signs.items in
    let spans = e.spans.items in
    let all : c.loop-i.i ≡ length spans = omega (arith, ap length c.deref-c-items.ensures.value) in
    sym (lead_standing e.state signs spans _ c.loop-i.best.0 c.loop-i.best.1 e.spanned e.exact (reach_begins e.state signs spans) (subst (λ n. Lead e.state spans n c.loop-i.best.0 c.loop-i.best.1) all c.loop-i.invariant))
