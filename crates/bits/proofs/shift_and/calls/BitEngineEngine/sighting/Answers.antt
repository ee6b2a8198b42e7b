use Rattle.std.proofs.Common.{◌≡◌, ◌+◌, ◌-◌, ap₂, arith}
use Rattle.book.specs.Cues.{parts_of}
use Rattle.engine.specs.Statements.{ith}
use Rattle.matching.specs.Match.{sightings}
use Rattle.bits_theory.specs.Laid.{reach}
use Rattle.bits_theory.proofs.Longest.{shorter_all}
use Rattle.bits_theory.proofs.Reach.{reach_short}
use Rattle.bits.proofs.shift_and.calls.BitEngineEngine.sighting.Goals as goal

pub loop-init : goal.loop-init
loop-init c =
    let e = c.args.self.now in
    let signs = e.masks.signs.items in
    let spans = e.spans.items in
    let t = reach e.state signs spans in
    let n : c.args.i - 1 + 1 ≡ c.args.i = omega (arith, c.if-i-eq0.false) in
    record { left = ap₂ (λ i u. ith i (sightings (parts_of signs spans) u)) n (shorter_all 65 t (omega (arith, reach_short e.state signs spans e.spanned, e.masks.short, e.masks.signs.ok.0))); some = omega arith }
