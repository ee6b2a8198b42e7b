use Rattle.bits_theory.specs.Laid.{reach}
use Rattle.bits_theory.proofs.Loops.{next_none, next_some}
use Rattle.bits.proofs.shift_and.BitEngine.longest_below.Goals as goal

pub returns-in_err-number : goal.returns-in_err-number
returns-in_err-number c =
    let e = c.args.self.now in
    let signs = e.masks.signs.items in
    let spans = e.spans.items in
    let t = reach e.state signs spans in
    let none = rw c.deref.ensures.value at c.in_err-number.ensures.most in
    rw c.from_residual.ensures (next_none e.state signs spans t c.args.below e.spanned e.exact c.requires none)

pub returns : goal.returns
returns c =
    let e = c.args.self.now in
    let signs = e.masks.signs.items in
    let spans = e.spans.items in
    let t = reach e.state signs spans in
    let told = rw c.deref.ensures.value at c.in_ok-number.ensures in
    next_some e.state signs spans t c.args.below c.in_ok-number.number c.in_ok-number.c.now e.spanned e.exact e.apart told.number told.cue told.below told.set told.most
