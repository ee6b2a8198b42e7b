use Rattle.std.proofs.Common.{sym, ap, ◌∙◌, count_by, arith}
use Rattle.book.specs.Cues.{parts_of}
use Rattle.bits.specs.Views.{whole_set}
use Rattle.bits_theory.specs.Laid.{reach}
use Rattle.bits_theory.proofs.Longest.{sightings_count}
use Rattle.bits_theory.proofs.Loops.{count_none, endings_set, parts_some, spans_lie}
use Rattle.bits.proofs.shift_and.calls.BitEngineEngine.sighted.Goals as goal

pub returns-then-self-eq0 : goal.returns-then-self-eq0
returns-then-self-eq0 c =
    let e = c.args.self.now in
    sym (count_none e.state e.lasts e.masks.signs.items e.spans.items _ e.spanned e.stops e.exact c.if-self-eq0.true)

pub count_set-requires : goal.count_set-requires
count_set-requires c =
    let e = c.args.self.now in
    rw c.deref.ensures.value (spans_lie e.masks.signs.items e.spans.items (omega (arith, e.masks.short, e.masks.signs.ok.0)) e.spanned)

pub returns : goal.returns
returns c =
    let e = c.args.self.now in
    let signs = e.masks.signs.items in
    let spans = e.spans.items in
    let t = reach e.state signs spans in
    c.count_set.ensures ∙ (ap (count_by (whole_set e.state)) c.deref.ensures.value ∙ (sym (endings_set e.state signs spans t e.spanned e.exact) ∙ sym (sightings_count (parts_of signs spans) t (parts_some signs spans e.spanned))))
