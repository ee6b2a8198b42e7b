use Rattle.std.proofs.Common.{◌≡◌, ℕ, ◌+◌, ◌<◌, Bool, List, [], ◌∷◌, ◌++◌, map, length, get_or, take, sym, refl, ap, ◌∙◌, subst, arith}
use Rattle.std.proofs.lemmas.List.{get_or-map, length-map}
use Rattle.std.proofs.lemmas.List.Sums.{sum_by_more}
use Rattle.book.specs.Held.{Held, draft_held, Signed, add_refused}
use Rattle.script.proofs.Booked.{count_is, lines_are, place_is, size_is, so_far_more, so_far_refusal, so_far_stop}
use Rattle.script.specs.Booking.{held_with, size}
use Rattle.watch.proofs.Answered.{answer_ok, answer_err}
use Rattle.report.proofs.booking.book_cues.Goals as goal

-- The lengths as the cues have them.
len_is : {E : Type 0} (lens : List ℕ) (cues : List (List E)) → lens ≡ map length cues → (i : ℕ) → i < length lens → (i < length cues) × (get_or lens i 0 ≡ length (get_or cues i []))
len_is lens cues e i lt =
    let n : length lens ≡ length cues = ap length e ∙ length-map cues length in
    let l : i < length cues = omega arith in
    (l, ap (λ ns. get_or ns i 0) e ∙ get_or-map length cues i [] 0 l)

-- The signs of a draft on its way are those of its material.
signed-so-far : {E : Type 0} (same : E → E → Bool) (cues before : List (List E)) (h : Held E) → h ≡ held_with same cues before → Signed same h
signed-so-far same cues before h e = subst (Signed same) (sym e) refl

pub returns-in-Err : goal.returns-in-Err
returns-in-Err g c cues e begun =
    let same = g.E.Event.same in
    let layout = c.args.layout in
    let d = c.loop-i.draft in
    let i = c.loop-i.i in
    let lens = c.args.lens.now in
    let s = c.loop-i.invariant.1 cues e begun in
    let l = len_is lens cues e i c.loop-i-test.true in
    let at : c.loop-i.place ≡ size (take i cues) = c.loop-i.invariant.0 ∙ place_is same layout cues i lens e in
    let rule = so_far_refusal same layout cues i (draft_held d) s d.book.bounded l.0 c.loop-i.place (get_or lens i 0) at l.1 in
    let why = answer_err (add_refused same (draft_held d) c.loop-i.place (get_or lens i 0)) _ c.in-Err.refusal (c.in-Err.ensures.same (signed-so-far same cues (take i cues) (draft_held d) s.held)) in
    so_far_stop same layout cues i (draft_held d) (draft_held c.add.new.self) s l.0 c.in-Err.refusal c.lines_of.result (sym rule ∙ why)
    (lines_are layout (take i cues ++ get_or cues i [] ∷ []) (i + 1) (c.loop-i.place + get_or lens i 0) c.lines_of.result (count_is same layout cues i l.0) (size_is same layout cues i c.loop-i.place (get_or lens i 0) at l.1) c.lines_of.ensures)

pub loop-i-preserved : goal.loop-i-preserved
loop-i-preserved g c =
    let same = g.E.Event.same in
    let layout = c.args.layout in
    let d = c.loop-i.draft in
    let i = c.loop-i.i in
    let lens = c.args.lens.now in (
      ap (λ p. p + get_or lens i 0) c.loop-i.invariant.0 ∙ sym (sum_by_more (λ x. x) lens i 0 c.loop-i-test.true),
      λ cues e begun.
          let s = c.loop-i.invariant.1 cues e begun in
          let l = len_is lens cues e i c.loop-i-test.true in
          let at : c.loop-i.place ≡ size (take i cues) = c.loop-i.invariant.0 ∙ place_is same layout cues i lens e in
          let rule = so_far_refusal same layout cues i (draft_held d) s d.book.bounded l.0 c.loop-i.place (get_or lens i 0) at l.1 in
          let why = answer_ok (add_refused same (draft_held d) c.loop-i.place (get_or lens i 0)) _ _ (c.in_default.ensures.same (signed-so-far same cues (take i cues) (draft_held d) s.held)) in
          so_far_more same layout cues i (draft_held d) (draft_held c.add.new.self) s l.0 c.loop-i.place (get_or lens i 0) at l.1 (sym rule ∙ why) c.in_default.ensures.cues,
    )
