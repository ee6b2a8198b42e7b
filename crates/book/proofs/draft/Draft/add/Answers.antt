use Rattle.std.proofs.Common.{◌≡◌, ℕ, ◌≤◌, length, None, Ok, vec_items, vec_len, sym, ap, ◌∙◌, subst, arith, rules}
use Rattle.std.proofs.lemmas.List.{map_push}
use Rattle.matching.specs.Match.{listed, distinct}
use Rattle.book.specs.Cues.{add_refusal, answer, cue_at, part_of, parts_of, total, AllWithin}
use Rattle.book.specs.Held.{add_refused, add_refused_by_signs, cue_signs, draft_held, Signed}
use Rattle.book.specs.declared.draft.Draft.{Draft}
use Rattle.book.proofs.Adding.{granted, within_push, total_push, distinct_push}
use Rattle.book.proofs.Tells.{has_same_signs}
use Rattle.book.proofs.draft.Draft.add.Given.{Over}
use Rattle.book.proofs.draft.Draft.add.Goals as goal

-- The reason by events is the reason by signs.
same_reason : (g : Over) (d : Draft g.row.E.Denot) (place len : ℕ) →
    Signed g.E.Event.same (draft_held d) → add_refused_by_signs (draft_held d) place len ≡ add_refused g.E.Event.same (draft_held d) place len
same_reason g d place len signed =
    ap (λ there. add_refusal (length (vec_items d.book.material.events)) (vec_items d.book.cues) there place len)
    (has_same_signs g.E.Event.same (search rules) _ _ (omega (arith, d.book.material.short, d.book.material.events.ok.0)) signed (vec_items d.book.cues) (cue_at place len))

pub returns-in_err-check : goal.returns-in_err-check
returns-in_err-check g c =
    let d = c.args.self.now in
    let n = length (vec_items d.book.cues) in
    let value : c.from_residual.result ≡ answer (add_refused_by_signs (draft_held d) c.args.place c.args.len) n = search rules in
    record {
      value = value;
      same = λ signed. value ∙ ap (λ o. answer o n) (same_reason g d c.args.place c.args.len signed);
      cues = search rules;
    }

pub invariant_of-self : goal.invariant_of-self
invariant_of-self g c =
    let b = c.args.self.now.book in
    let signs = vec_items b.material.signs in
    let new = cue_at c.args.place c.args.len in
    let items = c.push_reserved.ensures.items in
    let no : add_refused_by_signs (draft_held c.args.self.now) c.args.place c.args.len ≡ None = grind (arith, c.in_ok-check.ensures) in
    let ok = granted (length (vec_items b.material.events)) (vec_items b.cues) (listed (cue_signs (draft_held c.args.self.now)) (part_of signs new)) c.args.place c.args.len no in
    let within = subst (AllWithin (vec_len b.material.events)) (sym items) (within_push _ _ _ b.within (rw b.material.events.ok.0 ok.within)) in
    let bounded = subst (λ xs. total xs ≤ 1024) (sym items) (omega (arith, total_push (vec_items b.cues) new, ok.bounded)) in
    let apart = ap (λ xs. distinct (parts_of signs xs)) items ∙ (ap distinct (map_push (part_of signs) (vec_items b.cues) new) ∙ distinct_push (cue_signs (draft_held c.args.self.now)) (part_of signs new) b.apart ok.apart) in
    ((search rules, (within, (bounded, (apart, tt)))), (search rules, tt))

pub returns : goal.returns
returns g c =
    let d = c.args.self.now in
    let n = length (vec_items d.book.cues) in
    let value : Ok c.len-number.result ≡ answer (add_refused_by_signs (draft_held d) c.args.place c.args.len) n = search rules in
    record {
      value = value;
      same = λ signed. value ∙ ap (λ o. answer o n) (same_reason g d c.args.place c.args.len signed);
      cues = search rules;
    }
