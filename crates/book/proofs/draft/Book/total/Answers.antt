use Rattle.std.proofs.Common.{◌≡◌, length, vec_items, vec_len, sym, ◌∙◌, subst, arith, rules}
use Rattle.book.specs.Cues.{total, AllWithin}
use Rattle.book.proofs.Adding.{total_signs}
use Rattle.book.proofs.Reading.{total_sum}
use Rattle.book.proofs.draft.Book.total.Goals as goal

pub sum-requires-clause-fits : goal.sum-requires-clause-fits
sum-requires-clause-fits g c = search (rules, total_sum (vec_items c.args.self.now.cues))

pub returns : goal.returns
returns g c =
    let b = c.args.self.now in
    let e : c.sum.result ≡ total (vec_items b.cues) = search (rules, total_sum (vec_items b.cues)) in
    let n : vec_len b.material.events ≡ length (vec_items b.material.signs) = omega (arith, b.material.signs.ok.0, b.material.signed) in
    record { events = e; signs = e ∙ sym (total_signs (vec_items b.material.signs) (vec_items b.cues) (subst (λ k. AllWithin k (vec_items b.cues)) n b.within)) }
