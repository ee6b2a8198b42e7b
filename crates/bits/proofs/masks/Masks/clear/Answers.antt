use Rattle.std.proofs.Common.{arith, ap, ◌∙◌, get_or}
use Rattle.bits_theory.specs.Words.{low_key, high_key}
use Rattle.bits_theory.proofs.Bit.{marked_none}
use Rattle.std.proofs.lemmas.List.{get_or-replicate}
use Rattle.bits.proofs.masks.Masks.clear.Goals as goal

pub invariant_of-self-clause-bylow : goal.invariant_of-self-clause-bylow
invariant_of-self-clause-bylow c =
    rw c.clear.ensures.items (marked_none low_key c.fill.new.self (λ k h. ap (λ xs. get_or xs k 0) (c.fill.ensures.after (λ y e. e)) ∙ get_or-replicate _ k 0 0 (omega arith)))

pub invariant_of-self-clause-byhigh : goal.invariant_of-self-clause-byhigh
invariant_of-self-clause-byhigh c =
    rw c.clear.ensures.items (marked_none high_key c.fill-2.new.self (λ k h. ap (λ xs. get_or xs k 0) (c.fill-2.ensures.after (λ y e. e)) ∙ get_or-replicate _ k 0 0 (omega arith)))
