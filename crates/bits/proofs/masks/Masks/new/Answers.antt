use Rattle.std.proofs.Common.{replicate}
use Rattle.bits_theory.specs.Words.{low_key, high_key}
use Rattle.bits_theory.proofs.Bit.{marked_none}
use Rattle.std.proofs.lemmas.List.{get_or-replicate}
use Rattle.bits.proofs.masks.Masks.new.Goals as goal

pub invariant_of-result-clause-bylow : goal.invariant_of-result-clause-bylow
invariant_of-result-clause-bylow c =
    rw c.in_ok-signs.ensures.items (marked_none low_key (replicate 256 0) (λ k h. get_or-replicate 256 k 0 0 h))

pub invariant_of-result-clause-byhigh : goal.invariant_of-result-clause-byhigh
invariant_of-result-clause-byhigh c =
    rw c.in_ok-signs.ensures.items (marked_none high_key (replicate 256 0) (λ k h. get_or-replicate 256 k 0 0 h))
