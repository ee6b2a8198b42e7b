use Rattle.std.proofs.Common.{◌≡◌}
use Rattle.bits_theory.specs.Laid.{top}
use Rattle.bits.proofs.word.front_len.Given as goal

abbrev pub invariant-loop-k : goal.invariant-loop-k
invariant-loop-k l = top l.word l.place l.k ≡ top l.word l.place l.len
