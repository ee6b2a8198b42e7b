use Rattle.std.proofs.Common.{◌≡◌, ◌++◌, take, vec_items}
use Rattle.bits.proofs.masks.Masks.extend.Given as goal

abbrev pub invariant-loop-sign : goal.invariant-loop-sign
invariant-loop-sign l = vec_items l.self.signs ≡ vec_items l.initial.self.signs ++ take l.sign-index l.cue
