use Rattle.std.proofs.Common.{vec_items}
use Rattle.bits_theory.proofs.Leading.{Lead}
use Rattle.bits.proofs.shift_and.calls.BitEngineEngine.standing.Given as goal

abbrev pub invariant-loop-i : goal.invariant-loop-i
invariant-loop-i l = Lead l.self.state (vec_items l.self.spans) l.i l.best.0 l.best.1
