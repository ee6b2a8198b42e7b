use Rattle.std.proofs.Common.{◌≡◌, take, vec_items}
use Rattle.bits_theory.specs.Laid.{Exact, reach}
use Rattle.bits.proofs.shift_and.calls.BitEngineEngine.resume.Given as goal

abbrev pub invariant-loop-sign : goal.invariant-loop-sign
invariant-loop-sign l = record {
  live : reach l.state (vec_items l.fn.self.masks.signs) (vec_items l.fn.self.spans) ≡ take l.sign-index l.sign-items;
  exact : Exact l.state (vec_items l.fn.self.masks.signs) (vec_items l.fn.self.spans) (reach l.state (vec_items l.fn.self.masks.signs) (vec_items l.fn.self.spans));
}
