use Rattle.std.proofs.Common.{◌≡◌, ◌+◌, ◌-◌, ◌≤◌, vec_items}
use Rattle.book.specs.Cues.{parts_of}
use Rattle.engine.specs.Statements.{ith}
use Rattle.matching.specs.Match.{sightings}
use Rattle.bits_theory.specs.Below.{shorter}
use Rattle.bits_theory.specs.Laid.{reach}
use Rattle.bits.proofs.shift_and.calls.BitEngineEngine.sighting.Given as goal

abbrev pub invariant-loop : goal.invariant-loop
invariant-loop l = record {
  left : ith (l.i - l.counter + 1) (sightings (parts_of (vec_items l.self.masks.signs) (vec_items l.self.spans)) (shorter l.below (reach l.self.state (vec_items l.self.masks.signs) (vec_items l.self.spans)))) ≡ ith l.i (sightings (parts_of (vec_items l.self.masks.signs) (vec_items l.self.spans)) (reach l.self.state (vec_items l.self.masks.signs) (vec_items l.self.spans)));
  some : 1 ≤ l.below;
}
