use Rattle.matching.specs.Match.{sightings}
use Rattle.watch.proofs.Writing.{WrittenUpTo}
use Rattle.watch.proofs.follow.write_sightings.Given as goal

abbrev pub invariant-loop-i : goal.invariant-loop-i
invariant-loop-i g l = WrittenUpTo l.place (sightings (g.L.Engine.cues l.engine) (g.L.Engine.live l.engine)) l.initial.free l.free l.i
