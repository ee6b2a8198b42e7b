use Rattle.std.proofs.Common.{vec_len, ap, arith}
use Rattle.links.proofs.Steps.{building_level}
use Rattle.links.proofs.table.Table.level.Goals as goal

pub returns-clause-building : goal.returns-clause-building
returns-clause-building c =
    let u = c.loop-number.self in
    building_level u c.args.k c.loop-number.number c.loop-number.invariant.0 (omega (arith, ap vec_len c.loop-number.invariant.1.cues, u.cues.ok.0, c.loop-number-test.false))
