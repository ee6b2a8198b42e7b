use Rattle.std.proofs.Common.{refl}
use Rattle.columns.proofs.Placing.{entry_long, entry_placed}
use Rattle.columns.proofs.write.entry_line.Goals as goal

pub slice_bounds-line-end-3 : goal.slice_bounds-line-end-3
slice_bounds-line-end-3 c = entry_long c.args.place c.args.cue _ c.write_number.new.field _ c.write_number.ensures refl c.write_number-2.ensures

pub returns : goal.returns
returns c =
    entry_placed c.args.place c.args.cue c.args.len _ c.write_number.new.field _ _ c.write_number.ensures refl c.write_number-2.ensures c.write_number-3.ensures
