use Rattle.std.proofs.Common.{◌≡◌, ◌++◌, take, vec_items}
use Rattle.std.specs.List.{flat_map}
use Rattle.report.specs.Reached.{entry_text}
use Rattle.report.proofs.listing.write_entries.Given as goal

abbrev pub invariant-loop-entry : goal.invariant-loop-entry
invariant-loop-entry l = vec_items l.out ≡ vec_items l.initial.out ++ flat_map entry_text (take l.entry-index l.entries)
