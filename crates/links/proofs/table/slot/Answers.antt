use Rattle.std.proofs.Common.{ap, ◌∙◌, ◌+◌, ◌*◌, ◌%◌}
use Rattle.links_theory.specs.Entries.{slot_of}
use Rattle.links.proofs.table.slot.Goals as goal

pub returns-clause-value : goal.returns-clause-value
unfolding slot_of
returns-clause-value c =
    ap (λ p. (p * 397 + c.from-2.result) % 1024) c.from.ensures ∙ ap (λ s. (c.args.parent * 397 + s) % 1024) c.from-2.ensures
