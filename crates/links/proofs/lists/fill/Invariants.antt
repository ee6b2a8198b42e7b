use Rattle.std.proofs.Common.{◌≡◌, replicate, vec_items, vec_capacity}
use Rattle.links.proofs.lists.fill.Given as goal

abbrev pub invariant-loop : goal.invariant-loop
invariant-loop g l = record { items : vec_items l.list ≡ replicate l.counter l.value; room : vec_capacity l.list ≡ vec_capacity l.initial.list }
