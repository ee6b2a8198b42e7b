use Rattle.std.proofs.Common.{◌≡◌, take, vec_items, vec_capacity}
use Rattle.links.proofs.lists.refill.Given as goal

abbrev pub invariant-loop-x : goal.invariant-loop-x
invariant-loop-x g l = record { items : vec_items l.list ≡ take l.x-index l.from; room : vec_capacity l.list ≡ vec_capacity l.initial.list }
