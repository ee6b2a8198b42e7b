use Rattle.std.proofs.Common.{◌≤◌, length, vec_len, ap, arith}
use Rattle.std.proofs.lemmas.List.{length-map, length-take}
use Rattle.book.proofs.Tells.{signs_small}
use Rattle.book.proofs.material.Material.new.Goals as goal

pub invariant_of-result : goal.invariant_of-result
invariant_of-result g c =
    let signs = c.in_ok-signs.signs in
    let events = c.truncate.new.self in
    let told = c.in_ok-signs.ensures in
    let short : vec_len events ≤ 2048 = omega (arith, events.ok.0, simp length-take at (ap length c.truncate.ensures.items)) in
    record {
      short = short;
      signed = omega (arith, signs.ok.0, simp length-map at (ap length told), c.as_slice.ensures.len);
      small = λ k. rw told (signs_small g.E.Event.same c.as_slice.result.now (omega (arith, c.as_slice.ensures.len)) c.as_slice.result.now k);
    }
