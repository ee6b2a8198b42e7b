use Rattle.std.proofs.Common.{◌≡◌, ◌+◌, ◌≤◌, length, take, drop, vec_items}
use Rattle.book.specs.Cues.{parts_of}
use Rattle.book.specs.Held.{book_held, cue_signs}
use Rattle.matching.specs.Calls.{total}
use Rattle.bits.proofs.shift_and.calls.BitEngineEngine.load.Given as goal

abbrev pub invariant-loop-number : goal.invariant-loop-number
invariant-loop-number g l =
    (parts_of (vec_items l.self.masks.signs) (vec_items l.self.spans) ≡ take l.number (cue_signs (book_held l.book)))
    × (length (vec_items l.self.masks.signs) + total (drop l.number (cue_signs (book_held l.book))) ≤ 64)
    × (l.self.state ≡ 0)
