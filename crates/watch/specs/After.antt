-- What a watch is after a list of calls.
use Rattle.std.specs.Prelude.{◌≡◌, ℕ, ◌+◌, ◌*◌, ◌<◌, ◌≤◌, Bool, true, List, [], ◌∷◌, ◌++◌, length, Some, Option, slice_index_or}
use Rattle.std.specs.List.{AllByRecursion}
use Rattle.engine.specs.declared.Engine.{Ghosts}
use Rattle.matching.specs.Calls.{Account, Call, Holds, account, seen, stands}
use Rattle.matching.specs.Match.{Alike, Among, Sighted, Signs, distinct, filled, sightings}
use Rattle.watch.specs.declared.watch.Watch.{Watch}

-- The cues are those of a book: none is empty, no two are equal, and all signs are 16-bit numbers.
pub record BookCues (cues : List (List ℕ)) : Type 0 where
  pub some_signs : filled cues ≡ true
  pub apart : distinct cues ≡ true
  pub signs : AllByRecursion Signs cues

-- The watch w is as these calls leave it, the latest first: what it holds is what the account of the
-- calls comes to. A new watch is after no call, and each call leads on from there.
pub record After {L : Type 0} (m : Ghosts L) (calls : List Call) (w : Watch L) : Type 0 where
  pub holds : Holds (account m.CAPACITY calls) (m.cues w.engine) (m.live w.engine) w.len (m.cost w.engine)
  pub book_cues : BookCues (account m.CAPACITY calls).cues

-- Whatever calls led to v, these and one call more lead to w.
abbrev pub Leads : {L : Type 0} → Ghosts L → Watch L → Call → Watch L → Type 0
Leads m v call w = (calls : List Call) → After m calls v → After m (call ∷ calls) w

-- Whatever calls led to w, this holds of their account.
abbrev pub Always : {L : Type 0} → Ghosts L → Watch L → (Account → Type 0) → Type 0
Always m w P = (calls : List Call) → After m calls w → P (account m.CAPACITY calls)

-- What is listed: exactly the cues that end the text that counts, by strictly falling length, so that
-- each is listed once.
pub record Listed (a : Account) : Type 0 where
  pub exactly : (n k : ℕ) → (Among (n, k) (seen a) → Sighted a.cues a.text n k) × (Sighted a.cues a.text n k → Among (n, k) (seen a))
  pub falling : (i j : ℕ) → i < j → j < length (seen a) → (slice_index_or (seen a) j (0, 0)).1 < (slice_index_or (seen a) i (0, 0)).1

-- Two accounts of one book: their standings are equal exactly when no list of 16-bit numbers put
-- behind both texts tells them apart.
abbrev pub Tells : Account → Account → Type 0
Tells a b =
    a.cues ≡ b.cues →
    (stands a ≡ stands b → Alike a.cues a.text b.text) × (Alike a.cues a.text b.text → stands a ≡ stands b)

-- The bound on the engine's work: the cost and the length of the standing together are at most twice
-- the signs taken since the last granted load, restart or resume, and the length then resumed.
abbrev pub WorkBound : ℕ → Account → Type 0
WorkBound cost a = cost + (stands a).1 ≤ 2 * a.taken + a.resumed

-- What the answer to "do they stand equal" tells of two accounts.
pub record StandEqual (r : Bool) (a b : Account) : Type 0 where
  pub equal : (r ≡ true → stands a ≡ stands b) × (stands a ≡ stands b → r ≡ true)
  pub alike : a.cues ≡ b.cues → (r ≡ true → Alike a.cues a.text b.text) × (Alike a.cues a.text b.text → r ≡ true)

-- No cue ends at an event before the wait is over.
abbrev pub NoneEarlier : Account → Option ℕ → Type 0
NoneEarlier a r = (w : ℕ) → r ≡ Some w → (1 ≤ w) × ((s : List ℕ) → 0 < length s → length s < w → sightings a.cues (a.text ++ s) ≡ [])
