-- What follow answers and writes.
use Rattle.std.specs.Prelude.{◌≡◌, ℕ, suc, ◌+◌, ◌<◌, ◌≤◌, Bool, cond, List, ◌++◌, map, length, get_or, take, drop, Some, None, Option, nat_le, nat_lt, slice_index_or}
use Rattle.book.specs.Bridge.{EndsSame}
use Rattle.book.specs.Cues.{cue_at, part_of}
use Rattle.book.specs.Held.{Held, Signed, cue_signs, lookups}
use Rattle.book.specs.Signs.{signs_of}
use Rattle.book.specs.declared.entry.Entry.{Entry}
use Rattle.matching.specs.Calls.{Account}
use Rattle.matching.specs.Follow.{ending, entries, followed, longest_text}
use Rattle.matching.specs.Match.{Among, sightings}
use Rattle.watch.specs.declared.following.Ending.{Ending}
use Rattle.watch.specs.declared.following.Ending.TheVariants.{Done, FewEntries, LongText}
use Rattle.watch.specs.declared.following.Followed.{Followed}

-- The number of an ending: 0 after the last event, 1 where too few entries are free, 2 where the text is full.
abbrev pub ending_number : Ending → ℕ
ending_number Done = 0
ending_number FewEntries = 1
ending_number LongText = 2

-- Why no sign more is followed behind so many signs, with so many entries free, if none is.
abbrev pub obstacle : ℕ → ℕ → Option Ending
obstacle len free = cond (nat_lt len longest_text) (cond (nat_le 32 free) None (Some FewEntries)) (Some LongText)

-- An entry by its place, cue number and length; the entries of the sightings at one place.
abbrev pub entry_of : ℕ × ℕ × ℕ → Entry
entry_of e = record { place = e.0; cue = e.1; len = e.2 }

abbrev pub entry_at : ℕ → ℕ × ℕ → Entry
entry_at place q = record { place = place; cue = q.0; len = q.1 }

-- The sightings at the end of a text, written as entries of one place to the front of a list, where there
-- is room for them; r is how many were written.
abbrev pub WroteFirst : List (List ℕ) → List ℕ → ℕ → List Entry → List Entry → ℕ → Type 0
WroteFirst cues text place old new r =
    length (sightings cues text) ≤ length old →
    (r ≡ length (sightings cues text)) × (new ≡ map (entry_at place) (sightings cues text) ++ drop r old)

-- What is followed behind the text that counts: how many signs are taken, how many entries are written,
-- why it ends, and the list of entries afterwards, of which the later ones are untouched.
pub record FollowAnswer (a : Account) (signs : List ℕ) (old new : List Entry) (r : Followed) : Type 0 where
  pub taken : r.taken ≡ followed a.cues a.text (length old) signs
  pub written : r.written ≡ length (entries a.cues a.text (length old) signs)
  pub ended : ending_number r.ending ≡ ending a.cues a.text (length old) signs
  pub list : new ≡ map entry_of (entries a.cues a.text (length old) signs) ++ drop r.written old

-- Cue n of a book, of k events, ends a list of events.
pub record EndsEvents {E : Type 0} (same : E → E → Bool) (h : Held E) (n k : ℕ) (events : List E) : Type 0 where
  pub number : n < length h.cues
  pub long : (get_or h.cues n (cue_at 0 0)).len ≡ k
  pub last : EndsSame same (part_of h.material (slice_index_or h.cues n (cue_at 0 0))) events

-- The same in events, where the book handed in is the one loaded and the text that counts is the list of
-- the signs of some events: an entry is written exactly where a cue's events end the events so far, and
-- the text is then that of these events and those taken. What was looked up is their signs.
pub record InEvents {E : Type 0} (same : E → E → Bool) (h : Held E) (a : Account) (before events : List E) (free : ℕ) : Type 0 where
  pub only : (p n k : ℕ) → Among (p, n, k) (entries a.cues a.text free (lookups same h events)) →
      (i : ℕ) × (p ≡ length before + i) × (i < followed a.cues a.text free (lookups same h events)) × EndsEvents same h n k (before ++ take (suc i) events)
  pub all : (p n k i : ℕ) → p ≡ length before + i → i < followed a.cues a.text free (lookups same h events) → EndsEvents same h n k (before ++ take (suc i) events) →
      Among (p, n, k) (entries a.cues a.text free (lookups same h events))
  pub signs : lookups same h events ≡ signs_of same h.material events
  pub text : (n : ℕ) → a.text ++ take n (lookups same h events) ≡ signs_of same h.material (before ++ take n events)

abbrev pub LoadedEvents : {E : Type 0} → (E → E → Bool) → Held E → List E → ℕ → Account → Type 0
LoadedEvents {E = E} same h events free a =
    (before : List E) → Signed same h → a.cues ≡ cue_signs h → a.text ≡ signs_of same h.material before → InEvents same h a before events free
