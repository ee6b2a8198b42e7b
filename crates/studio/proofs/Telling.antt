-- What the definition of showing tells of what is shown.
use Rattle.std.proofs.Common.{◌≡◌, ℕ, ◌+◌, ◌-◌, ◌<◌, ◌≤◌, min, List, length, take, drop, Some, Option, sym, ap, ◌∙◌, arith}
use Rattle.std.proofs.lemmas.List.{length-take, length-drop, drop-drop, drop-take, take-take}
use Rattle.book.specs.Cues.{AllWithin, cue_at, part, part_of}
use Rattle.book.specs.Held.{Held}
use Rattle.studio.specs.Show.{cue_numbered, InPlace, of_material, OfWhole, Part, SameEvents, showing}
use Rattle.book.specs.declared.entry.Entry.{Entry}

length_part : {X : Type 0} (place len : ℕ) (xs : List X) → place + len ≤ length xs → length (part place len xs) ≡ len
length_part place len xs h = length-take len (drop place xs) ∙ (ap (min len) (length-drop place xs) ∙ omega arith)

-- A part as the code takes it, from a place to its end.
pub part_to : {X : Type 0} (place len : ℕ) (xs : List X) → take (place + len - place) (drop place xs) ≡ part place len xs
part_to place len xs = let n : place + len - place ≡ len = omega arith in ap (λ (k : ℕ). take k (drop place xs)) n

-- A part of a part.
part_part : {X : Type 0} (first n a len : ℕ) (xs : List X) → a + len ≤ n → part a len (part first n xs) ≡ part (first + a) len xs
part_part first n a len xs h =
    let ys = drop first xs in
    let m : n ≡ a + (n - a) = omega arith in
    ap (λ (k : ℕ). take len (drop a (take k ys))) m ∙ (ap (take len) (drop-take a (n - a) ys) ∙ (take-take len (n - a) (drop a ys) (omega arith) ∙ ap (take len) (drop-drop a first xs)))

pub in_place : {E : Type 0} (h : Held E) (log : List E) (first : ℕ) (entry : Entry) {o : Option (Part E)} → o ≡ showing h log first entry → InPlace log first entry o
in_place h log first entry value events is = (grind arith, grind arith, grind arith)

pub of_whole : {E : Type 0} (h : Held E) (log : List E) (first : ℕ) (entry : Entry) {o : Option (Part E)} → o ≡ showing h log first entry → OfWhole log first entry o
of_whole h log first entry value whole events piece is =
    let at = in_place h log first entry value events is in
    let from = entry.place + 1 - entry.len - first in
    let e : first + from ≡ entry.place + 1 - entry.len = omega (arith, at.0) in
    at.2 ∙ (ap (part from entry.len) (sym piece) ∙ (part_part first (length log) from entry.len whole (omega (arith, at.0, at.1)) ∙ ap (λ (k : ℕ). part k entry.len whole) e))

pub same_events : {E : Type 0} (h : Held E) (log : List E) (first : ℕ) (entry : Entry) {o : Option (Part E)} → AllWithin (length h.material) h.cues → o ≡ showing h log first entry → SameEvents h entry o
same_events {E = E} h log first entry {o = o} within value =
    record {
      log = λ events is.
          let at = in_place h log first entry value events is in
          ap length at.2 ∙ length_part _ _ log (omega (arith, at.0, at.1));
      material = from_material;
    }
  where
    from_material : (events : List E) → o ≡ Some (of_material events) → (events ≡ part_of h.material (cue_numbered h.cues entry.cue)) × (length events ≡ entry.len)
    from_material events is =
        let c = cue_numbered h.cues entry.cue in
        let there : entry.cue < length h.cues = grind arith in
        let long : c.len ≡ entry.len = grind arith in
        let e : events ≡ part_of h.material c = grind arith in
        (e, ap length e ∙ (length_part c.place c.len h.material (within entry.cue (cue_at 0 0) there).2 ∙ long))
