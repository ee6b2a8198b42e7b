-- What follow lists, in events.
use Rattle.std.proofs.Common.{◌≡◌, ℕ, suc, ◌<◌, ◌≤◌, Bool, true, List, [], ◌++◌, map, length, get_or, take, sym, ap, ◌∙◌, subst, arith}
use Rattle.std.proofs.lemmas.List.{get_or-map, length-map, map-append, take-map}
use Rattle.events.specs.Sameness.{Lawful}
use Rattle.book.proofs.Adding.{length_part}
use Rattle.book.proofs.Tells.{cues_end, lookups_signs}
use Rattle.book.specs.Cues.{AllWithin, cue_at, part_of}
use Rattle.book.specs.Held.{Held, Signed, cue_signs, lookups}
use Rattle.book.specs.Signs.{sign_of, signs_of}
use Rattle.matching.specs.Calls.{Account}
use Rattle.matching.specs.Match.{Ends, Sighted, filled}
use Rattle.matching.proofs.Follow.{entries_read}
use Rattle.matching.proofs.Sightings.{sightings_read}
use Rattle.watch.specs.Following.{EndsEvents, LoadedEvents}

module _ {E : Type 0} (same : E → E → Bool) (law : Lawful same) (h : Held E) (short : length h.material ≤ 2048) (within : AllWithin (length h.signs) h.cues) (some : filled (cue_signs h) ≡ true) where
  cue_number : length (cue_signs h) ≡ length h.cues
  cue_number = length-map h.cues (part_of h.signs)

  cue_signs_lem : (n : ℕ) → n < length h.cues → get_or (cue_signs h) n [] ≡ part_of h.signs (get_or h.cues n (cue_at 0 0))
  cue_signs_lem n l = get_or-map (part_of h.signs) h.cues n (cue_at 0 0) [] l

  cue_length : (n : ℕ) → n < length h.cues → length (part_of h.signs (get_or h.cues n (cue_at 0 0))) ≡ (get_or h.cues n (cue_at 0 0)).len
  cue_length n l = length_part h.signs (get_or h.cues n (cue_at 0 0)) (within n (cue_at 0 0) l).2

  -- A cue is sighted in signs exactly where it is heard in events.
  heard_from : Signed same h → (events : List E) (n k : ℕ) → Sighted (cue_signs h) (signs_of same h.material events) n k → EndsEvents same h n k events
  heard_from signed events n k s =
      let l : n < length h.cues = omega (arith, s.0, cue_number) in
      let at = cue_signs_lem n l in
      let ends : Ends (part_of h.signs (get_or h.cues n (cue_at 0 0))) (signs_of same h.material events) = subst (λ c. Ends c (signs_of same h.material events)) at s.2 in
      record {
        number = l;
        long = sym (cue_length n l) ∙ (ap length (sym at) ∙ s.1);
        last = (cues_end same law h short signed (get_or h.cues n (cue_at 0 0)) events).1 ends;
      }

  sighted_from : Signed same h → (events : List E) (n k : ℕ) → EndsEvents same h n k events → Sighted (cue_signs h) (signs_of same h.material events) n k
  sighted_from signed events n k q =
      let at = cue_signs_lem n q.number in
      let ends = (cues_end same law h short signed (get_or h.cues n (cue_at 0 0)) events).0 q.last in
      (omega (arith, q.number, cue_number), ap length at ∙ (cue_length n q.number ∙ q.long), subst (λ c. Ends c (signs_of same h.material events)) (sym at) ends)

  pub loaded_events : (a : Account) (events : List E) (free : ℕ) → LoadedEvents same h events free a
  loaded_events a events free before signed cues text =
      let f = sign_of same h.material in
      let ss = lookups same h events in
      let looked : ss ≡ signs_of same h.material events = lookups_signs same law h signed events in
      let texts : (n : ℕ) → a.text ++ take n ss ≡ signs_of same h.material (before ++ take n events) =
      λ n. ap (λ t. t ++ take n ss) text ∙ (ap (λ z. map f before ++ take n z) looked ∙ (ap (λ z. map f before ++ z) (take-map f n events) ∙ sym (map-append f before (take n events)))) in
      let long : length a.text ≡ length before = ap length text ∙ length-map before f in
      let full : filled a.cues ≡ true = ap filled cues ∙ some in
      record {
        only = λ p n k among.
            let r = (entries_read a.cues a.text free ss p n k).0 among in
            let i = r.0 in
            let s = (sightings_read a.cues (a.text ++ take (suc i) ss) full n k).0 r.3 in
            let s' = subst (λ cs. Sighted cs (a.text ++ take (suc i) ss) n k) cues s in
            let s'' = subst (λ t. Sighted (cue_signs h) t n k) (texts (suc i)) s' in
            (i, omega (arith, r.1, long), r.2, heard_from signed (before ++ take (suc i) events) n k s'');
        all = λ p n k i place more q.
            let s = sighted_from signed (before ++ take (suc i) events) n k q in
            let s' = subst (λ t. Sighted (cue_signs h) t n k) (sym (texts (suc i))) s in
            let s'' = subst (λ cs. Sighted cs (a.text ++ take (suc i) ss) n k) (sym cues) s' in
            (entries_read a.cues a.text free ss p n k).1 i (omega (arith, place, long)) more ((sightings_read a.cues (a.text ++ take (suc i) ss) full n k).1 s'');
        signs = looked;
        text = texts;
      }
