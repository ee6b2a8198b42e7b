-- Following one event after another: what is so as far as the loop has come.
use Rattle.std.proofs.Common.{◌≡◌, ℕ, suc, ◌+◌, ◌-◌, ◌*◌, ◌<◌, ◌≤◌, true, cond, ◌&&◌, ltb, leb, List, [], ◌∷◌, ◌++◌, map, length, get_or, take, drop, Some, None, sym, refl, ap, ◌∙◌, append_assoc, append-nil, arith, length-append}
use Rattle.std.proofs.lemmas.List.{drop_all, drop_at, drop-drop, drop_more, length-map, map-append, take_at}
use Rattle.std.proofs.lemmas.Bool.{le-leb, lt-ltb}
use Rattle.book.specs.declared.entry.Entry.{Entry}
use Rattle.matching.specs.Follow.{ending_at, entries_at, followed_at, longest_text, placed}
use Rattle.matching.specs.Match.{beginning, live, sightings}
use Rattle.matching.proofs.Follow.{length_placed, live_more}
use Rattle.matching.proofs.Live.{live_itself}
use Rattle.watch.specs.Following.{ending_number, entry_at, entry_of, obstacle}
use Rattle.watch.specs.declared.following.Ending.{Ending}

-- Behind b signs `signs` are followed with the entries `old`; i signs are taken and `written` entries are written.
pub record Sofar (cues : List (List ℕ)) (b : List ℕ) (len cost : ℕ) (signs : List ℕ) (old : List Entry) (i written : ℕ) (cues' : List (List ℕ)) (b' : List ℕ) (len' cost' : ℕ) (new : List Entry) : Type 0 where
  pub same : cues' ≡ cues
  pub went : b' ≡ live cues (b ++ take i signs)
  pub long : len' ≡ len + i
  pub cheap : cost' + length b' ≤ cost + length b + 2 * i
  pub done : List (ℕ × ℕ × ℕ)
  pub count : written ≡ length done
  pub wrote : new ≡ map entry_of done ++ drop written old
  pub rest : done ++ entries_at cues b' len' (length old - written) (drop i signs) ≡ entries_at cues b len (length old) signs
  pub taken : i + followed_at cues b' len' (length old - written) (drop i signs) ≡ followed_at cues b len (length old) signs
  pub ended : ending_at cues b' len' (length old - written) (drop i signs) ≡ ending_at cues b len (length old) signs

pub sofar_none : (cues : List (List ℕ)) (b : List ℕ) (len cost : ℕ) (signs : List ℕ) (old : List Entry) → beginning cues b ≡ true → Sofar cues b len cost signs old 0 0 cues b len cost old
sofar_none cues b len cost signs old begun =
    record {
      same = refl;
      went = sym (ap (live cues) (append-nil b) ∙ live_itself cues b begun);
      long = omega arith;
      cheap = omega arith;
      done = [];
      count = refl;
      wrote = refl;
      rest = ap (λ k. entries_at cues b len k signs) (omega arith);
      taken = omega (arith, ap (λ k. followed_at cues b len k signs) {x = length old - 0} {y = length old} (omega arith));
      ended = ap (λ k. ending_at cues b len k signs) (omega arith);
    }

entries_placed : (p : ℕ) (seen : List (ℕ × ℕ)) → map entry_of (placed p seen) ≡ map (entry_at p) seen
entries_placed p [] = refl
entries_placed p (q ∷ seen) = ap (λ z. entry_at p q ∷ z) (entries_placed p seen)

-- Where no obstacle is, the text has room and enough entries are free.
text_short : (len free : ℕ) → None ≡ obstacle len free → len < longest_text
text_short len free h = grind (arith, h)

pub free_enough : (len free : ℕ) → None ≡ obstacle len free → 32 ≤ free
free_enough len free h = grind (arith, h)

module _ (cues : List (List ℕ)) (b : List ℕ) (len cost : ℕ) (signs : List ℕ) (old : List Entry) where
  -- One event more.
  pub sofar_more : {i written : ℕ} {cues' : List (List ℕ)} {b' : List ℕ} {len' cost' : ℕ} {new : List Entry} → Sofar cues b len cost signs old i written cues' b' len' cost' new →
      (cues'' : List (List ℕ)) (b'' : List ℕ) (len'' cost'' written'' : ℕ) (new'' : List Entry) (s : ℕ) → i < length signs → s ≡ get_or signs i 0 → len' < longest_text → written + 32 ≤ length old →
      cues'' ≡ cues' → b'' ≡ live cues' (b' ++ s ∷ []) → len'' ≡ len' + 1 → cost'' + length b'' ≤ cost' + length b' + 2 →
      written'' ≡ written + length (sightings cues (b' ++ s ∷ [])) →
      new'' ≡ take written new ++ (map (entry_at len') (sightings cues (b' ++ s ∷ [])) ++ drop written'' new) →
      Sofar cues b len cost signs old (i + 1) written'' cues'' b'' len'' cost'' new''
  sofar_more {i} {written} {cues'} {b'} {len'} {cost'} {new} h cues'' b'' len'' cost'' written'' new'' s more is room free same'' went'' long'' cheap'' index list =
      let seen = sightings cues (b' ++ s ∷ []) in
      let left = length old - written in
      let next = drop (i + 1) signs in
      let at : b'' ≡ live cues (b' ++ s ∷ []) = went'' ∙ ap (λ cs. live cs (b' ++ s ∷ [])) h.same in
      let cut : drop i signs ≡ s ∷ next = drop_more signs i 0 more ∙ ap (λ x. x ∷ next) (sym is) in
      let can : ltb len' longest_text ≡ true = lt-ltb len' longest_text room in
      let roomy : leb 32 left ≡ true = le-leb 32 left (omega arith) in
      let both : (ltb len' longest_text && leb 32 left) ≡ true = ap (λ t. t && leb 32 left) can ∙ roomy in
      let fewer : left - length seen ≡ length old - written'' = omega arith in
      let e1 : entries_at cues (live cues (b' ++ s ∷ [])) (len' + 1) (left - length seen) next ≡ entries_at cues b'' len'' (length old - written'') next = cc in
      let e : entries_at cues b' len' left (drop i signs) ≡ placed len' seen ++ entries_at cues b'' len'' (length old - written'') next =
      ap (entries_at cues b' len' left) cut ∙ (ap (λ t. cond t (placed len' seen ++ entries_at cues (live cues (b' ++ s ∷ [])) (len' + 1) (left - length seen) next) []) both ∙ ap (λ z. placed len' seen ++ z) e1) in
      let f1 : followed_at cues (live cues (b' ++ s ∷ [])) (len' + 1) (left - length seen) next ≡ followed_at cues b'' len'' (length old - written'') next = cc in
      let f : followed_at cues b' len' left (drop i signs) ≡ suc (followed_at cues b'' len'' (length old - written'') next) =
      ap (followed_at cues b' len' left) cut ∙ (ap (λ t. cond t (suc (followed_at cues (live cues (b' ++ s ∷ [])) (len' + 1) (left - length seen) next)) 0) both ∙ ap suc f1) in
      let g1 : ending_at cues (live cues (b' ++ s ∷ [])) (len' + 1) (left - length seen) next ≡ ending_at cues b'' len'' (length old - written'') next = cc in
      let g : ending_at cues b' len' left (drop i signs) ≡ ending_at cues b'' len'' (length old - written'') next =
      ap (ending_at cues b' len' left) cut ∙ (ap (λ t. cond t (cond (leb 32 left) (ending_at cues (live cues (b' ++ s ∷ [])) (len' + 1) (left - length seen) next) 1) 2) can ∙ (ap (λ t. cond t (ending_at cues (live cues (b' ++ s ∷ [])) (len' + 1) (left - length seen) next) 1) roomy ∙ g1)) in
      let front = map entry_of h.done in
      let size : length front ≡ written = length-map h.done entry_of ∙ sym h.count in
      let kept : take written new ≡ front = ap (take written) h.wrote ∙ take_at front (drop written old) written size in
      let past : drop written new ≡ drop written old = ap (drop written) h.wrote ∙ drop_at front (drop written old) written size in
      let tail : drop written'' new ≡ drop written'' old =
      ap (λ k. drop k new) index ∙ (sym (drop-drop (length seen) written new) ∙ (ap (drop (length seen)) past ∙ (drop-drop (length seen) written old ∙ ap (λ k. drop k old) (sym index)))) in
      let both-parts : map entry_of (h.done ++ placed len' seen) ≡ front ++ map (entry_at len') seen = map-append entry_of h.done (placed len' seen) ∙ ap (λ z. front ++ z) (entries_placed len' seen) in
      record {
        same = same'' ∙ h.same;
        went = at ∙ (ap (λ z. live cues (z ++ s ∷ [])) h.went ∙ (ap (λ x. live cues (live cues (b ++ take i signs) ++ x ∷ [])) is ∙ live_more cues b signs i 0 more));
        long = omega (arith, long'', h.long);
        cheap = omega (arith, cheap'', h.cheap);
        done = h.done ++ placed len' seen;
        count = omega (arith, index, h.count, length-append h.done (placed len' seen), length_placed len' seen);
        wrote = list ∙ (ap (λ z. z ++ (map (entry_at len') seen ++ drop written'' new)) kept ∙ (ap (λ z. front ++ (map (entry_at len') seen ++ z)) tail ∙ (sym (append_assoc front (map (entry_at len') seen) (drop written'' old)) ∙ ap (λ z. z ++ drop written'' old) (sym both-parts))));
        rest = append_assoc h.done (placed len' seen) (entries_at cues b'' len'' (length old - written'') next) ∙ (ap (λ z. h.done ++ z) (sym e) ∙ h.rest);
        taken = omega (arith, f, h.taken);
        ended = sym g ∙ h.ended;
      }

  -- The same, where no obstacle is and the entries behind those written are a list of their own.
  pub sofar_step : {i written : ℕ} {cues' : List (List ℕ)} {b' : List ℕ} {len' cost' : ℕ} {new : List Entry} → Sofar cues b len cost signs old i written cues' b' len' cost' new →
      (cues'' : List (List ℕ)) (b'' : List ℕ) (len'' cost'' written'' : ℕ) (new'' : List Entry) (s : ℕ) → i < length signs → s ≡ get_or signs i 0 → None ≡ obstacle len' (length old - written) →
      cues'' ≡ cues' → b'' ≡ live cues' (b' ++ s ∷ []) → len'' ≡ len' + 1 → cost'' + length b'' ≤ cost' + length b' + 2 →
      written'' ≡ written + length (sightings cues (b' ++ s ∷ [])) →
      new'' ≡ take written new ++ (map (entry_at len') (sightings cues (b' ++ s ∷ [])) ++ drop (length (sightings cues (b' ++ s ∷ []))) (drop written new)) →
      Sofar cues b len cost signs old (i + 1) written'' cues'' b'' len'' cost'' new''
  sofar_step {i} {written} {cues'} {b'} {len'} {cost'} {new} h cues'' b'' len'' cost'' written'' new'' s more is none same'' went'' long'' cheap'' index list =
      let seen = sightings cues (b' ++ s ∷ []) in
      let room = text_short len' (length old - written) none in
      let free : written + 32 ≤ length old = omega (arith, free_enough len' (length old - written) none) in
      let behind : drop (length seen) (drop written new) ≡ drop written'' new = drop-drop (length seen) written new ∙ ap (λ k. drop k new) (sym index) in
      sofar_more h cues'' b'' len'' cost'' written'' new'' s more is room free same'' went'' long'' cheap'' index
      (list ∙ ap (λ z. take written new ++ (map (entry_at len') seen ++ z)) behind)

  -- What is so when it ends: the answers, from what was live and the length of the text.
  pub record Ended (i written ending : ℕ) (cues' : List (List ℕ)) (b' : List ℕ) (len' cost' : ℕ) (new : List Entry) : Type 0 where
    pub taken : i ≡ followed_at cues b len (length old) signs
    pub written_is : written ≡ length (entries_at cues b len (length old) signs)
    pub ending_is : ending ≡ ending_at cues b len (length old) signs
    pub list : new ≡ map entry_of (entries_at cues b len (length old) signs) ++ drop written old
    pub same : cues' ≡ cues
    pub went : b' ≡ live cues (b ++ take i signs)
    pub long : len' ≡ len + i
    pub cheap : cost' + length b' ≤ cost + length b + 2 * i

  -- It ends where nothing more is followed.
  ended_at : {i written : ℕ} {cues' : List (List ℕ)} {b' : List ℕ} {len' cost' : ℕ} {new : List Entry} (ending : ℕ) → Sofar cues b len cost signs old i written cues' b' len' cost' new →
      entries_at cues b' len' (length old - written) (drop i signs) ≡ [] → followed_at cues b' len' (length old - written) (drop i signs) ≡ 0 → ending_at cues b' len' (length old - written) (drop i signs) ≡ ending →
      Ended i written ending cues' b' len' cost' new
  ended_at {i} {written} ending h none nothing why =
      let all : h.done ≡ entries_at cues b len (length old) signs = sym (append-nil h.done) ∙ (ap (λ z. h.done ++ z) (sym none) ∙ h.rest) in
      record {
        taken = omega (arith, nothing, h.taken);
        written_is = h.count ∙ ap length all;
        ending_is = sym why ∙ h.ended;
        list = h.wrote ∙ ap (λ z. map entry_of z ++ drop written old) all;
        same = h.same;
        went = h.went;
        long = h.long;
        cheap = h.cheap;
      }

  pub ended_done : {i written : ℕ} {cues' : List (List ℕ)} {b' : List ℕ} {len' cost' : ℕ} {new : List Entry} → Sofar cues b len cost signs old i written cues' b' len' cost' new → length signs ≤ i →
      Ended i written 0 cues' b' len' cost' new
  ended_done {i} h all =
      let z = drop_all i signs all in
      ended_at 0 h (ap (entries_at cues _ _ _) z) (ap (followed_at cues _ _ _) z) (ap (ending_at cues _ _ _) z)

  pub ended_early : {i written : ℕ} {cues' : List (List ℕ)} {b' : List ℕ} {len' cost' : ℕ} {new : List Entry} (e : Ending) → Sofar cues b len cost signs old i written cues' b' len' cost' new → i < length signs →
      Some e ≡ obstacle len' (length old - written) → Ended i written (ending_number e) cues' b' len' cost' new
  ended_early {i} {written} {b' = b'} {len' = len'} e h more why =
      let cut = drop_more signs i 0 more in
      ended_at (ending_number e) h
      (ap (entries_at cues b' len' (length old - written)) cut ∙ grind (arith, why))
      (ap (followed_at cues b' len' (length old - written)) cut ∙ grind (arith, why))
      (ap (ending_at cues b' len' (length old - written)) cut ∙ grind (arith, why))
