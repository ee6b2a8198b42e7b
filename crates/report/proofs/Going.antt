-- Following in rounds: a watch on its way through the signs of a text.
use Rattle.std.proofs.Common.{◌≡◌, ℕ, ◌+◌, ◌-◌, ◌*◌, ◌<◌, ◌≤◌, Bool, List, [], ◌∷◌, ◌++◌, map, length, take, drop, sym, refl, ap, ◌∙◌, subst, append_assoc, arith}
use Rattle.std.proofs.lemmas.List.{drop-drop, drop-map, length-append, length-drop, length-map, take_at}
use Rattle.std.specs.List.{flat_map}
use Rattle.book.specs.Held.{Held, lookup, lookups}
use Rattle.book.specs.declared.entry.Entry.{Entry}
use Rattle.engine.specs.declared.Engine.{Ghosts}
use Rattle.matching.proofs.Calls.{calls_few}
use Rattle.matching.specs.Calls.{Account, account, follows}
use Rattle.matching.specs.Follow.{entries, followed}
use Rattle.matching.specs.Match.{sightings}
use Rattle.script.proofs.Rounds.{round}
use Rattle.script.specs.Report.{entry_lines}
use Rattle.script.specs.Runs.{sign_runs}
use Rattle.watch.specs.After.{Always, Leads}
use Rattle.watch.specs.Following.{FollowAnswer, entry_of}
use Rattle.watch.specs.declared.following.Followed.{Followed}
use Rattle.watch.specs.declared.watch.Watch.{Watch}
use Rattle.report.proofs.Lines.{entry_lines_append, lines_of_entries}
use Rattle.report.specs.Reached.{Reached, entry_text}

-- So many signs are taken, and a line is written for each sighting of them.
pub record Going {L : Type 0} (m : Ghosts L) (w : Watch L) (cues : List (List ℕ)) (ss : List ℕ) (taken : ℕ) (old out : List ℕ) (count : ℕ) : Type 0 where
  pub within : taken ≤ length ss
  pub reached : Reached m w cues (take taken ss)
  pub lines : out ≡ old ++ entry_lines (sign_runs cues [] (take taken ss))
  pub number : count ≡ length (sign_runs cues [] (take taken ss))

-- What one round comes to.
pub record Turn {L : Type 0} (m : Ghosts L) (w : Watch L) (cues : List (List ℕ)) (ss : List ℕ) (taken : ℕ) (old out : List ℕ) (count : ℕ) (new : List Entry) (r : Followed) : Type 0 where
  pub some : 0 < r.taken
  pub fits : r.written ≤ length new
  pub small : count + r.written ≤ 32 * length ss
  pub within : taken + r.taken ≤ length ss
  pub next : (out' : List ℕ) → out' ≡ out ++ flat_map entry_text (take r.written new) → Going m w cues ss (taken + r.taken) old out' (count + r.written)

-- What follow answered, over the cues and the text that the calls come to.
record Told (cues : List (List ℕ)) (text signs : List ℕ) (before new : List Entry) (r : Followed) : Type 0 where
  pub taken : r.taken ≡ followed cues text (length before) signs
  pub written : r.written ≡ length (entries cues text (length before) signs)
  pub list : take r.written new ≡ map entry_of (entries cues text (length before) signs)

told : (a : Account) (cues : List (List ℕ)) (text signs : List ℕ) (before new : List Entry) (r : Followed) → a.cues ≡ cues → a.text ≡ text → FollowAnswer a signs before new r → Told cues text signs before new r
told a cues text signs before new r p q f =
    let es = entries a.cues a.text (length before) signs in
    let same : entries a.cues a.text (length before) signs ≡ entries cues text (length before) signs = ap (λ c. entries c a.text (length before) signs) p ∙ ap (λ t. entries cues t (length before) signs) q in
    let long : length (map entry_of es) ≡ r.written = length-map es entry_of ∙ sym f.written in
    record {
      taken = f.taken ∙ (ap (λ c. followed c a.text (length before) signs) p ∙ ap (λ t. followed cues t (length before) signs) q);
      written = f.written ∙ ap length same;
      list = ap (take r.written) f.list ∙ (take_at (map entry_of es) (drop r.written before) r.written long ∙ ap (map entry_of) same);
    }

module _ {L : Type 0} (m : Ghosts L) (cues : List (List ℕ)) (ss : List ℕ) where
  -- The lines and the number after one round more.
  written_more : (taken f : ℕ) (old out out' : List ℕ) (count n : ℕ) (es : List (ℕ × ℕ × ℕ)) → sign_runs cues [] (take (taken + f) ss) ≡ sign_runs cues [] (take taken ss) ++ es →
      out ≡ old ++ entry_lines (sign_runs cues [] (take taken ss)) → count ≡ length (sign_runs cues [] (take taken ss)) → n ≡ length es → out' ≡ out ++ entry_lines es →
      (out' ≡ old ++ entry_lines (sign_runs cues [] (take (taken + f) ss))) × (count + n ≡ length (sign_runs cues [] (take (taken + f) ss)))
  written_more taken f old out out' count n es lists lines number more grown = (
    grown ∙ (ap (λ o. o ++ entry_lines es) lines ∙ (append_assoc old (entry_lines (sign_runs cues [] (take taken ss))) (entry_lines es) ∙
        ap (λ x. old ++ x) (sym (entry_lines_append (sign_runs cues [] (take taken ss)) es) ∙ ap entry_lines (sym lists)))),
    let l = length-append (sign_runs cues [] (take taken ss)) es in let k = ap length lists in omega arith,
  )

  pub turn : (v w : Watch L) (taken : ℕ) (old out : List ℕ) (count : ℕ) (before new : List Entry) (r : Followed) →
      Going m v cues ss taken old out count → taken < length ss → length ss ≤ 9999999 → 32 ≤ length before → length new ≡ length before →
      Always m v (λ a. FollowAnswer a (drop taken ss) before new r) → Leads m v (follows (drop taken ss) (length before)) w →
      Turn m w cues ss taken old out count new r
  turn v w taken old out count before new r go lt short room same answer leads =
      let h = go.reached in
      let few : (u : List ℕ) → length (sightings cues u) ≤ 32 = λ u. subst (λ c. length (sightings c u) ≤ 32) h.same_cues (calls_few m.CAPACITY h.calls u) in
      let one = round cues ss taken (length before) few lt short room in
      let t = told (account m.CAPACITY h.calls) cues (take taken ss) (drop taken ss) before new r h.same_cues h.same_text (answer h.calls h.after) in
      let f = followed cues (take taken ss) (length before) (drop taken ss) in
      let es = entries cues (take taken ss) (length before) (drop taken ss) in
      let moved : followed (account m.CAPACITY h.calls).cues (account m.CAPACITY h.calls).text (length before) (drop taken ss) ≡ f =
      ap (λ c. followed c (account m.CAPACITY h.calls).text (length before) (drop taken ss)) h.same_cues ∙ ap (λ x. followed cues x (length before) (drop taken ss)) h.same_text in
      let text : (account m.CAPACITY h.calls).text ++ take (followed (account m.CAPACITY h.calls).cues (account m.CAPACITY h.calls).text (length before) (drop taken ss)) (drop taken ss) ≡ take (taken + f) ss =
      ap (λ x. x ++ take (followed (account m.CAPACITY h.calls).cues (account m.CAPACITY h.calls).text (length before) (drop taken ss)) (drop taken ss)) h.same_text ∙ (ap (λ n. take taken ss ++ take n (drop taken ss)) moved ∙ one.text) in
      let wrote : (out' : List ℕ) → out' ≡ out ++ flat_map entry_text (take r.written new) → (out' ≡ old ++ entry_lines (sign_runs cues [] (take (taken + f) ss))) × (count + r.written ≡ length (sign_runs cues [] (take (taken + f) ss))) =
      λ out' grown. written_more taken f old out out' count r.written es one.lists go.lines go.number t.written
      (grown ∙ ap (λ x. out ++ x) (ap (flat_map entry_text) t.list ∙ lines_of_entries es)) in
      record {
        some = subst (λ n. 0 < n) (sym t.taken) one.some;
        fits = omega (arith, t.written, one.fits, same);
        small = omega (arith, (wrote (out ++ flat_map entry_text (take r.written new)) refl).1, one.few);
        within = omega (arith, t.taken, one.within);
        next = λ out' grown.
            subst (λ n. Going m w cues ss (taken + n) old out' (count + r.written)) (sym t.taken)
            (record {
              within = one.within;
              reached = record {
                calls = follows (drop taken ss) (length before) ∷ h.calls;
                after = leads h.calls h.after;
                same_cues = h.same_cues;
                same_text = text;
              };
              lines = (wrote out' grown).0;
              number = (wrote out' grown).1;
            });
      }

-- The same over the events whose signs these are, by those that are left.
pub record Underway {L E : Type 0} (m : Ghosts L) (same : E → E → Bool) (h : Held E) (cues : List (List ℕ)) (events : List E) (old : List ℕ) (w : Watch L) (rest : List E) (out : List ℕ) (count : ℕ) : Type 0 where
  pub taken : ℕ
  pub left : rest ≡ drop taken events
  pub going : Going m w cues (lookups same h events) taken old out count

-- What one round comes to.
pub record RoundOf {L E : Type 0} (m : Ghosts L) (same : E → E → Bool) (h : Held E) (cues : List (List ℕ)) (events : List E) (old : List ℕ) (w : Watch L) (rest : List E) (out : List ℕ) (count : ℕ) (new : List Entry) (r : Followed) : Type 0 where
  pub some : 0 < r.taken
  pub fits : r.written ≤ length new
  pub small : count + r.written ≤ 32 * length events
  pub within : r.taken ≤ length rest
  pub next : (out' : List ℕ) → out' ≡ out ++ flat_map entry_text (take r.written new) → Underway m same h cues events old w (drop r.taken rest) out' (count + r.written)

module _ {L E : Type 0} (m : Ghosts L) (same : E → E → Bool) (h : Held E) (cues : List (List ℕ)) (events : List E) (old : List ℕ) where
  pub underway_more : (v w : Watch L) (rest : List E) (out : List ℕ) (count : ℕ) (before new : List Entry) (r : Followed) →
      Underway m same h cues events old v rest out count → 0 < length rest → length events ≤ 9999999 → 32 ≤ length before → length new ≡ length before →
      Always m v (λ a. FollowAnswer a (lookups same h rest) before new r) → Leads m v (follows (lookups same h rest) (length before)) w →
      RoundOf m same h cues events old w rest out count new r
  underway_more v w rest out count before new r u some short room kept answer leads =
      let n = length-map events (lookup same h) in
      let left : length rest ≡ length events - u.taken = ap length u.left ∙ length-drop u.taken events in
      let e : lookups same h rest ≡ drop u.taken (lookups same h events) = ap (lookups same h) u.left ∙ sym (drop-map (lookup same h) u.taken events) in
      let t = turn m cues (lookups same h events) v w u.taken old out count before new r u.going (omega arith) (omega arith) room kept
      (subst (λ ss. Always m v (λ a. FollowAnswer a ss before new r)) e answer) (subst (λ ss. Leads m v (follows ss (length before)) w) e leads) in
      record {
        some = t.some;
        fits = t.fits;
        small = omega (arith, t.small);
        within = omega (arith, t.within);
        next = λ out' grown. record {
          taken = u.taken + r.taken;
          left = ap (drop r.taken) u.left ∙ drop-drop r.taken u.taken events;
          going = t.next out' grown;
        };
      }
