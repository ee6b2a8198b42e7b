-- Following in rounds: what the rounds write, one behind the other, is what one long round would write.
use Rattle.std.proofs.Common.{◌≡◌, ℕ, ◌+◌, ◌-◌, ◌*◌, ◌<◌, ◌≤◌, List, [], ◌∷◌, ◌++◌, length, take, drop, sym, refl, ap, ◌∙◌, append_assoc, append-nil, arith, take-add}
use Rattle.std.proofs.lemmas.List.{length-append, length-drop, length-take-le}
use Rattle.matching.specs.Follow.{followed, entries, placed, longest_text}
use Rattle.matching.specs.Match.{sightings}
use Rattle.matching.proofs.Follow.{entries_few, followed_few, length_placed}
use Rattle.script.specs.Runs.{sign_runs}

pub sign_runs_append : (cues : List (List ℕ)) (t ss rr : List ℕ) → sign_runs cues t (ss ++ rr) ≡ sign_runs cues t ss ++ sign_runs cues (t ++ ss) rr
sign_runs_append cues t [] rr = ap (λ u. sign_runs cues u rr) (sym (append-nil t))
sign_runs_append cues t (s ∷ ss) rr =
    let h = placed (length t) (sightings cues (t ++ s ∷ [])) in
    ap (λ x. h ++ x) (sign_runs_append cues (t ++ s ∷ []) ss rr ∙ ap (λ u. sign_runs cues (t ++ s ∷ []) ss ++ sign_runs cues u rr) (append_assoc t (s ∷ []) ss)) ∙
    sym (append_assoc h (sign_runs cues (t ++ s ∷ []) ss) (sign_runs cues (t ++ (s ∷ ss)) rr))

pub entries_runs : (cues : List (List ℕ)) (t : List ℕ) (free : ℕ) (ss : List ℕ) → entries cues t free ss ≡ sign_runs cues t (take (followed cues t free ss) ss)
entries_runs cues t free [] = refl
entries_runs cues t free (s ∷ ss) =
    grind (arith, entries_runs cues (t ++ s ∷ []) (free - length (sightings cues (t ++ s ∷ []))) ss)

pub sign_runs_few : (cues : List (List ℕ)) → ((u : List ℕ) → length (sightings cues u) ≤ 32) → (t ss : List ℕ) → length (sign_runs cues t ss) ≤ 32 * length ss
sign_runs_few cues few t [] = omega arith
sign_runs_few cues few t (s ∷ ss) =
    let now = placed (length t) (sightings cues (t ++ s ∷ [])) in
    let a = length-append now (sign_runs cues (t ++ s ∷ []) ss) in
    let b = length_placed (length t) (sightings cues (t ++ s ∷ [])) in
    let f = few (t ++ s ∷ []) in
    let r = sign_runs_few cues few (t ++ s ∷ []) ss in
    omega arith

pub followed_some : (cues : List (List ℕ)) (t : List ℕ) (free : ℕ) (ss : List ℕ) → 0 < length ss → length t < longest_text → 32 ≤ free → 0 < followed cues t free ss
followed_some cues t free [] h l f = absurd (omega arith)
followed_some cues t free (s ∷ ss) h l f = grind arith

-- One round from the i-th sign on, with so many entries free.
pub record Round (cues : List (List ℕ)) (ss : List ℕ) (i free : ℕ) : Type 0 where
  pub some : 0 < followed cues (take i ss) free (drop i ss)
  pub within : i + followed cues (take i ss) free (drop i ss) ≤ length ss
  pub text : take i ss ++ take (followed cues (take i ss) free (drop i ss)) (drop i ss) ≡ take (i + followed cues (take i ss) free (drop i ss)) ss
  pub lists : sign_runs cues [] (take (i + followed cues (take i ss) free (drop i ss)) ss) ≡ sign_runs cues [] (take i ss) ++ entries cues (take i ss) free (drop i ss)
  pub fits : length (entries cues (take i ss) free (drop i ss)) ≤ free
  pub few : length (sign_runs cues [] (take (i + followed cues (take i ss) free (drop i ss)) ss)) ≤ 32 * length ss

pub round : (cues : List (List ℕ)) (ss : List ℕ) (i free : ℕ) → ((u : List ℕ) → length (sightings cues u) ≤ 32) → i < length ss → length ss ≤ longest_text → 32 ≤ free → Round cues ss i free
round cues ss i free few lt short room =
    let f = followed cues (take i ss) free (drop i ss) in
    let front = length-take-le i ss (omega arith) in
    let left = length-drop i ss in
    let most = followed_few cues (take i ss) free (drop i ss) in
    let more = take-add i (followed cues (take i ss) free (drop i ss)) ss in
    let all = sign_runs_few cues few [] (take (i + followed cues (take i ss) free (drop i ss)) ss) in
    let long = length-take-le (i + followed cues (take i ss) free (drop i ss)) ss (omega arith) in
    record {
      some = followed_some cues (take i ss) free (drop i ss) (omega arith) (omega arith) room;
      within = omega arith;
      text = sym more;
      lists =
          ap (sign_runs cues []) more ∙
          (sign_runs_append cues [] (take i ss) (take (followed cues (take i ss) free (drop i ss)) (drop i ss)) ∙
          ap (λ x. sign_runs cues [] (take i ss) ++ x) (sym (entries_runs cues (take i ss) free (drop i ss))));
      fits = entries_few cues few (take i ss) free (drop i ss);
      few = omega arith;
    }
