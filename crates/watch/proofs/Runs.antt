-- How each call leads from one watch to the next, over what the engine means and the account of calls.
use Rattle.std.proofs.Common.{◌≡◌, ℕ, ◌+◌, ◌<◌, ◌≤◌, true, cond, List, [], ◌∷◌, ◌++◌, map, length, get_or, take, drop, None, sym, refl, ap, ◌∙◌, subst, arith}
use Rattle.std.proofs.lemmas.Bool.{cond_both, le-ltb}
use Rattle.engine.specs.declared.Engine.{Ghosts}
use Rattle.engine.specs.Statements.{named, resume_refusal}
use Rattle.matching.specs.Match.{beginning, live, sightings, standing}
use Rattle.matching.specs.Follow.{takable, followed_at, entries, entries_at, ending_at}
use Rattle.matching.specs.Calls.{Account, Call, Holds, Keeps, account, after, anew, extended, reset, total, few_endings, loadable, resumable, seen, stands, loads, takes, follows, resumes}
use Rattle.matching.proofs.Calls.{calls_few, calls_kept, held_right, calls_tell}
use Rattle.matching.proofs.Follow.{ending_at_lem, entries_at_lem, followed_at_lem}
use Rattle.matching.proofs.Live.{live_begins}
use Rattle.matching.proofs.Sightings.{sightings_read, sightings_fall}
use Rattle.watch.specs.After.{After, Always, BookCues, WorkBound, Leads, Listed, Tells}
use Rattle.watch.specs.Following.{ending_number, entry_of, FollowAnswer}
use Rattle.watch.specs.Refusals.{load_refused}
use Rattle.watch.specs.declared.following.Followed.{Followed}
use Rattle.watch.proofs.Sofar.{Ended}
use Rattle.book.specs.declared.entry.Entry.{Entry}
use Rattle.watch.specs.declared.watch.Watch.{Watch}

moved : {a : Account} {cues cues' : List (List ℕ)} {b b' : List ℕ} {len len' cost cost' : ℕ} → Holds a cues b len cost → cues' ≡ cues → b' ≡ b → len' ≡ len → cost' ≡ cost → Holds a cues' b' len' cost'
moved h p q r s =
    record { same_cues = p ∙ h.same_cues; same_live = q ∙ h.same_live; same_length = r ∙ h.same_length; cheap = omega (arith, h.cheap, s, ap length q) }

-- Only a load changes the cues.
take_cues : (room : ℕ) (a : Account) (s : ℕ) → (after room a (takes s)).cues ≡ a.cues
take_cues room a s = cond_both (takable a.text) (extended a (s ∷ [])) a (λ x. x.cues ≡ a.cues) (λ _. refl) (λ _. refl)

resume_cues : (room : ℕ) (a : Account) (c k : ℕ) → (after room a (resumes c k)).cues ≡ a.cues
resume_cues room a c k = cond_both (resumable a.cues c k) (reset a (take k (get_or a.cues c []))) a (λ x. x.cues ≡ a.cues) (λ _. refl) (λ _. refl)

resume_granted : (cues : List (List ℕ)) (s : ℕ × ℕ) → resume_refusal cues s ≡ None → resumable cues s.0 s.1 ≡ true
resume_granted cues s h = grind arith

load_granted : (room : ℕ) (cs : List (List ℕ)) → load_refused room cs ≡ None → loadable room cs ≡ true
load_granted room cs h = grind arith

pub not_refused : (room : ℕ) (cs : List (List ℕ)) → total cs ≤ room → few_endings cs cs ≡ true → load_refused room cs ≡ None
not_refused room cs fits few = grind (arith, le-ltb room (total cs) fits)

module _ {L : Type 0} (m : Ghosts L) where
  keeps : (calls : List Call) (w : Watch L) → After m calls w → Keeps m.CAPACITY (account m.CAPACITY calls) (m.cues w.engine) (m.live w.engine) w.len (m.cost w.engine)
  keeps calls w h = (calls_kept m.CAPACITY).1 _ _ _ _ _ h.holds

  pub loaded : (v w : Watch L) (cs : List (List ℕ)) → BookCues cs → load_refused m.CAPACITY cs ≡ None → m.cues w.engine ≡ cs → m.live w.engine ≡ [] → m.cost w.engine ≡ 0 → w.len ≡ 0 → Leads m v (loads cs) w
  loaded v w cs ok why same none free len calls h =
      let g = load_granted m.CAPACITY cs why in
      record {
        holds = moved ((keeps calls v h).load cs g) same none len free;
        book_cues = subst BookCues (sym (ap (λ b. (cond b (anew cs) (account m.CAPACITY calls)).cues) g)) ok;
      }

  -- A sign is taken.
  pub taken : (v w : Watch L) (s : ℕ) → v.len < 9999999 → m.cues w.engine ≡ m.cues v.engine → m.live w.engine ≡ live (m.cues v.engine) (m.live v.engine ++ s ∷ []) →
      m.cost w.engine + length (m.live w.engine) ≤ m.cost v.engine + length (m.live v.engine) + 2 → w.len ≡ v.len + 1 → Leads m v (takes s) w
  taken v w s l same went cheap len calls h =
      record {
        holds = moved ((keeps calls v h).step s (m.cost w.engine) l (omega (arith, cheap, ap length went))) same went len refl;
        book_cues = subst BookCues (sym (take_cues m.CAPACITY (account m.CAPACITY calls) s)) h.book_cues;
      }

  pub resumed : (v w : Watch L) (s : ℕ × ℕ) → resume_refusal (m.cues v.engine) s ≡ None → m.cues w.engine ≡ m.cues v.engine → m.live w.engine ≡ named (m.cues v.engine) s → m.cost w.engine ≡ 0 → w.len ≡ s.1 →
      Leads m v (resumes s.0 s.1) w
  resumed v w s why same went free len calls h =
      record {
        holds = moved ((keeps calls v h).resume s.0 s.1 (resume_granted (m.cues v.engine) s why)) same went len free;
        book_cues = subst BookCues (sym (resume_cues m.CAPACITY (account m.CAPACITY calls) s.0 s.1)) h.book_cues;
      }

  -- The questions answer for the text that counts.
  pub sighted_right : (w : Watch L) → Always m w (λ a. sightings (m.cues w.engine) (m.live w.engine) ≡ seen a)
  sighted_right w calls h = (held_right _ _ _ _ _ h.holds).0

  pub standing_right : (w : Watch L) → Always m w (λ a. standing (m.cues w.engine) (m.live w.engine) ≡ stands a)
  standing_right w calls h = (held_right _ _ _ _ _ h.holds).1

  pub listed_right : (w : Watch L) → Always m w Listed
  listed_right w calls h =
      let a = account m.CAPACITY calls in
      record { exactly = sightings_read a.cues a.text h.book_cues.some_signs; falling = sightings_fall a.cues a.text h.book_cues.apart }

  pub tells_right : (w : Watch L) → Always m w (λ a. (room : ℕ) (calls : List Call) → Tells a (account room calls))
  tells_right w calls h room other same = calls_tell m.CAPACITY room calls other same h.book_cues.signs

  standing_length : (cues : List (List ℕ)) (b : List ℕ) → (standing cues b).1 ≡ length b
  standing_length cues [] = refl
  standing_length cues (x ∷ b) = refl

  pub work_right : (w : Watch L) → Always m w (WorkBound (m.cost w.engine))
  work_right w calls h =
      let a = account m.CAPACITY calls in
      let s = standing_length a.cues (live a.cues a.text) in
      omega (arith, h.holds.cheap, ap length h.holds.same_live)

  -- What a watch after any calls may rely on: what is live is a beginning, and no text has over 32 sightings.
  pub fine : (w : Watch L) (calls : List Call) → After m calls w → (beginning (m.cues w.engine) (m.live w.engine) ≡ true) × ((t : List ℕ) → length (sightings (m.cues w.engine) t) ≤ 32)
  fine w calls h =
      let a = account m.CAPACITY calls in (
        ap (λ cs. beginning cs (m.live w.engine)) h.holds.same_cues ∙ (ap (beginning a.cues) h.holds.same_live ∙ live_begins a.cues a.text),
        λ t. subst (λ cs. length (sightings cs t) ≤ 32) (sym h.holds.same_cues) (calls_few m.CAPACITY calls t),
      )

  -- The signs of the events were followed.
  pub followed_right : (v w : Watch L) (signs : List ℕ) (old new : List Entry) (r : Followed) →
      (beginning (m.cues v.engine) (m.live v.engine) ≡ true → ((t : List ℕ) → length (sightings (m.cues v.engine) t) ≤ 32) →
      Ended (m.cues v.engine) (m.live v.engine) v.len (m.cost v.engine) signs old r.taken r.written (ending_number r.ending) (m.cues w.engine) (m.live w.engine) w.len (m.cost w.engine) new) →
      Always m v (λ a. FollowAnswer a signs old new r) × Leads m v (follows signs (length old)) w
  followed_right v w signs old new r ended = (
    λ calls h.
        let a = account m.CAPACITY calls in
        let ok = fine v calls h in
        let e = ended ok.0 ok.1 in
        let b = m.live v.engine in
        let es : entries_at (m.cues v.engine) b v.len (length old) signs ≡ entries a.cues a.text (length old) signs =
        ap (λ cs. entries_at cs b v.len (length old) signs) h.holds.same_cues ∙ entries_at_lem a.cues a.text b v.len (length old) signs h.holds.same_live h.holds.same_length in
        record {
          taken = e.taken ∙ (ap (λ cs. followed_at cs b v.len (length old) signs) h.holds.same_cues ∙ followed_at_lem a.cues a.text b v.len (length old) signs h.holds.same_live h.holds.same_length);
          written = e.written_is ∙ ap length es;
          ended = e.ending_is ∙ (ap (λ cs. ending_at cs b v.len (length old) signs) h.holds.same_cues ∙ ending_at_lem a.cues a.text b v.len (length old) signs h.holds.same_live h.holds.same_length);
          list = e.list ∙ ap (λ z. map entry_of z ++ drop r.written old) es;
        },
    λ calls h.
        let ok = fine v calls h in
        let e = ended ok.0 ok.1 in
        let n = followed_at (m.cues v.engine) (m.live v.engine) v.len (length old) signs in
        let went : m.live w.engine ≡ live (m.cues v.engine) (m.live v.engine ++ take n signs) = e.went ∙ ap (λ k. live (m.cues v.engine) (m.live v.engine ++ take k signs)) e.taken in
        record {
          holds = moved ((keeps calls v h).follow signs (length old) (m.cost w.engine) (omega (arith, e.cheap, e.taken, ap length went))) e.same went (e.long ∙ ap (λ k. v.len + k) e.taken) refl;
          book_cues = h.book_cues;
        },
  )
