-- Calls: each keeps what a watch holds, and what follows from that.
-- Assumes nothing.
use Rattle.std.proofs.Common.{◌≡◌, ℕ, zero, suc, ◌+◌, ◌-◌, ◌*◌, ◌<◌, ◌≤◌, true, false, ◌&&◌, leb, List, [], ◌∷◌, ◌++◌, length, get_or, take, drop, sym, refl, ap, ◌∙◌, subst, append_assoc, append-nil, arith, length-append, length-take}
use Rattle.std.specs.List.{AllByRecursion}
use Rattle.std.proofs.lemmas.List.{take-append-drop, take-append-le, drop-append-le}
use Rattle.matching.specs.Match.{listed, beginning, live, lowest, standing, sightings, tries, trials, distinct, Alike}
use Rattle.matching.specs.Follow.{takable, followed, followed_at}
use Rattle.matching.specs.Calls.{Call, Account, Holds, few_endings, resumable, after, account, stands, spent, CallsKept, HeldRight, FollowSteps, CallsCheap, SpentStep, CallsTell, ResumeBack, EndingsFew, CallsFew, SameGrant, RoomsAlike, loads, takes, follows, resumes, restarts}
use Rattle.matching.proofs.Live.{live_begins, live_enough, live_itself, beginning_front, some_from_cue, begins_append, lowest_begins, begins_rest, standing_back, trials_bound, tries_live}
use Rattle.matching.proofs.Sightings.{sightings_live, sightings_few, exact_unlisted, same_is}
use Rattle.matching.proofs.Standings.{standings_tell}
use Rattle.matching.proofs.Follow.{followed_at_lem, followed_few}

pub held_right : HeldRight
held_right a cues b len cost h =
    (grind (arith, (sightings_live a.cues a.text).1, h.same_cues, h.same_live), grind (arith, h.same_cues, h.same_live), grind (arith, h.cheap))

-- a cue is a beginning, and so are its first signs
cue_is : (cues : List (List ℕ)) (b : List ℕ) (c : ℕ) → c < length cues → get_or cues c [] ≡ b → beginning cues b ≡ true
cue_is cues [] c l e = refl
cue_is cues (x ∷ b) c l e = (some_from_cue cues (x ∷ b) c l (grind (arith, begins_append (x ∷ b) [], append-nil (x ∷ b)))).0

pub cue_front : (cues : List (List ℕ)) (c k : ℕ) → c < length cues → beginning cues (take k (get_or cues c [])) ≡ true
cue_front cues c k l =
    let cue : List ℕ = get_or cues c [] in
    beginning_front cues (take k cue) (drop k cue) (cue_is cues (take k cue ++ drop k cue) c l (sym (take-append-drop k cue)))

-- what may be resumed is a beginning of that length
pub resumed_front : (cues : List (List ℕ)) (c k : ℕ) → resumable cues c k ≡ true → (beginning cues (take k (get_or cues c [])) ≡ true) × (length (take k (get_or cues c [])) ≡ k)
resumed_front cues c zero h = (refl, refl)
resumed_front cues c (suc k) h =
    let l : c < length cues = grind arith in
    (cue_front cues c (suc k) l, grind (arith, length-take (suc k) (get_or cues c [])))

-- signs that are followed keep what is held
follow_kept : (room : ℕ) (a : Account) (cues : List (List ℕ)) (b : List ℕ) (len cost : ℕ) → Holds a cues b len cost → (ss : List ℕ) (free next n : ℕ) → followed_at cues b len free ss ≡ n → next + length (live cues (b ++ take n ss)) ≤ cost + length b + 2 * n → Holds (after room a (follows ss free)) cues (live cues (b ++ take n ss)) (len + n) next
follow_kept room a cues b len cost h ss free next n e r =
    let f : ℕ = followed a.cues a.text free ss in
    let at : followed_at cues b len free ss ≡ f = subst (λ (cs : List (List ℕ)). followed_at cs b len free ss ≡ f) (sym h.same_cues) (followed_at_lem a.cues a.text b len free ss h.same_live h.same_length) in
    let g : f ≡ n = sym at ∙ e in
    let long : length (take f ss) ≡ n = grind (arith, length-take f ss, followed_few a.cues a.text free ss) in
    record {
      same_cues = h.same_cues;
      same_live = grind (arith, h.same_cues, h.same_live, g, live_enough a.cues a.text (take n ss));
      same_length = grind (arith, h.same_length, long, length-append a.text (take f ss));
      cheap = omega (arith, r, h.cheap, long);
    }

pub calls_kept : CallsKept
calls_kept room = (
  record { same_cues = refl; same_live = refl; same_length = refl; cheap = omega arith },
  λ a cues b len cost h. record {
    load = λ cs g. rw g (record { same_cues = refl; same_live = refl; same_length = refl; cheap = omega arith });
    no_load = λ cs g. rw g h;
    step = λ s next l r.
        let g : takable a.text ≡ true = grind (arith, h.same_length) in
        rw g (record {
          same_cues = h.same_cues;
          same_live = grind (arith, h.same_cues, h.same_live, live_enough a.cues a.text (s ∷ []));
          same_length = grind (arith, h.same_length, length-append a.text (s ∷ []));
          cheap = omega (arith, r, h.cheap);
        });
    no_step = λ s l.
        let g : takable a.text ≡ false = grind (arith, h.same_length) in
        rw g h;
    follow = λ ss free next r. follow_kept room a cues b len cost h ss free next (followed_at cues b len free ss) refl r;
    resume = λ c k g.
        let at : resumable a.cues c k ≡ true = subst (λ (cs : List (List ℕ)). resumable cs c k ≡ true) h.same_cues g in
        let f = resumed_front a.cues c k at in
        rw at (record {
          same_cues = h.same_cues;
          same_live = grind (arith, h.same_cues, live_itself a.cues (take k (get_or a.cues c [])) f.0);
          same_length = sym f.1;
          cheap = grind (arith, h.same_cues, f.1);
        });
    no_resume = λ c k g.
        let at : resumable a.cues c k ≡ false = subst (λ (cs : List (List ℕ)). resumable cs c k ≡ false) h.same_cues g in
        rw at h;
    restart = record { same_cues = h.same_cues; same_live = refl; same_length = refl; cheap = omega arith };
  },
)

-- the trials of one sign more
pub trials_push : (cues : List (List ℕ)) (b t : List ℕ) (s : ℕ) → trials cues b (t ++ s ∷ []) ≡ trials cues b t + tries cues (live cues (b ++ t)) s
trials_push cues b [] s = grind (arith, tries_live cues b s, append-nil b)
trials_push cues b (x ∷ t) s =
    grind (arith, trials_push cues (live cues (b ++ x ∷ [])) t s, live_enough cues (b ++ x ∷ []) t, append_assoc b (x ∷ []) t)

pub spent_step : SpentStep
spent_step a s l =
    let r : ℕ = a.resumed in
    let t : List ℕ = a.text in
    grind (arith, trials_push a.cues (take r t) (drop r t) s, take-append-drop r t, take-append-le r t (s ∷ []), drop-append-le r t (s ∷ []))

after_parts : (room : ℕ) (a : Account) (call : Call) → length a.text ≡ a.resumed + a.taken → length (after room a call).text ≡ (after room a call).resumed + (after room a call).taken
after_parts room a (loads cs) h = grind arith
after_parts room a (takes s) h = grind (arith, length-append a.text (s ∷ []))
after_parts room a (follows ss free) h = grind (arith, length-append a.text (take (followed a.cues a.text free ss) ss))
after_parts room a (resumes c k) h = grind arith
after_parts room a restarts h = grind arith

pub account_parts : (room : ℕ) (calls : List Call) → length (account room calls).text ≡ (account room calls).resumed + (account room calls).taken
account_parts room [] = refl
account_parts room (call ∷ calls) = after_parts room (account room calls) call (account_parts room calls)

pub spent_few : (a : Account) → length a.text ≡ a.resumed + a.taken → spent a + length (live a.cues a.text) ≤ 2 * a.taken + a.resumed
spent_few a h =
    let r : ℕ = a.resumed in
    let t : List ℕ = a.text in
    grind (arith, trials_bound a.cues (take r t) (drop r t), take-append-drop r t, length-append (take r t) (drop r t), length-take r t)

pub calls_cheap : CallsCheap
calls_cheap room calls = (account_parts room calls, spent_few (account room calls) (account_parts room calls))

pub calls_tell : CallsTell
calls_tell room_a room_b calls_a calls_b e g =
    let a : Account = account room_a calls_a in
    let b : Account = account room_b calls_b in
    let told = standings_tell a.cues a.text b.text g in
    subst (λ (cues : List (List ℕ)). (standing a.cues (live a.cues a.text) ≡ standing cues (live cues b.text) → Alike a.cues a.text b.text) × (Alike a.cues a.text b.text → standing a.cues (live a.cues a.text) ≡ standing cues (live cues b.text))) e told

pub follow_steps : FollowSteps
follow_steps room a free =
    (grind (arith, append-nil a.text), λ s ss. (λ g. more s ss g, λ g. grind (arith, append-nil a.text)))
  where
    more : (s : ℕ) (ss : List ℕ) → (takable a.text && leb 32 free) ≡ true → after room a (follows (s ∷ ss) free) ≡ after room (after room a (takes s)) (follows ss (free - length (sightings a.cues (a.text ++ s ∷ []))))
    more s ss g =
        let rest : List ℕ = take (followed a.cues (a.text ++ s ∷ []) (free - length (sightings a.cues (a.text ++ s ∷ []))) ss) ss in
        let t : takable a.text ≡ true = grind arith in
        rw (g, t) (grind (arith, append_assoc a.text (s ∷ []) rest))

standing_resumes : (cues : List (List ℕ)) (b : List ℕ) → beginning cues b ≡ true → resumable cues (standing cues b).0 (standing cues b).1 ≡ true
standing_resumes cues [] h = refl
standing_resumes cues (x ∷ b) h =
    let l = lowest_begins cues (x ∷ b) h in
    grind (arith, l.0, ap length (begins_rest (x ∷ b) (get_or cues (lowest cues (x ∷ b)) []) l.1), length-append b (drop (length (x ∷ b)) (get_or cues (lowest cues (x ∷ b)) [])))

pub resume_back : ResumeBack
resume_back room a =
    let b : List ℕ = live a.cues a.text in
    let g = standing_resumes a.cues b (live_begins a.cues a.text) in
    let back : take (stands a).1 (get_or a.cues (stands a).0 []) ≡ b = (standing_back a.cues b (live_begins a.cues a.text)).0 in (
      g,
      rw g back,
      rw g refl,
      rw g (ap (λ v. standing a.cues (live a.cues v)) back ∙ ap (standing a.cues) (live_itself a.cues b (live_begins a.cues a.text))),
    )

endings_hold : (cues cs : List (List ℕ)) → distinct cues ≡ true → AllByRecursion (λ c. length c ≤ 32) cues → few_endings cues cs ≡ true
endings_hold cues [] d s = refl
endings_hold cues (c ∷ cs) d s = grind (arith, sightings_few cues c 32 d s, endings_hold cues cs d s)

pub endings_few : EndingsFew
endings_few room cues d s = grind (arith, endings_hold cues cues d s)

endings_of : (cues cs : List (List ℕ)) (t : List ℕ) → few_endings cues cs ≡ true → listed cs t ≡ true → length (sightings cues t) ≤ 32
endings_of cues [] t f h = grind arith
endings_of cues (c ∷ cs) t f h = grind (arith, same_is c t, endings_of cues cs t)

-- the longest cue that ends a text ends with all the others that do
pub texts_few : (cues : List (List ℕ)) (t : List ℕ) → few_endings cues cues ≡ true → length (sightings cues t) ≤ 32
texts_few cues [] f = omega arith
texts_few cues (x ∷ t) f = grind (arith, texts_few cues t f, endings_of cues cues (x ∷ t) f, exact_unlisted 0 cues (x ∷ t))

after_few : (room : ℕ) (a : Account) (call : Call) → few_endings a.cues a.cues ≡ true → few_endings (after room a call).cues (after room a call).cues ≡ true
after_few room a (loads cs) h = grind arith
after_few room a (takes s) h = grind arith
after_few room a (follows ss free) h = h
after_few room a (resumes c k) h = grind arith
after_few room a restarts h = h

account_few : (room : ℕ) (calls : List Call) → few_endings (account room calls).cues (account room calls).cues ≡ true
account_few room [] = refl
account_few room (call ∷ calls) = after_few room (account room calls) call (account_few room calls)

pub calls_few : CallsFew
calls_few room calls t = texts_few (account room calls).cues t (account_few room calls)

after_alike : (room_a room_b : ℕ) (a : Account) (call : Call) → SameGrant room_a room_b call → after room_a a call ≡ after room_b a call
after_alike room_a room_b a (loads cs) h = rw h refl
after_alike room_a room_b a (takes s) h = refl
after_alike room_a room_b a (follows ss free) h = refl
after_alike room_a room_b a (resumes c k) h = refl
after_alike room_a room_b a restarts h = refl

pub rooms_alike : RoomsAlike
rooms_alike room_a room_b [] h = refl
rooms_alike room_a room_b (call ∷ calls) h =
    after_alike room_a room_b (account room_a calls) call h.0 ∙ ap (λ a. after room_b a call) (rooms_alike room_a room_b calls h.1)
