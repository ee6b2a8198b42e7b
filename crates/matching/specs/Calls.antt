-- The account of a list of calls to a watch: what its granted calls come to.
-- Assumes nothing.
use Rattle.std.specs.Prelude.{◌≡◌, ℕ, ◌+◌, ◌-◌, ◌*◌, ◌<◌, ◌≤◌, Bool, true, false, cond, ◌&&◌, ◌||◌, List, [], ◌∷◌, ◌++◌, length, take, drop, ◌==◌, nat_le, nat_lt, slice_index_or}
use Rattle.std.specs.List.{AllByRecursion}
use Rattle.matching.specs.Match.{live, sightings, standing, tries, trials, distinct, Signs, Alike}
use Rattle.matching.specs.Follow.{longest_text, takable, followed, followed_at}

-- a call, with its arguments as they stand when it is made
pub data Call : Type 0 where
  -- the cues of a book
  loads : List (List ℕ) → Call
  -- one sign
  takes : ℕ → Call
  -- the signs of the events handed in, and how many entries the list for the sightings has
  follows : List ℕ → ℕ → Call
  -- a cue number and a length
  resumes : ℕ → ℕ → Call
  restarts : Call

-- what counts after some calls: the book's cues, the text, the number of signs taken since the last granted load, restart or resume,
-- and the length then resumed
pub record Account : Type 0 where
  pub cues : List (List ℕ)
  pub text : List ℕ
  pub taken : ℕ
  pub resumed : ℕ

-- the signs of all cues
abbrev pub total : List (List ℕ) → ℕ
total [] = 0
total (c ∷ cues) = length c + total cues

-- each of the lists ends with at most 32 cues of the book
abbrev pub few_endings : List (List ℕ) → List (List ℕ) → Bool
few_endings cues [] = true
few_endings cues (c ∷ cs) = nat_le (length (sightings cues c)) 32 && few_endings cues cs

-- a load is granted: the cues' signs fit the engine's room, and no cue ends with more than 32 of them
abbrev pub loadable : ℕ → List (List ℕ) → Bool
loadable room cues = nat_le (total cues) room && few_endings cues cues

-- a resume is granted: there is such a cue and it is no shorter, or it is (0, 0)
abbrev pub resumable : List (List ℕ) → ℕ → ℕ → Bool
resumable cues c k = (c == 0 && k == 0) || (nat_lt c (length cues) && nat_le k (length (slice_index_or cues c [])))

-- a new book, with an empty text
abbrev pub anew : List (List ℕ) → Account
anew cs = record { cues = cs; text = []; taken = 0; resumed = 0 }

-- the same book, and the text b from now on
abbrev pub reset : Account → List ℕ → Account
reset a b = record { cues = a.cues; text = b; taken = 0; resumed = length b }

-- more signs behind the text
abbrev pub extended : Account → List ℕ → Account
extended a ss = record { cues = a.cues; text = a.text ++ ss; taken = a.taken + length ss; resumed = a.resumed }

-- one call more, where the engine has so much room; a call that is not granted changes nothing
abbrev pub after : ℕ → Account → Call → Account
after room a (loads cs) = cond (loadable room cs) (anew cs) a
after room a (takes s) = cond (takable a.text) (extended a (s ∷ [])) a
after room a (follows ss free) = extended a (take (followed a.cues a.text free ss) ss)
after room a (resumes c k) = cond (resumable a.cues c k) (reset a (take k (slice_index_or a.cues c []))) a
after room a restarts = reset a []

-- the account of all calls, the latest first, of a watch that began with no cue
abbrev pub account : ℕ → List Call → Account
account room [] = anew []
account room (call ∷ calls) = after room (account room calls) call

-- the sightings of the text that counts
abbrev pub seen : Account → List (ℕ × ℕ)
seen a = sightings a.cues a.text

-- the standing of the text that counts
abbrev pub stands : Account → ℕ × ℕ
stands a = standing a.cues (live a.cues a.text)

-- the trials of the signs taken since the last granted load, restart or resume
abbrev pub spent : Account → ℕ
spent a = trials a.cues (take a.resumed a.text) (drop a.resumed a.text)

-- what a watch holds, against the account of its calls: the cues, the live beginning b, the length of the text, and a cost that has
-- risen by no more than 2 with each sign
pub record Holds (a : Account) (cues : List (List ℕ)) (b : List ℕ) (len cost : ℕ) : Type 0 where
  pub same_cues : cues ≡ a.cues
  pub same_live : b ≡ live a.cues a.text
  pub same_length : len ≡ length a.text
  pub cheap : cost + length b ≤ 2 * a.taken + a.resumed

-- each call keeps that, whatever the engine's room: a granted load, resume or restart makes the cost 0, a sign taken raises the cost
-- and the live length by at most 2, and a call that is not granted leaves all as it was
pub record Keeps (room : ℕ) (a : Account) (cues : List (List ℕ)) (b : List ℕ) (len cost : ℕ) : Type 0 where
  pub load : (cs : List (List ℕ)) → loadable room cs ≡ true → Holds (after room a (loads cs)) cs [] 0 0
  pub no_load : (cs : List (List ℕ)) → loadable room cs ≡ false → Holds (after room a (loads cs)) cues b len cost
  pub step : (s next : ℕ) → len < longest_text → next + length (live cues (b ++ s ∷ [])) ≤ cost + length b + 2 → Holds (after room a (takes s)) cues (live cues (b ++ s ∷ [])) (len + 1) next
  pub no_step : (s : ℕ) → longest_text ≤ len → Holds (after room a (takes s)) cues b len cost
  pub follow : (ss : List ℕ) (free next : ℕ) → next + length (live cues (b ++ take (followed_at cues b len free ss) ss)) ≤ cost + length b + 2 * followed_at cues b len free ss → Holds (after room a (follows ss free)) cues (live cues (b ++ take (followed_at cues b len free ss) ss)) (len + followed_at cues b len free ss) next
  pub resume : (c k : ℕ) → resumable cues c k ≡ true → Holds (after room a (resumes c k)) cues (take k (slice_index_or cues c [])) k 0
  pub no_resume : (c k : ℕ) → resumable cues c k ≡ false → Holds (after room a (resumes c k)) cues b len cost
  pub restart : Holds (after room a restarts) cues [] 0 0

abbrev pub CallsKept : Type 0
CallsKept =
    (room : ℕ) →
    Holds (account room []) [] [] 0 0 ×
    ((a : Account) (cues : List (List ℕ)) (b : List ℕ) (len cost : ℕ) → Holds a cues b len cost → Keeps room a cues b len cost)

-- what a watch holds answers for the text that counts: the sightings and the standing are the text's, and the cost is at most twice
-- the signs taken and the length resumed
abbrev pub HeldRight : Type 0
HeldRight =
    (a : Account) (cues : List (List ℕ)) (b : List ℕ) (len cost : ℕ) → Holds a cues b len cost →
    (sightings cues b ≡ seen a) × (standing cues b ≡ stands a) ×
    (cost ≤ 2 * a.taken + a.resumed)

-- to follow signs is to take them one by one, as long as the text has room and 32 entries are free
abbrev pub FollowSteps : Type 0
FollowSteps =
    (room : ℕ) (a : Account) (free : ℕ) →
    (after room a (follows [] free) ≡ a) ×
    ((s : ℕ) (ss : List ℕ) →
    ((takable a.text && nat_le 32 free) ≡ true →
    after room a (follows (s ∷ ss) free) ≡
    after room (after room a (takes s)) (follows ss (free - length (sightings a.cues (a.text ++ s ∷ []))))) ×
    ((takable a.text && nat_le 32 free) ≡ false → after room a (follows (s ∷ ss) free) ≡ a))

-- after any calls: the text is what was resumed and what was taken since, and the trials of what was taken are at most twice its signs
-- and the length resumed
abbrev pub CallsCheap : Type 0
CallsCheap =
    (room : ℕ) (calls : List Call) →
    let a : Account = account room calls in
    (length a.text ≡ a.resumed + a.taken) × (spent a + length (live a.cues a.text) ≤ 2 * a.taken + a.resumed)

-- a sign adds its trials
abbrev pub SpentStep : Type 0
SpentStep =
    (a : Account) (s : ℕ) → a.resumed ≤ length a.text →
    spent (extended a (s ∷ [])) ≡ spent a + tries a.cues (live a.cues a.text) s

-- two lists of calls that come to one book of 16-bit signs: one standing exactly when nothing put behind both texts tells them apart
abbrev pub CallsTell : Type 0
CallsTell =
    (room_a room_b : ℕ) (calls_a calls_b : List Call) →
    let a : Account = account room_a calls_a in
    let b : Account = account room_b calls_b in
    a.cues ≡ b.cues → AllByRecursion Signs a.cues →
    (stands a ≡ stands b → Alike a.cues a.text b.text) ×
    (Alike a.cues a.text b.text → stands a ≡ stands b)

-- a standing that was answered can be resumed; the text that then counts is the live beginning, so the standing is the same
abbrev pub ResumeBack : Type 0
ResumeBack =
    (room : ℕ) (a : Account) →
    let again : Account = after room a (resumes (stands a).0 (stands a).1) in
    (resumable a.cues (stands a).0 (stands a).1 ≡ true) × (again.text ≡ live a.cues a.text) × (again.cues ≡ a.cues) ×
    (stands again ≡ stands a)

-- where no two cues are equal and none is longer than 32, no cue ends with more than 32 of them, so room alone decides a load
abbrev pub EndingsFew : Type 0
EndingsFew =
    (room : ℕ) (cues : List (List ℕ)) → distinct cues ≡ true → AllByRecursion (λ c. length c ≤ 32) cues → loadable room cues ≡ nat_le (total cues) room

-- after any calls, no text has more than 32 sightings
abbrev pub CallsFew : Type 0
CallsFew = (room : ℕ) (calls : List Call) (t : List ℕ) → length (sightings (account room calls).cues t) ≤ 32

-- a load that two engines' rooms grant or deny alike
abbrev pub SameGrant : ℕ → ℕ → Call → Type 0
SameGrant room_a room_b (loads cs) = loadable room_a cs ≡ loadable room_b cs
SameGrant room_a room_b (takes s) = Unit {0}
SameGrant room_a room_b (follows ss free) = Unit {0}
SameGrant room_a room_b (resumes c k) = Unit {0}
SameGrant room_a room_b restarts = Unit {0}

-- where each load is granted or denied alike, the calls come to one account
abbrev pub RoomsAlike : Type 0
RoomsAlike = (room_a room_b : ℕ) (calls : List Call) → AllByRecursion (SameGrant room_a room_b) calls → account room_a calls ≡ account room_b calls
